use Rattle.std.proofs.Common.{◌≡◌, ◌++◌, ap, length, sym, ◌∙◌}
use Rattle.mpx_decode.proofs.FrontBirths.{birth_behind}
use Rattle.mpx_decode.proofs.join_births.behind_birth.Goals as goal

pub returns-in_ok-after-in-Ok : goal.returns-in_ok-after-in-Ok
returns-in_ok-after-in-Ok c =
    let b = c.args.birth.now in
    let members : c.members-members.result.now ≡ b.members = c.members-members.ensures.value in
    let there : c.in-Ok.rest.now ≡ b.members ++ c.in_ok-after-in-Ok.after.now = c.in_ok-after-in-Ok.ensures ∙ ap (λ l. l ++ c.in_ok-after-in-Ok.after.now) members in
    birth_behind c.behind_zero.result (λ x. x.now) b.members b.topology c.args.bytes.now c.in-Ok.rest.now c.in_ok-after-in-Ok.after.now c.in-Ok.count c.members-members.ensures.kept (sym c.in-None.ensures.value) c.in-Ok.ensures.gives (c.if-count-members.false ∙ ap length members) there c.behind_zero.ensures
