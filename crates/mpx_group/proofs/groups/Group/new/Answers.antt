use Rattle.std.proofs.Common.{◌≡◌, ◌<◌, true, false, length, get_or, take, sym, ◌∙◌, ap, arith}
use Rattle.std.proofs.lemmas.List.{take_all}
use Rattle.std.proofs.lemmas.List.Elements.{All-more, All-same}
use Rattle.mpx_group.specs.Group.{has, has_twice}
use Rattle.mpx_group.proofs.Members.{has_twice-found, has_twice-more, IsGroup-from}
use Rattle.mpx_group.proofs.groups.Group.new.Goals as goal

pub returns-then-contains : goal.returns-then-contains
returns-then-contains c =
    let before : has (take c.loop-i.i c.args.members.items) c.member-item.result ≡ true = cc (c.contains.ensures.value) in
    let place : c.member-item.result ≡ get_or c.args.members.items c.loop-i.i c.member-item.result = cc in
    let within : c.loop-i.i < length c.args.members.items = omega (arith, ap length c.deref-member-items.ensures.value) in
    let twice : has_twice c.args.members.items ≡ true = has_twice-found _ _ _ within place before in
    rw twice

pub loop-i-preserved : goal.loop-i-preserved
loop-i-preserved c =
    let fresh : has (take c.loop-i.i c.deref-member-items.result.now) c.member-item.result ≡ false = cc (c.contains.ensures.value) in (
      has_twice-more _ _ _ c.loop-i-test.true c.member-item.is c.loop-i.invariant.0 fresh,
      All-more (λ p. p < 64) _ _ c.member-item.result c.loop-i-test.true c.loop-i.invariant.1 (omega (arith, c.member-item.is)),
    )

pub invariant_of-result : goal.invariant_of-result
invariant_of-result c =
    let whole = take_all c.loop-i.i c.deref-member-items.result.now c.loop-i-test.false ∙ c.deref-member-items.ensures.value in
    IsGroup-from _ (ap has_twice (sym whole) ∙ c.loop-i.invariant.0) (All-same (λ p. p < 64) _ _ (sym whole) c.loop-i.invariant.1)
