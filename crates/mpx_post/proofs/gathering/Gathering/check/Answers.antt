use Rattle.std.proofs.Common.{FitsSigned, rules, ◌≡◌, ◌∙◌, nat_le, true, false, sym, refl, arith}
use mir.Syntax.{w128}
use Rattle.std.proofs.lemmas.Bool.Decides.{nat_tests}
use Rattle.std.proofs.lemmas.Int.{to_z-of_z}
use Rattle.mpx_post.specs.Drafts.{most_steps, natural}
use Rattle.mpx_post.specs.Gatherings.{is_bad_group, members_at}
use Rattle.mpx_post.proofs.Gatherings.{refused_closed, refused_outside, refused_too_deep, refused_group, refused_tag, gathered, group_parts, has_is_some}
use Rattle.mpx_post.proofs.gathering.Gathering.check.Goals as goal

pub returns-in_default : goal.returns-in_default
returns-in_default c = rw (refused_outside c.args.birth.now c.args.me c.args.depth c.args.closed c.args.tag c.args.ranks.now (sym c.rank_of.ensures ∙ c.in_default.is)) refl

pub returns-then-closed : goal.returns-then-closed
returns-then-closed c = rw (refused_closed c.args.birth.now c.args.me c.args.depth c.args.closed c.args.tag c.args.ranks.now _ (sym c.rank_of.ensures ∙ c.in-Some.is) c.if-closed.true) refl

pub returns-then-depth-ge8 : goal.returns-then-depth-ge8
returns-then-depth-ge8 c =
    let deep : nat_le most_steps c.args.depth ≡ true = grind (arith, nat_tests, c.if-depth-ge8.true) in
    rw (refused_too_deep c.args.birth.now c.args.me c.args.depth c.args.closed c.args.tag c.args.ranks.now _ (sym c.rank_of.ensures ∙ c.in-Some.is) c.if-closed.false deep) refl

pub returns-then-is_bad_group : goal.returns-then-is_bad_group
returns-then-is_bad_group c =
    let deep : nat_le most_steps c.args.depth ≡ false = grind (arith, nat_tests, c.if-depth-ge8.false) in
    let bad : is_bad_group c.args.birth.now.members c.args.me c.args.ranks.now ≡ true = rw c.members.ensures.value at (sym c.is_bad_group.ensures ∙ c.if-is_bad_group.true) in
    rw (refused_group c.args.birth.now c.args.me c.args.depth c.args.closed c.args.tag c.args.ranks.now _ (sym c.rank_of.ensures ∙ c.in-Some.is) c.if-closed.false deep bad) refl

pub returns-then-not-is_tag : goal.returns-then-not-is_tag
returns-then-not-is_tag c =
    let deep : nat_le most_steps c.args.depth ≡ false = grind (arith, nat_tests, c.if-depth-ge8.false) in
    let bad : is_bad_group c.args.birth.now.members c.args.me c.args.ranks.now ≡ false = rw c.members.ensures.value at (sym c.is_bad_group.ensures ∙ c.if-is_bad_group.false) in
    let fits : FitsSigned w128 c.args.tag = search rules in
    rw (refused_tag c.args.birth.now c.args.me c.args.depth c.args.closed c.args.tag c.args.ranks.now _ (sym c.rank_of.ensures ∙ c.in-Some.is) c.if-closed.false deep bad (simp to_z-of_z at (sym c.is_tag.ensures ∙ c.if-not-is_tag.true))) refl

pub returns-in-Err : goal.returns-in-Err
returns-in-Err c =
    let deep : nat_le most_steps c.args.depth ≡ false = grind (arith, nat_tests, c.if-depth-ge8.false) in
    let bad : is_bad_group c.args.birth.now.members c.args.me c.args.ranks.now ≡ false = rw c.members.ensures.value at (sym c.is_bad_group.ensures ∙ c.if-is_bad_group.false) in
    let fits : FitsSigned w128 c.args.tag = search rules in
    rw (gathered c.args.birth.now c.args.me c.args.depth c.args.closed c.args.tag c.args.ranks.now _ (sym c.rank_of.ensures ∙ c.in-Some.is) c.if-closed.false deep bad (simp to_z-of_z at (sym c.is_tag.ensures ∙ c.if-not-is_tag.false))) refl

pub returns-in-Ok : goal.returns-in-Ok
returns-in-Ok c =
    let deep : nat_le most_steps c.args.depth ≡ false = grind (arith, nat_tests, c.if-depth-ge8.false) in
    let bad : is_bad_group c.args.birth.now.members c.args.me c.args.ranks.now ≡ false = rw c.members.ensures.value at (sym c.is_bad_group.ensures ∙ c.if-is_bad_group.false) in
    let fits : FitsSigned w128 c.args.tag = search rules in
    let tag : c.given_tag.result ≡ natural c.args.tag = simp to_z-of_z at c.given_tag.ensures.value in
    let members : c.in-Ok.members ≡ members_at c.args.birth.now.members c.args.ranks.now = rw c.members-2.ensures.value at c.in-Ok.ensures.value in
    rw (gathered c.args.birth.now c.args.me c.args.depth c.args.closed c.args.tag c.args.ranks.now _ (sym c.rank_of.ensures ∙ c.in-Some.is) c.if-closed.false deep bad (simp to_z-of_z at (sym c.is_tag.ensures ∙ c.if-not-is_tag.false))) (λ i. record { tag = tag i; members = members i })

pub members_at-requires : goal.members_at-requires
members_at-requires c =
    let bad : is_bad_group c.args.birth.now.members c.args.me c.args.ranks.now ≡ false = rw c.members.ensures.value at (sym c.is_bad_group.ensures ∙ c.if-is_bad_group.false) in
    let parts = group_parts c.args.birth.now.members c.args.me c.args.ranks.now bad in
    rw c.members-2.ensures.value (record { ranks = parts.0; distinct = parts.1 })

pub invariant_of-result : goal.invariant_of-result
invariant_of-result c =
    let bad : is_bad_group c.args.birth.now.members c.args.me c.args.ranks.now ≡ false = rw c.members.ensures.value at (sym c.is_bad_group.ensures ∙ c.if-is_bad_group.false) in
    let parts = group_parts c.args.birth.now.members c.args.me c.args.ranks.now bad in
    let members : c.in-Ok.members ≡ members_at c.args.birth.now.members c.args.ranks.now = rw c.members-2.ensures.value at c.in-Ok.ensures.value in
    (c.given_tag.ensures.small, has_is_some c.in-Ok.members c.args.me (rw members parts.2), c.in-Ok.ensures.few)
