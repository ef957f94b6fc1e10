use Rattle.std.proofs.Common.{◌≡◌, ◌∙◌, ◌<◌, FitsSigned, refl, sym, true, length, get_or, arith, pos, rules}
use mir.Syntax.{w128}
use Rattle.std.proofs.lemmas.Bool.{and_from, or_right}
use Rattle.std.proofs.lemmas.List.Folds.{list_all_more}
use Rattle.std.proofs.lemmas.Int.{to_z-of_z}
use Rattle.mpx_group.specs.Group.{has_twice}
use Rattle.mpx_post.specs.Drafts.{is_rank}
use Rattle.mpx_post.specs.Gatherings.{members_at}
use Rattle.mpx_post.proofs.Gatherings.{length-members_at, member_at}
use Rattle.mpx_post.proofs.Seen.{seen-none, seen-next, seen-twice}
use Rattle.mpx_post.proofs.gathering.is_bad_group.Goals as goal

pub loop-rank-init : goal.loop-rank-init
loop-rank-init c = record { fine = refl; seen = seen-none }

pub returns-then-seen-member : goal.returns-then-seen-member
returns-then-seen-member c =
    let members = c.args.members.now in
    let ranks = c.args.ranks.now in
    let i = c.loop-rank.rank-index in
    let x = c.number-member.result in
    let fits : FitsSigned w128 (get_or ranks i (pos 0)) = search rules in
    let found = simp to_z-of_z at c.in-Some.ensures in
    let within : i < length (members_at members ranks) = omega (arith, length-members_at members ranks, c.loop-rank-test.true) in
    let is : x ≡ get_or (members_at members ranks) i x = member_at members ranks i c.in-Some.place x c.loop-rank-test.true found.1 found.2 (cc (c.number-member.ensures.number, c.index-members-place.is)) in
    let twice : has_twice (members_at members ranks) ≡ true = seen-twice c.loop-rank.seen (members_at members ranks) i x c.loop-rank.invariant.seen within is c.number-member.ensures.below c.if-seen-member.true in
    rw twice (sym (or_right _ _ refl))

pub loop-rank-preserved : goal.loop-rank-preserved
loop-rank-preserved c =
    let members = c.args.members.now in
    let ranks = c.args.ranks.now in
    let i = c.loop-rank.rank-index in
    let x = c.number-member.result in
    let fits : FitsSigned w128 (get_or ranks i (pos 0)) = search rules in
    let found = simp to_z-of_z at c.in-Some.ensures in
    let within : i < length (members_at members ranks) = omega (arith, length-members_at members ranks, c.loop-rank-test.true) in
    let is : x ≡ get_or (members_at members ranks) i x = member_at members ranks i c.in-Some.place x c.loop-rank-test.true found.1 found.2 (cc (c.number-member.ensures.number, c.index-members-place.is)) in
    record {
      fine = list_all_more (is_rank (length members)) ranks i (pos 0) c.loop-rank-test.true ∙ and_from _ _ c.loop-rank.invariant.fine found.0;
      seen = seen-next c.loop-rank.seen (members_at members ranks) i x c.loop-rank.invariant.seen within is c.number-member.ensures.below c.if-seen-member.false;
    }
