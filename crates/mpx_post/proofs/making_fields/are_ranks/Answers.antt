use Rattle.std.proofs.Common.{◌≡◌, ◌∙◌, ◌<◌, FitsSigned, refl, sym, true, length, get_or, arith, pos, rules}
use mir.Syntax.{w128}
use Rattle.std.proofs.Math.Bool.{and-false}
use Rattle.std.proofs.lemmas.List.{get_or-map, length-map}
use Rattle.std.proofs.lemmas.List.Folds.{list_all_more}
use Rattle.std.proofs.lemmas.Bool.{and_from}
use Rattle.std.proofs.lemmas.Int.{to_z-of_z}
use Rattle.mpx_group.specs.Group.{has_twice}
use Rattle.mpx_post.specs.Drafts.{is_rank, natural, naturals}
use Rattle.mpx_post.proofs.Seen.{seen-none, seen-next, seen-twice}
use Rattle.mpx_post.proofs.making_fields.are_ranks.Goals as goal

pub loop-rank-init : goal.loop-rank-init
loop-rank-init c = record { fine = refl; seen = seen-none }

pub returns-then-seen-place : goal.returns-then-seen-place
returns-then-seen-place c =
    let ranks = c.args.ranks.now in
    let i = c.loop-rank.rank-index in
    let fits : FitsSigned w128 (get_or ranks i (pos 0)) = search rules in
    let found = simp to_z-of_z at c.in-Some.ensures in
    let within : i < length (naturals ranks) = omega (arith, length-map ranks natural, c.loop-rank-test.true) in
    let is : c.in-Some.place ≡ get_or (naturals ranks) i c.in-Some.place = found.1 ∙ sym (get_or-map natural ranks i (pos 0) c.in-Some.place c.loop-rank-test.true) in
    let twice : has_twice (naturals ranks) ≡ true = seen-twice c.loop-rank.seen (naturals ranks) i c.in-Some.place c.loop-rank.invariant.seen within is (omega (arith, found.2, c.requires)) c.if-seen-place.true in
    rw twice (sym (and-false _))

pub loop-rank-preserved : goal.loop-rank-preserved
loop-rank-preserved c =
    let ranks = c.args.ranks.now in
    let i = c.loop-rank.rank-index in
    let fits : FitsSigned w128 (get_or ranks i (pos 0)) = search rules in
    let found = simp to_z-of_z at c.in-Some.ensures in
    let within : i < length (naturals ranks) = omega (arith, length-map ranks natural, c.loop-rank-test.true) in
    let is : c.in-Some.place ≡ get_or (naturals ranks) i c.in-Some.place = found.1 ∙ sym (get_or-map natural ranks i (pos 0) c.in-Some.place c.loop-rank-test.true) in
    record {
      fine = list_all_more (is_rank c.args.size) ranks i (pos 0) c.loop-rank-test.true ∙ and_from _ _ c.loop-rank.invariant.fine found.0;
      seen = seen-next c.loop-rank.seen (naturals ranks) i c.in-Some.place c.loop-rank.invariant.seen within is (omega (arith, found.2, c.requires)) c.if-seen-place.false;
    }
