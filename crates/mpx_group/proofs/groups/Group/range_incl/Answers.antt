use Rattle.std.proofs.Common.{◌≡◌, false, [], length, take, sym, ap, ◌∙◌, refl}
use Rattle.std.specs.List.{list_all}
use Rattle.std.proofs.lemmas.List.{take_all}
use Rattle.mpx_group.specs.Triplet.{triplet_ranks}
use Rattle.mpx_group.specs.Choice.{is_rank, places, ranks_of}
use Rattle.mpx_group.specs.Picks.{with_ranks}
use Rattle.mpx_group.proofs.Choices.{All-picked, Chooses, chooses, list_all-flat_map_fails}
use Rattle.mpx_group.proofs.groups.Group.range_incl.Goals as goal

out_of_range : (c : goal.Then-not-pick_triplet) → list_all (is_rank (length c.args.self.now)) (ranks_of c.args.triplets.now) ≡ false
out_of_range c =
    let fails = list_all-flat_map_fails (is_rank c.size.result) triplet_ranks c.args.triplets.now c.loop-triplet.triplet-index _ c.loop-triplet-test.true (sym c.pick_triplet.ensures.valid ∙ c.if-not-pick_triplet.true) in
    rw c.size.ensures.size at fails

pub returns-then-not-pick_triplet-clause-refused : goal.returns-then-not-pick_triplet-clause-refused
returns-then-not-pick_triplet-clause-refused c = rw (sym c.any_bad.ensures ∙ c.if-any_bad.false, out_of_range c) refl

pub returns-then-not-pick_triplet-clause-memory : goal.returns-then-not-pick_triplet-clause-memory
returns-then-not-pick_triplet-clause-memory c = rw (sym c.any_bad.ensures ∙ c.if-any_bad.false, out_of_range c) tt

pub picked-requires : goal.picked-requires
picked-requires c =
    rw c.loop-triplet.invariant.picked
    (All-picked (length c.args.self.now) (ranks_of (take c.loop-triplet.triplet-index c.args.triplets.now)) c.loop-triplet.invariant.valid)

chosen : (c : goal.After-picked) → Chooses c.args.self.now (ranks_of c.args.triplets.now) c.picked.result
chosen c =
    let whole = ap ranks_of (take_all c.loop-triplet.triplet-index c.args.triplets.now c.loop-triplet-test.false) in
    chooses _ _ _ c.loop-triplet.picks
    (sym (ap (list_all (is_rank (length c.args.self.now))) whole) ∙ c.loop-triplet.invariant.valid)
    (c.loop-triplet.invariant.picked ∙ ap (λ zs. with_ranks ([], false) (places zs)) whole)
    c.picked.ensures.twice c.picked.ensures.memory c.picked.ensures.made

pub returns-clause-refused : goal.returns-clause-refused
returns-clause-refused c =
    rw (sym c.any_bad.ensures ∙ c.if-any_bad.false) (chosen c).refused

pub returns-clause-memory : goal.returns-clause-memory
returns-clause-memory c =
    rw (sym c.any_bad.ensures ∙ c.if-any_bad.false) (chosen c).memory

pub returns-clause-made : goal.returns-clause-made
returns-clause-made c = (chosen c).made
