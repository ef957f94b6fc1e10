use Rattle.std.proofs.Common.{false, [], length, take, sym, ap, ◌∙◌}
use Rattle.std.specs.List.{list_all}
use Rattle.std.proofs.lemmas.List.{take_all}
use Rattle.mpx_group.specs.Choice.{is_rank, places}
use Rattle.mpx_group.specs.Picks.{with_ranks}
use Rattle.mpx_group.proofs.Choices.{All-picked, Chooses, chooses}
use Rattle.mpx_group.proofs.groups.Group.incl.Goals as goal

pub picked-requires : goal.picked-requires
picked-requires c =
    rw c.loop-rank.invariant.picked (All-picked (length c.args.self.now) (take c.loop-rank.rank-index c.args.ranks.now) c.loop-rank.invariant.valid)

chosen : (c : goal.After-picked) → Chooses c.args.self.now c.args.ranks.now c.picked.result
chosen c =
    let whole = take_all c.loop-rank.rank-index c.args.ranks.now c.loop-rank-test.false in
    chooses _ _ _ c.loop-rank.picks
    (sym (ap (list_all (is_rank (length c.args.self.now))) whole) ∙ c.loop-rank.invariant.valid)
    (c.loop-rank.invariant.picked ∙ ap (λ zs. with_ranks ([], false) (places zs)) whole)
    c.picked.ensures.twice c.picked.ensures.memory c.picked.ensures.made

pub returns-clause-refused : goal.returns-clause-refused
returns-clause-refused c = (chosen c).refused

pub returns-clause-memory : goal.returns-clause-memory
returns-clause-memory c = (chosen c).memory

pub returns-clause-made : goal.returns-clause-made
returns-clause-made c = (chosen c).made
