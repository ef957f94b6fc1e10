use Rattle.std.proofs.Common.{◌∙◌, ap, subst}
use Rattle.std.proofs.lemmas.List.{take_all}
use Rattle.mpx_group.specs.Group.{IsGroup, has_twice}
use Rattle.mpx_group.proofs.Members.{IsGroup-map}
use Rattle.mpx_value.specs.Children.{processes}
use Rattle.mpx_value.proofs.births.processes.Goals as goal

pub returns-clause-distinct : goal.returns-clause-distinct
returns-clause-distinct c =
    let members = c.args.birth.now.members in
    let ranks = c.args.ranks.now in
    let whole = c.loop-rank.invariant ∙ ap (processes members) (take_all c.loop-rank.rank-index ranks c.loop-rank-test.false) in
    ap has_twice whole
    ∙ (IsGroup-map members ranks (subst IsGroup c.members-members.ensures.value c.members-members.ensures.group) c.requires.within c.requires.differ).distinct
