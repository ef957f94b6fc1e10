use Rattle.std.proofs.Common.{◌≡◌, map}
use Rattle.std.specs.Prelude.{filter}
use Rattle.mpx_birth.specs.Births.{upto}
use Rattle.mpx_value.specs.Children.{group_child, leads, named_children}
use Rattle.mpx_value.proofs.groups.created.Given as goal

abbrev pub invariant-loop-rank : goal.invariant-loop-rank
invariant-loop-rank l = l.made.items ≡ named_children l.name l.call (map (group_child l.birth l.row) (filter (leads l.row) (upto l.rank)))
