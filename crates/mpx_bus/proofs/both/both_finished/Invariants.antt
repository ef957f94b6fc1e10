use Rattle.std.proofs.Common.{◌≡◌, ◌^◌, ◌-◌, min, map, sum, take}
use Rattle.mpx_node.specs.Shown.{node_of}
use Rattle.mpx_bus.specs.Finished.{finished_by_both}
use Rattle.mpx_bus.proofs.both.both_finished.Given as goal

-- the count over the contexts so far
abbrev pub invariant-loop-name : goal.invariant-loop-name
invariant-loop-name l = l.both ≡ min (2 ^ 64 - 1) (sum (map (finished_by_both (node_of l.first) (node_of l.second)) (map (λ e. e.0) (take l.name-index l.name-items))))
