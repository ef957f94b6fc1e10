use Rattle.std.proofs.Common.{◌≡◌, ℕ, ◌<◌, Some}
use Rattle.std.specs.Prelude.{slice_get}
use Rattle.mpx_node.specs.Settling.{HasDropped}
use Rattle.mpx_node.specs.Shown.{node_of}
use Rattle.mpx_ranks.proofs.gossip.first_to_drop.Given as goal

-- of the contexts so far none has any to drop
abbrev pub invariant-loop-name : goal.invariant-loop-name
invariant-loop-name l = (i : ℕ) (e : _) → i < l.name-index → slice_get l.name-items i ≡ Some e → HasDropped e.0 (node_of l.node)
