-- What was made of a node is stored on one that is the same.
use Rattle.std.proofs.Common.{◌≡◌, sym, subst}
use Rattle.mpx_board.specs.declared.acks.Raised.{Raised}
use Rattle.mpx_node.specs.Deltas.{Stores}
use Rattle.mpx_node.specs.Nodes.{NodeView}

pub stores_lent : (said : Raised) (old lent after : NodeView) → lent ≡ old → Stores said old after → Stores said lent after
stores_lent said old lent after same s = subst (λ n. Stores said n after) (sym same) s

pub stored_there : (said : Raised) (old lent after new : NodeView) → lent ≡ old → Stores said old after → ((n : NodeView) → Stores said lent n → new ≡ n) → after ≡ new
stored_there said old lent after new same s gives = sym (gives after (stores_lent said old lent after same s))
