-- Rows of small graphs.
use Rattle.std.proofs.Common.{◌≡◌, Bool, true, false, List, [], ◌∷◌, None, ℕ, refl}
use Rattle.mpx_birth.specs.declared.edges.Neighbour.{Neighbour}
use Rattle.mpx_kind.specs.declared.kinds.Kind.TheVariants.{NewCommunicator}
use Rattle.mpx_kind.specs.declared.kinds.NewCommunicator.TheVariants.{DistGraphAdjacent}
use Rattle.mpx_kind.specs.declared.kinds.Mode.TheVariants.{Blocking}
use Rattle.mpx_post.specs.declared.making.Making.TheVariants.{Neighbours}
use Rattle.mpx_post.specs.Posts.{Given}
use Rattle.mpx_match.specs.declared.faults.FaultKind.{FaultKind}
use Rattle.mpx_match.specs.declared.faults.FaultKind.TheVariants.{Weights, Edges}
use Rattle.mpx_match.specs.declared.faults.Verdict.{Verdict}
use Rattle.mpx_match.specs.declared.faults.Verdict.TheVariants.{Fine, Fault}
use Rattle.mpx_match.specs.Verdicts.{verdict}

abbrev near : (rank weight : ℕ) → Neighbour
near rank weight = record { rank = rank; weight = weight }

-- a member's own sources and destinations
abbrev own : Bool → (sources destinations : List Neighbour) → Given
own weighted sources destinations = record {
  kind = NewCommunicator DistGraphAdjacent;
  mode = Blocking;
  root = None;
  op = None;
  scounts = [];
  rcounts = [];
  items = None;
  making = Neighbours (record { weighted = weighted; sources = sources; destinations = destinations });
}

abbrev fault : FaultKind → ℕ → Verdict
fault what rank = Fault (record { what = what; rank = rank })

record Examples : Type 0 where
  -- one member gives weights and one doesn't
  some_weights : verdict [] None (own true [] [] ∷ own false [] [] ∷ []) ≡ fault Weights 1
  -- rank 0 names 1 as its destination, which doesn't name it as its source
  one_end : verdict [] None (own false [] (near 1 0 ∷ []) ∷ own false [] [] ∷ []) ≡ fault Edges 0
  both_ends : verdict [] None (own false [] (near 1 0 ∷ []) ∷ own false (near 0 0 ∷ []) [] ∷ []) ≡ Fine
  -- the same edges in another order at the other end
  any_order : verdict [] None (own true [] (near 1 7 ∷ near 1 8 ∷ []) ∷ own true (near 0 8 ∷ near 0 7 ∷ []) [] ∷ []) ≡ Fine
  -- as many edges, of another weight
  other_weight : verdict [] None (own true [] (near 1 7 ∷ []) ∷ own true (near 0 8 ∷ []) [] ∷ []) ≡ fault Edges 0

examples : Examples
unfolding verdict
examples = record {
  some_weights = refl;
  one_end = refl;
  both_ends = refl;
  any_order = refl;
  other_weight = refl;
}
