-- What is joined to an empty map is all of it.
use Rattle.std.proofs.Common.{◌≡◌, List, ℕ, Ok, sym, ap, ◌∙◌}
use Rattle.std.specs.declared.cmp.Ordering.{Ordering}
use Rattle.std.specs.Cmp.{IsTotalOrder}
use Rattle.std.specs.FinMap.{FinMap, IsAntisymmetric, empty, get, get-empty, same_map}
use Rattle.join_core.specs.Joins.{Joining}
use Rattle.join_nest.specs.Keyed.{keyed_joining}
use Rattle.join_nest.specs.Optional.{option_join}
use Rattle.join_nest.specs.laws.Keyed.{get_join}
use Rattle.mpx_format.specs.Format.{Format}
use Rattle.mpx_decode.specs.Raising.{JoinsFront}

module _ {K V : Type 0} {R : K → K → Ordering} (o : IsTotalOrder R) (exact : IsAntisymmetric R) (j : Joining V) where
  joins_none : (v : FinMap R V) → (keyed_joining j).join empty v ≡ v
  joins_none v = same_map o exact _ _ (λ q. get_join o j empty v q ∙ ap (λ x. option_join j x (get v q)) (get-empty R q))

  pub read_whole : (f : Format (FinMap R V)) (bytes rest : List ℕ) (old new : FinMap R V) → old ≡ empty → JoinsFront f (keyed_joining j) bytes rest old new → f.read bytes ≡ Ok (new, rest)
  read_whole f bytes rest old new none g =
      g.read ∙ ap (λ (v : FinMap R V). Ok (v, rest)) (sym (g.joined ∙ ap (λ (m : FinMap R V). (keyed_joining j).join m g.value) none ∙ joins_none g.value))
