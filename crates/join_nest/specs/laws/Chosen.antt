-- Proofs of maps with other values at a map's keys.
use Rattle.std.specs.Prelude.{◌≡◌, List, [], ◌∷◌, Option, Some, None, is_some, refl}
use Rattle.std.proofs.Common.{sym, ap, ◌∙◌, cond, T}
use Rattle.std.specs.Ordering.{eq_by_cmp}
use Rattle.std.specs.declared.cmp.Ordering.{Ordering}
use Rattle.std.specs.Cmp.{IsTotalOrder}
use Rattle.std.specs.FinMap.{FinMap, find, is_sorted, entries, entries_sorted, from_sorted, get, get-entries, get-from_sorted, IsAntisymmetric}
use Rattle.std.specs.FinMap.Entries.{below_all}
use Rattle.join_core.specs.laws.Cases.{both, first, second, is_tied, yes, no, answer}
use Rattle.join_nest.specs.Entries.{with_key}
use Rattle.join_nest.specs.laws.Entries.{below_tied, find_below, find_with_key, find_without_key}

module _ {K V : Type 0} (value : K → Option V) where
  -- each key of the entries, with the value that is given for it, if there is one
  abbrev chosen_entries : List (K × V) → List (K × V)
  chosen_entries [] = []
  chosen_entries (e ∷ es) = with_key e.0 (value e.0) (chosen_entries es)

module _ {K V : Type 0} (R : K → K → Ordering) (value : K → Option V) where
  below_chosen : (k : K) (es : List (K × V)) → T (below_all R k es) → T (below_all R k (chosen_entries value es))
  below_chosen k [] h = tt
  below_chosen k (e ∷ es) h =
      elim (value e.0) as (λ d. T (below_all R k (with_key e.0 d (chosen_entries value es)))) [
        | None ↦ below_chosen k es (second _ _ h)
        | Some v ↦ both _ _ (first _ _ h) (below_chosen k es (second _ _ h))
      ]

  sorted_chosen : (es : List (K × V)) → T (is_sorted R es) → T (is_sorted R (chosen_entries value es))
  sorted_chosen [] h = tt
  sorted_chosen (e ∷ es) h =
      elim (value e.0) as (λ d. T (is_sorted R (with_key e.0 d (chosen_entries value es)))) [
        | None ↦ sorted_chosen es (second _ _ h)
        | Some v ↦ both _ _ (below_chosen e.0 es (first _ _ h)) (sorted_chosen es (second _ _ h))
      ]

module _ {K V : Type 0} {R : K → K → Ordering} (value : K → Option V) where
  -- the map of these
  abbrev pub chosen : FinMap R V → FinMap R V
  chosen m = from_sorted (chosen_entries value (entries m))

  module _ (o : IsTotalOrder R) (exact : IsAntisymmetric R) where
    find_chosen : (q : K) (es : List (K × V)) → T (is_sorted R es) → find R q (chosen_entries value es) ≡ cond (is_some (find R q es)) (value q) None
    find_chosen q [] h = refl
    find_chosen q (e ∷ es) h = elim (answer (eq_by_cmp R q e.0)) [
      | yes t ↦ find_with_key o q e.0 _ _ t (find_below o q (chosen_entries value es) (below_tied o q e.0 (chosen_entries value es) (is_tied _ t) (below_chosen R value e.0 es (first _ _ h))))
          ∙ ap value (sym (exact q e.0 (is_tied _ t))) ∙ rw t refl
      | no t ↦ find_without_key o q e.0 _ _ t ∙ find_chosen q es (second _ _ h) ∙ rw t refl
    ]

    -- where no value is given for a key that the map lacks
    pub get_chosen : (m : FinMap R V) (q : K) → (get m q ≡ None → value q ≡ None) → get (chosen m) q ≡ value q
    get_chosen m q h =
        get-from_sorted R (chosen_entries value (entries m)) q (sorted_chosen R value (entries m) (entries_sorted m))
        ∙ find_chosen q (entries m) (entries_sorted m)
        ∙ ap (λ x. cond (is_some x) (value q) None) (sym (get-entries m q))
        ∙ given (get m q) h
      where
        given : (x : Option V) → (x ≡ None → value q ≡ None) → cond (is_some x) (value q) None ≡ value q
        given None h = sym (h refl)
        given (Some v) h = refl
