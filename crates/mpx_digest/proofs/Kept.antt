-- What stands in the entries that are kept.
use Rattle.std.specs.Prelude.{◌≡◌, true, false, List, [], ◌∷◌, Option, Some, None, option_and_then, refl}
use Rattle.std.proofs.Common.{sym, ap, ◌∙◌, T}
use Rattle.std.specs.Ordering.{eq_by_cmp}
use Rattle.std.specs.declared.cmp.Ordering.{Ordering}
use Rattle.std.specs.Cmp.{IsTotalOrder}
use Rattle.std.specs.FinMap.{FinMap, find, is_sorted, entries, entries_sorted, get, get-entries, get-from_sorted, IsAntisymmetric}
use Rattle.std.specs.FinMap.Entries.{below_all}
use Rattle.join_core.specs.laws.Cases.{both, first, second, yes, no, answer, is_tied}
use Rattle.join_nest.specs.Entries.{with_key}
use Rattle.join_nest.specs.laws.Entries.{find_below, below_tied}
use Rattle.mpx_digest.specs.Keep.{kept, keep}

module _ {K V W : Type 0} (R : K → K → Ordering) (f : K → V → Option W) where
  below_kept : (k : K) (es : List (K × V)) → T (below_all R k es) → T (below_all R k (kept f es))
  below_kept k [] h = tt
  below_kept k (e ∷ es) h =
      elim (f e.0 e.1) as (λ o. T (below_all R k (with_key e.0 o (kept f es)))) [
        | None ↦ below_kept k es (second _ _ h)
        | Some w ↦ both _ _ (first _ _ h) (below_kept k es (second _ _ h))
      ]

  pub sorted_kept : (es : List (K × V)) → T (is_sorted R es) → T (is_sorted R (kept f es))
  sorted_kept [] h = tt
  sorted_kept (e ∷ es) h =
      elim (f e.0 e.1) as (λ o. T (is_sorted R (with_key e.0 o (kept f es)))) [
        | None ↦ sorted_kept es (second _ _ h)
        | Some w ↦ both _ _ (below_kept e.0 es (first _ _ h)) (sorted_kept es (second _ _ h))
      ]

  module _ (o : IsTotalOrder R) (exact : IsAntisymmetric R) where
    find_with_key : (q k : K) (d : Option W) (rest : List (K × W)) → eq_by_cmp R q k ≡ true → find R q rest ≡ None → find R q (with_key k d rest) ≡ d
    find_with_key q k None rest t n = n
    find_with_key q k (Some v) rest t n = rw t refl

    find_without_key : (q k : K) (d : Option W) (rest : List (K × W)) → eq_by_cmp R q k ≡ false → find R q (with_key k d rest) ≡ find R q rest
    find_without_key q k None rest t = refl
    find_without_key q k (Some v) rest t = rw t refl

    pub find_kept : (q : K) (es : List (K × V)) → T (is_sorted R es) → find R q (kept f es) ≡ option_and_then (f q) (find R q es)
    find_kept q [] h = refl
    find_kept q (e ∷ es) h = elim (answer (eq_by_cmp R q e.0)) [
      | yes t ↦
          find_with_key q e.0 (f e.0 e.1) (kept f es) t (find_below o q (kept f es) (below_tied o q e.0 (kept f es) (is_tied _ t) (below_kept e.0 es (first _ _ h))))
          ∙ rw t (ap (λ k. f k e.1) (sym (exact q e.0 (is_tied _ t))))
      | no t ↦ find_without_key q e.0 (f e.0 e.1) (kept f es) t ∙ find_kept q es (second _ _ h) ∙ rw t refl
    ]

    -- at each key what f makes of the value there
    pub get_keep : (m : FinMap R V) (q : K) → get (keep f m) q ≡ option_and_then (f q) (get m q)
    get_keep m q =
        get-from_sorted R (kept f (entries m)) q (sorted_kept (entries m) (entries_sorted m))
        ∙ find_kept q (entries m) (entries_sorted m)
        ∙ ap (option_and_then (f q)) (sym (get-entries m q))
