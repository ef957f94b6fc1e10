-- The members that ranks choose.
use Rattle.std.proofs.Common.{◌≡◌, ℕ, ◌<◌, zero, suc, Bool, true, false, List, [], ◌∷◌, ◌++◌, map, length, get_or, All, ℤ, refl, sym, ap, subst, ◌∙◌, Result, Err, IfOk, IfSome, IfNone, arith}
use Rattle.std.specs.Prelude.{slice_index, IsOkUnless}
use Rattle.std.specs.Bool.{OnTrue, OnFalse}
use Rattle.std.specs.List.{list_all, flat_map}
use Rattle.std.proofs.lemmas.Bool.{true≢false, and_parts, and_left, and_right, or_right, or_from, cond_both, OnTrue_at, OnFalse_at}
use Rattle.std.proofs.lemmas.List.{append_assoc, append-nil}
use Rattle.std.proofs.lemmas.List.Folds.{list_all-append}
use Rattle.std.proofs.lemmas.List.Elements.{All-push, All-head, All-tail, All-nil, All-cons}
use Rattle.mpx_group.specs.declared.errors.GroupError.{GroupError}
use Rattle.mpx_group.specs.declared.errors.GroupError.TheVariants.{RankTwice, OutOfMemory}
use Rattle.mpx_group.specs.Group.{has, has_twice}
use Rattle.mpx_group.specs.Choice.{is_rank, places, incl_of, ranks_refusal}
use Rattle.mpx_group.specs.Picks.{Picked, with_ranks}
use Rattle.mpx_group.proofs.Members.{has_twice-push, has_twice-append_left}
use Rattle.mpx_group.proofs.Places.{unsigned_abs-rank}

-- once a rank was asked for twice, that stays
twice_stays : (rs ns : List ℕ) → (with_ranks (rs, true) ns).1 ≡ true
twice_stays rs [] = refl
twice_stays rs (n ∷ ns) =
    cond_both (has rs n) (rs, true) (rs ++ n ∷ [], true) (λ p. (with_ranks p ns).1 ≡ true) (λ t. twice_stays rs ns) (λ f. twice_stays (rs ++ n ∷ []) ns)

picked_twice : (rs ns : List ℕ) → has_twice rs ≡ false → (with_ranks (rs, false) ns).1 ≡ has_twice (rs ++ ns)
picked_twice rs [] d = sym (ap has_twice (append-nil rs) ∙ d)
picked_twice rs (n ∷ ns) d =
    let whole = append_assoc rs (n ∷ []) ns in
    cond_both (has rs n) (rs, true) (rs ++ n ∷ [], false) (λ p. (with_ranks p ns).1 ≡ has_twice (rs ++ n ∷ ns))
    (λ t. twice_stays rs ns ∙ sym (ap has_twice (sym whole) ∙ has_twice-append_left (rs ++ n ∷ []) ns (has_twice-push rs n ∙ or_right _ _ t)))
    (λ f. picked_twice (rs ++ n ∷ []) ns (has_twice-push rs n ∙ or_from _ _ d f) ∙ ap has_twice whole)

picked_ranks : (rs ns : List ℕ) → (with_ranks (rs, false) ns).1 ≡ false → (with_ranks (rs, false) ns).0 ≡ rs ++ ns
picked_ranks rs [] e = sym (append-nil rs)
picked_ranks rs (n ∷ ns) e =
    cond_both (has rs n) (rs, true) (rs ++ n ∷ [], false) (λ p. (with_ranks p ns).1 ≡ false → (with_ranks p ns).0 ≡ rs ++ n ∷ ns)
    (λ t q. absurd (true≢false (sym (twice_stays rs ns) ∙ q)))
    (λ f q. picked_ranks (rs ++ n ∷ []) ns q ∙ append_assoc rs (n ∷ []) ns)
    e

All-with_ranks : (P : ℕ → Type 0) (p : Picked) (ns : List ℕ) → All P p.0 → All P ns → All P (with_ranks p ns).0
All-with_ranks P p [] a b = a
All-with_ranks P p (n ∷ ns) a b =
    cond_both (has p.0 n) (p.0, true) (p.0 ++ n ∷ [], p.1) (λ q. All P (with_ranks q ns).0)
    (λ t. All-with_ranks P (p.0, true) ns a (All-tail P n ns b))
    (λ f. All-with_ranks P (p.0 ++ n ∷ [], p.1) ns (All-push P p.0 n a (All-head P n ns b)) (All-tail P n ns b))

All-places : (n : ℕ) (zs : List ℤ) → list_all (is_rank n) zs ≡ true → All (λ r. r < n) (places zs)
All-places n [] e = All-nil (λ r. r < n)
All-places n (z ∷ zs) e =
    let parts = and_parts (is_rank n z) (list_all (is_rank n) zs) e in
    All-cons (λ r. r < n) _ _ (unsigned_abs-rank z n parts.0) (All-places n zs parts.1)

pub All-picked : (n : ℕ) (zs : List ℤ) → list_all (is_rank n) zs ≡ true → All (λ r. r < n) (with_ranks ([], false) (places zs)).0
All-picked n zs e = All-with_ranks (λ r. r < n) ([], false) (places zs) (All-nil (λ r. r < n)) (All-places n zs e)

-- what the members at the picked ranks are, or why there are none
pub record Chooses (g : List ℕ) (zs : List ℤ) (r : Result (List ℕ) GroupError) : Type 0 where
  pub refused : IfSome (ranks_refusal g zs) (λ e. r ≡ Err e)
  pub memory : IfNone (ranks_refusal g zs) (IsOkUnless r OutOfMemory)
  pub made : IfOk r (λ made. made ≡ incl_of g zs)

pub chooses : (g : List ℕ) (zs : List ℤ) (r : Result (List ℕ) GroupError) (p : Picked) → list_all (is_rank (length g)) zs ≡ true → p ≡ with_ranks ([], false) (places zs) → OnTrue p.1 (r ≡ Err RankTwice) → OnFalse p.1 (IsOkUnless r OutOfMemory) → IfOk r (λ made. made ≡ map (λ i. slice_index g i) p.0) → Chooses g zs r
chooses g zs r p valid is twice memory made =
    let once = picked_twice [] (places zs) refl in
    let flag = ap (λ (q : Picked). q.1) is ∙ once in
    elim (has_twice (places zs)) as (λ b. has_twice (places zs) ≡ b → Chooses g zs r) [
      | true ↦ λ t.
          let refusal = OnTrue_at (flag ∙ t) twice in
          record { refused = rw (valid, t) refusal; memory = rw (valid, t) tt; made = rw refusal tt }
      | false ↦ λ f.
          let ranks = ap (λ (q : Picked). q.0) is ∙ picked_ranks [] (places zs) (once ∙ f) in
          record {
            refused = rw (valid, f) tt;
            memory = rw (valid, f) (OnFalse_at (flag ∙ f) memory);
            made = subst (λ ns. IfOk r (λ made'. made' ≡ map (λ i. slice_index g i) ns)) ranks made;
          }
    ] refl

pub list_all-flat_map_fails : {X Y : Type 0} (p : Y → Bool) (f : X → List Y) (xs : List X) (i : ℕ) (d : X) → i < length xs → list_all p (f (get_or xs i d)) ≡ false → list_all p (flat_map f xs) ≡ false
list_all-flat_map_fails p f [] i d l e = absurd (omega arith)
list_all-flat_map_fails p f (x ∷ xs) zero d l e = list_all-append p (f x) (flat_map f xs) ∙ and_left _ _ e
list_all-flat_map_fails p f (x ∷ xs) (suc i) d l e =
    list_all-append p (f x) (flat_map f xs) ∙ and_right _ _ (list_all-flat_map_fails p f xs i d (omega arith) e)
