-- Numbers that were met, by their marks.
use Rattle.std.proofs.Common.{◌≡◌, ℕ, ◌+◌, ◌<◌, Bool, true, false, ◌||◌, ◌==◌, List, [], ◌∷◌, ◌++◌, length, get_or, set, take, replicate, refl, sym, ◌∙◌, eqb-true, arith}
use Rattle.std.proofs.lemmas.Bool.{or_from, or_right, eqb-false}
use Rattle.std.proofs.lemmas.List.{get_or-replicate, get_or-set_same, get_or-set_other, length-set, take_more}
use Rattle.std.proofs.lemmas.List.Folds.{list_any-append}
use Rattle.mpx_group.specs.Group.{has, has_twice}
use Rattle.mpx_group.proofs.Members.{has_twice-found, has_twice-push}

-- the numbers below 64 that are marked are those of the list, where none stands twice
pub record Seen (marks : List Bool) (xs : List ℕ) : Type 0 where
  pub size : length marks ≡ 64
  pub marked : (n : ℕ) → n < 64 → get_or marks n false ≡ has xs n
  pub distinct : has_twice xs ≡ false

pub seen-none : Seen (replicate 64 false) []
seen-none = record { size = refl; marked = λ n l. get_or-replicate 64 n false false l; distinct = refl }

or_neither : (b : Bool) → b ≡ (b || (false || false))
or_neither true = refl
or_neither false = refl

marked-more : (marks : List Bool) (xs : List ℕ) (x n : ℕ) → Seen marks xs → n < 64 → get_or (set marks x true) n false ≡ has (xs ++ x ∷ []) n
marked-more marks xs x n seen l =
    elim (x == n) as (λ b. (x == n) ≡ b → get_or (set marks x true) n false ≡ has (xs ++ x ∷ []) n) [
      | true ↦ λ e.
          let same : x ≡ n = eqb-true x n e in
          rw (list_any-append (λ y. y == n) xs (x ∷ []), e, same) (get_or-set_same marks n true false (omega (arith, seen.size)) ∙ sym (or_right (has xs n) true refl))
      | false ↦ λ e.
          rw (list_any-append (λ y. y == n) xs (x ∷ []), e) (get_or-set_other marks x n true false (λ q. eqb-false x n e (sym q)) ∙ seen.marked n l ∙ or_neither (has xs n))
    ] refl

pub seen-more : (marks : List Bool) (xs : List ℕ) (x : ℕ) → Seen marks xs → x < 64 → get_or marks x false ≡ false → Seen (set marks x true) (xs ++ x ∷ [])
seen-more marks xs x seen l fresh = record {
  size = length-set marks x true ∙ seen.size;
  marked = λ n k. marked-more marks xs x n seen k;
  distinct = has_twice-push xs x ∙ or_from _ _ seen.distinct (sym (seen.marked x l) ∙ fresh);
}

-- ONE AFTER ANOTHER

module _ (marks : List Bool) (xs : List ℕ) (i x : ℕ) (seen : Seen marks (take i xs)) (within : i < length xs) (is : x ≡ get_or xs i x) (small : x < 64) where
  pub seen-next : get_or marks x false ≡ false → Seen (set marks x true) (take (i + 1) xs)
  seen-next fresh = rw (take_more xs i x within, ← is) (seen-more marks (take i xs) x seen small fresh)

  pub seen-twice : get_or marks x false ≡ true → has_twice xs ≡ true
  seen-twice met = has_twice-found xs i x within is (sym (seen.marked x small) ∙ met)
