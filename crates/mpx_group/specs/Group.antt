-- Groups as lists of process numbers (MPI 4.1, section 7.3).
use Rattle.std.specs.Prelude.{◌≡◌, ℕ, ◌<◌, ◌≤◌, Bool, false, not, ◌&&◌, ◌||◌, ◌==◌, nat_eq, if◌then◌else◌, List, [], ◌∷◌, ◌++◌, length, filter, position, Option, All, refl}
use Rattle.std.specs.List.{list_any, list_all}
use Rattle.std.specs.Cmp.Lexicographic.{pointwise, bytes_decides}
use Rattle.join_core.specs.Joins.{IsEquality}
use Rattle.mpx_group.specs.declared.ranks.Comparison.{Comparison}
use Rattle.mpx_group.specs.declared.ranks.Comparison.TheVariants.{Ident, Similar, Unequal}

-- whether a number is listed
abbrev pub has : List ℕ → ℕ → Bool
has xs x = list_any (λ y. y == x) xs

-- whether a number is listed twice
abbrev pub has_twice : List ℕ → Bool
has_twice [] = false
has_twice (x ∷ xs) = has xs x || has_twice xs

-- at most 64 processes, none twice
pub record IsGroup (g : List ℕ) : Type 0 where
  pub distinct : has_twice g ≡ false
  pub below : All (λ p. p < 64) g
  pub few : length g ≤ 64

-- all of the first, then those of the second that aren't in the first
abbrev pub union_of : List ℕ → List ℕ → List ℕ
union_of a b = a ++ filter (λ p. not (has a p)) b

-- those of the first that are in the second
abbrev pub intersection_of : List ℕ → List ℕ → List ℕ
intersection_of a b = filter (λ p. has b p) a

-- those of the first that aren't in the second
abbrev pub difference_of : List ℕ → List ℕ → List ℕ
difference_of a b = filter (λ p. not (has b p)) a

-- the rank of a process: its place in the list
abbrev pub rank_in : ℕ → List ℕ → Option ℕ
rank_in p g = position (λ q. q == p) g

-- the same list, the same members in another order, or neither
abbrev pub comparison_of : List ℕ → List ℕ → Comparison
comparison_of a b =
    if pointwise nat_eq a b then Ident else (if list_all (has b) a && list_all (has a) b then Similar else Unequal)

-- lists of numbers are equal where they agree place by place
pub numbers_equality : IsEquality (pointwise nat_eq)
numbers_equality = record { reflexive = λ a. (bytes_decides a a).1 refl; sound = λ a b e. (bytes_decides a b).0 e }
