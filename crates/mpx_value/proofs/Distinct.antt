-- The members of a child differ.
use Rattle.std.proofs.Common.{◌≡◌, ℕ, ◌<◌, ◌==◌, Bool, false, List, [], ◌∷◌, length, refl, sym}
use Rattle.std.proofs.lemmas.Bool.{and_parts, cond_both, eqb-false, ne_eqb, not-true, or_from, or_parts}
use Rattle.mpx_group.specs.Group.{has, has_twice}
use Rattle.mpx_group.proofs.Members.{has_twice-filter}
use Rattle.mpx_birth.specs.Orders.{ordered, placed}
use Rattle.mpx_birth.proofs.Below.{upto-distinct}
use Rattle.mpx_birth.specs.Births.{upto}
use Rattle.mpx_post.specs.Posts.{group_of}
use Rattle.mpx_post.specs.Rows.{RowView}
use Rattle.mpx_post.specs.Agreement.{IsFine, post_at}
use Rattle.mpx_post.proofs.Agreement.{fits_parts}
use Rattle.mpx_value.specs.Children.{gives_colour, lower_key, ranks_with}

module _ (lower : ℕ → ℕ → Bool) where
  has-placed : (n : ℕ) (ms : List ℕ) (x : ℕ) → (n == x) ≡ false → has ms x ≡ false → has (placed lower n ms) x ≡ false
  has-placed n [] x other none = or_from _ _ other refl
  has-placed n (m ∷ ms) x other none =
      let parts = or_parts (m == x) (has ms x) none in
      cond_both (lower m n) (m ∷ placed lower n ms) (n ∷ m ∷ ms) (λ zs. has zs x ≡ false)
      (λ t. or_from _ _ parts.0 (has-placed n ms x other parts.1))
      (λ f. or_from _ _ other none)

  placed-distinct : (n : ℕ) (ms : List ℕ) → has ms n ≡ false → has_twice ms ≡ false → has_twice (placed lower n ms) ≡ false
  placed-distinct n [] none distinct = refl
  placed-distinct n (m ∷ ms) none distinct =
      let parts = or_parts (m == n) (has ms n) none in
      let twice = or_parts (has ms m) (has_twice ms) distinct in
      cond_both (lower m n) (m ∷ placed lower n ms) (n ∷ m ∷ ms) (λ zs. has_twice zs ≡ false)
      (λ t. or_from _ _ (has-placed n ms m (ne_eqb n m (λ e. eqb-false m n parts.0 (sym e))) twice.0) (placed-distinct n ms parts.1 twice.1))
      (λ f. or_from _ _ none distinct)

  has-ordered : (ns : List ℕ) (x : ℕ) → has ns x ≡ false → has (ordered lower ns) x ≡ false
  has-ordered [] x none = refl
  has-ordered (n ∷ ns) x none =
      let parts = or_parts (n == x) (has ns x) none in
      has-placed n (ordered lower ns) x parts.0 (has-ordered ns x parts.1)

  -- numbers that differ do so in any order
  pub ordered-distinct : (ns : List ℕ) → has_twice ns ≡ false → has_twice (ordered lower ns) ≡ false
  ordered-distinct [] distinct = refl
  ordered-distinct (n ∷ ns) distinct =
      let parts = or_parts (has ns n) (has_twice ns) distinct in
      placed-distinct n (ordered lower ns) (has-ordered ns n parts.0) (ordered-distinct ns parts.1)

-- the ranks that give a colour
pub split-distinct : (row : RowView) (colour : ℕ) → has_twice (ordered (lower_key row) (ranks_with colour row)) ≡ false
split-distinct row colour =
    ordered-distinct (lower_key row) (ranks_with colour row) (has_twice-filter (gives_colour colour row) (upto (length row)) (upto-distinct (length row)))

-- the ranks of a group that fits
pub group-distinct : (row : RowView) (rank : ℕ) → IsFine row → rank < length row → has_twice (group_of (post_at row rank)) ≡ false
group-distinct row rank fine l =
    not-true _ (and_parts _ _ ((fits_parts fine.topology (length row) rank (post_at row rank) (fine.with.each rank l).fit).group)).0
