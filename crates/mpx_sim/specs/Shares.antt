-- Work at each place of a list whose first place has a number of its own.
use Rattle.std.specs.Prelude.{◌≡◌, ℕ, ◌+◌, ◌<◌, List, length, slice_index_or}
use denote.Ref.{MutBor}
use denote.Param.Members.{Shared}
use Rattle.std.specs.Fork.{AcceptsAt, ChangesAt}

module _ {F T : Type 0} (g : Shared F (ℕ × (MutBor T × Unit {0})) (Unit {0} × (MutBor T × Unit {0}))) (work : F) where
  -- the work may be done at each place of xs, the first of which has this number
  abbrev pub AcceptsFrom : (first : ℕ) → List T → Type 0
  AcceptsFrom first xs = (k : ℕ) (d : T) → k < length xs → AcceptsAt g work (first + k) (slice_index_or xs k d)

  -- each place of ys has what the work left at that place of xs
  pub record ChangesFrom (first : ℕ) (xs ys : List T) : Type 0 where
    pub len : length ys ≡ length xs
    pub each : (k : ℕ) (d : T) → k < length xs → ChangesAt g work (first + k) (slice_index_or xs k d) (slice_index_or ys k d)
