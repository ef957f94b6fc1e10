-- Lists of items that are put together of parts, by their numbers.
use Rattle.std.specs.Prelude.{◌≡◌, ℕ, ℤ, ◌*◌, ◌++◌, List, length}

-- the numbers of a list of items are so many of each item, one after the other: one of an integer, two of a pair (MPI 4.1, section 6.9.4)
pub record AreOfEach {T : Type 0} (each : ℕ) (numbers : List T → List ℤ) : Type 0 where
  pub joined : (items more : List T) → numbers (items ++ more) ≡ numbers items ++ numbers more
  pub long : (items : List T) → length (numbers items) ≡ length items * each

-- a list of so many equal blocks
abbrev pub IsOfBlocks : {T : Type 0} → (blocks : ℕ) → List T → Type 0
IsOfBlocks blocks list = (each : ℕ) × (length list ≡ each * blocks)
