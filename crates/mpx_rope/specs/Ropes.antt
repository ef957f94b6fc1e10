-- The bytes of ropes.
use Rattle.std.specs.Prelude.{◌≡◌, ℕ, ◌+◌, ◌-◌, ◌^◌, ◌<◌, ◌≤◌, List, [], ◌∷◌, ◌++◌, length, take, drop}
use Rattle.std.specs.List.{flat_map}
use Rattle.mpx_num.specs.ItemList.{ItemList}
use Rattle.mpx_num.specs.Spelling.{bytes_of}

-- the bytes of items
abbrev pub item_bytes : ItemList → List ℕ
item_bytes items = flat_map (bytes_of items.ty) items.nums

-- own bytes, of which so many are left out in front, with the shared ones put in, each behind so many own ones
abbrev pub woven : ℕ → List ℕ → List (ℕ × List ℕ) → List ℕ
woven from own [] = own
woven from own (s ∷ more) = take (s.0 - from) own ++ s.1 ++ woven s.0 (drop (s.0 - from) own) more

-- the places rise, and none is past the own bytes
abbrev pub ArePlaced : (from end : ℕ) → List (ℕ × List ℕ) → Type 0
ArePlaced from end [] = from ≤ end
ArePlaced from end (s ∷ more) = (from ≤ s.0) × ArePlaced s.0 end more

-- how many own bytes stand before the next shared ones, where so many are left out in front
abbrev pub near_len : ℕ → List ℕ → List (ℕ × List ℕ) → ℕ
near_len from own [] = length own
near_len from own (s ∷ more) = s.0 - from

-- how many bytes are shared
abbrev pub shared_len : List (ℕ × List ℕ) → ℕ
shared_len [] = 0
shared_len (s ∷ more) = length s.1 + shared_len more

-- where bytes are shared at all, these are many
abbrev pub AreMany : List (ℕ × List ℕ) → ℕ → Type 0
AreMany [] carried = Unit {0}
AreMany (s ∷ more) carried = 64 ≤ carried

-- the places are right, and so many bytes are shared
pub record IsRope (own : List ℕ) (shared : List (ℕ × List ℕ)) (carried : ℕ) : Type 0 where
  pub placed : ArePlaced 0 (length own) shared
  pub carried_is : carried ≡ shared_len shared
  pub few : carried < 2 ^ 62
  pub many : AreMany shared carried
