-- Lists of equal blocks, cut into parts and put together again.
use Rattle.std.specs.Prelude.{◌≡◌, ℕ, zero, suc, ◌*◌, ◌/◌, ◌<◌, ◌≤◌, ◌++◌, List, [], ◌∷◌, length, map, take, drop}
use Rattle.std.specs.List.{All, flat_map, sum_by}
use Rattle.mpx_birth.specs.Births.{upto}

-- of a list of so many equal blocks the one with this number
abbrev pub block_in : {T : Type 0} → (blocks number : ℕ) → List T → List T
block_in blocks number list = take (length list / blocks) (drop (number * (length list / blocks)) list)

-- parts of so many equal blocks, put together block by block: of each block first that of the first part. Parts of one block follow each other
abbrev pub put_together : {T : Type 0} → (blocks : ℕ) → List (List T) → List T
put_together blocks parts = flat_map (λ number. flat_map (block_in blocks number) parts) (upto blocks)

-- of each of so many blocks of `count` items so many items from a place on
abbrev pub cut : {T : Type 0} → (blocks count first each : ℕ) → List T → List T
cut zero count first each list = []
cut (suc blocks) count first each list = take each (drop first (take count list)) ++ cut blocks count first each (drop count list)

-- a part of a longer call: how many items of each block are given to it, which items, and which it gives
pub record Part (T : Type 0) : Type 0 where
  pub count : ℕ
  pub given : List T
  pub got : List T

-- one call of each part, one after the other
abbrev pub Follow : {T S : Type 0} → (Call : Part T → S → S → Type 0) → List (Part T) → (old new : S) → Type 0
Follow Call [] old new = new ≡ old
Follow {T} {S} Call (part ∷ parts) old new = (between : S) × Call part old between × Follow Call parts between new

-- each part but the last has just so many items of a block, and the last has some, and no more
abbrev pub AreFull : {T : Type 0} → (most : ℕ) → List (Part T) → Type 0
AreFull most [] = Unit {0}
AreFull most (part ∷ []) = (0 < part.count) × (part.count ≤ most)
AreFull most (part ∷ next ∷ parts) = (part.count ≡ most) × AreFull most (next ∷ parts)

-- `gives` blocks of `count` items are cut into these parts, each but the last of just so many of a block. What they give, put together, is the list of
-- `gets` blocks
pub record AreParts {T : Type 0} (most gives gets count : ℕ) (items list : List T) (parts : List (Part T)) : Type 0 where
  pub whole : length items ≡ gives * count
  pub full : AreFull most parts
  pub each : All (λ (part : Part T). part.count ≤ most) parts
  pub lengths : All (λ (part : Part T). length part.given ≡ gives * part.count) parts
  pub all : sum_by (λ (part : Part T). part.count) parts ≡ count
  pub given : put_together gives (map (λ (part : Part T). part.given) parts) ≡ items
  pub got : put_together gets (map (λ (part : Part T). part.got) parts) ≡ list
