-- The items, however their bytes are kept.
use Rattle.std.specs.Prelude.{◌≡◌, ◌≤◌, ℕ, List, take}
use Rattle.std.specs.List.{flat_map}
use Rattle.mpx_num.specs.declared.types.Ty.{Ty}
use Rattle.mpx_num.specs.ItemList.{AreItems, ItemList}
use Rattle.mpx_num.specs.Spelling.{bytes_of, numbers_in}
use Rattle.mpx_num.specs.declared.spelled.KeptBytes.{KeptBytes}
use Rattle.mpx_num.specs.declared.spelled.KeptBytes.TheVariants.{Few, Shared}

abbrev pub kept_type : KeptBytes → Ty
kept_type (Few ty len bytes) = ty
kept_type (Shared ty bytes) = ty

abbrev pub kept_bytes : KeptBytes → List ℕ
kept_bytes (Few ty len bytes) = take len bytes
kept_bytes (Shared ty bytes) = bytes

abbrev pub spelled_items : KeptBytes → ItemList
spelled_items kept = record { ty = kept_type kept; nums = numbers_in (kept_type kept) (kept_bytes kept) }

-- there are as many bytes as are said to be
abbrev pub fit_in_place : KeptBytes → Type 0
fit_in_place (Few ty len bytes) = len ≤ 16
fit_in_place (Shared ty bytes) = Unit {0}

-- the bytes are those that spell the items
pub record AreKept (kept : KeptBytes) : Type 0 where
  pub items : AreItems (kept_type kept) (spelled_items kept).nums
  pub spelling : flat_map (bytes_of (kept_type kept)) (spelled_items kept).nums ≡ kept_bytes kept
  pub few : fit_in_place kept
