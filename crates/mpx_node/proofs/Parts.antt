-- A board has no frame within a limit, by the length that is told.
use Rattle.std.proofs.Common.{◌≡◌, ◌≤◌, ◌<◌, ℕ, suc, min, Bool, true, false, cond, not, ◌&&◌, ◌||◌, length, refl, arith}
use Rattle.std.specs.Prelude.{nat_le, nat_lt}
use Rattle.std.proofs.lemmas.Bool.Decides.{nat_tests}
use Rattle.mpx_board.specs.Parts.{PartsView}
use Rattle.mpx_format.specs.declared.versions.Version.TheVariants.{Two}
use Rattle.mpx_format.specs.Contexts.{frame}
use Rattle.mpx_format.specs.Decoding.{most_bytes}
use Rattle.mpx_format.specs.Encoding.{has_many_names, is_too_long, length_told}
use Rattle.mpx_node.specs.Parts.{fits_in}

few : (many : Bool) (n : ℕ) → (many || nat_lt most_bytes n) ≡ false → n ≤ most_bytes
few true n h = absurd cc
few false n h = grind (arith, nat_tests, h)

-- a frame that isn't too long has few bytes
few_bytes : (v : PartsView) → is_too_long v ≡ false → length (frame.spelling (Two, v)) ≤ most_bytes
unfolding is_too_long
few_bytes v h = few (has_many_names v) (length (frame.spelling (Two, v))) h

beyond : (long : Bool) (n limit : ℕ) → (long ≡ false → n ≤ most_bytes) → min limit most_bytes < cond long (suc most_bytes) n → (not long && nat_le n limit) ≡ false
beyond true n limit few h = refl
beyond false n limit few h = let le = few refl in grind (arith, nat_tests, h, le)

pub not_beyond : (limit : ℕ) (v : PartsView) → min limit most_bytes < length_told v → fits_in limit v ≡ false
not_beyond limit v h = beyond (is_too_long v) (length (frame.spelling (Two, v))) limit (few_bytes v) h
