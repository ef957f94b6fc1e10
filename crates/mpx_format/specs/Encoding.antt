-- Which boards have a frame in the version that is written, the second, and how long it is.
use Rattle.std.specs.Prelude.{ℕ, suc, Bool, nat_lt, ◌||◌, length, cond}
use Rattle.std.specs.List.{list_any}
use Rattle.std.specs.FinMap.{entries, len}
use Rattle.mpx_board.specs.Parts.{PartsView}
use Rattle.mpx_format.specs.declared.versions.Version.TheVariants.{Two}
use Rattle.mpx_format.specs.Contexts.{frame}
use Rattle.mpx_format.specs.Decoding.{most_bytes}

-- at most so many names stand in one list
abbrev pub most_names : ℕ
most_names = 4096

-- there are more names of contexts, or among what one process acknowledges
abbrev pub has_many_names : PartsView → Bool
has_many_names v = nat_lt most_names (len v.0) || list_any (λ e. nat_lt most_names (len e.1)) (entries v.1)

-- over 1,048,576 bytes, or over 4,096 names in one list
unfoldable pub is_too_long : PartsView → Bool
is_too_long v = has_many_names v || nat_lt most_bytes (length (frame.spelling (Two, v)))

-- how long the frame is, 1,048,577 where it is too long
abbrev pub length_told : PartsView → ℕ
length_told v = cond (is_too_long v) (suc most_bytes) (length (frame.spelling (Two, v)))
