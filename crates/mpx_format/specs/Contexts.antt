-- What frames say of contexts.
use Rattle.std.specs.Prelude.{ℕ, zero, suc, Bool, not, nat_lt, List, Option, Some, None}
use Rattle.std.specs.Int.{w32}
use Rattle.std.specs.Ordering.{nat_cmp}
use Rattle.std.specs.FinMap.{entries, from_sorted}
use Rattle.join_core.specs.Flat.{FlatView, unknown, known, clash}
use Rattle.join_nest.specs.Lift.{LiftView, live, dead}
use Rattle.join_nest.specs.Trunc.{TruncView, trunc_of}
use Rattle.mpx_name.specs.Order.{name_cmp}
use Rattle.mpx_post.specs.Posts.{Given}
use Rattle.mpx_board.specs.Parts.{CallView, ProgressView, EntryView, LiftedView, PartsView}
use Rattle.mpx_board.specs.Tidy.{is_silent, is_unknown}
use Rattle.mpx_format.specs.declared.defects.Defect.TheVariants.{BadMagic}
use Rattle.mpx_format.specs.declared.versions.Version.{Version}
use Rattle.mpx_format.specs.declared.versions.Version.TheVariants.{One, Two}
use Rattle.mpx_format.specs.Format.{Format, nothing, mark, number, both, only, through, counted, tagged, out_of_limits}
use Rattle.mpx_format.specs.Rising.{keyed, entry, always}
use Rattle.mpx_format.specs.Fields.{process, call, name, name_count, some_byte, fronts, all_acks}
use Rattle.mpx_format.specs.Codes.{version_byte}
use Rattle.mpx_format.specs.Births.{birth}
use Rattle.mpx_format.specs.Posts.{post}

-- TOLD ONCE

abbrev pub code_of_flat : {A : Type 0} → FlatView A → ℕ
code_of_flat unknown = 0
code_of_flat (known a) = 1
code_of_flat clash = 2

abbrev pub of_unknown : {A : Type 0} → FlatView A → Option (Unit {0})
of_unknown unknown = Some tt
of_unknown (known a) = None
of_unknown clash = None

abbrev pub of_known : {A : Type 0} → FlatView A → Option A
of_known unknown = None
of_known (known a) = Some a
of_known clash = None

abbrev pub of_clash : {A : Type 0} → FlatView A → Option (Unit {0})
of_clash unknown = None
of_clash (known a) = None
of_clash clash = Some tt

-- 0 where nothing is told, 1 and the value, or 2 where two were told
abbrev pub flat_form : {A : Type 0} → Format A → ℕ → Format (FlatView A)
flat_form f zero = through (λ u. unknown) of_unknown nothing
flat_form f (suc zero) = through known of_known f
flat_form f (suc (suc n)) = through (λ u. clash) of_clash nothing

abbrev pub told : {A : Type 0} → Format A → Format (FlatView A)
told f = tagged (λ t. nat_lt t 3) code_of_flat (flat_form f)

-- a post, or that two were told
unfoldable pub posted : Version → Format (FlatView Given)
posted version = only out_of_limits (λ p. not (is_unknown p)) (told (post version))

-- CONTEXTS

unfoldable pub call_posts : Version → Format CallView
call_posts version = keyed nat_cmp some_byte process (posted version) always

-- the calls at or above a front
unfoldable pub calls : Version → ℕ → Format (List (ℕ × CallView))
calls version dropped = counted (number w32) (entry nat_cmp (Some dropped) call (call_posts version) always)

abbrev pub trunc_from : ℕ × List (ℕ × CallView) → TruncView CallView
trunc_from x = trunc_of x.0 (from_sorted x.1)

abbrev pub of_trunc : TruncView CallView → Option (ℕ × List (ℕ × CallView))
of_trunc t = Some (t.dropped, entries t.calls)

-- the dropped front, and the calls at or above it
unfoldable pub held : Version → Format (TruncView CallView)
held version = through trunc_from of_trunc (both (number w32) (calls version))

unfoldable pub progress : Version → Format ProgressView
progress version = both fronts (λ f. held version)

-- a live context
unfoldable pub context : Version → Format EntryView
context version = both (told birth) (λ b. progress version)

-- LIVE OR DEAD

abbrev pub code_of_lift : {A : Type 0} → LiftView A → ℕ
code_of_lift (live a) = 0
code_of_lift dead = 1

abbrev pub of_live : {A : Type 0} → LiftView A → Option A
of_live (live a) = Some a
of_live dead = None

abbrev pub of_dead : {A : Type 0} → LiftView A → Option (Unit {0})
of_dead (live a) = None
of_dead dead = Some tt

-- a live value, or no bytes for a dead one
abbrev pub lift_form : {A : Type 0} → Format A → ℕ → Format (LiftView A)
lift_form f zero = through live of_live f
lift_form f (suc n) = through (λ u. dead) of_dead nothing

-- in version 1 each context is live; in version 2 stands 0 and a live one, or 1 for a dead one
unfoldable pub lifted : Version → Format LiftedView
lifted One = lift_form (context One) 0
lifted Two = tagged (λ t. nat_lt t 2) code_of_lift (lift_form (context Two))

abbrev pub says_something : LiftedView → Bool
says_something l = not (is_silent l)

-- FRAMES

unfoldable pub parts : Version → Format PartsView
parts version = both (keyed name_cmp name_count name (lifted version) says_something) (λ c. all_acks)

-- MPXG, the version, and the parts of a board as this version spells them
unfoldable pub frame : Format (Version × PartsView)
frame = mark BadMagic 77 (mark BadMagic 80 (mark BadMagic 88 (mark BadMagic 71 (both version_byte parts))))
