-- A board without posts, by the maps that it is made of.
use Rattle.std.specs.Prelude.{ℕ, List, Option, Some, None, cond, nat_lt}
use Rattle.join_core.specs.Flat.{FlatView}
use Rattle.join_nest.specs.Lift.{live, dead}
use Rattle.join_nest.specs.Placed.{with_values}
use Rattle.join_nest.specs.Trunc.{TruncView, trunc_of}
use Rattle.mpx_name.specs.Name.{Name}
use Rattle.mpx_post.specs.Posts.{Given}
use Rattle.mpx_board.specs.Parts.{AcksView, CallView, EntryView, LiftedView, PartsView}
use Rattle.mpx_board.specs.Tidy.{is_silent}
use Rattle.mpx_digest.specs.Keep.{keep, unless_bare}
use Rattle.mpx_digest.specs.Digest.{numbers_acked}

-- a post of call k at or above its process's number
abbrev pub lean_post : (ℕ → ℕ) → (k p : ℕ) → FlatView Given → Option (FlatView Given)
lean_post numbers k p v = cond (nat_lt k (numbers p)) None (Some v)

abbrev pub lean_call : (ℕ → ℕ) → ℕ → CallView → Option CallView
lean_call numbers k posts = unless_bare (keep (lean_post numbers k) posts)

abbrev pub lean_calls : (ℕ → ℕ) → TruncView CallView → TruncView CallView
lean_calls numbers t = trunc_of t.dropped (keep (lean_call numbers) t.calls)

abbrev pub lean_entry : (ℕ → ℕ) → EntryView → EntryView
lean_entry numbers e = (e.0, (e.1.0, lean_calls numbers e.1.1))

-- a dead context has no posts
abbrev pub lean_lifted : (ℕ → ℕ) → LiftedView → LiftedView
lean_lifted numbers (live e) = live (lean_entry numbers e)
lean_lifted numbers dead = dead

-- what still says something
abbrev pub unless_silent : LiftedView → Option LiftedView
unless_silent l = cond (is_silent l) None (Some l)

abbrev pub lean_context : AcksView → Name → LiftedView → Option LiftedView
lean_context d name l = unless_silent (lean_lifted (numbers_acked d name) l)

-- the board with these contexts at their places
abbrev pub with_contexts : PartsView → List (ℕ × LiftedView) → PartsView
with_contexts v cs = (with_values v.0 cs, v.1)
