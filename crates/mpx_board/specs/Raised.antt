-- What a process says that it has, made before it is stored.
use Rattle.std.specs.Prelude.{◌≡◌, ℕ, true, List}
use Rattle.join_nest.specs.Keyed.{replaced}
use Rattle.join_nest.specs.Placed.{with_values_under}
use Rattle.join_nest.specs.Seen.{seen}
use Rattle.mpx_board.specs.declared.acks.Raised.{Raised}
use Rattle.mpx_board.specs.declared.acks.Raised.TheVariants as R
use Rattle.mpx_board.specs.Boards.{IsBoardBelow, Look}
use Rattle.mpx_board.specs.Contexts.{look_of}
use Rattle.mpx_board.specs.Parts.{AcksView, OfProcesses, PartsView}
use Rattle.mpx_board.specs.Tidy.{is_tidy}
use Rattle.mpx_board.specs.Views.{view_of_acks, view_of_all_acks, view_of_numbers}

-- nothing; what one process says now of some contexts, by the places of these among all of which it speaks; all that one process says now;
-- or what all processes say now
pub data RaisedView : Type 0 where
  Nothing : RaisedView
  Places : (process : ℕ) → List (ℕ × OfProcesses ℕ) → RaisedView
  Row : (process : ℕ) → AcksView → RaisedView
  All : OfProcesses AcksView → RaisedView

abbrev pub view_of_raised : Raised → RaisedView
view_of_raised R.Nothing = Nothing
view_of_raised (R.Places process changes) = Places process (seen view_of_numbers changes.values.items)
view_of_raised (R.Row process row) = Row process (view_of_acks row)
view_of_raised (R.All all) = All (view_of_all_acks all)

-- what all say once it is stored
abbrev pub stored : RaisedView → OfProcesses AcksView → OfProcesses AcksView
stored Nothing acks = acks
stored (Places process changes) acks = with_values_under acks process changes
stored (Row process row) acks = replaced acks process row
stored (All all) acks = all

-- it was made of a board that shows the one, and that shows the other, which is above, once it is stored
pub record Raises (raised : Raised) (old new : Look) : Type 0 where
  pub parts : PartsView
  pub tidy : is_tidy parts ≡ true
  pub made_of : look_of parts ≡ old
  pub gives : look_of (parts.0, stored (view_of_raised raised) parts.1) ≡ new
  pub neat : is_tidy (parts.0, stored (view_of_raised raised) parts.1) ≡ true
  pub above : IsBoardBelow old new

-- storing it makes the old board the new one
pub record StoringLeads (raised : Raised) (old new : PartsView) : Type 0 where
  pub contexts : new.0 ≡ old.0
  pub says : stored (view_of_raised raised) old.1 ≡ new.1
  pub neat : is_tidy new ≡ true
