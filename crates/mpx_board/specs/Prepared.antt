-- A part that is made ready to be joined.
use Rattle.std.specs.Prelude.{◌≡◌, ℕ, None, true}
use Rattle.std.specs.FinMap.{get}
use Rattle.join_nest.specs.Prepared.{put_over}
use Rattle.join_nest.specs.Room.{HasRoom}
use Rattle.mpx_name.specs.Name.{Name}
use Rattle.mpx_board.specs.declared.board.Board.{Board}
use Rattle.mpx_board.specs.declared.prepared.Prepared.{Prepared}
use Rattle.mpx_board.specs.Boards.{Look}
use Rattle.mpx_board.specs.Contexts.{look_of}
use Rattle.mpx_board.specs.Looks.{parts_of}
use Rattle.mpx_board.specs.Parts.{PartsView}
use Rattle.mpx_board.specs.Tidy.{is_tidy}
use Rattle.mpx_board.specs.Views.{view_of_all_acks, view_of_entries}

-- it has nothing of what the part doesn't name
pub record OnlyNamedBy (prepared : Prepared) (part : PartsView) : Type 0 where
  pub contexts : (name : Name) → get part.0 name ≡ None → get (view_of_entries prepared.contexts) name ≡ None
  pub acks : (process : ℕ) → get part.1 process ≡ None → get (view_of_all_acks prepared.acks) process ≡ None

-- the board has room for it, and shows the new look once it is put in
pub record IsReady (prepared : Prepared) (board : Board) (new : Look) : Type 0 where
  pub parts : PartsView
  pub contexts : (name : Name) → get parts.0 name ≡ put_over (get (view_of_entries prepared.contexts) name) (get (parts_of board).0 name)
  pub acks : (process : ℕ) → get parts.1 process ≡ put_over (get (view_of_all_acks prepared.acks) process) (get (parts_of board).1 process)
  pub room_of_contexts : HasRoom board.inside.first prepared.contexts
  pub room_of_acks : HasRoom board.inside.second prepared.acks
  pub tidy : is_tidy parts ≡ true
  pub shows : look_of parts ≡ new
