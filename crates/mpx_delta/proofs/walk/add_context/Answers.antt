-- All of a live context, or that it is dead.
use Rattle.std.proofs.Common.{◌≡◌, true, sym, subst}
use Rattle.std.specs.Prelude.{OnOk}
use Rattle.mpx_board.specs.Tidy.{is_tidy_lifted}
use Rattle.mpx_board.specs.Views.{view_of_lifted}
use Rattle.mpx_delta.specs.Facts.{SaysLifted}
use Rattle.mpx_delta.specs.Pieces.{AddsPieces}
use Rattle.mpx_delta.proofs.walk.add_context.Goals as goal

pub add_entry-requires : goal.add_entry-requires
add_entry-requires c = subst (λ l. is_tidy_lifted (view_of_lifted l) ≡ true) c.in-Live.is c.requires

pub returns-in-Live : goal.returns-in-Live
returns-in-Live c = subst (λ l. OnOk c.add_entry.result (AddsPieces (λ P. SaysLifted P (c.args.name.now, view_of_lifted l)) c.args.made.now.items c.add_entry.new.made.items)) (sym c.in-Live.is) c.add_entry.ensures

pub returns-in-Dead : goal.returns-in-Dead
returns-in-Dead c = subst (λ l. OnOk c.add_dead.result (AddsPieces (λ P. SaysLifted P (c.args.name.now, view_of_lifted l)) c.args.made.now.items c.add_dead.new.made.items)) (sym c.in-Dead.is) c.add_dead.ensures
