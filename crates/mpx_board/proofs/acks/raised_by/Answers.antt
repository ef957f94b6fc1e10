use Rattle.std.proofs.Common.{refl}
use Rattle.join_nest.specs.Seen.{seen}
use Rattle.mpx_board.specs.Views.{view_of_acks, view_of_all_acks, view_of_numbers}
use Rattle.mpx_board.proofs.Acknowledging.{all_stored, places_stored, row_stored}
use Rattle.mpx_board.proofs.acks.raised_by.Goals as goal

pub returns-in_ok-put-in-None : goal.returns-in_ok-put-in-None
returns-in_ok-put-in-None c = all_stored c.args.process (view_of_acks c.args.said.now) (view_of_all_acks c.args.acks.now) _ _ _ c.in-None.ensures c.in_ok-all-in-None.ensures c.in_ok-copied_names-in-None.ensures c.in_ok-put-in-None.ensures.ok

pub returns-in_ok-row-in-Some : goal.returns-in_ok-row-in-Some
returns-in_ok-row-in-Some c = row_stored c.args.process (view_of_acks c.args.said.now) (view_of_all_acks c.args.acks.now) _ _ _ c.in-Some.ensures c.in_ok-row-in-Some.ensures refl

pub returns-in-Some : goal.returns-in-Some
returns-in-Some c = places_stored c.args.process (view_of_acks c.args.said.now) (view_of_all_acks c.args.acks.now) _ (seen view_of_numbers c.in-Some-2.changes.values.items) c.in-Some.ensures (rw c.in-Some-2.is at c.in_ok-changes-in-Some.ensures)
