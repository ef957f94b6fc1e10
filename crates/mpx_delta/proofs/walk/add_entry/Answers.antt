-- The head, and then the calls.
use Rattle.std.proofs.Common.{not}
use Rattle.std.proofs.lemmas.Result.{on_ok_weaker}
use Rattle.std.specs.Prelude.{All}
use Rattle.std.specs.FinMap.{entries}
use Rattle.join_core.specs.laws.Cases.{second_true}
use Rattle.mpx_board.specs.Tidy.{says_nothing, is_neat_entry, has_no_zero, all_entries, is_tidy_call}
use Rattle.mpx_board.specs.Views.{view_of_entry}
use Rattle.mpx_delta.specs.Facts.{SaysHead, SaysCall, SaysEntry}
use Rattle.mpx_delta.proofs.Adding.{adds_then}
use Rattle.mpx_delta.proofs.walk.add_entry.Goals as goal

pub add_head-requires : goal.add_head-requires
add_head-requires c = second_true (not (says_nothing (view_of_entry c.args.entry.now))) (is_neat_entry (view_of_entry c.args.entry.now)) c.requires

pub add_calls-requires : goal.add_calls-requires
add_calls-requires c =
    let e = view_of_entry c.args.entry.now in
    second_true (has_no_zero e.1.0) (all_entries is_tidy_call e.1.1.calls) (second_true (not (says_nothing e)) (is_neat_entry e) c.requires)

pub returns : goal.returns
returns c = on_ok_weaker c.add_calls.result (λ later. adds_then (λ P. SaysHead P c.args.name.now (view_of_entry c.args.entry.now)) (λ P. All (SaysCall P c.args.name.now) (entries (view_of_entry c.args.entry.now).1.1.calls)) (λ P. SaysEntry P (c.args.name.now, view_of_entry c.args.entry.now)) _ _ _ c.in_ok-add_head.ensures later (λ P head calls. record { head = head; calls = calls }) (λ P x. x.head) (λ P x. x.calls)) c.add_calls.ensures
