use Rattle.std.proofs.Common.{◌≡◌, ◌<◌, ◌&&◌, true, length, Some, None, refl, sym, ◌∙◌, rules, arith}
use Rattle.std.specs.Prelude.{nat_le}
use Rattle.std.specs.FinMap.{len}
use Rattle.join_core.specs.laws.Cases.{both_true}
use Rattle.join_nest.specs.Seen.{seen}
use Rattle.mpx_encode.specs.Room.{room_left}
use Rattle.join_nest.proofs.Steps.{length_seen}
use Rattle.mpx_board.specs.Tidy.{is_tidy_acks}
use Rattle.mpx_board.specs.Views.{view_of_acks}
use Rattle.mpx_format.specs.Encoding.{most_names}
use Rattle.mpx_format.specs.Fields.{acks, process}
use Rattle.mpx_encode.specs.Entries.{entry_spelled}
use Rattle.mpx_encode.proofs.Rooms.{room_nothing}
use Rattle.mpx_encode.proofs.Keeping.{kept_at}
use Rattle.mpx_encode.proofs.Loops.{room_more, room_ends, passed_more, holds_at, seen_at}
use Rattle.mpx_encode.proofs.write_kept.room_after_all.Goals as goal

pub loop-entry-init : goal.loop-entry-init
loop-entry-init c = record { left = room_nothing c.args.room; fits = refl }

pub room_after_entry-requires-clause-ready : goal.room_after_entry-requires-clause-ready
room_after_entry-requires-clause-ready c =
    let view = view_of_acks in
    let es = c.args.all.now in
    let i = c.loop-entry.entry-index in
    let e = c.entry-item.result in
    let lt : i < length (seen view es) = omega (arith, length_seen view es, c.loop-entry-test.true) in
    holds_at (λ x. is_tidy_acks x.1 && nat_le (len x.1) most_names) (seen view es) i (e.0, view e.1) lt (seen_at view es i e c.loop-entry-test.true c.entry-item.is) c.requires.ready

pub room_after_entry-requires-clause-kept : goal.room_after_entry-requires-clause-kept
room_after_entry-requires-clause-kept c =
    kept_at view_of_acks c.args.kept.now.of.items c.args.all.now c.loop-entry.entry-index c.entry-item.result c.pieces.result.now c.loop-entry-test.true c.entry-item.is c.pieces.ensures c.requires.kept

pub returns-in_err-left-clause-value : goal.returns-in_err-left-clause-value
returns-in_err-left-clause-value c =
    let view = view_of_acks in
    let s = entry_spelled process acks in
    let es = c.args.all.now in
    let i = c.loop-entry.entry-index in
    let e = c.entry-item.result in
    let lt : i < length (seen view es) = omega (arith, length_seen view es, c.loop-entry-test.true) in
    let short : room_left (length (s (e.0, view e.1))) c.loop-entry.left ≡ None = search rules in
    let none : c.from_residual.result ≡ None = search rules in
    none ∙ sym (room_ends s (seen view es) i (e.0, view e.1) c.args.room c.loop-entry.left lt (seen_at view es i e c.loop-entry-test.true c.entry-item.is) c.loop-entry.invariant.left short)

pub loop-entry-preserved : goal.loop-entry-preserved
loop-entry-preserved c =
    let view = view_of_acks in
    let s = entry_spelled process acks in
    let es = c.args.all.now in
    let i = c.loop-entry.entry-index in
    let e = c.entry-item.result in
    let lt : i < length (seen view es) = omega (arith, length_seen view es, c.loop-entry-test.true) in
    let is = seen_at view es i e c.loop-entry-test.true c.entry-item.is in
    let next : room_left (length (s (e.0, view e.1))) c.loop-entry.left ≡ Some c.in_ok-left.left = search rules in
    let key : process.fits e.0 ≡ true = search rules in
    let value : acks.fits (view e.1) ≡ true = search rules in
    record {
      left = room_more s (seen view es) i (e.0, view e.1) c.args.room c.loop-entry.left c.in_ok-left.left lt is c.loop-entry.invariant.left next;
      fits = passed_more (λ x. process.fits x.0 && acks.fits x.1) (seen view es) i (e.0, view e.1) lt is c.loop-entry.invariant.fits (both_true _ _ key value);
    }
