use Rattle.std.proofs.Common.{◌≡◌, ◌<◌, ◌&&◌, true, length, Some, None, refl, sym, ◌∙◌, rules, arith}
use Rattle.join_core.specs.laws.Cases.{both_true, first_true, second_true}
use Rattle.join_nest.specs.Seen.{seen}
use Rattle.mpx_encode.specs.Room.{room_left}
use Rattle.join_nest.proofs.Steps.{length_seen}
use Rattle.mpx_encode.specs.Entries.{entry_spelled}
use Rattle.mpx_encode.proofs.Rooms.{room_nothing}
use Rattle.mpx_encode.proofs.Loops.{room_more, room_ends, passed_more, holds_at, seen_at}
use Rattle.mpx_encode.proofs.write_entries.room_after_entries.Goals as goal

pub loop-entry-init : goal.loop-entry-init
loop-entry-init g c = record { left = room_nothing c.args.room; fits = refl }

pub room_after_entry-requires-clause-key : goal.room_after_entry-requires-clause-key
room_after_entry-requires-clause-key g c =
    let view = g.J.WriteValue.seen in
    let es = c.args.entries.now in
    let i = c.loop-entry.entry-index in
    let e = c.entry-item.result in
    let lt : i < length (seen view es) = omega (arith, length_seen view es, c.loop-entry-test.true) in
    first_true (g.K.WriteKey.ready e.0) (g.J.WriteValue.ready (view e.1))
    (holds_at (λ x. g.K.WriteKey.ready x.0 && g.J.WriteValue.ready x.1) (seen view es) i (e.0, view e.1) lt (seen_at view es i e c.loop-entry-test.true c.entry-item.is) c.requires)

pub room_after_entry-requires-clause-value : goal.room_after_entry-requires-clause-value
room_after_entry-requires-clause-value g c =
    let view = g.J.WriteValue.seen in
    let es = c.args.entries.now in
    let i = c.loop-entry.entry-index in
    let e = c.entry-item.result in
    let lt : i < length (seen view es) = omega (arith, length_seen view es, c.loop-entry-test.true) in
    second_true (g.K.WriteKey.ready e.0) (g.J.WriteValue.ready (view e.1))
    (holds_at (λ x. g.K.WriteKey.ready x.0 && g.J.WriteValue.ready x.1) (seen view es) i (e.0, view e.1) lt (seen_at view es i e c.loop-entry-test.true c.entry-item.is) c.requires)

pub returns-in_err-left-clause-value : goal.returns-in_err-left-clause-value
returns-in_err-left-clause-value g c =
    let view = g.J.WriteValue.seen in
    let s = entry_spelled g.K.WriteKey.format g.J.WriteValue.format in
    let es = c.args.entries.now in
    let i = c.loop-entry.entry-index in
    let e = c.entry-item.result in
    let lt : i < length (seen view es) = omega (arith, length_seen view es, c.loop-entry-test.true) in
    let short : room_left (length (s (e.0, view e.1))) c.loop-entry.left ≡ None = search rules in
    let none : c.from_residual.result ≡ None = search rules in
    none ∙ sym (room_ends s (seen view es) i (e.0, view e.1) c.args.room c.loop-entry.left lt (seen_at view es i e c.loop-entry-test.true c.entry-item.is) c.loop-entry.invariant.left short)

pub loop-entry-preserved : goal.loop-entry-preserved
loop-entry-preserved g c =
    let view = g.J.WriteValue.seen in
    let s = entry_spelled g.K.WriteKey.format g.J.WriteValue.format in
    let es = c.args.entries.now in
    let i = c.loop-entry.entry-index in
    let e = c.entry-item.result in
    let lt : i < length (seen view es) = omega (arith, length_seen view es, c.loop-entry-test.true) in
    let is = seen_at view es i e c.loop-entry-test.true c.entry-item.is in
    let next : room_left (length (s (e.0, view e.1))) c.loop-entry.left ≡ Some c.in_ok-left.left = search rules in
    let key : g.K.WriteKey.format.fits e.0 ≡ true = search rules in
    let value : g.J.WriteValue.format.fits (view e.1) ≡ true = search rules in
    record {
      left = room_more s (seen view es) i (e.0, view e.1) c.args.room c.loop-entry.left c.in_ok-left.left lt is c.loop-entry.invariant.left next;
      fits = passed_more (λ x. g.K.WriteKey.format.fits x.0 && g.J.WriteValue.format.fits x.1) (seen view es) i (e.0, view e.1) lt is c.loop-entry.invariant.fits (both_true _ _ key value);
    }
