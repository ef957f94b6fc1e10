use Rattle.std.proofs.Common.{◌≡◌, ◌<◌, ◌&&◌, ◌++◌, length, rules, arith}
use Rattle.join_core.specs.laws.Cases.{first_true, second_true}
use Rattle.join_nest.specs.Seen.{seen}
use Rattle.join_nest.proofs.Steps.{length_seen}
use Rattle.mpx_board.specs.Views.{view_of_acks}
use Rattle.mpx_format.specs.Fields.{acks, process}
use Rattle.mpx_encode.specs.Entries.{entry_spelled}
use Rattle.mpx_encode.proofs.Keeping.{kept_at}
use Rattle.mpx_encode.proofs.Loops.{written_more, holds_at, seen_at}
use Rattle.mpx_encode.proofs.write_kept.write_kept.Goals as goal

pub write_entry-requires-clause-process : goal.write_entry-requires-clause-process
write_entry-requires-clause-process c =
    let view = view_of_acks in
    let es = c.args.all.now in
    let i = c.loop-entry.entry-index in
    let e = c.entry-item.result in
    let lt : i < length (seen view es) = omega (arith, length_seen view es, c.loop-entry-test.true) in
    first_true (process.fits e.0) (acks.fits (view e.1))
    (holds_at (λ x. process.fits x.0 && acks.fits x.1) (seen view es) i (e.0, view e.1) lt (seen_at view es i e c.loop-entry-test.true c.entry-item.is) c.requires.fits)

pub write_entry-requires-clause-acks : goal.write_entry-requires-clause-acks
write_entry-requires-clause-acks c =
    let view = view_of_acks in
    let es = c.args.all.now in
    let i = c.loop-entry.entry-index in
    let e = c.entry-item.result in
    let lt : i < length (seen view es) = omega (arith, length_seen view es, c.loop-entry-test.true) in
    second_true (process.fits e.0) (acks.fits (view e.1))
    (holds_at (λ x. process.fits x.0 && acks.fits x.1) (seen view es) i (e.0, view e.1) lt (seen_at view es i e c.loop-entry-test.true c.entry-item.is) c.requires.fits)

pub write_entry-requires-clause-kept : goal.write_entry-requires-clause-kept
write_entry-requires-clause-kept c =
    kept_at view_of_acks c.args.kept.now.of.items c.args.all.now c.loop-entry.entry-index c.entry-item.result c.pieces.result.now c.loop-entry-test.true c.entry-item.is c.pieces.ensures c.requires.kept

pub loop-entry-preserved : goal.loop-entry-preserved
loop-entry-preserved c =
    let view = view_of_acks in
    let s = entry_spelled process acks in
    let es = c.args.all.now in
    let i = c.loop-entry.entry-index in
    let e = c.entry-item.result in
    let lt : i < length (seen view es) = omega (arith, length_seen view es, c.loop-entry-test.true) in
    let added : c.write_entry.new.out ≡ c.loop-entry.out ++ s (e.0, view e.1) = search rules in
    written_more s (seen view es) i (e.0, view e.1) c.args.out.now c.loop-entry.out c.write_entry.new.out lt (seen_at view es i e c.loop-entry-test.true c.entry-item.is) c.loop-entry.invariant added
