use Rattle.std.proofs.Common.{◌≡◌, ◌<◌, ◌&&◌, ◌++◌, length, rules, arith}
use Rattle.join_core.specs.laws.Cases.{first_true, second_true}
use Rattle.join_nest.specs.Seen.{seen}
use Rattle.join_nest.proofs.Steps.{length_seen}
use Rattle.mpx_encode.specs.Entries.{entry_spelled}
use Rattle.mpx_encode.proofs.Loops.{written_more, holds_at, seen_at}
use Rattle.mpx_encode.proofs.write_entries.write_entries.Goals as goal

pub write_entry-requires-clause-key : goal.write_entry-requires-clause-key
write_entry-requires-clause-key g c =
    let view = g.J.WriteValue.seen in
    let es = c.args.entries.now in
    let i = c.loop-entry.entry-index in
    let e = c.entry-item.result in
    let lt : i < length (seen view es) = omega (arith, length_seen view es, c.loop-entry-test.true) in
    first_true (g.K.WriteKey.format.fits e.0) (g.J.WriteValue.format.fits (view e.1))
    (holds_at (λ x. g.K.WriteKey.format.fits x.0 && g.J.WriteValue.format.fits x.1) (seen view es) i (e.0, view e.1) lt (seen_at view es i e c.loop-entry-test.true c.entry-item.is) c.requires)

pub write_entry-requires-clause-value : goal.write_entry-requires-clause-value
write_entry-requires-clause-value g c =
    let view = g.J.WriteValue.seen in
    let es = c.args.entries.now in
    let i = c.loop-entry.entry-index in
    let e = c.entry-item.result in
    let lt : i < length (seen view es) = omega (arith, length_seen view es, c.loop-entry-test.true) in
    second_true (g.K.WriteKey.format.fits e.0) (g.J.WriteValue.format.fits (view e.1))
    (holds_at (λ x. g.K.WriteKey.format.fits x.0 && g.J.WriteValue.format.fits x.1) (seen view es) i (e.0, view e.1) lt (seen_at view es i e c.loop-entry-test.true c.entry-item.is) c.requires)

pub loop-entry-preserved : goal.loop-entry-preserved
loop-entry-preserved g c =
    let view = g.J.WriteValue.seen in
    let s = entry_spelled g.K.WriteKey.format g.J.WriteValue.format in
    let es = c.args.entries.now in
    let i = c.loop-entry.entry-index in
    let e = c.entry-item.result in
    let lt : i < length (seen view es) = omega (arith, length_seen view es, c.loop-entry-test.true) in
    let added : c.write_entry.new.out ≡ c.loop-entry.out ++ s (e.0, view e.1) = search rules in
    written_more s (seen view es) i (e.0, view e.1) c.args.out.now c.loop-entry.out c.write_entry.new.out lt (seen_at view es i e c.loop-entry-test.true c.entry-item.is) c.loop-entry.invariant added
