use Rattle.std.proofs.Common.{◌++◌, take, drop, arith, refl}
use Rattle.join_core.specs.laws.Cases.{on_err}
use Rattle.mpx_run.proofs.Pieces.{consumes_keeps, consumes_more, has_room, more_read, read_full, read_more, read_stops, same_piece, stops, within_limit}
use Rattle.mpx_run.proofs.streams.read_bytes.Goals as goal

pub returns-clause-input : goal.returns-clause-input
returns-clause-input g c = (
  read_full (g.R.Read.remaining c.args.reader.now) (g.R.Read.remaining c.loop-piece.reader) c.loop-piece.bytes.items 1048577 c.loop-piece.invariant.had (omega (arith, c.loop-piece.invariant.most, c.len.ensures, c.loop-piece-test.false)),
  c.loop-piece.invariant.had,
)

pub returns-in-Err-clause-part : goal.returns-in-Err-clause-part
returns-in-Err-clause-part g c = (
  c.loop-piece.bytes.items,
  c.loop-piece.invariant.most,
  consumes_keeps (g.R.Read.remaining c.args.reader.now) (g.R.Read.remaining c.loop-piece.reader) (g.R.Read.remaining c.read.new.self) c.loop-piece.bytes.items c.loop-piece.invariant.had c.in-Err.ensures.bytes,
)

pub returns-then-count-eq0-clause-input : goal.returns-then-count-eq0-clause-input
returns-then-count-eq0-clause-input g c = (
  read_stops (g.R.Read.remaining c.args.reader.now) (g.R.Read.remaining c.loop-piece.reader) (g.R.Read.remaining c.read.new.self) c.loop-piece.bytes.items c.read.new.buf 1048577 c.in-Ok.count c.loop-piece.invariant.had c.in-Ok.ensures.bytes c.if-count-eq0.true
      (has_room c.len-in-loop-piece.result c.min-most.result c.loop-piece.piece c.read.new.buf c.loop-piece.invariant.piece c.min-most.ensures c.read.auto.buf (λ none. omega (arith, none, c.len-in-loop-piece.ensures, c.len.ensures, c.loop-piece-test.true)))
      c.loop-piece.invariant.most,
  stops (g.R.Read.remaining c.args.reader.now) (g.R.Read.remaining c.loop-piece.reader) (g.R.Read.remaining c.read.new.self) c.loop-piece.bytes.items c.read.new.buf c.in-Ok.count c.loop-piece.invariant.had c.in-Ok.ensures.bytes.0 c.if-count-eq0.true,
)

pub loop-piece-smaller : goal.loop-piece-smaller
loop-piece-smaller g c =
    more_read c.len-in-loop-piece.result c.min-most.result c.loop-piece.piece c.read.new.buf c.loop-piece.invariant.piece c.min-most.ensures c.read.auto.buf c.in-Ok.count c.loop-piece.bytes.items c.extend_from_slice.new.self.items
    (read_more c.loop-piece.bytes.items c.extend_from_slice.new.self.items c.read.new.buf (drop c.min-most.result c.loop-piece.piece) c.in-Ok.count c.in_ok-extend_from_slice.ensures.items c.in-Ok.ensures.bound.0)
    c.in-Ok.ensures.bound.0 c.if-count-eq0.false (omega (arith, c.len.ensures, c.loop-piece-test.true))

pub loop-piece-preserved : goal.loop-piece-preserved
loop-piece-preserved g c =
    let more = read_more c.loop-piece.bytes.items c.extend_from_slice.new.self.items c.read.new.buf (drop c.min-most.result c.loop-piece.piece) c.in-Ok.count c.in_ok-extend_from_slice.ensures.items c.in-Ok.ensures.bound.0 in
    record {
      had = consumes_more (g.R.Read.remaining c.args.reader.now) (g.R.Read.remaining c.loop-piece.reader) (g.R.Read.remaining c.read.new.self) c.loop-piece.bytes.items (take c.in-Ok.count c.read.new.buf) c.extend_from_slice.new.self.items c.loop-piece.invariant.had c.in-Ok.ensures.bytes.0 more;
      most = within_limit c.len-in-loop-piece.result c.min-most.result c.loop-piece.piece c.read.new.buf c.loop-piece.invariant.piece c.min-most.ensures c.read.auto.buf c.in-Ok.count c.loop-piece.bytes.items c.extend_from_slice.new.self.items (omega (arith, c.len-in-loop-piece.ensures)) more c.in-Ok.ensures.bound.0 c.loop-piece.invariant.most;
      piece = same_piece c.len-in-loop-piece.result c.min-most.result c.loop-piece.piece c.read.new.buf c.loop-piece.invariant.piece c.min-most.ensures c.read.auto.buf;
    }

pub returns-in_err-extend_from_slice-clause-part : goal.returns-in_err-extend_from_slice-clause-part
returns-in_err-extend_from_slice-clause-part g c = on_err c.from_residual.result (
  c.loop-piece.bytes.items ++ take c.in-Ok.count c.read.new.buf,
  within_limit c.len-in-loop-piece.result c.min-most.result c.loop-piece.piece c.read.new.buf c.loop-piece.invariant.piece c.min-most.ensures c.read.auto.buf c.in-Ok.count c.loop-piece.bytes.items (c.loop-piece.bytes.items ++ take c.in-Ok.count c.read.new.buf) (omega (arith, c.len-in-loop-piece.ensures)) refl c.in-Ok.ensures.bound.0 c.loop-piece.invariant.most,
  consumes_more (g.R.Read.remaining c.args.reader.now) (g.R.Read.remaining c.loop-piece.reader) (g.R.Read.remaining c.read.new.self) c.loop-piece.bytes.items (take c.in-Ok.count c.read.new.buf) (c.loop-piece.bytes.items ++ take c.in-Ok.count c.read.new.buf) c.loop-piece.invariant.had c.in-Ok.ensures.bytes.0 refl,
)
