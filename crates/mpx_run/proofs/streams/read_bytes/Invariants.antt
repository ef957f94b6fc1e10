use Rattle.std.proofs.Common.{◌≡◌, ◌≤◌, ◌+◌, ◌-◌, length}
use Rattle.std.specs.Io.KnownBytes.{Consumes}
use Rattle.mpx_script.specs.Words.{bytes_limit}
use Rattle.mpx_run.proofs.streams.read_bytes.Given as goal

abbrev pub invariant-loop-piece : goal.invariant-loop-piece
invariant-loop-piece g l = record {
  had : Consumes (g.R.Read.remaining l.fn.reader) (g.R.Read.remaining l.reader) l.bytes.items;
  most : length l.bytes.items ≤ bytes_limit + 1;
  piece : length l.piece ≡ 8192;
}

abbrev pub decreases-loop-piece : goal.decreases-loop-piece
decreases-loop-piece g l = bytes_limit + 1 - length l.bytes.items
