use Rattle.std.proofs.Common.{◌++◌, codes, take}
use Rattle.std.specs.Io.KnownBytes.{Appends}
use Rattle.mpx_program.specs.Status.{waiting_ranks}
use Rattle.mpx_program.proofs.status.write_waiting.Given as goal

abbrev pub invariant-loop-rank : goal.invariant-loop-rank
invariant-loop-rank g l = Appends (g.W.Write.contents l.fn.writer) (g.W.Write.contents l.writer) (codes "waiting:" ++ waiting_ranks (take l.rank-index l.ranks))
