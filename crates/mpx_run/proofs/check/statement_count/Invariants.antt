use Rattle.std.proofs.Common.{◌≡◌, ◌*◌, ◌≤◌}
use Rattle.mpx_run.specs.Texts.{statements_upto}
use Rattle.mpx_run.proofs.check.statement_count.Given as goal

abbrev pub invariant-loop-rank : goal.invariant-loop-rank
invariant-loop-rank l = record {
  counted : l.count ≡ statements_upto l.script.statements l.rank;
  within : l.count ≤ l.rank * 18446744073709551616;
}
