use Rattle.std.proofs.Common.{◌≡◌, vec_len}
use Rattle.mpx_script.specs.ScriptView.{Adds}
use Rattle.mpx_script.proofs.script.give_copies.Given as goal

abbrev pub invariant-loop-rank : goal.invariant-loop-rank
invariant-loop-rank l = record {
  len : vec_len l.statements ≡ vec_len l.fn.statements;
  added : Adds l.from l.rank l.fn.statement l.fn.statements.items l.statements.items;
}
