use Rattle.std.proofs.Common.{◌≡◌, [], map, vec_len}
use Rattle.std.specs.List.{range_with_len}
use Rattle.mpx_script.proofs.script.Script.new.Given as goal

abbrev pub invariant-loop : goal.invariant-loop
invariant-loop l = record {
  len : vec_len l.statements ≡ l.counter;
  empty : l.statements.items ≡ map (λ rank. []) (range_with_len 0 l.counter);
}
