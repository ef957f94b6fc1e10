use Rattle.std.proofs.Common.{◌≡◌, ◌≤◌, drop, false, length}
use Rattle.std.specs.List.{list_any}
use Rattle.mpx_script.specs.Words.{is_blank}
use Rattle.mpx_script.proofs.words.len_up_to_blank.Given as goal

abbrev pub invariant-loop-len : goal.invariant-loop-len
invariant-loop-len l = record {
  behind : list_any is_blank (drop l.len l.line) ≡ false;
  within : l.len ≤ length l.line;
}

abbrev pub decreases-loop-len : goal.decreases-loop-len
decreases-loop-len l = l.len
