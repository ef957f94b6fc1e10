use Rattle.std.proofs.Common.{◌≡◌, ◌++◌, length, not}
use Rattle.std.specs.List.{filter_map, list_any}
use Rattle.mpx_num.specs.Text.{number_of}
use Rattle.mpx_script.specs.Words.{words}
use Rattle.mpx_script.specs.laws.Parts.{is_number}
use Rattle.mpx_script.proofs.calls.numbers_in.Given as goal

abbrev pub invariant-loop-word : goal.invariant-loop-word
invariant-loop-word l = record {
  strange : list_any (λ word. not (is_number word)) (words l.line) ≡ list_any (λ word. not (is_number word)) (words l.rest);
  found : filter_map number_of (words l.line) ≡ l.numbers.items ++ filter_map number_of (words l.rest);
}

abbrev pub decreases-loop-word : goal.decreases-loop-word
decreases-loop-word l = length l.rest
