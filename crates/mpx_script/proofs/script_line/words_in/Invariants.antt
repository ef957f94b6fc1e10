use Rattle.std.proofs.Common.{◌≡◌, ◌++◌, length}
use Rattle.mpx_script.specs.Words.{words}
use Rattle.mpx_script.proofs.script_line.words_in.Given as goal

abbrev pub invariant-loop-word : goal.invariant-loop-word
invariant-loop-word l = words l.line ≡ l.found.items ++ words l.rest

abbrev pub decreases-loop-word : goal.decreases-loop-word
decreases-loop-word l = length l.rest
