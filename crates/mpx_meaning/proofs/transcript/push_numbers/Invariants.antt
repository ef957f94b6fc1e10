use Rattle.std.proofs.Common.{◌≡◌, ◌++◌, drop, string_bytes}
use Rattle.mpx_num.specs.Text.{number_text}
use Rattle.mpx_meaning.specs.Transcripts.{listed, spaced}
use Rattle.mpx_meaning.proofs.transcript.push_numbers.Given as goal

-- what is written, and then the numbers that are left, is the whole
abbrev pub invariant-loop-number : goal.invariant-loop-number
invariant-loop-number l = string_bytes l.text ++ spaced number_text (drop l.number-index l.rest) ≡ string_bytes l.fn.text ++ listed number_text l.numbers
