use Rattle.std.proofs.Common.{◌≡◌, ◌++◌, drop, string_bytes}
use Rattle.mpx_meaning.specs.Transcripts.{listed, spaced, translated_text}
use Rattle.mpx_meaning.proofs.transcript.push_ranks.Given as goal

-- what is written, and then the ranks that are left, is the whole
abbrev pub invariant-loop-rank : goal.invariant-loop-rank
invariant-loop-rank l = string_bytes l.text ++ spaced translated_text (drop l.rank-index l.rest) ≡ string_bytes l.fn.text ++ listed translated_text l.ranks
