use Rattle.std.proofs.Common.{◌≡◌, ◌++◌, drop, map, string_bytes}
use Rattle.mpx_meaning.specs.Transcripts.{line_text, rank_text}
use Rattle.mpx_meaning.proofs.transcript.push_lines.Given as goal

-- what is written, and then the lines that are left, is the whole
abbrev pub invariant-loop-line : goal.invariant-loop-line
invariant-loop-line l = string_bytes l.text ++ rank_text l.rank (map line_text (drop l.line-index l.lines)) ≡ string_bytes l.fn.text ++ rank_text l.rank (map line_text l.lines)
