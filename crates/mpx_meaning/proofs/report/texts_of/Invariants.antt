use Rattle.std.proofs.Common.{◌≡◌, map, take, string_bytes}
use Rattle.mpx_meaning.specs.Transcripts.{line_text}
use Rattle.mpx_meaning.proofs.report.texts_of.Given as goal

abbrev pub invariant-loop-line : goal.invariant-loop-line
invariant-loop-line l = map string_bytes l.texts.items ≡ map line_text (take l.line-index l.lines)
