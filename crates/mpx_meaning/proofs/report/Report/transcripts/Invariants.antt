use Rattle.std.proofs.Common.{◌≡◌, map, take, string_bytes}
use Rattle.mpx_meaning.specs.Reports.{end_text}
use Rattle.mpx_meaning.proofs.report.Report.transcripts.Given as goal

abbrev pub invariant-loop-end : goal.invariant-loop-end
invariant-loop-end l = map (λ texts. map string_bytes texts.items) l.transcripts.items ≡ map end_text (take l.end-index l.self.ends.items)
