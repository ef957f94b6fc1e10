use Rattle.std.proofs.Common.{◌≡◌, string_bytes}
use Rattle.mpx_meaning.specs.Reports.{transcripts_of}
use Rattle.mpx_meaning.specs.Transcripts.{text_upto}
use Rattle.mpx_run.specs.Reports.{lines_at}
use Rattle.mpx_run.proofs.report.text_of.Given as goal

abbrev pub invariant-loop-p : goal.invariant-loop-p
invariant-loop-p l = string_bytes l.text ≡ text_upto (lines_at (transcripts_of l.report)) l.p
