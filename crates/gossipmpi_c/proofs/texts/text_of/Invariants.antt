use Rattle.std.proofs.Common.{◌≡◌, string_bytes}
use Rattle.mpx_meaning.specs.Reports.{transcripts_of}
use Rattle.mpx_meaning.specs.Transcripts.{text_upto}
use Rattle.gossipmpi_c.specs.Answers.{lines_at}
use Rattle.gossipmpi_c.proofs.texts.text_of.Given as goal

abbrev pub invariant-loop-p : goal.invariant-loop-p
invariant-loop-p l = string_bytes l.text ≡ text_upto (lines_at (transcripts_of l.report)) l.p
