use Rattle.std.proofs.Common.{ap, ◌∙◌, slice_get}
use Rattle.std.specs.Str.Lines.{lines}
use Rattle.std.proofs.lemmas.Iterator.Consumers.{nth_from_yields_List}
use Rattle.std.proofs.lemmas.Iterator.Splits.{YieldsList-from_lines}
use Rattle.mpx_explain.proofs.blame.line_with.Goals as goal

pub returns : goal.returns
returns c = nth_from_yields_List c.nth.result _ c.saturating_sub.result c.nth.ensures.ran (YieldsList-from_lines c.args.text.now c.lines.ensures.rest) ∙ ap (slice_get (lines c.args.text.now)) c.saturating_sub.ensures
