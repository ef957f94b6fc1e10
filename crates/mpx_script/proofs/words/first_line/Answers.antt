use Rattle.std.proofs.Common.{◌∷◌, sym, ap, ◌∙◌, rules, drop}
use Rattle.std.specs.Str.Lines.{lines}
use Rattle.mpx_script.proofs.Splits.{line_ended, line_last}
use Rattle.mpx_script.proofs.words.first_line.Goals as goal

pub returns-in-Some-clause-lines : goal.returns-in-Some-clause-lines
returns-in-Some-clause-lines c =
    line_ended c.args.text.now c.split_at.result.0.now c.in-Some.after.now c.in-Some.field-0-0.now (cc) (sym c.in-Some.ensures.cases.0 ∙ c.split_at.ensures.back ∙ ap (λ n. drop n c.args.text.now) c.front_len.ensures.len) ∙ ap (λ l. l ∷ lines c.in-Some.after.now) (sym c.without_return.ensures)

pub returns-in-None-clause-lines : goal.returns-in-None-clause-lines
returns-in-None-clause-lines c =
    line_last c.args.text.now c.split_at.result.0.now c.split_at.result.1.now (cc) (cc) (search rules) c.requires
