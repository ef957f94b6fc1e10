use Rattle.std.proofs.Common.{◌∙◌, sym}
use Rattle.mpx_match.proofs.FirstFault.{told-is_first, verdict-fine, verdict-suits}
use Rattle.mpx_match.proofs.verdicts.verdict.Goals as goal

pub returns-clause-first : goal.returns-clause-first
returns-clause-first g c = told-is_first _ c.args.birth.now.topology c.args.row.now c.first_fault.result c.first_fault.ensures

pub returns-clause-fine : goal.returns-clause-fine
returns-clause-fine g c = λ none. verdict-fine _ c.args.birth.now.topology c.args.row.now (sym c.first_fault.ensures ∙ none)

pub returns-clause-suits : goal.returns-clause-suits
returns-clause-suits g c = λ none. verdict-suits _ c.args.birth.now.topology c.args.row.now (sym c.first_fault.ensures ∙ none)
