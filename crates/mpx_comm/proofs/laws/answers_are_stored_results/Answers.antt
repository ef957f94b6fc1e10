use Rattle.std.proofs.Common.{sym, ◌∙◌}
use Rattle.std.proofs.lemmas.Option.{same_Some}
use Rattle.mpx_comm.proofs.laws.answers_are_stored_results.Goals as goal

pub returns-clause-stored : goal.returns-clause-stored
returns-clause-stored c tested now request finished before after t keeps = keeps.stored request.name request.call finished t.0

pub returns-clause-again : goal.returns-clause-again
returns-clause-again c tested now request first again before after then_open last_open t keeps u = same_Some again first (sym u.0 ∙ keeps.stored request.name request.call first t.0)
