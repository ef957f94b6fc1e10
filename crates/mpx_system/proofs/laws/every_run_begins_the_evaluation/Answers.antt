use Rattle.std.proofs.Common.{◌∙◌, ℕ, List}
use Rattle.mpx_num.specs.declared.own.Operation.{Operation}
use Rattle.mpx_world.proofs.Steps.{sound_of}
use Rattle.mpx_statement.specs.declared.statement.Statement.{Statement}
use Rattle.mpx_meaning.specs.Evaluation.{known}
use Rattle.mpx_meaning.proofs.Ways.{way-adds}
use Rattle.mpx_meaning.proofs.Ahead.{on_way-reached, finished}
use Rattle.mpx_system.specs.Systems.{Doing, MayDoAll, does_all, start_system}
use Rattle.mpx_system.proofs.Coupling.{Couples, couples_all, couples_start, tells_results}
use Rattle.mpx_system.proofs.Happenings.{of_happenings}
use Rattle.mpx_system.proofs.laws.every_run_begins_the_evaluation.Goals as goal

coupled : (ops : List Operation) (script : List (List Statement)) (ranks size : ℕ) (doings : List Doing) → MayDoAll ranks (start_system ops script ranks size) doings → Couples ops script ranks (does_all (start_system ops script ranks size) doings)
coupled ops script ranks size doings m = couples_all ops script ranks doings (start_system ops script ranks size) (couples_start ops script ranks size) m

pub returns-clause-lines : goal.returns-clause-lines
returns-clause-lines c ops script ranks size doings end m e p = (way-adds ops (known ops ranks end p) _ _ ((on_way-reached ops script ranks end (does_all (start_system ops script ranks size) doings).ranks e (coupled ops script ranks size doings m).reached).each p)).1

pub returns-clause-whole : goal.returns-clause-whole
returns-clause-whole c ops script ranks size doings end m e p = finished ops (known ops ranks end p) _ _ ((on_way-reached ops script ranks end (does_all (start_system ops script ranks size) doings).ranks e (coupled ops script ranks size doings m).reached).each p)

pub returns-clause-told : goal.returns-clause-told
returns-clause-told c ops script ranks size doings m p = tells_results ops script ranks (does_all (start_system ops script ranks size) doings) (coupled ops script ranks size doings m) p

pub returns-clause-posts : goal.returns-clause-posts
returns-clause-posts c ops script ranks size doings m p = (coupled ops script ranks size doings m).made p

pub returns-clause-relays : goal.returns-clause-relays
returns-clause-relays c ops script ranks size doings m p over = (coupled ops script ranks size doings m).made p ∙ (coupled ops script ranks size doings m).relays p over

pub returns-clause-carries_out : goal.returns-clause-carries_out
returns-clause-carries_out c ops script ranks size doings m p = (coupled ops script ranks size doings m).told p

pub returns-clause-sound : goal.returns-clause-sound
returns-clause-sound c ops script ranks size doings m = sound_of (does_all (start_system ops script ranks size) doings).world (coupled ops script ranks size doings m).upheld.holds

pub returns-clause-happenings : goal.returns-clause-happenings
returns-clause-happenings c ops script ranks size doings m = of_happenings ops script ranks size doings m
