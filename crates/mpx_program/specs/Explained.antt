-- What `--explain` tells of a script's evaluation, and of a run that ended early.
use Rattle.std.specs.Prelude.{◌≡◌, ◌⊎◌, ◌<◌, ◌==◌, ℕ, Bool, true, false, List, [], ◌++◌, codes, length, map, take, Result, IfOk}
use Rattle.std.specs.Borrow.{Bor}
use Rattle.std.specs.List.{ends_with}
use Rattle.mpx_num.specs.declared.own.Operation.{Operation}
use Rattle.mpx_node.specs.Nodes.{NodeView}
use Rattle.mpx_node.specs.Shown.{node_of}
use Rattle.mpx_node.specs.declared.node.Node.{Node}
use Rattle.mpx_bus.specs.Ports.{node_in}
use Rattle.mpx_statement.specs.declared.job.Command.{Command}
use Rattle.mpx_statement.specs.declared.job.Command.TheVariants.{Run, Eval, Check}
use Rattle.mpx_statement.specs.declared.job.Job.{Job}
use Rattle.mpx_statement.specs.declared.job.Options.{Options}
use Rattle.mpx_statement.specs.declared.statement.Statement.{Statement}
use Rattle.mpx_script.specs.ScriptView.{ScriptView}
use Rattle.mpx_meaning.specs.Ends.{EndView, end_view}
use Rattle.mpx_meaning.specs.Evaluation.{State, IsEvaluation}
use Rattle.mpx_meaning.specs.declared.end.RankEnd.{RankEnd}
use Rattle.mpx_eval.specs.Certain.{certain_in}
use Rattle.mpx_eval.specs.Complaints.{ComplaintView, complaints_in}
use Rattle.mpx_eval.specs.Findings.{AreFindings}
use Rattle.mpx_eval.specs.Found.{complaint_view, waiting_view}
use Rattle.mpx_eval.specs.Unheard.{unheard_in}
use Rattle.mpx_eval.specs.Waiting.{WaitingView, waiting_in_full}
use Rattle.mpx_explain.specs.Findings.{AreTold}
use Rattle.mpx_explain.specs.Overflows.{AreOverflows}
use Rattle.mpx_explain.specs.RefusedLines.{AreRefusalsTold}
use Rattle.mpx_explain.specs.RunEnds.{IsRunTold}
use Rattle.mpx_explain.specs.declared.ended.EndedRun.{EndedRun}
use Rattle.mpx_run.specs.declared.end.Cause.{Cause}
use Rattle.mpx_run.specs.declared.end.Cause.TheVariants.{InEveryRun, TurnsUsedUp, AllLost}
use Rattle.mpx_run.specs.declared.end.End.{End}
use Rattle.mpx_run.specs.declared.end.End.TheVariants.{Finished, Waiting}
use Rattle.mpx_run.specs.declared.report.Left.{Left}
use Rattle.mpx_run.specs.declared.texts.RunError.{RunError}
use Rattle.mpx_waiting.specs.ToldLines.{waiting_told}
use Rattle.mpx_program.specs.declared.found.Found.{Found}
use Rattle.mpx_program.specs.declared.found.Found.TheVariants as F

-- behind other lines stand those of these complaints, of these faults that no line tells, and of results that are past their types, where these ranks wait
pub record AreCalls (text : List ℕ) (statements : List (List Statement)) (waiting : List WaitingView) (complaints unheard : List ComplaintView) (old new : List ℕ) : Type 0 where
  pub first : List ℕ
  pub second : List ℕ
  pub heard : AreTold text complaints old first
  pub faults : AreTold text unheard first second
  pub results : AreOverflows text statements waiting complaints unheard second new

-- who waits at the end of the script's evaluation, and the calls that are refused or are faults there
pub record TellsEvaluation (ops : List Operation) (script : ScriptView) (text more : List ℕ) : Type 0 where
  pub end : State
  pub evaluation : IsEvaluation ops script.statements script.ranks end
  pub calls : AreCalls text script.statements (waiting_in_full ops script.statements script.ranks end) (complaints_in script.statements script.ranks end) (unheard_in ops script.statements script.ranks end)
      (waiting_told text script.statements (waiting_in_full ops script.statements script.ranks end)) more

-- lines of waits of which there are more than are told
abbrev pub is_cut : List ℕ → Bool
is_cut waits = ends_with ◌==◌ waits (codes " more\n")

-- it is said that waits that are told in full are the same, or they stand behind a heading
abbrev pub SaysOrHeads : (here there more : List ℕ) → Type 0
SaysOrHeads here there more = ((here ≡ there) × ((is_cut there ≡ false) × (more ≡ here ++ codes "in the evaluation these ranks wait there too\n")))
    ⊎ (more ≡ (here ++ codes "in the evaluation ranks wait here:\n") ++ there)

-- what would let all ranks finish, where nobody waits in the evaluation
abbrev pub finish_text : Cause → List ℕ
finish_text (TurnsUsedUp turns) = codes "with more turns all ranks would finish\n"
finish_text AllLost = codes "with a loss under 100 all ranks would finish\n"
finish_text other = codes "the script lets all ranks finish\n"

-- the lines of the evaluation's waits stand behind those of a run that ended for this cause, or it is said that they are the same; where nobody waits, what would let all
-- ranks finish
abbrev pub IsBehind : Cause → (here there more : List ℕ) → Type 0
IsBehind cause here there more = ((there ≡ []) × (more ≡ here ++ finish_text cause)) ⊎ ((0 < length there) × SaysOrHeads here there more)

-- the lines of calls stand behind a heading, where there are some
abbrev pub IsHeaded : (before calls more : List ℕ) → Type 0
IsHeaded before calls more = ((calls ≡ []) × (more ≡ before)) ⊎ ((0 < length calls) × (more ≡ (before ++ codes "in the evaluation:\n") ++ calls))

-- the processes that these nodes are
abbrev pub processes_of : List (Bor Node) → List NodeView
processes_of nodes = map (λ (node : Bor Node). node_of node.now) nodes

-- the processes of so many ranks as they stand at the end of a run of which this is left: by their nodes or, of a run in threads, their ports
abbrev pub processes_in : (ranks : ℕ) → Left → List NodeView
processes_in ranks left = take ranks (map node_of left.nodes.items) ++ take ranks (map node_in left.ports.items)

-- how a run ended: each rank, and the process of each
pub record RunEnded : Type 0 where
  pub ends : List EndView
  pub processes : List NodeView

abbrev pub ended_by : List RankEnd → List NodeView → RunEnded
ended_by ends processes = record { ends = map end_view ends; processes = processes }

-- so ended the run of so many ranks of which this is left
unfoldable pub ended_in : (ranks : ℕ) → Left → RunEnded
ended_in ranks left = ended_by left.ends.items (processes_in ranks left)

-- what is told, behind other lines, of the run of this script that ended so
pub record IsToldOfRun (script : ScriptView) (text : List ℕ) (ended : RunEnded) (old new : List ℕ) : Type 0 where
  pub run : EndedRun
  pub scripted : run.script.now ≡ script
  pub ends : map end_view run.ends.now ≡ ended.ends
  pub processes : processes_of run.nodes.now ≡ ended.processes
  pub told : IsRunTold text run old new

-- behind lines of the run itself, which ended so, early, for this cause, the same of the evaluation
pub record TellsEarly (ops : List Operation) (script : ScriptView) (text : List ℕ) (ended : RunEnded) (cause : Cause) (more : List ℕ) : Type 0 where
  pub end : State
  pub evaluation : IsEvaluation ops script.statements script.ranks end
  pub here : List ℕ
  pub itself : IsToldOfRun script text ended [] here
  pub waits : List ℕ
  pub behind : IsBehind cause here (waiting_told text script.statements (waiting_in_full ops script.statements script.ranks end)) waits
  pub lines : List ℕ
  pub calls : AreCalls text script.statements (waiting_in_full ops script.statements script.ranks end) (complaints_in script.statements script.ranks end) (unheard_in ops script.statements script.ranks end) [] lines
  pub headed : IsHeaded waits lines more

-- of a run that ended so, by its end
abbrev pub TellsEnd : List Operation → ScriptView → (text : List ℕ) → RunEnded → End → (more : List ℕ) → Type 0
TellsEnd ops script text ended Finished more = TellsEvaluation ops script text more
TellsEnd ops script text ended (Waiting ranks InEveryRun) more = TellsEvaluation ops script text more
TellsEnd ops script text ended (Waiting ranks cause) more = TellsEarly ops script text ended cause more

-- what is said of how a run with this end and text ended
abbrev pub OfEnds : Type 1
OfEnds = List Operation → Options → ScriptView → End → (text : List ℕ) → RunEnded → Type 0

-- of a job with this command that came to this end, and of which this text is out: of a run by how one ended of which that is said; of an evaluation that; of a check the calls that are refused for certain
abbrev pub TellsOf : OfEnds → List Operation → Command → Options → ScriptView → (text : List ℕ) → End → (out more : List ℕ) → Type 0
TellsOf Of ops Run options script text end out more = (ended : RunEnded) × Of ops options script end out ended × TellsEnd ops script text ended end more
TellsOf Of ops Eval options script text end out more = TellsEvaluation ops script text more
TellsOf Of ops Check options script text end out more = AreTold text (certain_in ops script) [] more

-- what is told in the place of that where memory is wanting
abbrev pub unexplained : List ℕ
unexplained = codes "out of memory: no more is explained\n"

-- where more is asked for, that is told, or that memory is wanting for it
abbrev pub TellsMore : OfEnds → (explains : Bool) → List Operation → Job → ScriptView → (text : List ℕ) → End → (out more : List ℕ) → Type 0
TellsMore Of explains ops job script text end out more = explains ≡ true → (more ≡ unexplained) ⊎ TellsOf Of ops job.command job.options script text end out more

-- where more is asked for, the refused lines of a text that is no script are told, or that memory is wanting for it
abbrev pub TellsRefused : (explains : Bool) → List Operation → (text more : List ℕ) → Type 0
TellsRefused explains ops text more = explains ≡ true → (more ≡ unexplained) ⊎ AreRefusalsTold ops text [] more

-- what is found in a script for a job of this command, where that is asked for
abbrev pub IsFound : List Operation → Command → ScriptView → Found → Type 0
IsFound ops command script F.Nothing = ⊥
IsFound ops command script F.Wanting = Unit {0}
IsFound ops Check script (F.Certain found) = map complaint_view found.items ≡ certain_in ops script
IsFound ops command script (F.Certain found) = ⊥
IsFound ops Check script (F.InEvaluation found) = ⊥
IsFound ops command script (F.InEvaluation found) = AreFindings ops script (map waiting_view found.waiting.items) (map complaint_view found.complaints.items) (map complaint_view found.unheard.items)

-- the calls that are refused for certain, behind a reason where the text couldn't be written
abbrev pub AreCertain : (text : List ℕ) → List ComplaintView → Result End RunError → (more : List ℕ) → Type 0
AreCertain text calls answer more = (reason : List ℕ) × IfOk answer (λ end. reason ≡ []) × AreTold text calls reason more

-- what is told by what was found and by what is left, where a job came to this: nothing where nothing was, or no memory was there for it
abbrev pub HasTold : ScriptView → (text : List ℕ) → Found → Left → Result End RunError → (more : List ℕ) → Type 0
HasTold script text F.Nothing left answer more = more ≡ []
HasTold script text F.Wanting left answer more = ⊥
HasTold script text (F.Certain found) left answer more = AreCertain text (map complaint_view found.items) answer more
HasTold script text (F.InEvaluation found) left answer more = IfOk answer (λ end. (ops : List Operation)
    → AreFindings ops script (map waiting_view found.waiting.items) (map complaint_view found.complaints.items) (map complaint_view found.unheard.items) → TellsEnd ops script text (ended_in script.ranks left) end more)
