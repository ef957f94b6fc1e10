-- What is told of what was found in a script, and of what is left of a run.
use Rattle.std.proofs.Common.{◌≡◌, ℕ, ◌≤◌, List, [], length, map, take, Bool, true, Result, Ok, Err, IfOk, inl, inr, refl, ap, ◌∙◌, subst, sym}
use Rattle.std.specs.Prelude.{◌⊎◌, IfErr, IfSome, OnOk}
use Rattle.std.proofs.lemmas.List.{take_all, take-map}
use Rattle.mpx_num.specs.declared.own.Operation.{Operation}
use Rattle.mpx_node.specs.Nodes.{NodeView}
use Rattle.mpx_statement.specs.declared.job.Command.{Command}
use Rattle.mpx_statement.specs.declared.job.Command.TheVariants.{Run, Eval, Check}
use Rattle.mpx_statement.specs.declared.job.Options.{Options}
use Rattle.mpx_script.specs.ScriptView.{ScriptView}
use Rattle.mpx_eval.specs.Complaints.{ComplaintView, complaints_in}
use Rattle.mpx_eval.specs.Findings.{AreFindings}
use Rattle.mpx_eval.specs.Found.{complaint_view}
use Rattle.mpx_eval.specs.Unheard.{unheard_in}
use Rattle.mpx_eval.specs.Waiting.{WaitingView, waiting_in_full}
use Rattle.mpx_explain.specs.Findings.{AreTold}
use Rattle.mpx_explain.specs.RunEnds.{IsRunTold}
use Rattle.mpx_explain.specs.declared.ended.EndedRun.{EndedRun}
use Rattle.mpx_run.specs.Founded.{IsFounded}
use Rattle.mpx_run.specs.Left.{Leaves}
use Rattle.mpx_run.specs.Reports.{told_cause}
use Rattle.mpx_run.specs.Texts.{ComesTo}
use Rattle.mpx_run.specs.declared.end.Cause.{Cause}
use Rattle.mpx_run.specs.declared.end.Cause.TheVariants.{InEveryRun, TurnsUsedUp, AllLost, Unknown}
use Rattle.mpx_run.specs.declared.end.End.{End}
use Rattle.mpx_run.specs.declared.end.End.TheVariants.{Finished, Waiting}
use Rattle.mpx_run.specs.declared.report.Left.{Left}
use Rattle.mpx_run.specs.declared.texts.RunError.{RunError}
use Rattle.mpx_waiting.specs.ToldLines.{waiting_told}
use Rattle.mpx_program.specs.Explained.{AreCalls, IsBehind, IsFound, IsHeaded, IsToldOfRun, HasTold, TellsEarly, TellsEnd, TellsEvaluation, TellsOf, RunEnded, ended_by, ended_in, processes_in, processes_of, unexplained}
use Rattle.mpx_program.specs.Jobs.{HasEnded}
use Rattle.mpx_program.specs.declared.found.Found.{Found}
use Rattle.mpx_program.specs.declared.found.Found.TheVariants as F

module _ (ops : List Operation) (script : ScriptView) (text : List ℕ) (waiting : List WaitingView) (complaints unheard : List ComplaintView) (f : AreFindings ops script waiting complaints unheard) where
  -- the calls that are found are those of the evaluation
  calls_of_end : (old new : List ℕ) → AreCalls text script.statements waiting complaints unheard old new
      → AreCalls text script.statements (waiting_in_full ops script.statements script.ranks f.end) (complaints_in script.statements script.ranks f.end) (unheard_in ops script.statements script.ranks f.end) old new
  calls_of_end old new calls = subst (λ ws. AreCalls text script.statements ws (complaints_in script.statements script.ranks f.end) (unheard_in ops script.statements script.ranks f.end) old new) f.waiting_are
      (subst (λ cs. AreCalls text script.statements waiting cs (unheard_in ops script.statements script.ranks f.end) old new) f.complaints_are
      (subst (λ us. AreCalls text script.statements waiting complaints us old new) f.unheard_are calls))

  pub early_tells : (ended : RunEnded) (cause : Cause) (here waits lines more : List ℕ) → IsToldOfRun script text ended [] here → IsBehind cause here (waiting_told text script.statements waiting) waits → AreCalls text script.statements waiting complaints unheard [] lines → IsHeaded waits lines more
      → TellsEarly ops script text ended cause more
  early_tells ended cause here waits lines more itself behind calls headed = record {
    end = f.end;
    evaluation = f.evaluation;
    here = here;
    itself = itself;
    waits = waits;
    behind = subst (λ ws. IsBehind cause here (waiting_told text script.statements ws) waits) f.waiting_are behind;
    lines = lines;
    calls = calls_of_end [] lines calls;
    headed = headed;
  }

-- what is told of a run is told of one of this script, which ended as its ends and processes say
pub told_of_run : {E : Type 0} (run : EndedRun) (script : ScriptView) (text old new : List ℕ) (pushed : Result (Unit {0}) E) → OnOk pushed (IsRunTold text run old new) → run.script.now ≡ script
    → OnOk pushed ((processes : List NodeView) → processes_of run.nodes.now ≡ processes → IsToldOfRun script text (ended_by run.ends.now processes) old new)
told_of_run run script text old new (Ok done) told scripted = λ processes are. record { run = run; scripted = scripted; ends = refl; processes = are; told = told }
told_of_run run script text old new (Err e) told scripted = tt

-- the processes of all of the first so many
pub first_all : {A : Type 0} (process : A → NodeView) (all first : List A) (ranks i : ℕ) → first ≡ take ranks all → length first ≤ i → map process (take i first) ≡ take ranks (map process all)
first_all process all first ranks i is past = ap (map process) (take_all i first past ∙ is) ∙ sym (take-map process ranks all)

-- WHATEVER THE COMMAND

-- who waits in an evaluation does in every run, so that what is told of its end is told of it alone
evaluation_alone : (ops : List Operation) (script : ScriptView) (text : List ℕ) (ended : RunEnded) (end : End) (more : List ℕ) → IfSome (told_cause end) (λ told. told ≡ InEveryRun) → TellsEnd ops script text ended end more → TellsEvaluation ops script text more
evaluation_alone ops script text ended Finished more by told = told
evaluation_alone ops script text ended (Waiting ranks InEveryRun) more by told = told
evaluation_alone ops script text ended (Waiting ranks (TurnsUsedUp turns)) more by told = let e : TurnsUsedUp turns ≡ InEveryRun = by in absurd (cc e)
evaluation_alone ops script text ended (Waiting ranks AllLost) more by told = let e : AllLost ≡ InEveryRun = by in absurd (cc e)
evaluation_alone ops script text ended (Waiting ranks Unknown) more by told = let e : Unknown ≡ InEveryRun = by in absurd (cc e)

-- what is told by what was found and by what is left is told of the job
pub found_tells : (ops : List Operation) (command : Command) (options : Options) (script : ScriptView) (text : List ℕ) (found : Found) (left : Left) (end : End) (out more : List ℕ) → IsFound ops command script found → ComesTo IsFounded ops command options script end out
    → Leaves ops command options script end out left → HasTold script text found left (Ok end) more → TellsOf HasEnded ops command options script text end out more
found_tells ops command options script text F.Nothing left end out more is comes leaves told = absurd is
found_tells ops command options script text F.Wanting left end out more is comes leaves told = absurd told
found_tells ops Check options script text (F.Certain found) left end out more is comes leaves (reason, none, told) = subst (λ cs. AreTold text cs [] more) is (subst (λ r. AreTold text (map complaint_view found.items) r more) none told)
found_tells ops Run options script text (F.Certain found) left end out more is comes leaves told = absurd is
found_tells ops Eval options script text (F.Certain found) left end out more is comes leaves told = absurd is
found_tells ops Check options script text (F.InEvaluation found) left end out more is comes leaves told = absurd is
found_tells ops Run options script text (F.InEvaluation found) left end out more is comes leaves told = (ended_in script.ranks left, (left, leaves, refl), told ops is)
found_tells ops Eval options script text (F.InEvaluation found) left end out more is comes leaves told = evaluation_alone ops script text (ended_in script.ranks left) end more comes.cause (told ops is)

-- what is told is told, and so is that memory was wanting for it
pub told_or_wanting : {V E : Type 0} (told : Result V E) (items : V → List ℕ) (script : ScriptView) (text : List ℕ) (found : Found) (left : Left) (answer : Result End RunError) (explains : Bool) (more : List ℕ)
    → (explains ≡ true → IfOk told (λ v. HasTold script text found left answer (items v))) → IfOk told (λ v. more ≡ items v) → IfErr told (λ e. more ≡ unexplained)
    → explains ≡ true → (more ≡ unexplained) ⊎ HasTold script text found left answer more
told_or_wanting (Ok v) items script text found left answer explains more tells is wanting on = inr (subst (HasTold script text found left answer) (sym is) (tells on))
told_or_wanting (Err e) items script text found left answer explains more tells is wanting on = inl wanting

-- how it ended
pub ended_so : (ranks : ℕ) (left : Left) → ended_by left.ends.items (processes_in ranks left) ≡ ended_in ranks left
unfolding ended_in
ended_so ranks left = refl
