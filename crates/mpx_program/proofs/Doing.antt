-- What a call does with the text that a reader gives.
use Rattle.std.proofs.Common.{◌≡◌, ◌∙◌, ℕ, Bool, true, false, List, [], Option, Some, None, Result, Ok, Err, IfOk, ap, inl, inr, refl, subst, sym}
use Rattle.std.specs.Prelude.{◌≢◌, ◌⊎◌, IfErr}
use Rattle.std.specs.Io.KnownBytes.{Keeps}
use Rattle.mpx_num.specs.declared.own.Operation.{Operation}
use Rattle.mpx_threads.specs.Gates.{nowhere}
use Rattle.mpx_statement.specs.declared.job.Command.{Command}
use Rattle.mpx_statement.specs.declared.job.Command.TheVariants.{Run, Eval, Check}
use Rattle.mpx_statement.specs.declared.job.Job.{Job}
use Rattle.mpx_statement.specs.declared.job.Options.{Options}
use Rattle.mpx_script.specs.Reading.{reading}
use Rattle.mpx_script.specs.ScriptView.{ScriptView}
use Rattle.mpx_script.specs.declared.faults.ScriptError.{ScriptError}
use Rattle.mpx_run.specs.Texts.{ComesTo, IsWritten, Prints, PrintsUngated, RunsUngated, TakesInput, TakesPart, told}
use Rattle.mpx_run.specs.declared.streams.ReadFault.{ReadFault}
use Rattle.mpx_run.specs.declared.streams.ReadFault.TheVariants as F
use Rattle.mpx_run.specs.declared.end.End.{End}
use Rattle.mpx_run.specs.declared.report.Left.{Left}
use Rattle.mpx_run.specs.declared.texts.RunError.{RunError}
use Rattle.mpx_run.specs.declared.texts.RunError.TheVariants.{GateGaveUp, Script}
use Rattle.mpx_run.specs.Founded.{IsFounded}
use Rattle.mpx_run.specs.Left.{Leaves}
use Rattle.mpx_run.proofs.Less.{runs_printed}
use Rattle.mpx_run.proofs.Pieces.{gated_prints, prints_ungated, runs_ungated, written_prints}
use Rattle.mpx_explain.specs.RefusedLines.{AreRefusalsTold}
use Rattle.mpx_program.proofs.Telling.{found_tells}
use Rattle.mpx_program.specs.Explained.{HasTold, IsFound, TellsOf, unexplained}
use Rattle.mpx_program.specs.Jobs.{AnswersText, AsFounded, AsPrinted, DoesJobWith, Exits, ExplainsBy, ExplainsOn, ExplainsRefused, FailsBefore, HasEnded, StrictBy, StrictOn, TellsRead}
use Rattle.mpx_program.specs.Strict.{IsStrict}
use Rattle.mpx_program.specs.declared.found.Found.{Found}
use Rattle.mpx_words.specs.declared.invocation.Invocation.{Invocation}

kept : (o : Option (List ℕ)) → Keeps o o
kept None = tt
kept (Some xs) = refl

-- a reader that fails gives no script
pub fails_unread : (ops : List Operation) (job : Job) (there left : Option (List ℕ)) (fault : ReadFault) (why : RunError) → TakesPart there left → why ≡ told fault → FailsBefore ops job there left why
fails_unread ops job there left F.OutOfMemory why part is = λ old. subst (λ e. RunsUngated IsFounded ops job there left old old (Err e)) (sym is) (part, kept old)
fails_unread ops job there left (F.Reader reason) why part is = λ old. subst (λ e. RunsUngated IsFounded ops job there left old old (Err e)) (sym is) (part, kept old)

-- and so does a text that gives none
pub fails_text : (ops : List Operation) (job : Job) (there left : Option (List ℕ)) (text now : List ℕ) (why : RunError) → TakesInput there left text → now ≡ text → ((old : Option (List ℕ)) → PrintsUngated IsFounded ops job now old old (Err why)) → FailsBefore ops job there left why
fails_text ops job there left text now why taken same fails = λ old. runs_ungated IsFounded ops job there left old old text (Err why) taken (subst (λ xs. PrintsUngated IsFounded ops job xs old old (Err why)) same (fails old))

-- then nothing is done
pub does_nothing : (ops : List Operation) (call : Invocation) (there left old : Option (List ℕ)) (why : RunError) (more : List ℕ) (code : ℕ) (Says : List ℕ → Type 0) → FailsBefore ops call.job there left why
    → ExplainsRefused (AsFounded).refused ops call there left (Err why) more → Exits (Err why) false call.flags.explain more code Says → DoesJobWith AsFounded ops call there left old old code Says
does_nothing ops call there left old why more code Says fails refused exits = record {
  answer = Err why;
  runs = fails old;
  complains = false;
  strict = tt;
  more = more;
  explains = tt;
  refused = refused;
  exits = exits;
}

-- where lines can be told they are told, else it is told that memory was wanting for them
pub told_or_lacking : {T E : Type 0} (lines : Result T E) (items : T → List ℕ) (Holds : List ℕ → Type 0) (more : List ℕ) → IfOk lines (λ v. Holds (items v)) → IfOk lines (λ v. more ≡ items v) → IfErr lines (λ e. more ≡ unexplained) → (more ≡ unexplained) ⊎ Holds more
told_or_lacking (Ok v) items Holds more holds is wanting = inr (subst Holds (sym is) holds)
told_or_lacking (Err e) items Holds more holds is wanting = inl wanting

-- why a job has come to no end
abbrev why_of : Result End RunError → RunError → RunError
why_of (Ok end) other = other
why_of (Err why) other = why

-- what is told of a text that is no script is told of what the reader gave
pub explains_refused : {T E : Type 0} (ops : List Operation) (call : Invocation) (there left : Option (List ℕ)) (why : RunError) (lines : Result T E) (items : T → List ℕ) (more : List ℕ)
    → ((refusal : ScriptError) → why ≡ Script refusal → (text : List ℕ) × TakesInput there left text × (call.flags.explain ≡ true → IfOk lines (λ v. AreRefusalsTold ops text [] (items v))))
    → IfOk lines (λ v. more ≡ items v) → IfErr lines (λ e. more ≡ unexplained) → ExplainsRefused (AsFounded).refused ops call there left (Err why) more
explains_refused ops call there left why lines items more told is wanting = λ refusal e.
    let t = told refusal (ap (λ r. why_of r why) e) in
    (t.0, t.1, λ on. told_or_lacking lines items (AreRefusalsTold ops t.0 []) more (t.2 on) is wanting)

-- a fault of reading is no refusal
pub no_refusal : (fault : ReadFault) (why : RunError) (refusal : ScriptError) → why ≡ told fault → why ≡ Script refusal → ⊥
no_refusal F.OutOfMemory why refusal is e = cc (is, e)
no_refusal (F.Reader reason) why refusal is e = cc (is, e)

-- what is told of a script is told of a text that is read so, and of the job that printed this, or that memory was wanting for it
module _ (ops : List Operation) (call : Invocation) (text : List ℕ) (script : ScriptView) (found : Found) (left : Left) (out : List ℕ) where
  by_found : (end : End) (more : List ℕ) → IsFound ops call.job.command script found → ComesTo IsFounded ops call.job.command call.job.options script end out → Leaves ops call.job.command call.job.options script end out left
      → (more ≡ unexplained) ⊎ HasTold script text found left (Ok end) more → (more ≡ unexplained) ⊎ TellsOf HasEnded ops call.job.command call.job.options script text end out more
  by_found end more is comes leaves (inl wanting) = inl wanting
  by_found end more is comes leaves (inr told) = inr (found_tells ops call.job.command call.job.options script text found left end out more is comes leaves told)

  explained : (old new : Option (List ℕ)) (end : End) (answer : Result End RunError) (more : List ℕ) → reading ops text ≡ Ok script → (call.flags.explain ≡ true → IsFound ops call.job.command script found)
      → ComesTo IsFounded ops call.job.command call.job.options script end out → Leaves ops call.job.command call.job.options script end out left → IsWritten old new out end answer
      → (call.flags.explain ≡ true → (more ≡ unexplained) ⊎ HasTold script text found left answer more) → ExplainsOn (AsFounded).tells ops call text old new answer more
  explained old new end (Err error) more read is comes leaves written told = tt
  explained old new end (Ok ended) more read is comes leaves written told = (
    out,
    written.1,
    subst (λ r. TellsRead (AsFounded).tells ops call r text ended out more) (sym read) (λ on. by_found ended more (is on)
        (subst (λ e. ComesTo IsFounded ops call.job.command call.job.options script e out) (sym written.0) comes) (subst (λ e. Leaves ops call.job.command call.job.options script e out left) (sym written.0) leaves) (told on)),
  )

-- what is answered is what is written of a script
module _ (ops : List Operation) (call : Invocation) (text : List ℕ) (script : ScriptView) (complains : Bool) (read : reading ops text ≡ Ok script) (strict : IsStrict ops call text complains) (found : Found) (is_found : call.flags.explain ≡ true → IsFound ops call.job.command script found) (old new : Option (List ℕ)) (more : List ℕ) (code : ℕ) (Says : List ℕ → Type 0) where
  abbrev Told : Left → Result End RunError → Type 0
  Told left answer = call.flags.explain ≡ true → (more ≡ unexplained) ⊎ HasTold script text found left answer more

  strict_on : (answer : Result End RunError) → StrictOn ops call text answer complains
  strict_on (Ok end) = strict
  strict_on (Err error) = tt

  is_ungated : (answer : Result End RunError) → PrintsUngated IsFounded ops call.job text old new answer → answer ≢ Err GateGaveUp
  is_ungated (Ok end) p = λ e. cc e
  is_ungated (Err error) p = λ e. subst (λ a. PrintsUngated IsFounded ops call.job text old new a) e p

  is_unrefused : (answer : Result End RunError) → PrintsUngated IsFounded ops call.job text old new answer → (refusal : ScriptError) → answer ≢ Err (Script refusal)
  is_unrefused answer p refusal = λ e. let q = subst (λ a. PrintsUngated IsFounded ops call.job text old new a) e p in cc (sym read ∙ q.0)

  answers : (answer : Result End RunError) → PrintsUngated IsFounded ops call.job text old new answer → ExplainsOn (AsFounded).tells ops call text old new answer more → Exits answer complains call.flags.explain more code Says → AnswersText AsFounded ops call text old new code Says
  answers answer prints explains exits = record {
    answer = answer;
    prints = gated_prints IsFounded ops nowhere call.job text old new answer prints;
    ungated = is_ungated answer prints;
    unrefused = is_unrefused answer prints;
    complains = complains;
    strict = strict_on answer;
    more = more;
    explains = explains;
    exits = exits;
  }

  pub answers_written : (out : List ℕ) (end : End) (left : Left) (answer : Result End RunError) → ComesTo IsFounded ops call.job.command call.job.options script end out → Leaves ops call.job.command call.job.options script end out left
      → IsWritten old new out end answer → Told left answer → Exits answer complains call.flags.explain more code Says → AnswersText AsFounded ops call text old new code Says
  answers_written out end left answer comes leaves written told =
      answers answer (written_prints IsFounded ops call.job text script old new out end answer read comes written) (explained ops call text script found left out old new end answer more read is_found comes leaves written told)

-- what is done with a text is done with what the reader gives
pub does_text : (ops : List Operation) (call : Invocation) (there left old new : Option (List ℕ)) (text now : List ℕ) (code : ℕ) (Says : List ℕ → Type 0) → TakesInput there left text → now ≡ text → AnswersText AsFounded ops call now old new code Says
    → DoesJobWith AsFounded ops call there left old new code Says
does_text ops call there left old new text now code Says taken same a = record {
  answer = a.answer;
  runs = runs_ungated IsFounded ops call.job there left old new text a.answer taken
      (prints_ungated IsFounded ops nowhere call.job text old new a.answer a.ungated (subst (λ xs. Prints IsFounded ops nowhere call.job xs old new a.answer) same a.prints));
  complains = a.complains;
  strict = by_answer a.answer a.complains a.strict;
  more = a.more;
  explains = explains_by a.answer a.explains;
  refused = λ refusal e. absurd (a.unrefused refusal e);
  exits = a.exits;
} where
  by_answer : (answer : Result End RunError) (complains : Bool) → StrictOn ops call now answer complains → StrictBy ops call there left answer complains
  by_answer (Ok end) complains s = (text, taken, subst (λ xs. IsStrict ops call xs complains) same s)
  by_answer (Err error) complains s = tt

  explains_by : (answer : Result End RunError) → ExplainsOn (AsFounded).tells ops call now old new answer a.more → ExplainsBy (AsFounded).tells ops call there left old new answer a.more
  explains_by (Ok end) e = (text, taken, e.0, e.1, subst (λ xs. TellsRead (AsFounded).tells ops call (reading ops xs) xs end e.0 a.more) same e.2)
  explains_by (Err error) e = tt

-- whatever more is said of a text, nothing is promised of it
more_is_said : (ops : List Operation) (call : Invocation) (read : Result ScriptView ScriptError) (text : List ℕ) (end : End) (out more : List ℕ) → TellsRead (AsPrinted).tells ops call read text end out more
more_is_said ops call (Ok script) text end out more = tt
more_is_said ops call (Err refusal) text end out more = tt

less_by : (ops : List Operation) (call : Invocation) (there left old new : Option (List ℕ)) (answer : Result End RunError) (more : List ℕ) → ExplainsBy (AsFounded).tells ops call there left old new answer more → ExplainsBy (AsPrinted).tells ops call there left old new answer more
less_by ops call there left old new (Ok end) more e = (e.0, e.1, e.2, e.3, more_is_said ops call (reading ops e.0) e.0 end e.2 more)
less_by ops call there left old new (Err error) more e = tt

-- what is printed, without that on which it stands
pub does_printed : (ops : List Operation) (call : Invocation) (there left old new : Option (List ℕ)) (code : ℕ) (Says : List ℕ → Type 0) → DoesJobWith AsFounded ops call there left old new code Says → DoesJobWith AsPrinted ops call there left old new code Says
does_printed ops call there left old new code Says d = record {
  answer = d.answer;
  runs = runs_printed ops call.job there left old new d.answer d.runs;
  complains = d.complains;
  strict = d.strict;
  more = d.more;
  explains = less_by ops call there left old new d.answer d.more d.explains;
  refused = λ refusal e. let r = d.refused refusal e in (r.0, r.1, tt);
  exits = d.exits;
}
