-- What is reported of a run.
use Rattle.std.proofs.Common.{◌≡◌, ℕ, zero, suc, ◌<◌, ◌≤◌, Bool, true, false, nat_le, List, [], ◌++◌, length, Some, refl, sym, ap, ◌∙◌, subst, arith}
use Rattle.std.specs.Prelude.{map, slice_get, unwrap_or, IfOk, IfSome, Result, Ok, Err, if◌then◌else◌}
use Rattle.std.proofs.lemmas.Bool.Decides.{nat_tests}
use Rattle.std.proofs.lemmas.Option.{same_Some}
use Rattle.mpx_num.specs.declared.own.Operation.{Operation}
use Rattle.atomic_table.specs.Seated.{TableId}
use Rattle.mpx_node.specs.Nodes.{NodeView}
use Rattle.mpx_node.specs.Shown.{node_of}
use Rattle.mpx_node.specs.declared.node.Node.{Node}
use Rattle.mpx_bus.specs.Ports.{PortView}
use Rattle.mpx_script.specs.ScriptView.{ScriptView}
use Rattle.mpx_meaning.specs.Evaluation.{State}
use Rattle.mpx_meaning.specs.Transcripts.{rank_text, text_upto}
use Rattle.mpx_meaning.specs.Reports.{is_left, lines_in, which}
use Rattle.mpx_eval.specs.Evaluated.{IsEvaluated}
use Rattle.mpx_statement.specs.declared.job.Options.{Options}
use Rattle.mpx_sim.specs.Ends.{AllMadeOr}
use Rattle.mpx_sim.specs.Turns.{AreAfter}
use Rattle.mpx_system.specs.Runs.{IsRun, IsOver, Begin, AreAll, AreWhole, IsEvaluationOf}
use Rattle.mpx_system.proofs.Results.{some_at}
use Rattle.mpx_threads.specs.ThreadRuns.{IsThreadRun}
use Rattle.mpx_run.specs.Founded.{IsFoundedIn, IsSimulatedBy, IsThreadedBy, cause_of, thread_cause}
use Rattle.mpx_run.specs.Left.{IsLeftIn, transcripts_in}
use Rattle.mpx_run.specs.Reports.{EachWaits, IsAllOf, IsBy, IsOfRun, IsEvaluatedText, EndsSo, MayTell, lines_at, told_cause}
use Rattle.mpx_run.proofs.Waiting.{simulated_waits, threaded_waits}
use Rattle.mpx_run.specs.declared.end.Cause.{Cause}
use Rattle.mpx_run.specs.declared.end.Cause.TheVariants.{InEveryRun, TurnsUsedUp, AllLost}
use Rattle.mpx_run.specs.declared.end.End.{End}
use Rattle.mpx_run.specs.declared.end.End.TheVariants.{Finished, Waiting}
use Rattle.mpx_run.specs.declared.report.Left.{Left}

-- THE TEXT

-- three facts of a result that came make a fourth
pub if_three : {T E : Type 0} {P Q R S : T → Type 0} (r : Result T E) → IfOk r P → IfOk r Q → IfOk r R → ((x : T) → P x → Q x → R x → S x) → IfOk r S
if_three (Ok x) p q s f = f x p q s
if_three (Err e) p q s f = tt

-- two are one
pub if_both : {T E : Type 0} (P Q : T → Type 0) (r : Result T E) → IfOk r P → IfOk r Q → IfOk r (λ x. P x × Q x)
if_both P Q (Ok x) p q = (p, q)
if_both P Q (Err e) p q = tt

-- one makes another
pub if_ok_then : {T E : Type 0} {P Q : T → Type 0} (r : Result T E) → IfOk r P → ((x : T) → P x → Q x) → IfOk r Q
if_ok_then (Ok x) p f = f x p
if_ok_then (Err e) p f = tt

text_same : (f g : (p : ℕ) → List (List ℕ)) (n : ℕ) → ((p : ℕ) → p < n → f p ≡ g p) → text_upto f n ≡ text_upto g n
text_same f g zero h = refl
text_same f g (suc n) h = λ i. text_same f g n (λ p l. h p (omega (arith, l))) i ++ rank_text n (h n (omega arith) i)

-- the text of the lines that each rank has
text_of_state : (transcripts : List (List (List ℕ))) (s : State) (n : ℕ) → length transcripts ≡ n → ((p : ℕ) (lines : List (List ℕ)) → slice_get transcripts p ≡ Some lines → lines ≡ lines_in s p)
    → text_upto (lines_at transcripts) n ≡ text_upto (lines_in s) n
text_of_state transcripts s n size h = text_same (lines_at transcripts) (lines_in s) n (λ p l.
    let found = some_at transcripts p (omega (arith, l, size)) in
    ap (λ o. unwrap_or o []) found.1 ∙ h p found.0 found.1)

nobody : (end : End) (waiting : List ℕ) → EndsSo end waiting → end ≡ Finished → waiting ≡ []
nobody Finished waiting h e = h
nobody (Waiting ranks cause) waiting h e = cc e

-- THE CAUSE

-- where it is told that those who wait do in every run, that is the cause
for_good : (end : End) (cause : Cause) → IsBy cause end → told_cause end ≡ Some InEveryRun → cause ≡ InEveryRun
for_good Finished cause by good = cc good
for_good (Waiting ranks told) cause by good = sym by ∙ same_Some told InEveryRun good

-- which it is only where turns are left, and not all frames are lost
turns_are_left : (made : ℕ) (options : Options) → cause_of made options ≡ InEveryRun → (made < options.turns) × (options.loss < 100)
turns_are_left made options e = by_turns (nat_le options.turns made) (nat_le 100 options.loss) refl refl e where
  by_turns : (t l : Bool) → nat_le options.turns made ≡ t → nat_le 100 options.loss ≡ l → (if l then AllLost else (if t then TurnsUsedUp options.turns else InEveryRun)) ≡ InEveryRun → (made < options.turns) × (options.loss < 100)
  by_turns t true h k f = cc f
  by_turns true false h k f = cc f
  by_turns false false h k f = let left : made < options.turns = grind (arith, nat_tests) in let less : options.loss < 100 = grind (arith, nat_tests) in (left, less)

-- what is all of a state's lines, and who waits there
all_of : (script : ScriptView) (transcripts : List (List (List ℕ))) (waiting : List ℕ) (end : End) (text : List ℕ) (e : State) → length transcripts ≡ script.ranks → text ≡ text_upto (lines_at transcripts) script.ranks → EndsSo end waiting
    → AreAll transcripts waiting script.ranks e → IsAllOf script end text e
all_of script transcripts waiting end text e size lines ends all = record {
  lines = lines ∙ text_of_state transcripts e script.ranks size all.lines;
  ends = subst (EndsSo end) all.who ends;
}

-- who may be told so may be told so by the end
may_end : (options : Options) (end : End) (cause : Cause) → IsBy cause end → MayTell options cause → IfSome (told_cause end) (MayTell options)
may_end options Finished cause by may = tt
may_end options (Waiting ranks told) cause by may = subst (MayTell options) (sym by) may

-- a simulated run tells a cause that it may tell
may_tell : (made : ℕ) (options : Options) → options.threads ≡ false → MayTell options (cause_of made options)
may_tell made options alone = by_turns (nat_le options.turns made) (nat_le 100 options.loss) refl where
  by_turns : (t l : Bool) → nat_le 100 options.loss ≡ l → MayTell options (if l then AllLost else (if t then TurnsUsedUp options.turns else InEveryRun))
  by_turns t true e = let lost : 100 ≤ options.loss = grind (arith, nat_tests) in (alone, lost)
  by_turns true false e = (alone, refl)
  by_turns false false e = tt

-- and so does a run in threads
may_tell_in_threads : (rests : Bool) (options : Options) → options.threads ≡ true → MayTell options (thread_cause rests)
may_tell_in_threads true options threads = tt
may_tell_in_threads false options threads = threads

-- what is printed of lines, and of those who wait for a cause
module _ (ops : List Operation) (options : Options) (script : ScriptView) (transcripts : List (List (List ℕ))) (waiting : List ℕ) (size : length transcripts ≡ script.ranks) (in_order : (waits : ℕ → Bool) × (waiting ≡ which waits script.ranks))
    (begins : (e : State) → IsEvaluationOf ops script e → Begin transcripts e) (done : (e : State) → IsEvaluationOf ops script e → AreWhole transcripts waiting e)
    (waits : (e : State) → IsEvaluationOf ops script e → EachWaits waiting script.ranks e) (cause : Cause) (may : MayTell options cause) (all : cause ≡ InEveryRun → (e : State) → IsEvaluationOf ops script e → AreAll transcripts waiting script.ranks e)
    (end : End) (text : List ℕ) (lines : text ≡ text_upto (lines_at transcripts) script.ranks) (ends : EndsSo end waiting) (by : IsBy cause end) where
  pub of_run : IsOfRun ops options script transcripts waiting end text
  of_run = record {
    ranks_are = size;
    lines = lines;
    in_order = in_order;
    ends = ends;
    cause = may_end options end cause by may;
    begins = begins;
    done = done;
    waits = waits;
    whole = λ e is finished.
        let none = nobody end waiting ends finished in
        lines ∙ text_of_state transcripts e script.ranks size (λ p said at. done e is p said at (λ place w. cc (w, none)));
    rests = λ good e is. all_of script transcripts waiting end text e size lines ends (all (for_good end cause by good) e is);
  }

module _ (ops : List Operation) (options : Options) (script : ScriptView) (nodes : List NodeView) (transcripts : List (List (List ℕ))) (waiting : List ℕ) (turns : ℕ)
    (run : IsRun ops script options.relays nodes transcripts waiting) (after : AreAfter ops script options.relays options.seed options.loss turns nodes)
    (ended : AllMadeOr turns options.turns (IsOver ops script options.relays options.loss nodes transcripts waiting)) (alone : options.threads ≡ false)
    (begins : (e : State) → IsEvaluationOf ops script e → Begin transcripts e) (done : (e : State) → IsEvaluationOf ops script e → AreWhole transcripts waiting e)
    (all : turns < options.turns → options.loss < 100 → (e : State) → IsEvaluationOf ops script e → AreAll transcripts waiting script.ranks e)
    (end : End) (text : List ℕ) (lines : text ≡ text_upto (lines_at transcripts) script.ranks) (ends : EndsSo end waiting) (by : IsBy (cause_of turns options) end) where
  pub simulated : IsSimulatedBy nodes transcripts ops options script end text
  simulated = record {
    waiting = waiting;
    turns = turns;
    run = run;
    prints = of_run ops options script transcripts waiting run.ranks_are ((λ p. is_left (run.system.ranks p).todo), run.waiting_are) begins done (simulated_waits ops script options.relays nodes transcripts waiting run) (cause_of turns options) (may_tell turns options alone)
        (λ e. let left = turns_are_left turns options e in all left.0 left.1) end text lines ends by;
    after = after;
    ended = ended;
    cause = by;
  }

-- a run in threads of which that is told rests
was_at_rest : (rests : Bool) → thread_cause rests ≡ InEveryRun → rests ≡ true
was_at_rest true e = refl
was_at_rest false e = cc e

module _ (ops : List Operation) (options : Options) (script : ScriptView) (table : TableId) (ports : List PortView) (transcripts : List (List (List ℕ))) (waiting : List ℕ) (rests : Bool)
    (run : IsThreadRun ops script options.relays table ports transcripts waiting rests) (threads : options.threads ≡ true)
    (begins : (e : State) → IsEvaluationOf ops script e → Begin transcripts e) (done : (e : State) → IsEvaluationOf ops script e → AreWhole transcripts waiting e)
    (all : rests ≡ true → (e : State) → IsEvaluationOf ops script e → AreAll transcripts waiting script.ranks e)
    (end : End) (text : List ℕ) (lines : text ≡ text_upto (lines_at transcripts) script.ranks) (ends : EndsSo end waiting) (by : IsBy (thread_cause rests) end) where
  pub threaded : IsThreadedBy ports transcripts ops options script end text
  threaded = record {
    table = table;
    waiting = waiting;
    rests = rests;
    run = run;
    prints = of_run ops options script transcripts waiting run.ranks_are ((λ p. is_left (run.ranks p).todo), run.waiting_are) begins done (threaded_waits ops script options.relays table ports transcripts waiting rests run)
        (thread_cause rests) (may_tell_in_threads rests options threads) (λ e. all (was_at_rest rests e)) end text lines ends by;
    cause = by;
  }

pub evaluated : (ops : List Operation) (script : ScriptView) (transcripts : List (List (List ℕ))) (waiting : List ℕ) (end : End) (text : List ℕ) → IsEvaluated ops script transcripts waiting
    → text ≡ text_upto (lines_at transcripts) script.ranks → EndsSo end waiting → IsBy InEveryRun end → IsEvaluatedText ops script end text
evaluated ops script transcripts waiting end text v lines ends by = record {
  evaluation = v.end;
  is = v.evaluation;
  all = record { lines = lines ∙ text_of_state transcripts v.end script.ranks v.ranks_are v.lines; ends = subst (EndsSo end) v.waiting_are ends };
  cause = by;
}

-- WHAT IS LEFT

-- of a run are left its own lines and processes
module _ (ops : List Operation) (options : Options) (script : ScriptView) (end : End) (text : List ℕ) (transcripts : List (List (List ℕ))) (left : Left) (lines : transcripts_in left ≡ transcripts) where
  pub left_simulated : (nodes : List Node) → left.nodes.items ≡ nodes → left.ports.items ≡ [] → IsSimulatedBy (map node_of nodes) transcripts ops options script end text → IsLeftIn false ops options script end text left
  left_simulated nodes are none run =
      (subst (λ ns. IsSimulatedBy (map node_of ns) (transcripts_in left) ops options script end text) (sym are) (subst (λ ts. IsSimulatedBy (map node_of nodes) ts ops options script end text) (sym lines) run), none)

  pub left_threaded : (ports : List PortView) → left.ports.items ≡ ports → left.nodes.items ≡ [] → IsThreadedBy ports transcripts ops options script end text → IsLeftIn true ops options script end text left
  left_threaded ports are none run =
      (subst (λ ps. IsThreadedBy ps (transcripts_in left) ops options script end text) (sym are) (subst (λ ts. IsThreadedBy ports ts ops options script end text) (sym lines) run), none)

-- what is left of a run tells on what that stands
pub left_founded : (threads : Bool) (ops : List Operation) (options : Options) (script : ScriptView) (end : End) (text : List ℕ) (left : Left) → IsLeftIn threads ops options script end text left → IsFoundedIn threads ops options script end text
left_founded true ops options script end text left is = record { ports = left.ports.items; transcripts = transcripts_in left; by = is.0 }
left_founded false ops options script end text left is = record { nodes = map node_of left.nodes.items; transcripts = transcripts_in left; by = is.0 }
