-- Who has something left in the evaluation waits in each run.
use Rattle.std.proofs.Common.{◌≡◌, ℕ, ◌<◌, Bool, true, List, [], ◌∷◌, Some, refl, ap, ◌∙◌, arith}
use Rattle.std.specs.Prelude.{◌+◌, slice_get}
use Rattle.atomic_table.specs.Seated.{TableId}
use Rattle.mpx_num.specs.declared.own.Operation.{Operation}
use Rattle.mpx_node.specs.Nodes.{NodeView}
use Rattle.mpx_bus.specs.Ports.{PortView}
use Rattle.mpx_script.specs.ScriptView.{ScriptView}
use Rattle.mpx_meaning.specs.Evaluation.{State, known}
use Rattle.mpx_meaning.specs.Ranks.{Local, Todo}
use Rattle.mpx_meaning.specs.Reports.{is_left, waiting_in}
use Rattle.mpx_meaning.proofs.Ahead.{confluent, finished, on_way-reached}
use Rattle.mpx_meaning.proofs.Going.{goes-whole}
use Rattle.mpx_system.specs.Runs.{IsEvaluationOf, IsRun}
use Rattle.mpx_system.proofs.Leading.{coupled}
use Rattle.mpx_system.proofs.Results.{some_at, which_has}
use Rattle.mpx_threads.specs.ThreadRuns.{IsThreadRun}
use Rattle.mpx_run.specs.Reports.{EachWaits}

-- who would be there if nothing were left has something left here too
left_here : (s t : Local) → (s.todo ≡ [] → s ≡ t) → is_left t.todo ≡ true → is_left s.todo ≡ true
left_here s t same left = by_todo s.todo refl where
  by_todo : (todo : List Todo) → s.todo ≡ todo → is_left s.todo ≡ true
  by_todo [] e = ap (λ (x : Local). is_left x.todo) (same e) ∙ left
  by_todo (x ∷ rest) e = ap is_left e

-- who has something left is among those who wait
among : (ours : State) (ranks : ℕ) (waiting : List ℕ) → waiting ≡ waiting_in ours ranks → (p : ℕ) → p < ranks → is_left (ours p).todo ≡ true → (place : ℕ) × (slice_get waiting place ≡ Some p)
among ours ranks waiting are p l left = let found = which_has (λ q. is_left (ours q).todo) ranks p l left in (found.0, ap (λ xs. slice_get xs found.0) are ∙ found.1)

pub simulated_waits : (ops : List Operation) (script : ScriptView) (relays : ℕ) (nodes : List NodeView) (transcripts : List (List (List ℕ))) (waiting : List ℕ) → IsRun ops script relays nodes transcripts waiting
    → (e : State) → IsEvaluationOf ops script e → EachWaits waiting script.ranks e
simulated_waits ops script relays nodes transcripts waiting run e is p l left =
    let ours : State = run.system.ranks in
    let way = (on_way-reached ops script.statements script.ranks e ours is (coupled ops script.statements script.ranks (script.ranks + relays) run.system run.led).reached).each p in
    among ours script.ranks waiting run.waiting_are p l (left_here (ours p) (e p) (finished ops (known ops script.ranks e p) (ours p) (e p) way) left)

pub threaded_waits : (ops : List Operation) (script : ScriptView) (relays : ℕ) (table : TableId) (ports : List PortView) (transcripts : List (List (List ℕ))) (waiting : List ℕ) (rests : Bool) → IsThreadRun ops script relays table ports transcripts waiting rests
    → (e : State) → IsEvaluationOf ops script e → EachWaits waiting script.ranks e
threaded_waits ops script relays table ports transcripts waiting rests run e is p l left =
    let port = some_at ports p (omega (arith, l, run.count)) in
    let goes = (run.done p port.0 port.1 l).goes in
    let one : run.end ≡ e = confluent ops script.statements script.ranks run.end e run.evaluation is in
    let there : is_left (run.end p).todo ≡ true = ap (λ (s : State). is_left (s p).todo) one ∙ left in
    among run.ranks script.ranks waiting run.waiting_are p l (left_here (run.ranks p) (run.end p) (goes-whole ops script.statements script.ranks run.end run.evaluation p (run.ranks p) goes) there)
