-- The processes of a run before they work, and when they have.
use Rattle.std.proofs.Common.{◌≡◌, ℕ, zero, suc, ◌+◌, ◌<◌, List, [], ◌∷◌, ◌++◌, length, map, Option, Some, None, refl, sym, ap, ◌∙◌, subst, arith, length-append}
use Rattle.std.specs.Prelude.{slice_get, slice_index_or, Result, Ok, Err, IfErr, IfOk}
use Rattle.std.proofs.lemmas.List.{length-map}
use Rattle.std.specs.Option.{option_map}
use Rattle.std.proofs.lemmas.Option.{same_Some, slice_get-map}
use Rattle.join_core.specs.declared.memory.OutOfMemory.{OutOfMemory}
use Rattle.atomic_table.specs.Seated.{TableId}
use Rattle.mpx_num.specs.declared.own.Operation.{Operation}
use Rattle.mpx_world.proofs.Lists.{slice_get-push_cases}
use Rattle.mpx_bus.specs.declared.act.Setup.{Setup}
use Rattle.mpx_bus.specs.Ports.{PortView, IsFleet, IsNew}
use Rattle.mpx_shared.proofs.LawfulPorts.{new_lawful, new_none}
use Rattle.mpx_script.specs.ScriptView.{ScriptView}
use Rattle.mpx_threads.specs.declared.worker.ReadyProcess.{ReadyProcess}
use Rattle.mpx_threads.specs.declared.worker.Worked.{Worked}
use Rattle.mpx_threads.specs.declared.gate.BusStep.{BusStep}
use Rattle.mpx_threads.specs.declared.gossip.GossipEnd.TheVariants.{GaveUp}
use Rattle.mpx_threads.specs.Gates.{GivesUpAmong, GivesUpWithin}
use Rattle.mpx_threads.specs.Plans.{Plans}
use Rattle.mpx_threads.specs.Work.{AreGivenUpBy, AreJobs, AreReady, AreWorked, IsReadyProcess, IsWorked, gossip_at}
use Rattle.mpx_at_once.proofs.Tasks.{within_get}

-- what is read there stands there
pub read_at : {A : Type 0} (xs : List A) (i : ℕ) (x : A) → i < length xs → x ≡ slice_index_or xs i x → slice_get xs i ≡ Some x
read_at [] i x l e = absurd (omega (arith, l))
read_at (y ∷ xs) zero x l e = ap Some (sym e)
read_at (y ∷ xs) (suc i) x l e = read_at xs i x (omega (arith, l)) e

pub one_job_more : (ports : List PortView) (jobs : List ReadyProcess) (port : PortView) (j : ReadyProcess) → AreJobs ports jobs → j.me ≡ length jobs → j.port ≡ port → AreJobs (ports ++ port ∷ []) (jobs ++ j ∷ [])
one_job_more ports jobs port j are me same = record {
  count = length-append jobs (j ∷ []) ∙ ap (λ n. n + 1) are.count ∙ sym (length-append ports (port ∷ []));
  each = λ i x e. slice_get-push_cases (λ (y : ReadyProcess) k. (y.me ≡ k) × (slice_get (ports ++ port ∷ []) k ≡ Some y.port)) jobs j i x e
      (λ f. let old = are.each i x f in (old.0, there ports port i x.port old.1))
      (λ f k. (ap (λ (y : ReadyProcess). y.me) (sym f) ∙ me ∙ sym k, ap (slice_get (ports ++ port ∷ [])) (k ∙ are.count) ∙ last ports port ∙ ap Some (sym same ∙ ap (λ (y : ReadyProcess). y.port) f)));
} where
  there : (xs : List PortView) (y : PortView) (k : ℕ) (x : PortView) → slice_get xs k ≡ Some x → slice_get (xs ++ y ∷ []) k ≡ Some x
  there [] y k x e = cc e
  there (z ∷ xs) y zero x e = e
  there (z ∷ xs) y (suc k) x e = there xs y k x e

  last : (xs : List PortView) (y : PortView) → slice_get (xs ++ y ∷ []) (length xs) ≡ Some y
  last [] y = refl
  last (z ∷ xs) y = last xs y

pub are_ready : (script : ScriptView) (relays : ℕ) (setup : Setup) (table : TableId) (processes : ℕ) (ports : List PortView) (jobs : List ReadyProcess) → Plans script relays setup → processes ≡ script.ranks + relays → IsFleet setup table processes ports → AreJobs ports jobs → AreReady script relays setup table jobs
are_ready script relays setup table processes ports jobs plan count fleet are = record {
  plan = plan;
  count = are.count ∙ fleet.count ∙ count;
  each = λ i j e.
      let job = are.each i j e in
      let new : IsNew setup table j.me j.port = subst (λ k. IsNew setup table k j.port) (sym job.0) (fleet.each i j.port job.1) in
      let less : i < length jobs = within_get jobs i j e in (
        job.0,
        (
          record {
            plan = plan;
            lawful = new_lawful setup table j.me j.port new;
            none = new_none setup table j.me j.port new;
            within = omega (arith, less, job.0, are.count, fleet.count, count);
          },
          new.setup_is,
        ),
      );
}

-- a job is ready by its own port's setup
pub ready_at : (script : ScriptView) (relays : ℕ) (setup : Setup) (table : TableId) (jobs : List ReadyProcess) → AreReady script relays setup table jobs → (i : ℕ) (j : ReadyProcess) → slice_get jobs i ≡ Some j → IsReadyProcess script relays j.port.setup table j
ready_at script relays setup table jobs are i j e = let at = are.each i j e in subst (λ u. IsReadyProcess script relays u table j) (sym at.1.1) at.1.0

-- and the operations of that are those of all
pub list_at : (ops : List Operation) (script : ScriptView) (relays : ℕ) (setup : Setup) (table : TableId) (jobs : List ReadyProcess) → AreReady script relays setup table jobs → ops ≡ setup.operations → (i : ℕ) (j : ReadyProcess) → slice_get jobs i ≡ Some j → ops ≡ j.port.setup.operations
list_at ops script relays setup table jobs are lent i j e = lent ∙ ap (λ (u : Setup). u.operations) (sym (are.each i j e).1.1)

-- all have worked
are_worked : (script : ScriptView) (relays : ℕ) (setup : Setup) (table : TableId) (jobs : List ReadyProcess) (ws : List Worked) → AreReady script relays setup table jobs → length ws ≡ length jobs
    → ((i : ℕ) (w : Worked) → slice_get ws i ≡ Some w → (j : ReadyProcess) × ((slice_get jobs i ≡ Some j) × IsWorked script relays j.port.setup table j.me w)) → AreWorked script relays setup table ws
are_worked script relays setup table jobs ws are count each = record {
  plan = are.plan;
  count = count ∙ are.count;
  each = λ i w e.
      let found = each i w e in
      let at = are.each i found.0 found.1.0 in
      subst (λ k. IsWorked script relays setup table k w) at.0 (subst (λ u. IsWorked script relays u table found.0.me w) at.1.1 found.1.1);
}

-- what is there is read
read_back : {A : Type 0} (xs : List A) (i : ℕ) (x : A) → slice_get xs i ≡ Some x → slice_index_or xs i x ≡ x
read_back [] i x e = cc e
read_back (y ∷ xs) zero x e = same_Some y x e
read_back (y ∷ xs) (suc i) x e = read_back xs i x e

-- what each thread gave is so of its job
of_its_job : (Q : ReadyProcess → Worked → Type 0) (jobs : List ReadyProcess) (rs : List (Result Worked OutOfMemory)) (ws : List Worked) → length rs ≡ length jobs
    → ((i : ℕ) (d : Result Worked OutOfMemory) → i < length jobs → (j : ReadyProcess) × ((j ≡ slice_index_or jobs i j) × IfOk (slice_index_or rs i d) (Q j)))
    → map Ok ws ≡ rs → (i : ℕ) (w : Worked) → slice_get ws i ≡ Some w → (j : ReadyProcess) × ((slice_get jobs i ≡ Some j) × Q j w)
of_its_job Q jobs rs ws count each all i w e =
    let at : slice_get rs i ≡ Some (Ok w) = ap (λ xs. slice_get xs i) (sym all) ∙ slice_get-map Ok ws i ∙ ap (option_map Ok) e in
    let less : i < length jobs = subst (λ n. i < n) (sym (length-map ws Ok) ∙ ap length all ∙ count) (within_get ws i w e) in
    let found = each i (Ok w) less in
    let read : slice_index_or rs i (Ok w) ≡ Ok w = read_back rs i (Ok w) at in
    (found.0, (read_at jobs i found.0 less found.1.0, subst (λ r. IfOk r (Q found.0)) read found.1.1))

-- so all have worked
pub worked_all : (script : ScriptView) (relays : ℕ) (setup : Setup) (table : TableId) (jobs : List ReadyProcess) (rs : List (Result Worked OutOfMemory)) (ws : List Worked) → AreReady script relays setup table jobs → length rs ≡ length jobs
    → ((i : ℕ) (d : Result Worked OutOfMemory) → i < length jobs → (j : ReadyProcess) × ((j ≡ slice_index_or jobs i j) × IfOk (slice_index_or rs i d) (λ w. IsWorked script relays j.port.setup table j.me w)))
    → map Ok ws ≡ rs → AreWorked script relays setup table ws
worked_all script relays setup table jobs rs ws are count each all =
    are_worked script relays setup table jobs ws are (sym (length-map ws Ok) ∙ ap length all ∙ count) (of_its_job (λ j w. IsWorked script relays j.port.setup table j.me w) jobs rs ws count each all)

-- and each of their gossips that ended for the gate ended at a step at which that gives up
pub given_up_all : (gives_up : ℕ → BusStep → ℕ → Type 0) (turns : ℕ) (script : ScriptView) (relays : ℕ) (setup : Setup) (table : TableId) (jobs : List ReadyProcess) (rs : List (Result Worked OutOfMemory)) (ws : List Worked) → AreReady script relays setup table jobs → length rs ≡ length jobs
    → ((i : ℕ) (d : Result Worked OutOfMemory) → i < length jobs → (j : ReadyProcess) × ((j ≡ slice_index_or jobs i j) × IfOk (slice_index_or rs i d) (λ w. w.gossip ≡ GaveUp → GivesUpWithin gives_up j.me turns)))
    → map Ok ws ≡ rs → AreGivenUpBy gives_up turns ws
given_up_all gives_up turns script relays setup table jobs rs ws are count each all = λ i w e gave.
    let found = of_its_job (λ j w. w.gossip ≡ GaveUp → GivesUpWithin gives_up j.me turns) jobs rs ws count each all i w e in
    subst (λ k. GivesUpWithin gives_up k turns) (are.each i found.0 found.1.0).0 (found.1.1 gave)

-- a gossip that ended for the gate is that of one of them
pub gave_up_among : (gives_up : ℕ → BusStep → ℕ → Type 0) (processes turns : ℕ) (ws : List Worked) → AreGivenUpBy gives_up turns ws → length ws ≡ processes
    → (p : ℕ) → gossip_at (slice_get ws p) ≡ Some GaveUp → GivesUpAmong gives_up processes turns
gave_up_among gives_up processes turns ws given count p e = by_process (slice_get ws p) refl e where
  by_process : (o : Option Worked) → slice_get ws p ≡ o → gossip_at o ≡ Some GaveUp → GivesUpAmong gives_up processes turns
  by_process None at e = cc e
  by_process (Some w) at e = (p, (subst (λ n. p < n) count (within_get ws p w at), given p w at (same_Some w.gossip GaveUp e)))

pub if_err : {A E : Type 0} {P : E → Type 0} (r : Result A E) → ((e : E) → P e) → IfErr r P
if_err (Ok x) f = tt
if_err (Err e) f = f e
