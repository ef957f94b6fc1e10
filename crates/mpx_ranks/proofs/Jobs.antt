-- What comes of the work of all processes.
use Rattle.std.proofs.Common.{◌≡◌, ℕ, Bool, zero, suc, ◌+◌, ◌<◌, ◌≤◌, List, [], ◌∷◌, ◌++◌, length, length-append, map, take, Option, Some, refl, sym, ap, ◌∙◌, subst, arith}
use Rattle.std.specs.Prelude.{Err, IfOk, IfSome, Ok, OnOk, Result, remove, slice_get, slice_index_or}
use Rattle.std.proofs.lemmas.List.{length-map}
use Rattle.std.proofs.lemmas.Option.{same_Some}
use Rattle.atomic_table.specs.Seated.{TableId}
use Rattle.mpx_at_once.proofs.Tasks.{get_within, mapped_at, within_get}
use Rattle.mpx_at_once.specs.Tasks.{AllGive}
use Rattle.mpx_bus.specs.Acts.{node_at, process_at}
use Rattle.mpx_bus.specs.Buses.{table_of}
use Rattle.mpx_bus.specs.declared.act.Setup.{Setup}
use Rattle.mpx_bus.specs.Meetings.{HaveAllMet}
use Rattle.mpx_bus.specs.Ports.{IsFleet, IsNew, PortView, node_in, process_in}
use Rattle.mpx_bus.specs.Rule.{world_of}
use Rattle.mpx_comm.specs.declared.comm.Comm.{Comm}
use Rattle.mpx_request.proofs.Steps.{later_none}
use Rattle.mpx_request.specs.Later.{Later}
use Rattle.mpx_node.specs.Nodes.{NodeView, start_node}
use Rattle.mpx_num.specs.declared.own.Operation.{Operation}
use Rattle.mpx_world.proofs.Lists.{slice_get-push_cases, slice_get-take}
use Rattle.mpx_world.proofs.Reached.{all_agree}
use Rattle.mpx_world.proofs.Whole.{well_by}
use Rattle.mpx_world.specs.Worlds.{ProcessView, world_by}
use Rattle.mpx_node.specs.Shown.{node_of}
use Rattle.mpx_ranks.specs.declared.job.Ran.{Ran}
use Rattle.mpx_ranks.specs.declared.work.Work.{Work}
use Rattle.mpx_ranks.specs.declared.work.Worked.{Worked}
use Rattle.mpx_ranks.proofs.Values.{had_value}
use Rattle.mpx_ranks.specs.Had.{GoesOn, HadBy, HadIn, goes_nowhere}
use Rattle.mpx_ranks.specs.Members.{IsSeated, setup_of}
use Rattle.mpx_ranks.specs.Ranks.{Answers, AreOfOneHistory, AreQuitters, Gives, HasAnswered, HasGivenUp, HasWorked, HaveRun, IsReady, world_at, world_in}
use Rattle.std.specs.declared.sync.ledger.Ledger.{Ghosts as LedgerOf}
use Rattle.mpx_ranks.specs.declared.crew.Job.{Ghosts as JobOf}
use Rattle.mpx_ranks.specs.Works.{AreOfBus, AreWorks, IsWork, answer_of, port_of}

-- LISTS

map_at : {A B : Type 0} (f : A → B) (xs : List A) (i : ℕ) (x : A) → slice_get xs i ≡ Some x → slice_get (map f xs) i ≡ Some (f x)
map_at f [] i x e = cc e
map_at f (y ∷ xs) zero x e = ap (λ z. Some (f z)) (same_Some y x e)
map_at f (y ∷ xs) (suc i) x e = map_at f xs i x e

length_take : {A : Type 0} (n : ℕ) (xs : List A) → n ≤ length xs → length (take n xs) ≡ n
length_take zero xs l = refl
length_take (suc n) [] l = absurd (omega (arith, l))
length_take (suc n) (x ∷ xs) l = ap suc (length_take n xs (omega (arith, l)))

-- WHAT EACH HAS TO DO

pub one_work_more : {K P R : Type 0} {job : JobOf K} {ledger : LedgerOf K} (program : P) (table : TableId) (ranks size : ℕ) (ports : List PortView) (works : List (Work K P R job ledger)) (port : PortView) (work : Work K P R job ledger)
    → AreWorks program table ranks size ports works → IsWork program table ranks size (length works) port work → AreWorks program table ranks size (ports ++ port ∷ []) (works ++ work ∷ [])
one_work_more {K} {P} {R} {job} {ledger} program table ranks size ports works port work are is = record {
  count = length-append works (work ∷ []) ∙ ap (λ n. n + 1) are.count ∙ sym (length-append ports (port ∷ []));
  each = λ i p w e f. slice_get-push_cases (λ x k. slice_get (ports ++ port ∷ []) k ≡ Some p → IsWork program table ranks size k p x) works work i w f
      (λ old e'. slice_get-push_cases (λ q k. slice_get works k ≡ Some w → IsWork program table ranks size k q w) ports port i p e'
      (λ before g. are.each i p w before g)
      (λ same last g. let l = within_get works i w g in absurd (omega (arith, l, last, are.count))) old)
      (λ same last e'. slice_get-push_cases (λ q k. k ≡ length works → IsWork program table ranks size k q w) ports port i p e'
      (λ before now. let l = within_get ports i p before in absurd (omega (arith, l, now, are.count)))
      (λ here _ now. subst (λ (z : ℕ × (PortView × Work K P R job ledger)). IsWork program table ranks size z.0 z.1.0 z.1.1) (λ k. (sym now k, (here k, same k))) is) last) e;
}

-- so each can begin
pub ready_at : {K P R A : Type 0} {job : JobOf K} {ledger : LedgerOf K} (gives : P → Gives A) (says : P → A → Type 0) (gave_up : ℕ → Type 0) (program : P) (operations : List Operation) (ranks size : ℕ) (table : TableId) (ports : List PortView) (works : List (Work K P R job ledger)) → ranks ≤ 64 → IsFleet (setup_of operations ranks size) table size ports → AreWorks program table ranks size ports works
    → AreQuitters (gives program) (says program) (setup_of operations ranks size) gave_up
    → (i : ℕ) (t : Work K P R job ledger) → slice_get works i ≡ Some t
    → (t.ranks ≤ 64) × IsReady operations t.ranks t.size t.me (table_of t.bus.now) t.port × AreQuitters (gives t.program.now) (says t.program.now) (setup_of operations t.ranks t.size) gave_up
ready_at {K} {P} {R} {A} gives says gave_up program operations ranks size table ports works few fleet are quitters i t e =
    let l = within_get works i t e in
    let p = get_within ports i (omega (arith, l, are.count)) in
    let is = are.each i p.0 t p.1 e in
    let begins : (t.ranks ≤ 64) × IsReady operations t.ranks t.size t.me (table_of t.bus.now) t.port =
    subst (λ (z : ℕ × (ℕ × (ℕ × (TableId × PortView)))). (z.0 ≤ 64) × IsReady operations z.0 z.1.0 z.1.1.0 z.1.1.1.0 z.1.1.1.1) (λ k. (sym is.ranks_is k, (sym is.size_is k, (sym is.me_is k, (sym is.bus_is k, sym is.port_is k))))) (few, fleet.each i p.0 p.1) in
    (begins.0, begins.1, subst (λ (z : P × (ℕ × ℕ)). AreQuitters (gives z.0) (says z.0) (setup_of operations z.1.0 z.1.1) gave_up) (λ k. (sym is.program_is k, (sym is.ranks_is k, sym is.size_is k))) quitters)

-- a list by its first and the others
pub first_and_others : (ports others : List PortView) (first : PortView) → 0 < length ports → first ≡ slice_index_or ports 0 first → others ≡ remove ports 0 → first ∷ others ≡ ports
first_and_others [] others first l e is = absurd (omega (arith, l))
first_and_others (p ∷ ports) others first l e is = λ k. e k ∷ is k

-- ONE PROCESS

-- a process before it does anything
new_node : (setup : Setup) (table : TableId) (me : ℕ) (b : PortView) → IsNew setup table me b → node_in b ≡ start_node me setup.ranks setup.size
new_node setup table me b new = λ k. node_at (new.setup_is k) (new.me_is k) (new.journal_is k)

-- a program's answer, from where the rank began to where it returned
pub has_answered : {A : Type 0} (gives : Gives A) (setup : Setup) (table : TableId) (me ranks : ℕ) (port before returned last : PortView) (world : Comm) (answer : A) → IsNew setup table me port → setup.ranks ≡ ranks
    → before ≡ port → world ≡ world_at ranks me → gives before.setup.operations world (node_in before) (node_in returned) (HadIn returned) answer
    → GoesOn returned last → last.setup ≡ setup → last.me ≡ me → Later (node_in returned) (node_in last) → HasAnswered gives setup me answer last.journal
has_answered gives setup table me ranks port before returned last world answer new count same is gave on setup_is me_is later =
    let ops : before.setup.operations ≡ setup.operations = ap (λ (b : PortView). b.setup.operations) same ∙ ap (λ (s : Setup). s.operations) new.setup_is in
    let all : world ≡ world_at setup.ranks me = is ∙ ap (λ n. world_at n me) (sym count) in
    let began : node_in before ≡ start_node me setup.ranks setup.size = ap node_in same ∙ new_node setup table me port new in
    let its : returned.setup ≡ setup = sym on.0.setup ∙ setup_is in
    let own : returned.me ≡ me = sym on.0.me ∙ me_is in
    record {
      did = returned.journal;
      since = on.1.more;
      whole = on.1.whole;
      gave = subst (λ (z : List Operation × (Comm × (NodeView × (Setup × ℕ)))). gives z.0 z.1.0 z.1.1.0 (node_at z.1.1.1.0 z.1.1.1.1 returned.journal) (HadBy z.1.1.1.0 z.1.1.1.1 returned.journal) answer)
          (λ k. (ops k, (all k, (began k, (its k, own k))))) gave;
      later = subst (λ (z : (Setup × ℕ) × (Setup × ℕ)). Later (node_at z.0.0 z.0.1 returned.journal) (node_at z.1.0 z.1.1 last.journal)) (λ k. ((its k, own k), (setup_is k, me_is k))) later;
    }

-- and so it has given up, where the program says so
pub quits : {A : Type 0} (gives : Gives A) (says : A → Type 0) (setup : Setup) (table : TableId) (me ranks : ℕ) (port before returned : PortView) (world : Comm) (answer : A) → IsNew setup table me port → setup.ranks ≡ ranks
    → before ≡ port → world ≡ world_at ranks me → gives before.setup.operations world (node_in before) (node_in returned) (HadIn returned) answer
    → returned.setup ≡ setup → returned.me ≡ me → says answer → HasGivenUp gives says setup me
quits gives says setup table me ranks port before returned world answer new count same is gave setup_is me_is said =
    let a = has_answered gives setup table me ranks port before returned returned world answer new count same is gave (goes_nowhere returned) setup_is me_is (later_none (node_in returned)) in
    record { answer = answer; did = a.did; gave = a.gave; said = said }

-- its port and its answer, by what is lent
pub has_worked : {A : Type 0} (gives : Gives A) (operations : List Operation) (ranks size me : ℕ) (table : TableId) (port b : PortView) (answer : Option A) → IsNew (setup_of operations ranks size) table me port → IsSeated port.table port.setup me b
    → IfSome answer (λ a. HasAnswered gives port.setup me a b.journal) → HasWorked gives port.setup.operations ranks size me table b answer
has_worked gives operations ranks size me table port b answer new sits gave =
    let again : port.setup ≡ setup_of port.setup.operations ranks size = new.setup_is ∙ sym (ap (λ (s : Setup). setup_of s.operations ranks size) new.setup_is) in
    record {
      sits = (sits.0 ∙ new.table_is, (sits.1.0 ∙ again, sits.1.1));
      gave = subst (λ s. IfSome answer (λ a. HasAnswered gives s me a b.journal)) again gave;
    }

-- WHAT EACH PROCESS DID

module _ {K P R A : Type 0} {job : JobOf K} {ledger : LedgerOf K} (gives : P → Gives A) (program : P) (operations : List Operation) (ranks size : ℕ) (table : TableId) (ports : List PortView) (works : List (Work K P R job ledger)) (worked : List (Worked A))
    (fleet : IsFleet (setup_of operations ranks size) table size ports) (are : AreWorks program table ranks size ports works)
    (all : AllGive (λ (t : Work K P R job ledger) (r : Worked A). HasWorked (gives t.program.now) t.port.setup.operations t.ranks t.size t.me (table_of t.bus.now) r.port r.answer) works worked) where
  abbrev setup : Setup
  setup = setup_of operations ranks size

  pub counted : length worked ≡ size
  counted = all.count ∙ are.count ∙ fleet.count

  worked_at : (i : ℕ) (w : Worked A) → slice_get worked i ≡ Some w → HasWorked (gives program) operations ranks size i table w.port w.answer
  worked_at i w e =
      let l : i < length worked = within_get worked i w e in
      let t = get_within works i (omega (arith, l, all.count)) in
      let p = get_within ports i (omega (arith, l, all.count, are.count)) in
      let is = are.each i p.0 t.0 p.1 t.1 in
      let new : IsNew setup table i p.0 = fleet.each i p.0 p.1 in
      let ops : t.0.port.setup.operations ≡ operations = ap (λ (b : PortView). b.setup.operations) is.port_is ∙ ap (λ (s : Setup). s.operations) new.setup_is in
      subst (λ (z : P × (List Operation × (ℕ × (ℕ × (ℕ × TableId))))). HasWorked (gives z.0) z.1.0 z.1.1.0 z.1.1.1.0 z.1.1.1.1.0 z.1.1.1.1.1 w.port w.answer)
      (λ k. (is.program_is k, (ops k, (is.ranks_is k, (is.size_is k, (is.me_is k, is.bus_is k)))))) (all.each i t.0 w t.1 e)

  pub seated_at : (i : ℕ) (b : PortView) → slice_get (map port_of worked) i ≡ Some b → IsSeated table setup i b
  seated_at i b e =
      let w = mapped_at port_of worked i b e in
      subst (IsSeated table setup i) w.1.1 (worked_at i w.0 w.1.0).sits

  -- so all ports are of the one bus
  pub of_bus : AreOfBus setup table (map port_of worked)
  of_bus i b e = let s = seated_at i b e in (s.0, s.1.0)

  module _ (answers : List A) (nodes : List NodeView) (some : ranks ≤ size) (told : map Some answers ≡ take ranks (map answer_of worked)) (nodes_are : nodes ≡ map node_in (map port_of worked)) (met : HaveAllMet setup (map port_of worked)) where
    abbrev one_history : AreOfOneHistory operations ranks size nodes
    one_history = record {
      happenings = met.happenings;
      may = met.may;
      each = λ p node e.
          let b = mapped_at node_in (map port_of worked) p node (ap (λ ns. slice_get ns p) (sym nodes_are) ∙ e) in
          ap (λ k. ((world_by operations ranks size met.happenings).each k).node) (sym (seated_at p b.0 b.1.0).1.1) ∙ ap (λ (v : ProcessView). v.node) (met.each p b.0 b.1.0) ∙ b.1.1;
      sound = met.sound;
      agree = all_agree (world_by operations ranks size met.happenings) (well_by operations ranks size met.happenings met.may).holds;
    }

    answered_at : (rank : ℕ) (answer : A) (node : NodeView) → slice_get answers rank ≡ Some answer → slice_get nodes rank ≡ Some node → Answers (gives program) setup rank answer (world_in operations ranks size nodes one_history) node
    answered_at rank answer node e f =
        let here : slice_get (map answer_of worked) rank ≡ Some (Some answer) = slice_get-take ranks (map answer_of worked) rank (Some answer) (ap (λ xs. slice_get xs rank) (sym told) ∙ map_at Some answers rank answer e) in
        let w = mapped_at answer_of worked rank (Some answer) here in
        let port : PortView = w.0.port in
        let there : slice_get (map port_of worked) rank ≡ Some port = map_at port_of worked rank w.0 w.1.0 in
        let seat : IsSeated table setup rank port = (worked_at rank w.0 w.1.0).sits in
        let gave : HasAnswered (gives program) setup rank answer port.journal = subst (λ o. IfSome o (λ a. HasAnswered (gives program) setup rank a port.journal)) w.1.1 (worked_at rank w.0 w.1.0).gave in
        let is : node_in port ≡ node = same_Some (node_in port) node (sym (map_at node_in (map port_of worked) rank port there) ∙ ap (λ ns. slice_get ns rank) (sym nodes_are) ∙ f) in
        let last : node_in port ≡ node_at setup rank port.journal = λ k. node_at (seat.1.0 k) (seat.1.1 k) port.journal in
        let stood : process_in port ≡ process_at setup rank (gave.did ++ gave.since) = λ k. process_at (seat.1.0 k) (seat.1.1 k) (gave.whole k) in
        let came : (world_of setup met.happenings).each rank ≡ process_at setup rank (gave.did ++ gave.since) = ap (λ k. (world_of setup met.happenings).each k) (sym seat.1.1) ∙ met.each rank port there ∙ stood in
        record {
          did = gave.did;
          gave = gave.gave;
          later = subst (Later (node_at setup rank gave.did)) (sym last ∙ is) gave.later;
          values = had_value setup met.happenings met.may rank gave.did gave.since came;
        }

    pub have_run : HaveRun (gives program) operations ranks size answers nodes
    have_run = record {
      answered = sym (length-map answers Some) ∙ ap length told ∙ length_take ranks (map answer_of worked) (let n = length-map worked answer_of in omega (arith, n, counted, some));
      processes = ap length nodes_are ∙ length-map (map port_of worked) node_in ∙ length-map worked port_of ∙ counted;
      one = one_history;
      each = answered_at;
    }

  pub ran_so : {E : Type 0} → ranks ≤ size → (given : Setup) → given ≡ setup → (r : Result (Ran A) E) → IfOk r (λ (ran : Ran A). map Some ran.answers.items ≡ take ranks (map answer_of worked))
      → IfOk r (λ (ran : Ran A). map node_of ran.nodes.items ≡ map node_in (map port_of worked)) → OnOk r (HaveAllMet given (map port_of worked))
      → IfOk r (λ (ran : Ran A). HaveRun (gives program) operations ranks size ran.answers.items (map node_of ran.nodes.items))
  ran_so some given same (Ok ran) told nodes_are met = have_run ran.answers.items (map node_of ran.nodes.items) some told nodes_are (subst (λ s. HaveAllMet s (map port_of worked)) same met)
  ran_so some given same (Err e) told nodes_are met = tt
