-- When a run ends before its last turn.
use Rattle.std.specs.Prelude.{◌≡◌, ◌⊎◌, ℕ, ◌<◌, ◌≤◌, true, false, List, [], ◌∷◌, map, Option, None, Some, slice_get}
use Rattle.mpx_name.specs.Name.{Name}
use Rattle.mpx_node.specs.Nodes.{NodeView, has_next, result_on}
use Rattle.mpx_statement.specs.declared.statement.Statement.{Statement}
use Rattle.mpx_statement.specs.declared.statement.Statement.TheVariants.{Wait}
use Rattle.mpx_meaning.specs.Standing.{WaitView}
use Rattle.mpx_system.specs.Runs.{HaveOneBoard}
use Rattle.mpx_sim.specs.Running.{ProcessView, is_waiting_at}

abbrev pub nodes_of : List ProcessView → List NodeView
nodes_of processes = map (λ (v : ProcessView). v.node) processes

-- the first so many processes have nothing left
abbrev pub HaveFinished : (count : ℕ) → List ProcessView → Type 0
HaveFinished count processes = (p : ℕ) → p < count → is_waiting_at (slice_get processes p) ≡ false

-- one of them has something left
pub record OneWaits (count : ℕ) (processes : List ProcessView) : Type 0 where
  pub place : ℕ
  pub among : place < count
  pub waits : is_waiting_at (slice_get processes place) ≡ true

-- the call has no result, and the next one on its context can't be had
pub record IsOpen (node : NodeView) (name : Name) (call : ℕ) : Type 0 where
  pub none : result_on node name call ≡ None
  pub next : has_next node name ≡ false

-- the call of one of these words' requests isn't done, and the next one on its context can't be had
pub record OneIsOpen (node : NodeView) (requests : List ℕ → Option (Name × ℕ)) (words : List (List ℕ)) : Type 0 where
  pub place : ℕ
  pub word : List ℕ
  pub name : Name
  pub call : ℕ
  pub at : slice_get words place ≡ Some word
  pub stands_for : requests word ≡ Some (name, call)
  pub is_open : IsOpen node name call

-- a rank has nothing left; or a call that it waits for, itself or by a wait for requests, isn't done, and the next one on its context can't be had
pub data Lacks (v : ProcessView) : Type 0 where
  has_ended : v.rank.waits ≡ None → v.rank.todo ≡ [] → Lacks v
  awaits : (w : WaitView) → v.rank.waits ≡ Some w → IsOpen v.node w.name w.call → Lacks v
  waits_for : (words : List (List ℕ)) (rest : List Statement) → v.rank.waits ≡ None → v.rank.todo ≡ Wait words ∷ rest → OneIsOpen v.node v.rank.requests words → Lacks v

abbrev pub AllLack : (count : ℕ) → List ProcessView → Type 0
AllLack count processes = (p : ℕ) (v : ProcessView) → p < count → slice_get processes p ≡ Some v → Lacks v

-- the ranks have finished; or each rank lacks a call or has nothing left, and all boards are equal or every frame is lost
abbrev pub RestsBy : (loss count : ℕ) → List ProcessView → Type 0
RestsBy loss count processes = HaveFinished count processes ⊎ ((HaveOneBoard (nodes_of processes) × AllLack count processes) ⊎ ((100 ≤ loss) × AllLack count processes))

-- so many turns are made, all that there may be; or fewer, and that is so
abbrev pub AllMadeOr : (made turns : ℕ) → (over : Type 0) → Type 0
AllMadeOr made turns over = (made ≡ turns) ⊎ ((made < turns) × over)
