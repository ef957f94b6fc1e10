-- A job whose ranks all run one program.
use Rattle.std.specs.Prelude.{◌≡◌, ◌++◌, ℕ, Bool, true, List, [], Some, Option, IfSome, length, slice_get}
use Rattle.atomic_table.specs.Seated.{TableId}
use Rattle.mpx_name.specs.Name.{Name}
use Rattle.mpx_num.specs.declared.own.Operation.{Operation}
use Rattle.mpx_bus.specs.Acts.{node_at}
use Rattle.mpx_bus.specs.declared.act.Act.{Act}
use Rattle.mpx_bus.specs.declared.act.Setup.{Setup}
use Rattle.mpx_bus.specs.Ports.{IsNew, PortView}
use Rattle.mpx_comm.specs.declared.comm.Comm.{Comm}
use Rattle.mpx_request.specs.Later.{Later}
use Rattle.mpx_node.specs.declared.finished.Finished.{Finished}
use Rattle.mpx_node.specs.Nodes.{NodeView, start_node}
use Rattle.mpx_world.specs.Soundness.{Agree, IsValue, Sound}
use Rattle.mpx_world.specs.Worlds.{Happening, MayGoOn, WorldView, start, world_by}
use Rattle.mpx_ranks.specs.Had.{HadBy}
use Rattle.mpx_ranks.specs.Members.{IsSeated, setup_of}

-- what a program may answer: by these operations of the job's own, on this world, where the node is so before and so after, and where the
-- rank has had these results of calls, also those that it let go since
abbrev pub Gives : (A : Type 0) → Type 1
Gives A = List Operation → Comm → NodeView → NodeView → (had : Name → ℕ → Finished → Type 0) → A → Type 0

-- the communicator of all ranks, as one of them has it
abbrev pub world_at : (ranks rank : ℕ) → Comm
world_at ranks rank = record { name = []; size = ranks; rank = rank }

-- a rank's answer is what the program may give it from where the rank begins, where its process did this meanwhile
abbrev pub Gave : {A : Type 0} → Gives A → Setup → (rank : ℕ) → (did : List Act) → A → Type 0
Gave gives setup rank did answer = gives setup.operations (world_at setup.ranks rank) (start_node rank setup.ranks setup.size) (node_at setup rank did) (HadBy setup rank did) answer

-- and what its node had when the program returned, it has. Each result that the rank had had by then, also one that it has let go, is what one whole
-- row of this world's posts gives it, beside its own post
pub record Answers {A : Type 0} (gives : Gives A) (setup : Setup) (rank : ℕ) (answer : A) (world : WorldView) (node : NodeView) : Type 0 where
  pub did : List Act
  pub gave : Gave gives setup rank did answer
  pub later : Later (node_at setup rank did) node
  pub values : (name : Name) (call : ℕ) (finished : Finished) → HadBy setup rank did name call finished → IsValue world rank name call finished

-- these nodes are those of one world, which by such operations can be reached: so what is in them is sound, and every two agree
pub record AreOfOneHistory (operations : List Operation) (ranks size : ℕ) (nodes : List NodeView) : Type 0 where
  pub happenings : List Happening
  pub may : MayGoOn (start operations ranks size) happenings
  pub each : (p : ℕ) (node : NodeView) → slice_get nodes p ≡ Some node → ((world_by operations ranks size happenings).each p).node ≡ node
  pub sound : Sound (world_by operations ranks size happenings)
  pub agree : (p q : ℕ) → Agree (world_by operations ranks size happenings) p q

-- the world that it leads to
abbrev pub world_in : (operations : List Operation) (ranks size : ℕ) (nodes : List NodeView) → AreOfOneHistory operations ranks size nodes → WorldView
world_in operations ranks size nodes one = world_by operations ranks size one.happenings

-- each rank has answered, in rank order, and the nodes of all processes are of one history
pub record HaveRun {A : Type 0} (gives : Gives A) (operations : List Operation) (ranks size : ℕ) (answers : List A) (nodes : List NodeView) : Type 0 where
  pub answered : length answers ≡ ranks
  pub processes : length nodes ≡ size
  pub one : AreOfOneHistory operations ranks size nodes
  pub each : (rank : ℕ) (answer : A) (node : NodeView) → slice_get answers rank ≡ Some answer → slice_get nodes rank ≡ Some node
      → Answers gives (setup_of operations ranks size) rank answer (world_in operations ranks size nodes one) node

-- GIVING UP

-- a rank has given up: it gave an answer of which the program says so
pub record HasGivenUp {A : Type 0} (gives : Gives A) (says : A → Type 0) (setup : Setup) (rank : ℕ) : Type 0 where
  pub answer : A
  pub did : List Act
  pub gave : Gave gives setup rank did answer
  pub said : says answer

-- this is said of just those ranks that have given up
abbrev pub AreQuitters : {A : Type 0} → Gives A → (says : A → Type 0) → Setup → (gave_up : ℕ → Type 0) → Type 0
AreQuitters gives says setup gave_up = (rank : ℕ) → (HasGivenUp gives says setup rank → gave_up rank) × (gave_up rank → HasGivenUp gives says setup rank)

-- ONE PROCESS

-- its port, before it has done anything
abbrev pub IsReady : List Operation → (ranks size me : ℕ) → TableId → PortView → Type 0
IsReady operations ranks size me table port = IsNew (setup_of operations ranks size) table me port

-- it has answered so, and has gone on since: this is all that it did
pub record HasAnswered {A : Type 0} (gives : Gives A) (setup : Setup) (rank : ℕ) (answer : A) (acts : List Act) : Type 0 where
  pub did : List Act
  pub since : List Act
  pub whole : acts ≡ did ++ since
  pub gave : Gave gives setup rank did answer
  pub later : Later (node_at setup rank did) (node_at setup rank acts)

-- its port in the end, and of a rank its answer, where it was let begin
pub record HasWorked {A : Type 0} (gives : Gives A) (operations : List Operation) (ranks size me : ℕ) (table : TableId) (port : PortView) (answer : Option A) : Type 0 where
  pub sits : IsSeated table (setup_of operations ranks size) me port
  pub gave : IfSome answer (λ a. HasAnswered gives (setup_of operations ranks size) me a port.journal)
