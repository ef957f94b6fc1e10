-- What is enough for a process's harvests: of each other member all that its board told at one moment after its post.
use Rattle.std.specs.Prelude.{◌≡◌, ◌<◌, ◌≤◌, ◌+◌, ◌⊎◌, ℕ, zero, suc, List, [], ◌∷◌, ◌++◌, length, slice_get, Some, is_some, IsTrue, Result, IfOk}
use Rattle.join_core.specs.Flat.{known}
use Rattle.join_core.specs.declared.memory.OutOfMemory.{OutOfMemory}
use Rattle.mpx_birth.specs.Births.{BirthView}
use Rattle.mpx_name.specs.Name.{Name}
use Rattle.mpx_num.specs.declared.own.Operation.{Operation}
use Rattle.mpx_board.specs.Boards.{Look, IsBoardBelow, join_all}
use Rattle.mpx_digest.specs.Digest.{Numbers}
use Rattle.mpx_delta.specs.Digests.{without}
use Rattle.mpx_node.specs.declared.node.Harvest.{Harvest}
use Rattle.mpx_node.specs.declared.node.Harvest.TheVariants.{Done}
use Rattle.mpx_node.specs.Harvests.{Harvests as AnswersHarvest}
use Rattle.mpx_node.specs.Nodes.{NodeView, posted_on, front_on, next_result}
use Rattle.mpx_world.specs.declared.events.Cut.TheVariants as C
use Rattle.mpx_world.specs.declared.events.Event.{Event}
use Rattle.mpx_world.specs.declared.events.Event.TheVariants as E
use Rattle.mpx_world.specs.declared.events.Reply.{Reply}
use Rattle.mpx_world.specs.declared.events.Reply.TheVariants as R
use Rattle.mpx_world.specs.Worlds.{WorldView, Happening, Harvests, own_front, happens, world_by}
use Rattle.mpx_world.specs.Events.{world_after, replies}
use Rattle.mpx_world.specs.Networks.{Network}

-- THE PREMISE

-- at some earlier moment a process had made its post of call k, and all that its board told then stands on this board
pub record HasAllOf (earlier : WorldView → Type 0) (board : Look) (q : ℕ) (name : Name) (k : ℕ) : Type 0 where
  pub moment : WorldView
  pub was : earlier moment
  pub posted : k < posted_on (moment.each q).node name
  pub below : IsBoardBelow (moment.each q).node.board board

-- a process has opened the context and has posted call k, and has so much of each other member
pub record IsEnough (earlier : WorldView → Type 0) (node : NodeView) (name : Name) (k : ℕ) : Type 0 where
  pub opened : IsTrue (is_some (node.opened name))
  pub posted : k < posted_on node name
  pub each : (birth : BirthView) → (node.board.contexts name).birth ≡ known birth → (rank q : ℕ) → slice_get birth.members rank ≡ Some q → (q ≡ node.me) ⊎ HasAllOf earlier node.board q name k

-- the moments on the way to the world after these events, of which it is one
pub record WasAfter (ops : List Operation) (ranks size : ℕ) (es : List Event) (w : WorldView) : Type 0 where
  pub early : List Event
  pub late : List Event
  pub all : early ++ late ≡ es
  pub is : world_after ops ranks size early ≡ w

-- those on the way to the world to which what happened leads
pub record WasBy (ops : List Operation) (ranks size : ℕ) (hs : List Happening) (w : WorldView) : Type 0 where
  pub early : List Happening
  pub late : List Happening
  pub all : early ++ late ≡ hs
  pub is : world_by ops ranks size early ≡ w

-- those of a network
abbrev pub was_in : Network → WorldView → Type 0
was_in n = WasBy n.operations n.ranks n.size n.happenings

-- at one of these moments a process's node was this one
pub record WasNode (n : Network) (q : ℕ) (node : NodeView) : Type 0 where
  pub moment : WorldView
  pub was : was_in n moment
  pub is : node ≡ (moment.each q).node

-- WHAT A HARVEST ANSWERS THEN

-- so many harvests on a context in turn, each of which finds the next result
abbrev pub AreDone : WorldView → ℕ → Name → (count : ℕ) → Type 0
AreDone w p name zero = Unit {0}
AreDone w p name (suc n) = IsTrue (is_some (next_result w.operations (w.each p).node name)) × AreDone (happens w (Harvests p name)) p name n

-- a process's harvests on a context are done up to call k
abbrev pub AreDoneUpTo : WorldView → ℕ → Name → ℕ → Type 0
AreDoneUpTo w p name k = (count : ℕ) → own_front w name p + count ≤ k + 1 → AreDone w p name count

-- so many harvests of a node on a context in turn: each that has the memory answers that the next call is done, and so do the others then
abbrev pub AnswerDone : List Operation → NodeView → Name → (count : ℕ) → Type 0
AnswerDone ops node name zero = Unit {0}
AnswerDone ops node name (suc n) = (new : NodeView) (result : Result Harvest OutOfMemory) → AnswersHarvest ops (is_some (node.opened name)) name (next_result ops node name) result node new
    → IfOk result (λ answer. (answer ≡ Done (front_on node name)) × AnswerDone ops new name n)

-- a node's harvests on a context answer so up to call k
abbrev pub AnswerDoneUpTo : List Operation → NodeView → Name → ℕ → Type 0
AnswerDoneUpTo ops node name k = (count : ℕ) → front_on node name + count ≤ k + 1 → AnswerDone ops node name count

-- so many harvests on a context
abbrev pub harvests_on : Name → (process count : ℕ) → List Event
harvests_on name p zero = []
harvests_on name p (suc n) = E.Harvest p name ∷ harvests_on name p n

-- the calls from this one on are done, in order
abbrev pub done_from : (call count : ℕ) → List Reply
done_from k zero = []
done_from k (suc n) = R.Harvested k ∷ done_from (k + 1) n

-- a process's harvests on a context answer Harvested up to call k
abbrev pub AnswerUpTo : WorldView → ℕ → Name → ℕ → Type 0
AnswerUpTo w p name k = (count : ℕ) → own_front w name p + count ≤ k + 1 → replies w (harvests_on name p count) ≡ done_from (own_front w name p) count

-- HOW A PROCESS COMES TO HAVE SO MUCH

-- these parts tell the process all that the board does: they are the board alone, or join to it, or to it without some posts that the process says there that it has
pub data TellAll (p : ℕ) (board : Look) (parts : List Look) : Type 0 where
  as_one : parts ≡ board ∷ [] → TellAll p board parts
  as_several : join_all parts ≡ board → TellAll p board parts
  as_lacking : (left : Numbers) → ((name : Name) (m : ℕ) → left name m ≤ board.acks p name m) → join_all parts ≡ without left board → TellAll p board parts

-- all that each of these parts tells stands on the board
abbrev pub StandOn : (parts : List Look) → (board : Look) → Type 0
StandOn parts board = (i : ℕ) (part : Look) → slice_get parts i ≡ Some part → IsBoardBelow part board

-- first a process sent its whole board, and then another took that part
abbrev pub sends_and_takes : List Operation → (ranks size : ℕ) → (early : List Event) → (q : ℕ) → (middle : List Event) → (p : ℕ) → (late : List Event) → List Event
sends_and_takes ops ranks size early q middle p late = early ++ E.Send q C.Whole ∷ (middle ++ E.Take p (length (world_after ops ranks size early).parts) ∷ late)
