-- When nobody can hear anything new or move, and rounds after which that is so.
use Rattle.std.specs.Prelude.{◌≡◌, ℕ, ◌<◌, false, List, [], ◌∷◌, ◌++◌, None}
use Rattle.mpx_num.specs.declared.own.Operation.{Operation}
use Rattle.mpx_name.specs.Name.{Name}
use Rattle.mpx_board.specs.Boards.{IsBoardBelow}
use Rattle.mpx_node.specs.Nodes.{NodeView, has_next, result_on}
use Rattle.mpx_value.specs.Histories.{Results}
use Rattle.mpx_world.specs.Worlds.{WorldView}
use Rattle.mpx_meaning.specs.Ranks.{Local, step}
use Rattle.mpx_system.specs.Systems.{System, Doing, MayDoAll, does_all}

-- answers that tell nothing of a call whose result the node doesn't hold, where the next result on that context can't be had
abbrev pub AreAtHand : NodeView → Results → Type 0
AreAtHand node answers = (name : Name) (call : ℕ) → result_on node name call ≡ None → has_next node name ≡ false → answers name call ≡ None

-- a rank waits: whatever it is told of what is at hand at its node, it has no move
abbrev pub WaitsBy : List Operation → NodeView → Local → Type 0
WaitsBy ops node s = (answers : Results) → AreAtHand node answers → step ops answers s ≡ None

-- it has heard all that each rank's board told then, and waits
pub record IsSettled (ranks : ℕ) (then : WorldView) (s : System) (p : ℕ) : Type 0 where
  pub heard : (q : ℕ) → q < ranks → IsBoardBelow (then.each q).node.board (s.world.each p).node.board
  pub waits : WaitsBy s.world.operations (s.world.each p).node (s.ranks p)

-- each rank is settled, of what is told now
abbrev pub IsAtRest : (ranks : ℕ) → System → Type 0
IsAtRest ranks s = (p : ℕ) → p < ranks → IsSettled ranks s.world s p

-- at some moment of these doings a rank was settled, of what was told before them
pub record WasSettled (ranks : ℕ) (s : System) (doings : List Doing) (p : ℕ) : Type 0 where
  pub early : List Doing
  pub late : List Doing
  pub all : early ++ late ≡ doings
  pub settled : IsSettled ranks s.world (does_all s early) p

-- a full round: doings during which each rank was, whatever else was done between, lost or repeated
pub record IsFullRound (ranks : ℕ) (s : System) (doings : List Doing) : Type 0 where
  pub may : MayDoAll ranks s doings
  pub each : (p : ℕ) → p < ranks → WasSettled ranks s doings p

-- full rounds, one after the other
abbrev pub AreFullRounds : (ranks : ℕ) → System → List (List Doing) → Type 0
AreFullRounds ranks s [] = Unit {0}
AreFullRounds ranks s (doings ∷ rest) = IsFullRound ranks s doings × AreFullRounds ranks (does_all s doings) rest

abbrev pub after_rounds : System → List (List Doing) → System
after_rounds s [] = s
after_rounds s (doings ∷ rest) = after_rounds (does_all s doings) rest
