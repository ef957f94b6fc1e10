-- Where a rank stands in its statements by the table of all posts, and what its moves do.
use Rattle.std.specs.Prelude.{◌≡◌, ℕ, Bool, is_some, List, Option, Some}
use Rattle.mpx_num.specs.declared.own.Operation.{Operation}
use Rattle.mpx_name.specs.Name.{Name}
use Rattle.mpx_birth.specs.Births.{BirthView}
use Rattle.mpx_value.specs.Histories.{birth_of, history_of}
pub use Rattle.mpx_value.specs.Histories.{gathering_name}
use Rattle.mpx_statement.specs.Lookups.{named}
use Rattle.mpx_meaning.specs.Ranks.{Communicator, step}
use Rattle.mpx_meaning.specs.Evaluation.{State, history, known, move}
use Rattle.mpx_rank.specs.Moves.{RankView}
use Rattle.mpx_rank.specs.Places.{CommunicatorView, StandsInScript}
use Rattle.mpx_eval.specs.Tables.{Posted, TableShows, Table}

-- a rank whose posts the table carries
abbrev pub TableRank : Type 0
TableRank = RankView CommunicatorView

-- POSTS

-- it came to be as these posts say
abbrev pub IsBornSo : List Operation → (ranks : ℕ) → Posted → Option CommunicatorView → Type 0
IsBornSo ops ranks made o = (c : CommunicatorView) → o ≡ Some c → birth_of (history_of ops made) ranks c.0 ≡ Some c.1

-- WHERE A RANK STANDS

-- the posts of each rank
abbrev pub posted_by : State → Posted
posted_by s q = (s q).made

-- this is rank p, it stands there, each communicator that its words are bound to came to be so, and the table shows all posts
pub record Before (ops : List Operation) (ranks p : ℕ) (r : TableRank) (t : Table) (s : State) : Type 0 where
  pub me : r.me ≡ p
  pub local_me : (s p).me ≡ p
  pub stands : StandsInScript r (s p)
  pub born : (word : List ℕ) (name : Name) (birth : BirthView) → named (s p).bound word ≡ Some (Communicator name birth) → birth_of (history ops s) ranks name ≡ Some birth
  pub shows : TableShows ops ranks t (posted_by s)

-- the same after its move, where it has one
pub record After (ops : List Operation) (ranks p : ℕ) (r : TableRank) (t : Table) (s : State) (moved : Bool) : Type 0 where
  pub moves : moved ≡ is_some (step ops (known ops ranks s p) (s p))
  pub me : r.me ≡ p
  pub stands : StandsInScript r (move ops ranks s p p)
  pub shows : TableShows ops ranks t (posted_by (move ops ranks s p))

-- one is the other moved on, or there was no move
abbrev pub EvalMoves : List Operation → (old : TableRank) (before : Table) (new : TableRank) (after : Table) (moved : Bool) → Type 0
EvalMoves ops old before new after moved = (ranks p : ℕ) (s : State) → Before ops ranks p old before s → After ops ranks p new after s moved
