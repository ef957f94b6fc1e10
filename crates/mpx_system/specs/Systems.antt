-- A world, and where the ranks that carry out their scripts in it stand.
use Rattle.std.specs.Prelude.{◌≡◌, ℕ, ◌<◌, List, [], ◌∷◌, length, slice_get, Option, Some, None, Result, Ok, Err}
use Rattle.std.specs.Option.{option_map}
use Rattle.mpx_num.specs.declared.own.Operation.{Operation}
use Rattle.mpx_name.specs.Name.{Name}
use Rattle.mpx_post.specs.declared.draft.Draft.{Draft}
use Rattle.mpx_post.specs.declared.draft.PostError.{PostError}
use Rattle.mpx_birth.specs.Births.{BirthView}
use Rattle.mpx_post.specs.Gatherings.{GatheringView, gathering}
use Rattle.mpx_value.specs.declared.outcomes.Outcome.{Outcome}
use Rattle.mpx_value.specs.Histories.{Made, Results, answer_with, has_freed, posts_on}
use Rattle.mpx_node.specs.declared.finished.Finished.{Finished}
use Rattle.mpx_node.specs.Nodes.{NodeView, result_on}
use Rattle.mpx_world.specs.Worlds.{WorldView, Happening, Posts, Gathers, Forgets, births, happens, MayHappen, MayGoOn, world_by, goes_on as goes_on_world, start as start_world}
use Rattle.mpx_statement.specs.declared.statement.Posting.{Posting}
use Rattle.mpx_statement.specs.declared.statement.Statement.{Statement}
use Rattle.mpx_statement.specs.declared.statement.Statement.TheVariants.{Post}
use Rattle.mpx_statement.specs.Statements.{Gathers as Asked, draft_of, gathers_of, communicator_word}
use Rattle.mpx_statement.specs.Lookups.{named}
use Rattle.mpx_meaning.specs.declared.line.Line.TheVariants.{Told}
use Rattle.mpx_meaning.specs.Ranks.{Bindings, Bound, Communicator, Todo, Do, Local, post_gathered, post_on}
use Rattle.mpx_meaning.specs.Evaluation.{State, start_state, rank_goes_on}

pub record System : Type 0 where
  pub world : WorldView
  pub ranks : State

-- what the results that a node holds tell, where communicators came to be so
abbrev pub node_tells : (born : Name → Option BirthView) → NodeView → Results
node_tells born node name k = option_map (λ (f : Finished). answer_with born f.outcome) (result_on node name k)

-- what those of a process tell in its world
abbrev pub world_tells : WorldView → (process : ℕ) → Results
world_tells w p = node_tells (births w) (w.each p).node

-- the post that a statement comes to, where it comes to one
abbrev pub posts_made : (process : ℕ) → Result Made PostError → List Happening
posts_made p (Ok made) = Posts p made.name made.given ∷ []
posts_made p (Err refusal) = []

-- by the job's own operations
module _ (ops : List Operation) where
  -- the opening of a gathering and the post there; nothing where the gathering is refused
  abbrev pub posts_gathered : (process : ℕ) → List Made → Draft → (parent : Name) → Asked → Result GatheringView PostError → List Happening
  posts_gathered p made draft parent asked (Ok g) = Gathers p parent asked.tag asked.ranks ∷ posts_made p (post_gathered ops p made draft parent (Ok g))
  posts_gathered p made draft parent asked (Err refusal) = []

  abbrev pub posts_in : (process : ℕ) → List Made → Draft → Option Asked → Name → BirthView → List Happening
  posts_in p made draft None name birth = posts_made p (post_on ops p made draft name birth)
  posts_in p made draft (Some asked) name birth = posts_gathered p made draft name asked (gathering birth p (length name) (has_freed name made) asked.tag asked.ranks)

  -- what a statement that posts gives a node, after these posts, to post on what its word is bound to
  abbrev pub posts_bound : (process : ℕ) → List Made → Posting → Option Bound → List Happening
  posts_bound p made posting (Some (Communicator name birth)) = posts_in p made (draft_of posting) (gathers_of posting) name birth
  posts_bound p made posting bound = []

  -- what the next move of a rank gives its node to post
  abbrev pub posts_of : (process : ℕ) → List Made → Bindings → List Todo → List Happening
  posts_of p made bound (Do (Post posting) ∷ rest) = posts_bound p made posting (named bound (communicator_word posting))
  posts_of p made bound todo = []

-- something that goes on without a rank's move, or a rank's next move by what its node's results tell and by the world's own operations, with the
-- posts that it makes there
pub data Doing : Type 0 where
  Nets : Happening → Doing
  Drives : (rank : ℕ) → Doing

abbrev pub does : System → Doing → System
does s (Nets h) = record { world = happens s.world h; ranks = s.ranks }
does s (Drives p) = record {
  world = goes_on_world s.world (posts_of s.world.operations p (s.world.each p).made (s.ranks p).bound (s.ranks p).todo);
  ranks = rank_goes_on s.world.operations s.ranks p (world_tells s.world p);
}

abbrev pub does_all : System → List Doing → System
does_all s [] = s
does_all s (d ∷ ds) = does_all (does s d) ds

-- what goes on without a rank's move: no post is made, and no result is let go
abbrev pub IsPassive : Happening → Type 0
IsPassive (Posts p name given) = ⊥
IsPassive (Forgets p name below) = ⊥
IsPassive h = Unit {0}

-- processes send what they have seen and acknowledge what they have, and ranks alone move
abbrev pub MayDo : (ranks : ℕ) → System → Doing → Type 0
MayDo ranks s (Nets h) = IsPassive h × MayHappen s.world h
MayDo ranks s (Drives p) = p < ranks

abbrev pub MayDoAll : (ranks : ℕ) → System → List Doing → Type 0
MayDoAll ranks s [] = Unit {0}
MayDoAll ranks s (d ∷ ds) = MayDo ranks s d × MayDoAll ranks (does s d) ds

abbrev pub start_system : List Operation → List (List Statement) → (ranks size : ℕ) → System
start_system ops script ranks size = record { world = start_world ops ranks size; ranks = start_state script ranks }

-- some list of doings leads there
pub record Leads (ranks : ℕ) (from to : System) : Type 0 where
  pub doings : List Doing
  pub may : MayDoAll ranks from doings
  pub reached : does_all from doings ≡ to

-- what can happen, from the start on, leads to the world: so what is so after all that can happen is so of it
pub record IsOfHappenings (ops : List Operation) (ranks size : ℕ) (w : WorldView) : Type 0 where
  pub happenings : List Happening
  pub may : MayGoOn (start_world ops ranks size) happenings
  pub reached : world_by ops ranks size happenings ≡ w

-- the node holds a result of the call with this outcome, beside the rank's own post of that call
pub record IsResultOf (node : NodeView) (s : Local) (name : Name) (call : ℕ) (outcome : Outcome) : Type 0 where
  pub finished : Finished
  pub held : result_on node name call ≡ Some finished
  pub is : finished.outcome ≡ outcome
  pub mine : slice_get (posts_on name s.made) call ≡ Some finished.mine

-- each line that tells the outcome of a call tells that of its result
abbrev pub TellsResults : NodeView → Local → Type 0
TellsResults node s = (i : ℕ) (name : Name) (call : ℕ) (outcome : Outcome) → slice_get s.lines i ≡ Some (Told name call outcome) → IsResultOf node s name call outcome
