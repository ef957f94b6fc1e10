-- What a run's desk says as the carrier of a rank's posts.
use Rattle.std.specs.Prelude.{◌≡◌, ℕ, List, Option, Some, None, Result, Ok, Err}
use Rattle.std.proofs.Common.{refl}
use Rattle.std.specs.Option.{option_map}
use Rattle.mpx_num.specs.declared.own.Operation.{Operation}
use Rattle.mpx_name.specs.Name.{Name}
use Rattle.mpx_birth.specs.Births.{BirthView}
use Rattle.mpx_post.specs.Gatherings.{GatheringView}
use Rattle.mpx_post.specs.Posts.{Given}
use Rattle.mpx_post.specs.declared.draft.Draft.{Draft}
use Rattle.mpx_post.specs.declared.draft.PostError.{PostError}
use Rattle.mpx_post.specs.declared.draft.PostError.TheVariants.{NotMember, OutOfMemory}
use Rattle.mpx_board.specs.Boards.{told}
use Rattle.mpx_value.specs.declared.outcomes.Outcome.{Outcome}
use Rattle.mpx_value.specs.declared.outcomes.Outcome.TheVariants.{Nothing, Absent, Items, NewComm, Null, Fault}
use Rattle.mpx_node.specs.declared.finished.Finished.{Finished}
use Rattle.mpx_node.specs.Nodes.{NodeView, Opens, checked_on, freed_on, gathering_name, gathers_on, open_gathering_node, posted_on, result_on, with_post}
use Rattle.mpx_node.specs.Shown.{node_of}
use Rattle.mpx_statement.specs.declared.statement.Posting.{Posting}
use Rattle.mpx_statement.specs.Statements.{Gathers, draft_of, gathers_of}
use Rattle.mpx_rank.specs.Carriers.{AtOnce, IsToldWithin, Outcomes, Terms}
use Rattle.mpx_sim.specs.declared.desk.RunDesk.{RunDesk}
use Rattle.mpx_sim.specs.Running.{KeepsNode}
use Rattle.mpx_sim.specs.Turns.{Alone}
use Rattle.mpx_sim.specs.Keeping.{keeps_node_itself, keeps_node_then}

-- POSTS

-- what the node has of a statement that posts, and what comes of it: the context and the number of the call, or the refusal
pub record Tried : Type 0 where
  pub node : NodeView
  pub answer : Result (Name × ℕ) PostError

abbrev pub tried_post : Name → Result Given PostError → NodeView → Tried
tried_post name (Ok given) node = record { node = with_post name given node; answer = Ok (name, posted_on node name) }
tried_post name (Err refusal) node = record { node = node; answer = Err refusal }

abbrev pub tried_gathered : List Operation → (parent : Name) → Draft → Result GatheringView PostError → NodeView → Tried
tried_gathered ops parent draft (Ok g) node = tried_post (gathering_name parent g) (checked_on ops (open_gathering_node parent g node) (gathering_name parent g) draft) (open_gathering_node parent g node)
tried_gathered ops parent draft (Err refusal) node = record { node = node; answer = Err refusal }

abbrev pub tried_in : List Operation → Draft → Option Gathers → Name → NodeView → Tried
tried_in ops draft None name node = tried_post name (checked_on ops node name draft) node
tried_in ops draft (Some asked) name node = tried_gathered ops name draft (gathers_on node name asked.tag asked.ranks) node

abbrev pub tried_on : List Operation → Posting → Option Name → NodeView → Tried
tried_on ops posting None node = record { node = node; answer = Err NotMember }
tried_on ops posting (Some name) node = tried_in ops (draft_of posting) (gathers_of posting) name node

-- it is answered so and done, or memory was wanting
abbrev pub Tries : Tried → Result (Name × ℕ) PostError → NodeView → Type 0
Tries t (Ok call) new = (t.answer ≡ Ok call) × (new ≡ t.node)
Tries t (Err refusal) new = (refusal ≡ OutOfMemory → ⊥) → (t.answer ≡ Err refusal) × (new ≡ t.node)

-- the context that is posted on: the gathering, where one was opened, or the communicator's
abbrev pub context_in : (on : Name) → Result (Option Name) PostError → Result Name PostError
context_in on (Ok None) = Ok on
context_in on (Ok (Some gathering)) = Ok gathering
context_in on (Err refusal) = Err refusal

-- the context on which a statement posts is that of its communicator, or the gathering that it opens there, or that is refused
abbrev pub IsContext : (on : Name) → Option Gathers → Result Name PostError → NodeView → NodeView → Type 0
IsContext on None (Ok name) old new = (name ≡ on) × (new ≡ old)
IsContext on None (Err refusal) old new = refusal ≡ OutOfMemory
IsContext on (Some asked) result old new = Opens on (gathers_on old on asked.tag asked.ranks) result old new

-- WHAT IT SAYS

-- the outcome of a result
abbrev pub outcome_in : Option Finished → Option Outcome
outcome_in o = option_map (λ (f : Finished). f.outcome) o

-- the outcomes that a node holds
abbrev pub outcomes_on : NodeView → Outcomes
outcomes_on node name call = outcome_in (result_on node name call)

-- the name of the new communicator that a call gave the process, where it gave one
abbrev pub new_name : Outcome → Option Name
new_name (NewComm name size rank) = Some name
new_name Nothing = None
new_name Absent = None
new_name (Items items) = None
new_name Null = None
new_name (Fault fault) = None

-- a communicator by its name, and how it came to be, where the node's board tells that
abbrev pub known_to : NodeView → Name → Option (Name × BirthView)
known_to node name = option_map (λ birth. (name, birth)) (told (node.board.contexts name).birth)

-- a node may have harvested meanwhile, and what it held it holds
abbrev pub Harvests : List Operation → (old new : NodeView) → Type 0
Harvests ops old new = KeepsNode Alone ops old new × IsToldWithin (outcomes_on old) (outcomes_on new)

-- the outcomes that its node holds, and the communicators that these give; of a communicator is known how it came to be as its
-- board tells, and it is closed where its node has posted a free; a post is tried on its node, and it harvests, by the job's own
-- operations
abbrev pub desk_terms : List Operation → Terms RunDesk Name
desk_terms ops = record {
  tells = λ d me. outcomes_on (node_of d.desk.host);
  gives = λ d me name call to. (f : Finished) × (result_on (node_of d.desk.host) name call ≡ Some f) × (to ≡ new_name f.outcome);
  knows = λ d name. known_to (node_of d.desk.host) name;
  closes = λ d me name. freed_on (node_of d.desk.host) name;
  may = λ d me posting on. Unit {0};
  tries = λ d me posting on result e. AtOnce (λ answer. Tries (tried_on ops posting on (node_of d.desk.host)) answer (node_of e.desk.host)) result;
  hears = λ d e. Harvests ops (node_of d.desk.host) (node_of e.desk.host);
}

pub harvests_none : (ops : List Operation) (a : NodeView) → Harvests ops a a
harvests_none ops a = (keeps_node_itself Alone ops a a refl, λ name call outcome e. e)

pub harvests_then : (ops : List Operation) (a b c : NodeView) → Harvests ops a b → Harvests ops b c → Harvests ops a c
harvests_then ops a b c h k = (keeps_node_then Alone ops a b c h.0 k.0, λ name call outcome e. k.1 name call outcome (h.1 name call outcome e))

pub hears_nothing : (ops : List Operation) (d : RunDesk) → (desk_terms ops).hears d d
hears_nothing ops d = harvests_none ops (node_of d.desk.host)

pub hears_more : (ops : List Operation) (a b c : RunDesk) → (desk_terms ops).hears a b → (desk_terms ops).hears b c → (desk_terms ops).hears a c
hears_more ops a b c h k = harvests_then ops (node_of a.desk.host) (node_of b.desk.host) (node_of c.desk.host) h k

-- a result that is stored stays
pub stays_told : (ops : List Operation) (a b : RunDesk) → (desk_terms ops).hears a b → (me : ℕ) → IsToldWithin ((desk_terms ops).tells a me) ((desk_terms ops).tells b me)
stays_told ops a b h me = h.1
