-- One process, and its steps.
use Rattle.std.specs.Prelude.{◌≡◌, ℕ, ◌+◌, ◌-◌, ◌&&◌, ◌||◌, Bool, true, false, cond, nat_lt, nat_le, List, [], ◌∷◌, ◌++◌, length, map, Option, Some, None, is_some, option_and_then, unwrap_or, Result, Ok, Err, ℤ}
use Rattle.std.specs.List.{list_any}
use Rattle.std.specs.Option.{option_map, option_map_or}
use Rattle.join_core.specs.Flat.{known}
use Rattle.mpx_group.specs.Group.{has}
use Rattle.mpx_name.specs.Name.{Name, same_name}
use Rattle.mpx_num.specs.declared.own.Operation.{Operation}
use Rattle.mpx_post.specs.Posts.{Given, is_free}
use Rattle.mpx_post.specs.declared.draft.Draft.{Draft}
use Rattle.mpx_post.specs.declared.draft.PostError.{PostError}
use Rattle.mpx_post.specs.declared.draft.PostError.TheVariants.{NotMember, Closed, OutOfMemory}
use Rattle.mpx_birth.specs.Births.{BirthView, of_members, upto}
use Rattle.mpx_post.specs.Drafts.{at, checked}
use Rattle.mpx_post.specs.Gatherings.{GatheringView, gathering}
pub use Rattle.mpx_board.specs.Boards.{own_acks}
use Rattle.mpx_board.specs.Boards.{Look, IsBetween, join, join_all, only, told, row_on, Born, Held, Front, Dropped, Dead}
use Rattle.mpx_digest.specs.Digest.{Numbers}
use Rattle.mpx_node.specs.declared.finished.Finished.{Finished}
use Rattle.mpx_value.specs.declared.outcomes.Outcome.{Outcome}
use Rattle.mpx_value.specs.declared.outcomes.Outcome.TheVariants.{Nothing}
use Rattle.mpx_value.specs.Children.{children, named_children}
use Rattle.mpx_value.specs.Histories.{value_for}
pub use Rattle.mpx_value.specs.Histories.{gathering_name}
use Rattle.mpx_node.specs.Stored.{stored_at}

-- what a process has done on a context: how many calls it has posted, the results of those that it has harvested, none in place of each
-- that it let go, and whether it has posted a free
pub record OpenedView : Type 0 where
  pub posted : ℕ
  pub results : List (Option Finished)
  pub freed : Bool

-- who it is, how many processes there are, its board, and what it has done on each context that it has opened
pub record NodeView : Type 0 where
  pub me : ℕ
  pub processes : ℕ
  pub board : Look
  pub opened : Name → Option OpenedView

-- READING A NODE

abbrev pub posted_by : Option OpenedView → ℕ
posted_by opened = option_map_or (λ (o : OpenedView). o.posted) opened 0

abbrev pub results_by : Option OpenedView → List (Option Finished)
results_by opened = option_map_or (λ (o : OpenedView). o.results) opened []

abbrev pub freed_by : Option OpenedView → Bool
freed_by None = false
freed_by (Some o) = o.freed

-- how many calls it has posted on a context
abbrev pub posted_on : NodeView → Name → ℕ
posted_on node name = posted_by (node.opened name)

-- the results of the calls that it has harvested on a context, none in place of each that it let go
abbrev pub results_on : NodeView → Name → List (Option Finished)
results_on node name = results_by (node.opened name)

-- the result that it has of a call
abbrev pub result_on : NodeView → Name → (call : ℕ) → Option Finished
result_on node name call = stored_at (results_on node name) call

-- how many calls it has harvested on a context: its own front
abbrev pub front_on : NodeView → Name → ℕ
front_on node name = length (results_on node name)

-- whether it has posted a free on a context
abbrev pub freed_on : NodeView → Name → Bool
freed_on node name = freed_by (node.opened name)

-- STEPS

-- a context that was just opened
abbrev pub fresh : OpenedView
fresh = record { posted = 0; results = []; freed = false }

-- a rank has opened the world
abbrev pub opened_at_start : (me ranks : ℕ) → Name → Option OpenedView
opened_at_start me ranks name = cond (same_name name [] && nat_lt me ranks) (Some fresh) None

-- before any post: the world's birth is on its board
abbrev pub start_node : (me ranks processes : ℕ) → NodeView
start_node me ranks processes = record { me = me; processes = processes; board = only (Born [] (known (of_members (upto ranks)))); opened = opened_at_start me ranks }

-- a board comes to it
abbrev pub learn : Look → NodeView → NodeView
learn part node = record node { board = join node.board part }

-- what a refused take of a part leaves: a board between the old one and the join, with no fact of its own; nothing else is changed
abbrev pub StopsTaking : Look → NodeView → NodeView → Type 0
StopsTaking part old new = (new ≡ record old { board = new.board }) × IsBetween old.board part new.board

-- it says what it has of others
abbrev pub acknowledge : Numbers → NodeView → NodeView
acknowledge numbers node = learn (own_acks node.me numbers) node

-- it does something on a context that it has opened
abbrev pub does_on : Name → (OpenedView → OpenedView) → NodeView → NodeView
does_on name f node = record node { opened = λ n. cond (same_name n name) (option_map f (node.opened n)) (node.opened n) }

-- one more call is posted there
abbrev pub posts_more : Given → OpenedView → OpenedView
posts_more given o = record o { posted = o.posted + 1; freed = o.freed || is_free given }

-- it makes its next post on a context
abbrev pub with_post : Name → Given → NodeView → NodeView
with_post name given node = learn (only (Held name (posted_on node name) node.me (known given))) (does_on name (posts_more given) node)

-- with these operations of the job's own
module _ (ops : List Operation) where
  -- what a draft comes to as the call with this number, where the process has posted no free
  abbrev pub checked_there : (call : ℕ) → Option BirthView → ℕ → Name → Draft → Result Given PostError
  checked_there call None me name draft = Err NotMember
  checked_there call (Some birth) me name draft = checked ops birth me (at name call false) draft

  -- what it comes to: only where the context is opened, and behind an own free never, whether its birth is known or not
  abbrev pub checked_by : Option OpenedView → Option BirthView → ℕ → Name → Draft → Result Given PostError
  checked_by None birth me name draft = Err NotMember
  checked_by (Some o) birth me name draft = cond o.freed (Err Closed) (checked_there o.posted birth me name draft)

  abbrev pub checked_on : NodeView → Name → Draft → Result Given PostError
  checked_on node name draft = checked_by (node.opened name) (told (node.board.contexts name).birth) node.me name draft

-- what a post comes to: the refusal of the draft, or its call number, or want of memory; it changes the node only where it is made
abbrev pub Posts : Name → Result Given PostError → Result ℕ PostError → NodeView → NodeView → Type 0
Posts name (Err refusal) result old new = (result ≡ Err refusal) × (new ≡ old)
Posts name (Ok given) (Ok call) old new = (call ≡ posted_on old name) × (new ≡ with_post name given old)
Posts name (Ok given) (Err e) old new = (e ≡ OutOfMemory) × (new ≡ old)

module _ (ops : List Operation) where
  -- what a call gives the process, where the board has the birth and the posts of all members
  abbrev pub outcome_on : Look → Name → (me call : ℕ) → Option Outcome
  outcome_on board name me k = option_and_then (λ birth. option_and_then (λ row. value_for ops birth me row name k) (row_on board name k)) (told (board.contexts name).birth)

  -- the result of a call: what it gives the process, beside the own post
  abbrev pub result_of : Look → Name → (me call : ℕ) → Option Finished
  result_of board name me k = option_and_then (λ mine. option_map (λ outcome. record { mine = mine; outcome = outcome }) (outcome_on board name me k)) (told ((board.contexts name).posts k me))

  abbrev pub next_of : Option OpenedView → Look → Name → ℕ → Option Finished
  next_of opened board name me = option_and_then (λ (o : OpenedView). cond (nat_lt (length o.results) o.posted) (result_of board name me (length o.results)) None) opened

  -- the next result on a context, where the next call is posted here
  abbrev pub next_result : NodeView → Name → Option Finished
  next_result node name = next_of (node.opened name) node.board name node.me

-- whether there is one: no operation is asked for that
abbrev pub has_next : NodeView → Name → Bool
has_next node name = is_some (next_result [] node name)

-- HARVESTS

abbrev pub or_none : {A : Type 0} → Option (List A) → List A
or_none xs = unwrap_or xs []

-- the communicators that a call makes, by their names and births, where the board has its row
abbrev pub children_on : List Operation → Look → Name → (call : ℕ) → List (Name × BirthView)
children_on ops board name k = or_none (option_and_then (λ birth. option_map (λ row. named_children name k (children ops birth row name k)) (row_on board name k)) (told (board.contexts name).birth))

-- the facts that these are born
abbrev pub births_of : List (Name × BirthView) → List Look
births_of made = map (λ (x : Name × BirthView). only (Born x.0 (known x.1))) made

-- whether one of these has the name, and the process as a member
abbrev pub is_new_to : (me : ℕ) → List (Name × BirthView) → Name → Bool
is_new_to me made name = list_any (λ (x : Name × BirthView). same_name name x.0 && has x.1.members me) made

abbrev pub or_new : Option OpenedView → OpenedView
or_new opened = unwrap_or opened fresh

-- it opens contexts; what is opened stays as it is
abbrev pub opens : (Name → Bool) → NodeView → NodeView
opens new node = record node { opened = λ name. cond (new name) (Some (or_new (node.opened name))) (node.opened name) }

-- it stores a result
abbrev pub stores_on : Name → Finished → NodeView → NodeView
stores_on name finished node = does_on name (λ o. record o { results = o.results ++ Some finished ∷ [] }) node

-- what it tells of a call that is done, as one part: its own front raised, and the births of what the call made
abbrev pub harvest_part : Name → List (Name × BirthView) → NodeView → Look
harvest_part name made node = join_all (only (Front name node.me (front_on node name + 1)) ∷ births_of made)

-- the next call is done: its result is stored, its part joined, and what it made is opened where the process is a member
abbrev pub add_result : Name → Finished → List (Name × BirthView) → NodeView → NodeView
add_result name finished made node = opens (is_new_to node.me made) (learn (harvest_part name made node) (stores_on name finished node))

-- PRUNING

abbrev pub is_nothing : Outcome → Bool
is_nothing Nothing = true
is_nothing outcome = false

-- the result of a free whose row is fine: a row that isn't would have given a fault
abbrev pub is_fine_free : Finished → Bool
is_fine_free r = is_free r.mine && is_nothing r.outcome

-- the last of these results is one, and so many calls go past it: then nobody needs anything of the context any more
abbrev pub is_past_free : List (Option Finished) → (number : ℕ) → Bool
is_past_free results number = option_map_or is_fine_free (stored_at results (length results - 1)) false && nat_le (length results) number

-- what a prune to this number tells where it may be: that the context is dead, where that is past its free, else that posts are
-- dropped; and of a context that is dead already nothing
abbrev pub prune_part : NodeView → Name → (number : ℕ) → Option Look
prune_part node name number = cond (node.board.contexts name).dead None (Some (cond (is_past_free (results_on node name) number) (only (Dead name)) (only (Dropped name number))))

-- a board comes to it, or none
abbrev pub learn_some : Option Look → NodeView → NodeView
learn_some None node = node
learn_some (Some part) node = learn part node

-- GATHERINGS

-- what the opening of a gathering comes to where the process has posted no free on its parent
abbrev pub gathers_there : Option BirthView → (me : ℕ) → Name → (tag : ℤ) → List ℤ → Result GatheringView PostError
gathers_there None me parent tag ranks = Err NotMember
gathers_there (Some birth) me parent tag ranks = gathering birth me (length parent) false tag ranks

-- what it comes to: only where the parent is opened, and behind an own free there never
abbrev pub gathers_by : Option OpenedView → Option BirthView → (me : ℕ) → Name → (tag : ℤ) → List ℤ → Result GatheringView PostError
gathers_by None birth me parent tag ranks = Err NotMember
gathers_by (Some o) birth me parent tag ranks = cond o.freed (Err Closed) (gathers_there birth me parent tag ranks)

abbrev pub gathers_on : NodeView → (parent : Name) → (tag : ℤ) → (ranks : List ℤ) → Result GatheringView PostError
gathers_on node parent tag ranks = gathers_by (node.opened parent) (told (node.board.contexts parent).birth) node.me parent tag ranks

-- the fact that a gathering is born
abbrev pub gathering_fact : Name → GatheringView → Look
gathering_fact parent g = only (Born (gathering_name parent g) (known (of_members g.members)))

-- it opens a gathering, whose birth it tells; an opened one stays as it is
abbrev pub open_gathering_node : Name → GatheringView → NodeView → NodeView
open_gathering_node parent g node = opens (λ name. same_name name (gathering_name parent g)) (learn (gathering_fact parent g) node)

-- what the opening of a gathering comes to: the refusal, or its name, or want of memory; it changes the node only where it is opened
abbrev pub Opens : Name → Result GatheringView PostError → Result Name PostError → NodeView → NodeView → Type 0
Opens parent (Err refusal) result old new = (result ≡ Err refusal) × (new ≡ old)
Opens parent (Ok g) (Ok name) old new = (name ≡ gathering_name parent g) × (new ≡ open_gathering_node parent g old)
Opens parent (Ok g) (Err e) old new = (e ≡ OutOfMemory) × (new ≡ old)
