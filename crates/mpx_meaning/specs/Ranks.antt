-- One rank of a script, as an automaton over the answers that it asks for.
use Rattle.std.specs.Prelude.{ℕ, zero, suc, ◌+◌, Bool, true, false, cond, not, List, [], ◌∷◌, ◌++◌, length, map, bytes_eq, slice_get, Option, Some, None, option_and_then, Result, Ok, Err, ℤ}
use Rattle.std.specs.List.{cons_option, filter}
use Rattle.std.specs.Option.{option_map, option_map_or}
use Rattle.std.specs.Result.{result_map_both}
use Rattle.mpx_num.specs.declared.own.Operation.{Operation}
use Rattle.mpx_group.specs.Group.{comparison_of}
use Rattle.mpx_group.specs.Translation.{translated}
use Rattle.mpx_group.specs.declared.ranks.Comparison.{Comparison}
use Rattle.mpx_group.specs.declared.ranks.Comparison.TheVariants as G
use Rattle.mpx_group.specs.declared.ranks.Rank.{Rank}
use Rattle.mpx_group.specs.declared.ranks.Rank.TheVariants.{At, ProcNull}
use Rattle.mpx_name.specs.declared.steps.Step.TheVariants.{Gathering}
use Rattle.mpx_name.specs.Name.{Name, same_name}
use Rattle.mpx_post.specs.Posts.{Given}
use Rattle.mpx_post.specs.declared.draft.Draft.{Draft}
use Rattle.mpx_post.specs.declared.draft.PostError.{PostError}
use Rattle.mpx_post.specs.declared.draft.PostError.TheVariants.{Closed, NoTopology, NotMember}
use Rattle.mpx_birth.specs.declared.edges.Neighbour.{Neighbour}
use Rattle.mpx_birth.specs.Births.{BirthView, of_members, rank_in}
use Rattle.mpx_birth.specs.Topologies.{TopologyView, destinations_at, sources_at}
use Rattle.mpx_post.specs.Drafts.{at, checked}
use Rattle.mpx_post.specs.Gatherings.{GatheringView, gathering}
use Rattle.mpx_post.specs.Rows.{all_of}
use Rattle.mpx_value.specs.declared.outcomes.Outcome.{Outcome}
use Rattle.mpx_value.specs.declared.outcomes.Outcome.TheVariants.{NewComm}
use Rattle.mpx_value.specs.Histories.{Made, has_freed, posts_on, Answer, Results}
use Rattle.mpx_statement.specs.declared.statement.Posting.{Posting}
use Rattle.mpx_statement.specs.declared.statement.Side.{Side}
use Rattle.mpx_statement.specs.declared.statement.Side.TheVariants.{Sources, Destinations}
use Rattle.mpx_statement.specs.declared.statement.Question.{Question}
use Rattle.mpx_statement.specs.declared.statement.Question.TheVariants.{Neighbours, Compare, Translate}
use Rattle.mpx_statement.specs.declared.statement.Statement.{Statement}
use Rattle.mpx_statement.specs.declared.statement.Statement.TheVariants.{Post, Wait, Ask}
use Rattle.mpx_meaning.specs.declared.asking.Found.{Found}
use Rattle.mpx_meaning.specs.declared.asking.Found.TheVariants as W
use Rattle.mpx_meaning.specs.declared.asking.Relation.{Relation}
-- a line of a transcript: what a call of a context gave, why a post was refused, that a request is not open (any more),
-- neighbours, with weights or without, how two communicators compare, ranks, or that one is out of range
pub use Rattle.mpx_meaning.specs.declared.line.Line.{Line}
pub use Rattle.mpx_meaning.specs.declared.line.Line.TheVariants.{Told, Refused, Idle, Near, Compared, Translated, StrayRank}
use Rattle.mpx_meaning.specs.declared.origin.Origin.{Origin}
use Rattle.mpx_meaning.specs.declared.asking.Relation.TheVariants.{Ident, Congruent, Similar, Unequal}
use Rattle.mpx_statement.specs.Statements.{Gathers, bound_to, draft_of, gathers_of, communicator_word, started_as}
use Rattle.mpx_statement.specs.Lookups.{below, named}

-- what a word is bound to: a communicator with its birth, or the null communicator
pub data Bound : Type 0 where
  Communicator : Name → BirthView → Bound
  NullCommunicator : Bound

-- words, and what they are bound to
abbrev pub Bindings : Type 0
Bindings = List (List ℕ × Bound)

-- words of open requests, and which call of which context each stands for
abbrev pub Requests : Type 0
Requests = List (List ℕ × (Name × ℕ))

-- a statement, or the rest of one whose post is made: the wait for that call, and the word that its new communicator gets
pub data Todo : Type 0 where
  Do : Statement → Todo
  Await : Name → (call : ℕ) → (target : Option (List ℕ)) → Todo

-- where a rank stands: who it is, what its words are bound to, its open requests, what is left to do, the posts that it made,
-- its lines, and which statement each of these belongs to
pub record Local : Type 0 where
  pub me : ℕ
  pub bound : Bindings
  pub requests : Requests
  pub todo : List Todo
  pub made : List Made
  pub lines : List Line
  pub origins : List Origin

-- of the first so many lines of the statement at which so many are left, with that one, which one's they are
abbrev pub origins_of : (left lines : ℕ) → List Origin
origins_of left zero = []
origins_of left (suc n) = origins_of left n ++ record { left = left; nth = n } ∷ []

-- what one move does: what is bound, open and left to do after it, and the posts and the lines that it adds
pub record Act : Type 0 where
  pub bound : Bindings
  pub requests : Requests
  pub todo : List Todo
  pub made : List Made
  pub lines : List Line

abbrev pub done : Local → Act → Local
done s a = record {
  me = s.me;
  bound = a.bound;
  requests = a.requests;
  todo = a.todo;
  made = s.made ++ a.made;
  lines = s.lines ++ a.lines;
  origins = s.origins ++ origins_of (length s.todo) (length a.lines);
}

-- what a rank does next: nothing, or an act that is a function of the answers of some calls
pub data Next : Type 0 where
  End : Next
  Asks : List (Name × ℕ) → (List Answer → Act) → Next

-- THE LANGUAGE

-- the number of the next call on a context, after these posts
abbrev pub next_call : Name → List Made → ℕ
next_call name made = length (posts_on name made)

abbrev pub made_on : Name → Result Given PostError → Result Made PostError
made_on name given = result_map_both (λ (g : Given). record { name = name; given = g }) (λ (refusal : PostError). refusal) given

-- by the job's own operations
module _ (ops : List Operation) where
  -- what a draft comes to on a context with this birth: the next post there, or why there is none
  abbrev pub post_on : (me : ℕ) → List Made → Draft → Name → BirthView → Result Made PostError
  post_on me made draft name birth = made_on name (checked ops birth me (at name (next_call name made) (has_freed name made)) draft)

  -- what it comes to on a gathering below a context, which may be refused itself
  abbrev pub post_gathered : (me : ℕ) → List Made → Draft → Name → Result GatheringView PostError → Result Made PostError
  post_gathered me made draft parent (Ok g) = post_on me made draft (Gathering g.tag g.members ∷ parent) (of_members g.members)
  post_gathered me made draft parent (Err refusal) = Err refusal

  abbrev pub attempt_in : (me : ℕ) → List Made → Draft → Option Gathers → Name → BirthView → Result Made PostError
  attempt_in me made draft None name birth = post_on me made draft name birth
  attempt_in me made draft (Some g) name birth = post_gathered me made draft name (gathering birth me (length name) (has_freed name made) g.tag g.ranks)

  -- what a statement that posts comes to on what its word is bound to: a post, or why there is none
  abbrev pub attempt_on : (me : ℕ) → List Made → Posting → Option Bound → Result Made PostError
  attempt_on me made posting (Some (Communicator name birth)) = attempt_in me made (draft_of posting) (gathers_of posting) name birth
  attempt_on me made posting bound = Err NotMember

  -- what such a statement of a rank comes to, with these bindings and after these posts
  abbrev pub attempt : (me : ℕ) → Bindings → List Made → Posting → Result Made PostError
  attempt me bound made posting = attempt_on me made posting (named bound (communicator_word posting))

-- the neighbours of a rank on one side
abbrev pub neighbours_at : Side → TopologyView → (rank : ℕ) → List Neighbour
neighbours_at Sources topology rank = sources_at topology rank
neighbours_at Destinations topology rank = destinations_at topology rank

-- the line that tells them, in a communicator with this topology
abbrev pub told_by : Side → Option TopologyView → (rank : ℕ) → Line
told_by side topology rank = option_map_or (λ (t : TopologyView). Near t.weighted (neighbours_at side t rank)) topology (Refused NoTopology)

-- the same for a member
abbrev pub told_to : Side → BirthView → (rank : Option ℕ) → Line
told_to side birth rank = option_map_or (told_by side birth.topology) rank (Refused NotMember)

-- a communicator, where a word is bound to one: its name, and how it came to be
abbrev pub communicator_of : Option Bound → Option (Name × BirthView)
communicator_of (Some (Communicator name birth)) = Some (name, birth)
communicator_of bound = None

-- what a word stands for that is asked about, by whether the rank has posted a free there, and by what is known of its communicator

abbrev pub open_or_null : Option (Name × BirthView) → Found (Name × BirthView)
open_or_null None = W.Null
open_or_null (Some c) = W.Open c

abbrev pub found_as : (freed : Bool) → Option (Name × BirthView) → Found (Name × BirthView)
found_as freed known = cond freed W.Freed (open_or_null known)

-- what it stands for by what it is bound to, after these posts
abbrev pub found_of : List Made → Option Bound → Found (Name × BirthView)
found_of made (Some (Communicator name birth)) = cond (has_freed name made) W.Freed (W.Open (name, birth))
found_of made bound = W.Null

-- the same of something else that is known of it
abbrev pub found_map : {A B : Type 0} → (A → B) → Found A → Found B
found_map f W.Null = W.Null
found_map f W.Freed = W.Freed
found_map f (W.Open c) = W.Open (f c)

-- the line that tells of one communicator, or why nothing is told: it is none, or the rank has freed it
abbrev pub line_of : {A : Type 0} → (A → Line) → Found A → Line
line_of tell W.Null = Refused NotMember
line_of tell W.Freed = Refused Closed
line_of tell (W.Open c) = tell c

-- of two: one is none, or else one is freed
abbrev pub line_of_two : {A : Type 0} → (A → A → Line) → (first second : Found A) → Line
line_of_two tell (W.Open c) (W.Open d) = tell c d
line_of_two tell W.Null second = Refused NotMember
line_of_two tell first W.Null = Refused NotMember
line_of_two tell first second = Refused Closed

-- the line of a rank's neighbours in a communicator
abbrev pub neighbours_in : (me : ℕ) → Side → Name × BirthView → Line
neighbours_in me side c = option_map_or (told_by side c.1.topology) (rank_in me c.1.members) (Refused NotMember)

-- how two communicators compare: by their contexts, then by their groups (MPI 4.1, section 7.4.1)
abbrev pub relation_of : (same_context : Bool) → Comparison → Relation
relation_of true groups = Ident
relation_of false G.Ident = Congruent
relation_of false G.Similar = Similar
relation_of false G.Unequal = Unequal

abbrev pub comparison_in : (first second : Name × BirthView) → Line
comparison_in c d = Compared (relation_of (same_name c.0 d.0) (comparison_of c.1.members d.1.members))

-- a rank of a communicator of this size, or none
abbrev pub rank_asked : (size : ℕ) → Option ℤ → Option Rank
rank_asked size asked = option_map_or (λ z. option_map At (below size z)) asked (Some ProcNull)

abbrev pub translated_told : (from to : List ℕ) → Option (List Rank) → Line
translated_told from to ranks = option_map_or (λ asked. Translated (map (translated from to) asked)) ranks StrayRank

-- the ranks in the second communicator of the processes with these ranks in the first (MPI 4.1, section 7.3.1)
abbrev pub translation_in : List (Option ℤ) → (from to : Name × BirthView) → Line
translation_in ranks from to = option_map_or (λ asked. Translated (map (translated from.1.members to.1.members) asked)) (all_of (rank_asked (length from.1.members)) ranks) StrayRank

-- the line that answers a question, where words stand for this
abbrev pub answered_by : (me : ℕ) → (List ℕ → Found (Name × BirthView)) → Question → Line
answered_by me found (Neighbours on side) = line_of (neighbours_in me side) (found on)
answered_by me found (Compare first second) = line_of_two comparison_in (found first) (found second)
answered_by me found (Translate from to ranks) = line_of_two (translation_in ranks) (found from) (found to)

-- what a statement that asks prints at a rank with these bindings, after these posts
abbrev pub answered : (me : ℕ) → Bindings → List Made → Question → Line
answered me bound made question = answered_by me (λ word. found_of made (named bound word)) question

-- WAITING

-- the requests but for that of a word
abbrev pub without : List ℕ → Requests → Requests
without word requests = filter (λ (r : List ℕ × (Name × ℕ)). not (bytes_eq word r.0)) requests

-- which of them are left open after a wait for these words
abbrev pub without_all : List (List ℕ) → Requests → Requests
without_all [] requests = requests
without_all (word ∷ words) requests = without_all words (without word requests)

-- the calls whose outcomes a wait for these words needs: those of the open requests, each once
abbrev pub awaited_by : Requests → List (List ℕ) → List (Name × ℕ)
awaited_by requests [] = []
awaited_by requests (word ∷ words) = cons_option (named requests word) (awaited_by (without word requests) words)

-- a call before those of further words, where there is one
abbrev pub awaited_then : Option (Name × ℕ) → List (Name × ℕ) → List (Name × ℕ)
awaited_then place rest = cons_option place rest

-- a word's line, and those behind it by the answers that are left
abbrev pub line_then : Option (Name × ℕ) → List Answer → (List Answer → List Line) → List Line
line_then None answers rest = Idle ∷ rest answers
line_then (Some place) [] rest = []
line_then (Some place) (answer ∷ answers) rest = Told place.0 place.1 answer.outcome ∷ rest answers

-- the lines of a wait for these words, by those answers: a request that isn't open is idle
abbrev pub waited_lines : Requests → List (List ℕ) → List Answer → List Line
waited_lines requests [] answers = []
waited_lines requests (word ∷ words) answers = line_then (named requests word) answers (waited_lines (without word requests) words)

-- BINDING

-- the communicator that a call gave, the null communicator where it gave none
abbrev pub bound_by : Outcome → Option BirthView → Bound
bound_by (NewComm name size rank) (Some birth) = Communicator name birth
bound_by outcome born = NullCommunicator

-- the word, where there is one, is bound to this
abbrev pub bind : Option (List ℕ) → Bound → Bindings → Bindings
bind None to bound = bound
bind (Some word) to bound = bound ++ (word, to) ∷ []

-- nothing is asked for
abbrev pub at_once : Act → Next
at_once a = Asks [] (λ _. a)

-- the answer of one call is asked for: there always is one
abbrev pub awaits : Name → ℕ → (Answer → Act) → Next
awaits name call f = Asks ((name, call) ∷ []) (λ told. option_map_or f (slice_get told 0) (record { bound = []; requests = []; todo = []; made = []; lines = [] }))

-- an accepted post: its outcome is awaited next, or its request is open from now on
abbrev pub goes_out : Local → List Todo → (target request : Option (List ℕ)) → Made → Act
goes_out s rest target None m = record { bound = s.bound; requests = s.requests; todo = Await m.name (next_call m.name s.made) target ∷ rest; made = m ∷ []; lines = [] }
goes_out s rest target (Some word) m = record { bound = s.bound; requests = s.requests ++ (word, (m.name, next_call m.name s.made)) ∷ []; todo = rest; made = m ∷ []; lines = [] }

-- a statement that posts: its post, or the line of its refusal
abbrev pub posts_or_refuses : Local → List Todo → (target request : Option (List ℕ)) → Result Made PostError → Next
posts_or_refuses s rest target request (Ok m) = Asks [] (λ told. goes_out s rest target request m)
posts_or_refuses s rest target request (Err refusal) = Asks [] (λ told. record { bound = bind target NullCommunicator s.bound; requests = s.requests; todo = rest; made = []; lines = Refused refusal ∷ [] })

abbrev pub next_by : List Operation → Local → List Todo → Next
next_by ops s [] = End
next_by ops s (Do (Post posting) ∷ rest) = posts_or_refuses s rest (bound_to posting) (started_as posting) (attempt_on ops s.me s.made posting (named s.bound (communicator_word posting)))
next_by ops s (Do (Wait words) ∷ rest) = Asks (awaited_by s.requests words) (λ told. record { bound = s.bound; requests = without_all words s.requests; todo = rest; made = []; lines = waited_lines s.requests words told })
next_by ops s (Do (Ask question) ∷ rest) = Asks [] (λ told. record { bound = s.bound; requests = s.requests; todo = rest; made = []; lines = answered_by s.me (λ word. found_of s.made (named s.bound word)) question ∷ [] })
next_by ops s (Await name call target ∷ rest) = awaits name call (λ (answer : Answer). record { bound = bind target (bound_by answer.outcome answer.born) s.bound; requests = s.requests; todo = rest; made = []; lines = Told name call answer.outcome ∷ [] })

abbrev pub next : List Operation → Local → Next
next ops s = next_by ops s s.todo

-- STEPS

-- the answers of all of these calls, only where each is known
abbrev pub answers : Results → List (Name × ℕ) → Option (List Answer)
answers r calls = all_of (λ (call : Name × ℕ). r call.0 call.1) calls

abbrev pub step_by : Results → Local → Next → Option Local
step_by r s End = None
step_by r s (Asks calls act) = option_and_then (λ told. Some (done s (act told))) (answers r calls)

-- where the next move of a rank that knows these outcomes leads, where it has one, by the job's own operations
abbrev pub step : List Operation → Results → Local → Option Local
step ops r s = step_by r s (next_by ops s s.todo)

-- so many moves are left at most
abbrev pub weight : Todo → ℕ
weight (Do statement) = 2
weight (Await name call target) = 1

abbrev pub weights : List Todo → ℕ
weights [] = 0
weights (x ∷ xs) = weight x + weights xs

-- how a rank with these statements starts
abbrev pub doing : List Statement → List Todo
doing statements = map Do statements
