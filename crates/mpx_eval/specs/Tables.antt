-- The contexts on which somebody has posted, and which posts they show.
use Rattle.std.specs.Prelude.{◌≡◌, ℕ, ◌==◌, Bool, cond, false, List, [], ◌∷◌, ◌++◌, map, Option, Some, None, option_and_then, Result, Ok, Err}
use Rattle.std.specs.BTreeMap.{get}
use Rattle.std.specs.Option.{option_map_or}
use Rattle.mpx_num.specs.declared.own.Operation.{Operation}
use Rattle.mpx_group.specs.Group.{has_twice}
use Rattle.mpx_name.specs.Name.{Name, same_name}
use Rattle.mpx_name.specs.Order.{name_cmp}
use Rattle.mpx_post.specs.declared.draft.Draft.{Draft}
use Rattle.mpx_post.specs.declared.draft.PostError.{PostError}
use Rattle.mpx_post.specs.declared.draft.PostError.TheVariants.{OutOfMemory}
use Rattle.mpx_birth.specs.Births.{BirthView, rank_in}
use Rattle.mpx_post.specs.Posts.{Given}
use Rattle.mpx_value.specs.Histories.{Answer, Made, birth_of, history_of, posts_on}
use Rattle.mpx_meaning.specs.Ranks.{next_call, post_on}
use Rattle.mpx_eval.specs.Contexts.{ContextView, answer_in, checked_there, count_in, freed_in, fresh, is_answered_in, with_post}
use Rattle.mpx_eval.specs.declared.table.Table.{Table as Held}

-- the context of each name, where somebody has posted on it
abbrev pub Table : Type 0
Table = Name → Option ContextView

abbrev pub table_of : Held → Table
table_of t name = get name_cmp t.contexts name

-- what each process has posted, in its order
abbrev pub Posted : Type 0
Posted = (process : ℕ) → List Made

-- the table shows these posts: of a context how it came to be and the posts of its members, and there are none of others or on
-- others
pub record TableShows (ops : List Operation) (ranks : ℕ) (t : Table) (made : Posted) : Type 0 where
  pub born : (name : Name) (c : ContextView) → t name ≡ Some c → birth_of (history_of ops made) ranks name ≡ Some c.birth
  pub posts : (name : Name) (c : ContextView) → t name ≡ Some c → c.posts ≡ map (λ member. posts_on name (made member)) c.birth.members
  pub strangers : (name : Name) (c : ContextView) → t name ≡ Some c → (process : ℕ) → rank_in process c.birth.members ≡ None → posts_on name (made process) ≡ []
  pub none : (name : Name) → t name ≡ None → (process : ℕ) → posts_on name (made process) ≡ []

-- with one post more of a process
abbrev pub with_made : (me : ℕ) → Made → Posted → Posted
with_made me m made q = cond (q == me) (made q ++ m ∷ []) (made q)

-- what is there, else a context of this birth before any post
abbrev pub or_fresh : BirthView → Option ContextView → ContextView
or_fresh birth None = fresh birth
or_fresh birth (Some c) = c

abbrev pub opened : Name → BirthView → Table → Table
opened name birth t q = cond (same_name q name) (Some (or_fresh birth (t q))) (t q)

-- a draft is posted on a context of the table, or refused there
abbrev pub PostsOn : List Operation → (me : ℕ) → Name → Draft → Result ℕ PostError → ContextView → (old new : Table) → Type 0
PostsOn ops me name draft (Ok call) c old new = (given : Given) × (checked_there ops c me name draft ≡ Ok given) × (call ≡ count_in c me) × ((q : Name) → new q ≡ cond (same_name q name) (Some (with_post c me given)) (old q)) × (has_twice c.birth.members ≡ false)
PostsOn ops me name draft (Err refusal) c old new = (refusal ≡ OutOfMemory → ⊥) → (checked_there ops c me name draft ≡ Err refusal) × ((q : Name) → new q ≡ old q)

-- a process's post comes to that, and the table shows it; or it is refused so and none is shown, or memory was wanting
abbrev pub TableTries : List Operation → (ranks : ℕ) → Posted → (me : ℕ) → Result Made PostError → Result (Name × ℕ) PostError → (new : Table) → Type 0
TableTries ops ranks made me r (Ok call) new = (m : Made) × (r ≡ Ok m) × (call.0 ≡ m.name) × (call.1 ≡ next_call m.name (made me)) × TableShows ops ranks new (with_made me m made)
TableTries ops ranks made me r (Err refusal) new = (refusal ≡ OutOfMemory → ⊥) → (r ≡ Err refusal) × TableShows ops ranks new made

-- the same of a post on a context that came to be so, whatever posts the old table shows
abbrev pub TriesOn : List Operation → (me : ℕ) → Draft → Name → BirthView → Result (Name × ℕ) PostError → (old new : Table) → Type 0
TriesOn ops me draft name birth result old new = (ranks : ℕ) (made : Posted) → TableShows ops ranks old made → birth_of (history_of ops made) ranks name ≡ Some birth
    → TableTries ops ranks made me (post_on ops me (made me) draft name birth) result new

-- whether a process has posted a free on a context
abbrev pub freed_on : Table → (me : ℕ) → Name → Bool
freed_on t me name = option_map_or (λ (c : ContextView). freed_in c me) (t name) false

-- whether a call's row is whole, and the process a member
abbrev pub is_answered : Table → (me : ℕ) → Name → (call : ℕ) → Bool
is_answered t me name call = option_map_or (λ (c : ContextView). is_answered_in c me call) (t name) false

-- what a call gives a process, where its row is whole
abbrev pub answer_on : List Operation → Table → (me : ℕ) → Name → (call : ℕ) → Option Answer
answer_on ops t me name call = option_and_then (λ c. answer_in ops c me name call) (t name)
