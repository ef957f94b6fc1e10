-- What is known of a context: how it came to be, and what each of its members has posted.
use Rattle.std.specs.Prelude.{◌≡◌, ℕ, ◌&&◌, Bool, cond, is_some, List, [], ◌∷◌, ◌++◌, length, map, slice_get, slice_index_or, slice_set, Option, Some, None, option_and_then, Result, Ok, Err}
use Rattle.std.specs.List.{list_any}
use Rattle.std.specs.Option.{option_map}
use Rattle.mpx_num.specs.declared.own.Operation.{Operation}
use Rattle.mpx_name.specs.Name.{Name, same_name}
use Rattle.mpx_post.specs.declared.draft.Draft.{Draft}
use Rattle.mpx_post.specs.declared.draft.PostError.{PostError}
use Rattle.mpx_post.specs.declared.draft.PostError.TheVariants.{OutOfMemory}
use Rattle.mpx_birth.specs.Births.{BirthView, rank_in}
use Rattle.mpx_post.specs.Drafts.{at, checked}
use Rattle.mpx_post.specs.Posts.{Given, is_free}
use Rattle.mpx_post.specs.Rows.{RowView, all_of}
use Rattle.mpx_value.specs.Children.{children, named_children}
use Rattle.mpx_value.specs.Histories.{Answer, answer_with, value_for}

-- its birth, and the posts of each member, in rank order
pub record ContextView : Type 0 where
  pub birth : BirthView
  pub posts : List (List Given)

-- before any post
abbrev pub fresh : BirthView → ContextView
fresh birth = record { birth = birth; posts = map (λ member. []) birth.members }

-- what the member with this rank has posted
abbrev pub posts_at : List (List Given) → (rank : Option ℕ) → List Given
posts_at posts None = []
posts_at posts (Some rank) = slice_index_or posts rank []

-- how many posts a process has made there
abbrev pub count_in : ContextView → (me : ℕ) → ℕ
count_in c me = length (posts_at c.posts (rank_in me c.birth.members))

-- whether a process has posted a free there
abbrev pub freed_in : ContextView → (me : ℕ) → Bool
freed_in c me = list_any is_free (posts_at c.posts (rank_in me c.birth.members))

-- with one post more of the member with this rank
abbrev pub added_at : List (List Given) → (rank : Option ℕ) → Given → List (List Given)
added_at posts None given = posts
added_at posts (Some rank) given = slice_set posts rank (slice_index_or posts rank [] ++ given ∷ [])

abbrev pub with_post : ContextView → (me : ℕ) → Given → ContextView
with_post c me given = record { birth = c.birth; posts = added_at c.posts (rank_in me c.birth.members) given }

-- what a draft of a process comes to as its next post on the context of this name
abbrev pub checked_there : List Operation → ContextView → (me : ℕ) → Name → Draft → Result Given PostError
checked_there ops c me name draft = checked ops c.birth me (at name (count_in c me) (freed_in c me)) draft

-- it is posted and its number told, or it is refused, or memory was wanting
abbrev pub ContextPosts : List Operation → (me : ℕ) → Name → Draft → Result ℕ PostError → (old new : ContextView) → Type 0
ContextPosts ops me name draft (Ok call) old new = (given : Given) × (checked_there ops old me name draft ≡ Ok given) × (call ≡ count_in old me) × (new ≡ with_post old me given)
ContextPosts ops me name draft (Err refusal) old new = (refusal ≡ OutOfMemory → ⊥) → (checked_there ops old me name draft ≡ Err refusal) × (new ≡ old)

-- the posts of all members to a call, where all are there
abbrev pub row_in : ContextView → (call : ℕ) → Option RowView
row_in c call = all_of (λ posts. slice_get posts call) c.posts

-- whether a call's row is whole, and the process a member
abbrev pub is_answered_in : ContextView → (me : ℕ) → (call : ℕ) → Bool
is_answered_in c me call = is_some (rank_in me c.birth.members) && is_some (row_in c call)

-- the first with this name
abbrev pub found : Name → List (Name × BirthView) → Option BirthView
found name [] = None
found name (x ∷ rest) = cond (same_name x.0 name) (Some x.1) (found name rest)

-- how the communicators came to be that a call with this row makes
abbrev pub births_by : List Operation → BirthView → RowView → Name → (call : ℕ) → Name → Option BirthView
births_by ops birth row name call new = found new (named_children name call (children ops birth row name call))

-- what a call with this row gives a process
abbrev pub answer_by : List Operation → BirthView → (me : ℕ) → RowView → Name → (call : ℕ) → Option Answer
answer_by ops birth me row name call = option_map (answer_with (births_by ops birth row name call)) (value_for ops birth me row name call)

-- what a call on the context of this name gives a process, where its row is whole
abbrev pub answer_in : List Operation → ContextView → (me : ℕ) → Name → (call : ℕ) → Option Answer
answer_in ops c me name call = option_and_then (λ row. answer_by ops c.birth me row name call) (row_in c call)
