-- Where a rank stands between two moves: what its words stand for, by word, and what it waits for.
use Rattle.std.specs.Prelude.{ℕ, Bool, true, false, cond, is_none, List, [], ◌∷◌, bytes_eq, Option, Some, None}
use Rattle.std.specs.BTreeMap.{BTreeMap, get}
use Rattle.std.specs.Cmp.Lexicographic.{slice_cmp}
use Rattle.std.specs.Ordering.{nat_cmp}
use Rattle.mpx_name.specs.Name.{Name}
use Rattle.mpx_statement.specs.declared.statement.Statement.{Statement}
use Rattle.mpx_meaning.specs.Ranks.{Todo, Await, doing}

-- WORDS

-- what a word stands for in a map
abbrev pub looked_up : {A : Type 0} → BTreeMap (List ℕ) A → List ℕ → Option A
looked_up m word = get (slice_cmp nat_cmp) m word

-- what was there stays
abbrev pub or_new : {A : Type 0} → Option A → A → A
or_new (Some old) new = old
or_new None new = new

-- the word, where there is one, is bound to this; what was bound stays
abbrev pub binds : {A : Type 0} → Option (List ℕ) → A → (List ℕ → Option A) → List ℕ → Option A
binds None to words word = words word
binds (Some new) to words word = cond (bytes_eq word new) (Some (or_new (words word) to)) (words word)

-- whether there is a word, and nothing that it is bound to yet
abbrev pub is_new : {A : Type 0} → Option (List ℕ) → (List ℕ → Option A) → Bool
is_new None words = false
is_new (Some word) words = is_none (words word)

-- a word fewer
abbrev pub closed : {A : Type 0} → List ℕ → (List ℕ → Option A) → List ℕ → Option A
closed old words word = cond (bytes_eq old word) None (words word)

abbrev pub closed_all : {A : Type 0} → List (List ℕ) → (List ℕ → Option A) → List ℕ → Option A
closed_all [] words = words
closed_all (old ∷ more) words = closed_all more (closed old words)

-- WHAT IS LEFT TO DO

-- a call whose outcome is awaited, and the word that its new communicator gets
pub record WaitView : Type 0 where
  pub name : Name
  pub call : ℕ
  pub target : Option (List ℕ)

-- the rest of the statement whose outcome is awaited, where one is, and the statements behind it
abbrev pub todo_of : Option WaitView → List Statement → List Todo
todo_of (Some w) rest = Await w.name w.call w.target ∷ doing rest
todo_of None rest = doing rest

-- so many outcomes are awaited
abbrev pub awaited : Option WaitView → ℕ
awaited (Some w) = 1
awaited None = 0

abbrev pub has_statements : List Statement → Bool
has_statements [] = false
has_statements (x ∷ rest) = true
