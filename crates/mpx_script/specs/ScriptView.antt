-- What a script says.
use Rattle.std.specs.Prelude.{◌≡◌, ℕ, ◌<◌, nat_le, nat_lt, ◌&&◌, List, [], ◌∷◌, ◌++◌, Vec, length, slice_index_or, bytes_eq, if◌then◌else◌}
use Rattle.std.specs.BTreeSet.{BTreeSet, contains_by}
use Rattle.std.specs.Cmp.Lexicographic.{slice_cmp}
use Rattle.std.specs.List.{filter_map, list_any}
use Rattle.std.specs.Ordering.{nat_cmp}
use Rattle.mpx_statement.specs.Statements.{request_of, target_of}
use Rattle.mpx_statement.specs.declared.statement.Statement.{Statement}

-- how many ranks there are, and each rank's statements in their order
pub record ScriptView : Type 0 where
  pub ranks : ℕ
  pub statements : List (List Statement)

-- the names are these words
abbrev pub AreNames : {Z : Type 0} → BTreeSet (Vec ℕ Z) → List (List ℕ) → Type 0
AreNames names words = (word : List ℕ) → contains_by (λ name. slice_cmp nat_cmp word name.items) names ≡ list_any (bytes_eq word) words

-- the words that these statements bind, to communicators and to requests
pub record AreBound {Z : Type 0} (communicators requests : BTreeSet (Vec ℕ Z)) (statements : List Statement) : Type 0 where
  pub targets_are : AreNames communicators (filter_map target_of statements)
  pub requests_are : AreNames requests (filter_map request_of statements)

-- the ranks from the one on and below the other have the statement at their end, and nothing else is changed
pub record Adds (from to : ℕ) (statement : Statement) (old new : List (List Statement)) : Type 0 where
  pub len : length new ≡ length old
  pub at : (rank : ℕ) → rank < length old → slice_index_or new rank [] ≡ slice_index_or old rank [] ++ (if nat_le from rank && nat_lt rank to then statement ∷ [] else [])
