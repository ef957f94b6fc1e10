-- Names: which are bound, and what a line's names are refused for.
use Rattle.std.specs.Prelude.{ℕ, Bool, false, not, ◌||◌, List, [], ◌∷◌, ◌++◌, map, slice_index_or, codes, bytes_eq, Option, Some, None, pos}
use Rattle.std.specs.List.{filter_map, list_any, range_with_len}
use Rattle.std.specs.Option.{option_map_or, option_to_list}
use Rattle.mpx_num.specs.OwnWords.{is_name}
use Rattle.mpx_num.specs.declared.own.Operation.{Operation}
use Rattle.mpx_statement.specs.Statements.{communicators_of, requests_of, target_of, request_of}
use Rattle.mpx_script.specs.Syntax.{DirectiveSyntax, label_in}
use Rattle.mpx_script.specs.Meanings.{statement_in}
use Rattle.mpx_script.specs.declared.grammar.Label.{Label}
use Rattle.mpx_script.specs.declared.grammar.Label.TheVariants.{Every, Numbered}
use Rattle.mpx_statement.specs.declared.statement.Statement.{Statement}

-- the names that a rank has bound, to communicators and to requests
pub record BoundNames : Type 0 where
  pub communicators : List (List ℕ)
  pub requests : List (List ℕ)

-- those that these statements bind, with `world`, which is bound from the start
abbrev pub names_bound : List Statement → BoundNames
names_bound statements = record { communicators = codes "world" ∷ filter_map target_of statements; requests = filter_map request_of statements }

-- those that a rank has bound by its statements so far
abbrev pub names_at : List (List Statement) → (rank : ℕ) → BoundNames
names_at statements rank = slice_index_or (map names_bound statements) rank (record { communicators = []; requests = [] })

-- one of the names is the word
abbrev pub is_bound : List (List ℕ) → List ℕ → Bool
is_bound names word = list_any (bytes_eq word) names

-- the names that a statement binds: at most one, to a communicator or to a request
abbrev pub new_names_of : Statement → List (List ℕ)
new_names_of statement = option_to_list (target_of statement) ++ option_to_list (request_of statement)

-- a word of the statement is no name: of those that it uses, and of these
abbrev pub misnames : Statement → Bool
misnames statement = list_any (λ word. not (is_name word)) (communicators_of statement ++ requests_of statement ++ new_names_of statement)

-- a word stands for a communicator and isn't bound to one, or for a request and isn't bound to one
abbrev pub lacks_name : Statement → BoundNames → Bool
lacks_name statement names = list_any (λ word. not (is_bound names.communicators word)) (communicators_of statement)
    || list_any (λ word. not (is_bound names.requests word)) (requests_of statement)

-- a new name is bound already, to a communicator or to a request
abbrev pub takes_name : Statement → BoundNames → Bool
takes_name statement names = list_any (λ word. is_bound names.communicators word || is_bound names.requests word) (new_names_of statement)

-- the ranks that a label names
abbrev pub ranks_labelled : ℕ → Option Label → List ℕ
ranks_labelled ranks (Some Every) = range_with_len 0 ranks
ranks_labelled ranks (Some (Numbered (pos n))) = n ∷ []
ranks_labelled ranks label = []

-- that holds of the names of one of these ranks
abbrev pub at_some_rank : List BoundNames → List ℕ → (BoundNames → Bool) → Bool
at_some_rank bound ranks test = list_any (λ rank. test (slice_index_or bound rank (record { communicators = []; requests = [] }))) ranks

-- What a line's names are refused for, where its words say a statement: `bound` has the names of each rank

unfoldable pub has_bad_name : List Operation → DirectiveSyntax → Bool
has_bad_name ops directive = option_map_or misnames (statement_in ops directive) false

-- by the names that are bound at a rank of the line this test holds of its statement
unfoldable pub on_names : (Statement → BoundNames → Bool) → List Operation → List BoundNames → ℕ → DirectiveSyntax → Bool
on_names test ops bound ranks directive = option_map_or (λ statement. at_some_rank bound (ranks_labelled ranks (label_in directive)) (test statement)) (statement_in ops directive) false
