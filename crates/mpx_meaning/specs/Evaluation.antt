-- The evaluation of a script: what stands after any list of moves that no move extends.
use Rattle.std.specs.Prelude.{◌≡◌, ℕ, zero, suc, ◌+◌, ◌==◌, ◌≤◌, cond, List, [], ◌∷◌, ◌++◌, codes, map, Option, Some, None, slice_get, unwrap_or}
use Rattle.mpx_num.specs.declared.own.Operation.{Operation}
use Rattle.mpx_birth.specs.Births.{BirthView, of_members, upto}
use Rattle.mpx_value.specs.Histories.{History, history_of, Results, results_of}
use Rattle.mpx_statement.specs.declared.statement.Statement.{Statement}
use Rattle.mpx_meaning.specs.Ranks.{Bindings, Communicator, Do, Local, step, weights}

-- the statements of each rank
abbrev pub Script : Type 0
Script = List (List Statement)

-- where each rank stands
abbrev pub State : Type 0
State = (rank : ℕ) → Local

abbrev pub world_of : ℕ → BirthView
world_of ranks = of_members (upto ranks)

-- before any statement one word is bound: `world`
abbrev pub bound_at_start : ℕ → Bindings
bound_at_start ranks = (codes "world", Communicator [] (of_members (upto ranks))) ∷ []

-- the statements of a rank
abbrev pub statements_of : Script → (rank : ℕ) → List Statement
statements_of script p = unwrap_or (slice_get script p) []

abbrev pub start_state : Script → ℕ → State
start_state script ranks p = record { me = p; bound = bound_at_start ranks; requests = []; todo = map Do (statements_of script p); made = []; lines = []; origins = [] }

-- all posts that were made, with the job's own operations
abbrev pub history : List Operation → State → History
history ops s = history_of ops (λ p. (s p).made)

-- what the rows that are whole give a rank
abbrev pub known : List Operation → ℕ → State → ℕ → Results
known ops ranks s p = results_of (history_of ops (λ q. (s q).made)) ranks p

abbrev pub or_stay : Local → Option Local → Local
or_stay s t = unwrap_or t s

-- rank p goes on by these outcomes, where it can
abbrev pub rank_goes_on : List Operation → State → ℕ → Results → State
rank_goes_on ops s p r q = cond (q == p) (or_stay (s q) (step ops r (s q))) (s q)

-- MOVES

-- any one rank moves
abbrev pub move : List Operation → ℕ → State → ℕ → State
move ops ranks s p q = cond (q == p) (unwrap_or (step ops (known ops ranks s p) (s q)) (s q)) (s q)

abbrev pub moves : List Operation → ℕ → List ℕ → State → State
moves ops ranks [] s = s
moves ops ranks (p ∷ ps) s = moves ops ranks ps (move ops ranks s p)

-- some list of moves leads there, by the job's own operations
pub record IsReached (ops : List Operation) (script : Script) (ranks : ℕ) (s : State) : Type 0 where
  pub order : List ℕ
  pub reached : moves ops ranks order (start_state script ranks) ≡ s

-- no rank can move
abbrev pub IsMaximal : List Operation → ℕ → State → Type 0
IsMaximal ops ranks s = (p : ℕ) → step ops (known ops ranks s p) (s p) ≡ None

-- what stands after a list of moves that no move extends
pub record IsEvaluation (ops : List Operation) (script : Script) (ranks : ℕ) (end : State) : Type 0 where
  pub reached : IsReached ops script ranks end
  pub maximal : (p : ℕ) → step ops (known ops ranks end p) (end p) ≡ None

abbrev pub IsPrefixOf : {A : Type 0} → List A → List A → Type 0
IsPrefixOf {A} xs ys = (rest : List A) × (xs ++ rest ≡ ys)

-- what is left to do at the first n ranks
abbrev pub left : ℕ → State → ℕ
left zero s = 0
left (suc n) s = left n s + weights (s n).todo

-- nothing is left from rank n on
pub record IsQuiet (n : ℕ) (s : State) : Type 0 where
  pub from : (p : ℕ) → n ≤ p → (s p).todo ≡ []
