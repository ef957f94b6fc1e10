-- Whether there is a next result, whatever the operations of the job's own are.
use Rattle.std.proofs.Common.{◌≡◌, ℕ, Bool, true, false, cond, List, [], length, Option, Some, None, refl, sym, ap, ◌∙◌, is_some}
use Rattle.std.specs.Prelude.{nat_lt, option_and_then}
use Rattle.std.specs.Option.{option_map}
use Rattle.mpx_name.specs.Name.{Name}
use Rattle.mpx_num.specs.declared.own.Operation.{Operation}
use Rattle.mpx_birth.specs.Births.{rank_in}
use Rattle.mpx_board.specs.Boards.{Look, row_on, told}
use Rattle.mpx_node.specs.declared.finished.Finished.{Finished}
use Rattle.mpx_node.specs.Nodes.{NodeView, OpenedView, has_next, next_of, next_result, outcome_on, result_of}

is_some-then : {A B C : Type 0} (o : Option A) (f : A → Option B) (g : A → Option C) → ((x : A) → is_some (f x) ≡ is_some (g x)) → is_some (option_and_then f o) ≡ is_some (option_and_then g o)
is_some-then None f g each = refl
is_some-then (Some x) f g each = each x

pub is_some-map : {A B : Type 0} (f : A → B) (o : Option A) → is_some (option_map f o) ≡ is_some o
is_some-map f None = refl
is_some-map f (Some x) = refl

no_value : {A : Type 0} (o : Option A) → is_some o ≡ false → o ≡ None
no_value None e = refl
no_value (Some x) e = cc e

module _ (ops others : List Operation) where
  outcome_either : (board : Look) (name : Name) (me k : ℕ) → is_some (outcome_on ops board name me k) ≡ is_some (outcome_on others board name me k)
  outcome_either board name me k =
      is_some-then (told (board.contexts name).birth) _ _ (λ birth.
      is_some-then (row_on board name k) _ _ (λ row.
      is_some-then (rank_in me birth.members) _ _ (λ rank. refl)))

  pub result_either : (board : Look) (name : Name) (me k : ℕ) → is_some (result_of ops board name me k) ≡ is_some (result_of others board name me k)
  result_either board name me k =
      is_some-then (told ((board.contexts name).posts k me)) _ _ (λ mine.
      is_some-map _ (outcome_on ops board name me k) ∙ outcome_either board name me k ∙ sym (is_some-map _ (outcome_on others board name me k)))

  by_test : (b : Bool) (board : Look) (name : Name) (me k : ℕ) → is_some (cond b (result_of ops board name me k) None) ≡ is_some (cond b (result_of others board name me k) None)
  by_test true board name me k = result_either board name me k
  by_test false board name me k = refl

  next_either : (x : Option OpenedView) (board : Look) (name : Name) (me : ℕ) → is_some (next_of ops x board name me) ≡ is_some (next_of others x board name me)
  next_either None board name me = refl
  next_either (Some o) board name me = by_test (nat_lt (length o.results) o.posted) board name me (length o.results)

pub next_is_there : (ops : List Operation) (node : NodeView) (name : Name) → is_some (next_result ops node name) ≡ has_next node name
next_is_there ops node name = next_either ops [] (node.opened name) node.board name node.me

-- where none is there
pub no_result : (ops : List Operation) (board : Look) (name : Name) (me k : ℕ) → is_some (result_of [] board name me k) ≡ false → result_of ops board name me k ≡ None
no_result ops board name me k none = no_value (result_of ops board name me k) (result_either ops [] board name me k ∙ none)

pub no_next : (ops : List Operation) (node : NodeView) (name : Name) → next_result ops node name ≡ None → has_next node name ≡ false
no_next ops node name none = sym (next_is_there ops node name) ∙ ap is_some none

pub some_next : (ops : List Operation) (node : NodeView) (name : Name) (finished : Finished) → next_result ops node name ≡ Some finished → has_next node name ≡ true
some_next ops node name finished there = sym (next_is_there ops node name) ∙ ap is_some there
