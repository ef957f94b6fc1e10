-- What the reader learns from one line.
use Rattle.std.specs.Prelude.{◌≡◌, ℕ, ◌+◌, ◌-◌, ◌<◌, ◌≤◌, Bool, not, true, false, ◌&&◌, List, [], ◌∷◌, ◌||◌, is_none, nat_le, nat_lt, Option, Some, None, IsSomeAnd}
use Rattle.mpx_num.specs.declared.own.Operation.{Operation}
use Rattle.mpx_kind.specs.declared.kinds.Fields.{Fields}
use Rattle.mpx_kind.specs.declared.kinds.Kind.{Kind}
use Rattle.mpx_kind.specs.declared.kinds.Mode.{Mode}
use Rattle.mpx_kind.specs.Kinds.{fields_of}
use Rattle.mpx_script.specs.Words.{counts}
use Rattle.mpx_script.specs.Grammar.{ends_with_name}
use Rattle.mpx_script.specs.Fields.{is_one}
use Rattle.mpx_script.specs.Syntax.{DirectiveSyntax, directive_in, opening_ranks, statements_in}
use Rattle.mpx_script.specs.laws.Parts.{NewSyntax, CallSyntax, AskSyntax, ask_in, call_of, communicator_in, new_of, has_unknown_word, has_wrong_count, has_wrong_end, has_wrong_question, has_strange_choice, has_strange_new_number, has_strange_count, has_strange_number, has_strange_list, has_strange_new_list, has_strange_ranks}
use Rattle.mpx_script.specs.Refusals.{is_unknown_line, on_form, has_wrong_words, has_bad_number, has_bad_list, has_wrong_requests}
use Rattle.mpx_script.specs.Meanings.{names_rank, statement_in}
use Rattle.mpx_script.specs.Naming.{BoundNames, at_some_rank, lacks_name, misnames, takes_name}
use Rattle.mpx_script.specs.Reading.{statements_limit, first_holding}
use Rattle.mpx_script.specs.declared.faults.ScriptFault.{ScriptFault}
use Rattle.mpx_script.specs.declared.faults.ScriptFault.TheVariants.{UnknownStatement, WrongWords, BadNumber, BadList, BadName, NameUnknown, NameTaken}
use Rattle.mpx_script.specs.declared.grammar.Form.{Form}
use Rattle.mpx_script.specs.declared.grammar.Form.TheVariants as M
use Rattle.mpx_script.specs.declared.grammar.QuestionForm.{QuestionForm}
use Rattle.mpx_script.specs.declared.grammar.Waited.{Waited}
use Rattle.mpx_script.specs.declared.script_line.Assignment.{Assignment}
use Rattle.mpx_script.specs.declared.script_line.Sentence.{Sentence}
use Rattle.mpx_script.specs.declared.script_line.Sentence.TheVariants.{Passed, Opening, Further}
use Rattle.mpx_statement.specs.declared.statement.Statement.{Statement}
use Rattle.mpx_script.specs.declared.faults.LineError.{LineError}
use Rattle.mpx_script.specs.declared.faults.LineError.TheVariants.{Fault, OutOfMemory}

-- the ranks from the one and below the other get the statement of a line
pub record IsAssignment (ops : List Operation) (ranks : ℕ) (directive : DirectiveSyntax) (assignment : Assignment) : Type 0 where
  pub some : assignment.from < assignment.to
  pub within : assignment.to ≤ ranks
  pub named : (rank : ℕ) → rank < ranks → names_rank rank directive ≡ (nat_le assignment.from rank && nat_lt rank assignment.to)
  pub count : statements_in ranks directive ≡ assignment.to - assignment.from
  pub statement : statement_in ops directive ≡ Some assignment.statement

-- what a line says that isn't refused, with so many ranks and statements before it
abbrev pub Says : List Operation → Option ℕ → ℕ → List (List ℕ) → Sentence → Type 0
Says ops ranks statements ws Passed = counts ws ≡ false
Says ops ranks statements ws (Opening n) = (ranks ≡ None) × (counts ws ≡ true) × (opening_ranks ws ≡ Some n) × (1 ≤ n) × (n ≤ 64)
Says ops ranks statements ws (Further assignment) = (counts ws ≡ true) × (statements + (assignment.to - assignment.from) ≤ statements_limit) × IsSomeAnd ranks (λ n. IsAssignment ops n (directive_in ws) assignment)

-- the line is refused for that, unless memory ran out
abbrev pub IsLineRefusal : Option ScriptFault → LineError → Type 0
IsLineRefusal found OutOfMemory = Unit {0}
IsLineRefusal found (Fault what) = found ≡ Some what

-- what the words behind the label are refused for
unfoldable pub statement_refusal : List Operation → DirectiveSyntax → Option ScriptFault
statement_refusal ops directive = first_holding (
    (UnknownStatement, is_unknown_line ops directive)
    ∷ (WrongWords, on_form (has_wrong_words ops) directive)
    ∷ (BadNumber, on_form (has_bad_number ops) directive)
    ∷ (BadList, on_form (has_bad_list ops) directive)
    ∷ [])

-- what a statement's names are refused for at these ranks
abbrev pub names_refusal : List BoundNames → List ℕ → Statement → Option ScriptFault
names_refusal bound ranks statement = first_holding (
    (BadName, misnames statement)
    ∷ (NameUnknown, at_some_rank bound ranks (lacks_name statement))
    ∷ (NameTaken, at_some_rank bound ranks (takes_name statement))
    ∷ [])

-- what counts of these fields are refused for where they are strange, or are not
abbrev pub faulty_counts : Fields → (scounts rcounts : Bool) → Option ScriptFault
faulty_counts fields scounts rcounts = first_holding (
    (BadNumber, (is_one fields.scounts && scounts) || (is_one fields.rcounts && rcounts))
    ∷ (BadList, (not (is_one fields.scounts) && scounts) || (not (is_one fields.rcounts) && rcounts))
    ∷ [])

-- what a call's counts are refused for
abbrev pub counts_refusal : Fields → CallSyntax → Option ScriptFault
counts_refusal fields call = first_holding (
    (BadNumber, has_strange_count fields call)
    ∷ (BadList, has_strange_list fields call)
    ∷ [])

-- what the numbers and lists of a call's fields are refused for
abbrev pub fields_refusal : Kind → CallSyntax → Option ScriptFault
fields_refusal kind call = first_holding (
    (BadNumber, has_strange_number (fields_of kind) call)
    ∷ (BadList, has_strange_list (fields_of kind) call)
    ∷ [])

-- what the ranks and the graph are refused for that a call says of a new communicator
abbrev pub new_refusal : NewSyntax → Option ScriptFault
new_refusal new = first_holding ((BadList, has_strange_new_list new) ∷ [])

-- and all that it says of a new communicator with its fields
abbrev pub draft_refusal : Kind → NewSyntax → CallSyntax → Option ScriptFault
draft_refusal kind new call = first_holding (
    (BadNumber, has_strange_choice new || has_strange_number (fields_of kind) call)
    ∷ (BadList, has_strange_list (fields_of kind) call || has_strange_new_list new)
    ∷ [])

-- and what it posts with its tag
abbrev pub posting_refusal : Kind → NewSyntax → CallSyntax → Option ScriptFault
posting_refusal kind new call = first_holding (
    (BadNumber, has_strange_new_number new || has_strange_number (fields_of kind) call)
    ∷ (BadList, has_strange_list (fields_of kind) call || has_strange_new_list new)
    ∷ [])

-- what a statement of this kind is refused for, with this communicator and these words behind it
abbrev pub call_refusal : List Operation → Kind → Mode → Option (List ℕ) → NewSyntax → CallSyntax → Option ScriptFault
call_refusal ops kind mode communicator new call = first_holding (
    (UnknownStatement, has_unknown_word ops call)
    ∷ (WrongWords, is_none communicator || has_wrong_count (fields_of kind) call || has_wrong_end (ends_with_name kind mode) call)
    ∷ (BadNumber, has_strange_new_number new || has_strange_number (fields_of kind) call)
    ∷ (BadList, has_strange_list (fields_of kind) call || has_strange_new_list new)
    ∷ [])

-- what a wait is refused for, with these words behind its own
abbrev pub wait_refusal : Waited → List (List ℕ) → Option ScriptFault
wait_refusal waited words = first_holding ((WrongWords, has_wrong_requests waited words) ∷ [])

-- what a statement that asks is refused for
abbrev pub ask_refusal : QuestionForm → AskSyntax → Option ScriptFault
ask_refusal asked ask = first_holding ((WrongWords, has_wrong_question asked ask) ∷ (BadList, has_strange_ranks ask) ∷ [])

-- what a statement of this form is refused for, with these words behind its own
abbrev pub form_refusal : List Operation → Form → List (List ℕ) → Option ScriptFault
form_refusal ops (M.Call kind mode) words = call_refusal ops kind mode (communicator_in words) (new_of kind words) (call_of kind mode words)
form_refusal ops (M.Wait waited) words = wait_refusal waited words
form_refusal ops (M.Ask asked) words = ask_refusal asked (ask_in asked words)

-- what a word says: the other value where there is no word, and None where the word says nothing
abbrev pub read_at : {A : Type 0} → (List ℕ → Option A) → A → Option (List ℕ) → Option A
read_at meaning other None = Some other
read_at meaning other (Some word) = meaning word
