-- What a line is refused for.
use Rattle.std.specs.Prelude.{ℕ, Bool, true, false, not, ◌==◌, ◌||◌, ◌&&◌, List, length, drop, slice_get, Option, Some, None, is_some, is_none}
use Rattle.std.specs.List.{list_any}
use Rattle.std.specs.Option.{option_map_or}
use Rattle.mpx_num.specs.Text.{number_of}
use Rattle.mpx_num.specs.declared.own.Operation.{Operation}
use Rattle.mpx_kind.specs.Kinds.{fields_of}
use Rattle.mpx_script.specs.declared.faults.ScriptFault.{ScriptFault}
use Rattle.mpx_script.specs.declared.faults.ScriptFault.TheVariants.{UnknownStatement, BadNumber, BadList}
use Rattle.mpx_script.specs.declared.grammar.Form.{Form}
use Rattle.mpx_script.specs.declared.grammar.Form.TheVariants as M
use Rattle.mpx_script.specs.declared.grammar.Label.{Label}
use Rattle.mpx_script.specs.declared.grammar.Label.TheVariants.{Numbered}
use Rattle.mpx_script.specs.declared.grammar.QuestionForm.{QuestionForm}
use Rattle.mpx_script.specs.declared.grammar.QuestionForm.TheVariants as A
use Rattle.mpx_script.specs.declared.grammar.Waited.{Waited}
use Rattle.mpx_script.specs.declared.grammar.Waited.TheVariants as W
use Rattle.mpx_statement.specs.Lookups.{below}
use Rattle.mpx_script.specs.Grammar.{ends_with_name}
use Rattle.mpx_script.specs.Fields.{ranks_named, is_arrow}
use Rattle.mpx_script.specs.Places.{Place, CallWords, call_words}
use Rattle.mpx_script.specs.Syntax.{DirectiveSyntax, form_in, label_in}

-- there is such a word, and it fails the test
abbrev pub fails : (List ℕ → Bool) → Option (List ℕ) → Bool
fails test None = false
fails test (Some word) = not (test word)

abbrev pub is_past : ℕ → Option Label → Bool
is_past ranks (Some (Numbered z)) = is_none (below ranks z)
is_past ranks label = false

-- what words are refused for is this
abbrev pub is_fault : (asked fault : ScriptFault) → Bool
is_fault UnknownStatement UnknownStatement = true
is_fault BadNumber BadNumber = true
is_fault BadList BadList = true
is_fault asked fault = false

-- a word of a call has no meaning in its place, which is refused for that
abbrev pub has_fault : ScriptFault → CallWords → Bool
has_fault asked call = list_any (λ (seat : Place × Option (List ℕ)). is_fault asked seat.0.fault && fails seat.0.means seat.1) call.seats

-- a word of a call is missing, there are more than it has places, or no `->` stands before its name
abbrev pub has_wrong_call : (items named : Bool) → CallWords → Bool
has_wrong_call items named call = list_any (λ (seat : Place × Option (List ℕ)). seat.0.had && is_none seat.1) call.seats
    || (not items && not (length call.items == 0))
    || (named && is_none call.arrow)
    || fails is_arrow call.arrow

-- no request, or more than the one
abbrev pub has_wrong_requests : Waited → List (List ℕ) → Bool
has_wrong_requests W.One words = not (length words == 1)
has_wrong_requests W.All words = length words == 0

-- so many words stand behind a question's word
abbrev pub words_asked : QuestionForm → ℕ
words_asked (A.Neighbours side) = 1
words_asked A.Compare = 2
words_asked A.Translate = 3

-- another operation or type
abbrev pub is_unknown_as : List Operation → Form → List (List ℕ) → Bool
is_unknown_as ops (M.Call kind mode) words = has_fault UnknownStatement (call_words ops kind mode (drop 1 words))
is_unknown_as ops form words = false

-- the words behind the statement aren't as many as it asks for, or another word stands for `->`
abbrev pub has_wrong_words : List Operation → Form → List (List ℕ) → Bool
has_wrong_words ops (M.Call kind mode) words = is_none (slice_get words 0) || has_wrong_call (fields_of kind).items (ends_with_name kind mode) (call_words ops kind mode (drop 1 words))
has_wrong_words ops (M.Wait waited) words = has_wrong_requests waited words
has_wrong_words ops (M.Ask asked) words = not (length words == words_asked asked)

-- a root, a single count, a tag, a colour, a key or an item is none
abbrev pub has_bad_number : List Operation → Form → List (List ℕ) → Bool
has_bad_number ops (M.Call kind mode) words = has_fault BadNumber (call_words ops kind mode (drop 1 words)) || list_any (λ word. is_none (number_of word)) (call_words ops kind mode (drop 1 words)).items
has_bad_number ops form words = false

-- counts, ranks or the words of a graph are none
abbrev pub has_bad_list : List Operation → Form → List (List ℕ) → Bool
has_bad_list ops (M.Call kind mode) words = has_fault BadList (call_words ops kind mode (drop 1 words))
has_bad_list ops (M.Ask A.Translate) words = fails (λ word. is_some (ranks_named word)) (slice_get words 2)
has_bad_list ops form words = false

-- WHERE A LINE IS REFUSED

-- no `R: STATEMENT`, or another statement, operation or type
unfoldable pub is_unknown_line : List Operation → DirectiveSyntax → Bool
is_unknown_line ops directive = is_none (label_in directive) || option_map_or (λ form. is_unknown_as ops form directive.behind) (form_in directive) true

-- the statement's words are refused by this test, by its form
unfoldable pub on_form : (Form → List (List ℕ) → Bool) → DirectiveSyntax → Bool
on_form test directive = option_map_or (λ form. test form directive.behind) (form_in directive) false
