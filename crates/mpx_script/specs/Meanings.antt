-- What a line that isn't refused says.
use Rattle.std.specs.Prelude.{ℕ, Bool, true, false, ◌==◌, List, [], ◌∷◌, drop, slice_get, slice_index_or, Option, Some, None, unwrap_or, pos, if◌then◌else◌}
use Rattle.std.specs.List.{filter_map}
use Rattle.std.specs.Option.{option_map}
use Rattle.mpx_num.specs.Text.{number_of}
use Rattle.mpx_num.specs.declared.own.Operation.{Operation}
use Rattle.mpx_kind.specs.declared.kinds.Kind.{Kind}
use Rattle.mpx_kind.specs.declared.kinds.Mode.{Mode}
use Rattle.mpx_kind.specs.declared.kinds.Mode.TheVariants.{Blocking, Nonblocking}
use Rattle.mpx_kind.specs.declared.kinds.Kind.TheVariants as K
use Rattle.mpx_kind.specs.declared.kinds.NewCommunicator.TheVariants as N
use Rattle.mpx_post.specs.declared.draft.Draft.{Draft}
use Rattle.mpx_post.specs.Drafts.{empty_draft}
use Rattle.mpx_script.specs.declared.grammar.Form.{Form}
use Rattle.mpx_script.specs.declared.grammar.Form.TheVariants as M
use Rattle.mpx_script.specs.declared.grammar.Label.{Label}
use Rattle.mpx_script.specs.declared.grammar.Label.TheVariants.{Every, Numbered}
use Rattle.mpx_script.specs.declared.grammar.QuestionForm.{QuestionForm}
use Rattle.mpx_script.specs.declared.grammar.QuestionForm.TheVariants as A
use Rattle.mpx_statement.specs.declared.statement.Posting.{Posting}
use Rattle.mpx_statement.specs.declared.statement.Posting.TheVariants.{Call, Start, New, CreateGroup}
use Rattle.mpx_statement.specs.declared.statement.Question.{Question}
use Rattle.mpx_statement.specs.declared.statement.Question.TheVariants.{Neighbours, Compare, Translate}
use Rattle.mpx_statement.specs.declared.statement.Statement.{Statement}
use Rattle.mpx_statement.specs.declared.statement.Statement.TheVariants.{Post, Wait, Ask}
use Rattle.mpx_script.specs.Grammar.{call_with}
use Rattle.mpx_script.specs.Fields.{ranks_named}
use Rattle.mpx_script.specs.Places.{Place, CallWords, call_words, said}
use Rattle.mpx_script.specs.Syntax.{DirectiveSyntax, form_in, label_in}

abbrev pub is_meant : ℕ → Option Label → Bool
is_meant rank (Some Every) = true
is_meant rank (Some (Numbered (pos n))) = n == rank
is_meant rank label = false

-- the line is for the rank
unfoldable pub names_rank : ℕ → DirectiveSyntax → Bool
names_rank rank directive = is_meant rank (label_in directive)

-- the draft with what the words in their places say
abbrev pub filled : List (Place × Option (List ℕ)) → Draft → Draft
filled [] draft = draft
filled (seat ∷ more) draft = filled more (seat.0.fills seat.1 draft)

-- and with the items
abbrev pub draft_by : Kind → Mode → CallWords → Draft
draft_by kind mode call = record (filled call.seats (empty_draft (call_with mode kind))) { items = filter_map number_of call.items }

-- what a call posts on a communicator, with this draft, the word behind the communicator, and this name for its new communicator or its request
abbrev pub posting_of : Kind → Mode → (on : List ℕ) → Draft → (tag : Option (List ℕ)) → (name : List ℕ) → Posting
posting_of (K.NewCommunicator N.CreateGroup) mode on draft tag name = CreateGroup on (said number_of (pos 0) tag) draft.group name
posting_of (K.NewCommunicator new) mode on draft tag name = New on draft name
posting_of kind Blocking on draft tag name = Call on draft
posting_of kind Nonblocking on draft tag name = Start on draft name

-- by its words
abbrev pub posting_by : Kind → Mode → List (List ℕ) → CallWords → Posting
posting_by kind mode words call = posting_of kind mode (unwrap_or (slice_get words 0) []) (draft_by kind mode call) (slice_get words 1) (unwrap_or call.name [])

abbrev pub question_by : QuestionForm → List (List ℕ) → Question
question_by (A.Neighbours side) words = Neighbours (slice_index_or words 0 []) side
question_by A.Compare words = Compare (slice_index_or words 0 []) (slice_index_or words 1 [])
question_by A.Translate words = Translate (slice_index_or words 0 []) (slice_index_or words 1 []) (said ranks_named [] (slice_get words 2))

-- the words behind a statement's word as a statement of that form
abbrev pub statement_as : List Operation → Form → List (List ℕ) → Statement
statement_as ops (M.Call kind mode) words = Post (posting_by kind mode words (call_words ops kind mode (drop 1 words)))
statement_as ops (M.Wait waited) words = Wait words
statement_as ops (M.Ask asked) words = Ask (question_by asked words)

unfoldable pub statement_in : List Operation → DirectiveSyntax → Option Statement
statement_in ops directive = option_map (λ form. statement_as ops form directive.behind) (form_in directive)

-- what the line gives the rank
abbrev pub line_gives : List Operation → ℕ → DirectiveSyntax → Option Statement
line_gives ops rank directive = if names_rank rank directive then statement_in ops directive else None
