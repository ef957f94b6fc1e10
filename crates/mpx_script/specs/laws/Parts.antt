-- A line as the program takes it apart: which words its parts are, what these are refused for, and what they say. Nobody has to read this
-- who trusts `Places` and `Meanings`: `proofs/Parting.antt` shows that both come to the same.
use Rattle.std.specs.Prelude.{ℕ, Bool, true, false, not, ◌==◌, ◌||◌, ◌&&◌, List, [], length, drop, slice_get, Option, Some, None, is_some, is_none, unwrap_or, ℤ, pos}
use Rattle.std.specs.List.{filter_map, list_any}
use Rattle.std.specs.Option.{option_map}
use Rattle.mpx_num.specs.Text.{number_of}
use Rattle.mpx_num.specs.declared.own.Operation.{Operation}
use Rattle.mpx_num.specs.declared.types.Ty.TheVariants as T
use Rattle.mpx_num.specs.declared.operations.Op.TheVariants as O
use Rattle.mpx_kind.specs.declared.kinds.Fields.{Fields}
use Rattle.mpx_kind.specs.declared.kinds.Kind.{Kind}
use Rattle.mpx_kind.specs.declared.kinds.Kind.TheVariants as K
use Rattle.mpx_kind.specs.declared.kinds.Mode.{Mode}
use Rattle.mpx_kind.specs.declared.kinds.Mode.TheVariants.{Blocking, Nonblocking}
use Rattle.mpx_kind.specs.declared.kinds.NewCommunicator.{NewCommunicator}
use Rattle.mpx_kind.specs.declared.kinds.NewCommunicator.TheVariants as N
use Rattle.mpx_kind.specs.declared.kinds.Number.{Number}
use Rattle.mpx_kind.specs.Kinds.{fields_of, is_had}
use Rattle.mpx_post.specs.declared.draft.Draft.{Draft}
use Rattle.mpx_post.specs.Drafts.{empty_draft}
use Rattle.mpx_post.specs.Graphs.{GraphView}
use Rattle.mpx_statement.specs.declared.statement.Posting.{Posting}
use Rattle.mpx_statement.specs.declared.statement.Posting.TheVariants.{Call, Start, New, CreateGroup}
use Rattle.mpx_statement.specs.declared.statement.Question.{Question}
use Rattle.mpx_statement.specs.declared.statement.Question.TheVariants.{Neighbours, Compare, Translate}
use Rattle.mpx_statement.specs.declared.statement.Statement.{Statement}
use Rattle.mpx_statement.specs.declared.statement.Statement.TheVariants.{Post, Wait, Ask}
use Rattle.mpx_script.specs.declared.grammar.Form.{Form}
use Rattle.mpx_script.specs.declared.grammar.Form.TheVariants as M
use Rattle.mpx_script.specs.declared.grammar.QuestionForm.{QuestionForm}
use Rattle.mpx_script.specs.declared.grammar.QuestionForm.TheVariants as A
use Rattle.mpx_script.specs.declared.grammar.Shape.{Shape}
use Rattle.mpx_script.specs.Grammar.{call_with, ends_with_name}
use Rattle.mpx_script.specs.Fields.{operation_named, type_named, is_one, counts_named, list_named, ranks_named, colour_named, is_arrow}
use Rattle.mpx_script.specs.Graphs.{edges_graph, neighbours_graph}
use Rattle.mpx_script.specs.Places.{said, next_word, words_after, last_word, words_before}
use Rattle.mpx_script.specs.Refusals.{fails, has_wrong_requests}

-- THE PARTS

-- which words a kind of call has, beside the fields of its posts: a colour and a key, a tag, a list of ranks, one of edges, lists of sources and destinations
abbrev pub shape_of_new : NewCommunicator → Shape
shape_of_new N.Dup = record { colour = false; tag = false; ranks = false; edges = false; neighbours = false }
shape_of_new N.Split = record { colour = true; tag = false; ranks = false; edges = false; neighbours = false }
shape_of_new N.Create = record { colour = false; tag = false; ranks = true; edges = false; neighbours = false }
shape_of_new N.CreateGroup = record { colour = false; tag = true; ranks = true; edges = false; neighbours = false }
shape_of_new N.DistGraph = record { colour = false; tag = false; ranks = false; edges = true; neighbours = false }
shape_of_new N.DistGraphAdjacent = record { colour = false; tag = false; ranks = false; edges = false; neighbours = true }

-- other calls have none of them
abbrev pub shape_of : Kind → Shape
shape_of (K.NewCommunicator new) = shape_of_new new
shape_of kind = record { colour = false; tag = false; ranks = false; edges = false; neighbours = false }

abbrev pub has_second : QuestionForm → Bool
has_second (A.Neighbours side) = false
has_second asked = true

abbrev pub has_ranks : QuestionForm → Bool
has_ranks A.Translate = true
has_ranks asked = false

-- these as words, and the words behind them
pub record NewSyntax : Type 0 where
  pub colour : Option (List ℕ)
  pub key : Option (List ℕ)
  pub tag : Option (List ℕ)
  pub ranks : Option (List ℕ)
  pub edges : Option (List ℕ)
  pub sources : Option (List ℕ)
  pub destinations : Option (List ℕ)
  pub behind : List (List ℕ)

-- a call as words: its fields, where its kind has them, and the arrow and the name of one that ends with a name
pub record CallSyntax : Type 0 where
  pub root : Option (List ℕ)
  pub operation : Option (List ℕ)
  pub ty : Option (List ℕ)
  pub scounts : Option (List ℕ)
  pub rcounts : Option (List ℕ)
  pub items : List (List ℕ)
  pub arrow : Option (List ℕ)
  pub name : Option (List ℕ)

-- a statement that asks as words: its communicators and its ranks, where it has them, and the words behind
pub record AskSyntax : Type 0 where
  pub first : Option (List ℕ)
  pub second : Option (List ℕ)
  pub ranks : Option (List ℕ)
  pub behind : List (List ℕ)

-- the words behind the communicator as those of a call of this shape
unfoldable pub new_in : Shape → List (List ℕ) → NewSyntax
new_in shape words =
    let at_key : List (List ℕ) = words_after shape.colour words in
    let at_tag : List (List ℕ) = words_after shape.colour at_key in
    let at_ranks : List (List ℕ) = words_after shape.tag at_tag in
    let at_edges : List (List ℕ) = words_after shape.ranks at_ranks in
    let at_sources : List (List ℕ) = words_after shape.edges at_edges in
    let at_destinations : List (List ℕ) = words_after shape.neighbours at_sources in
    record {
      colour = next_word shape.colour words;
      key = next_word shape.colour at_key;
      tag = next_word shape.tag at_tag;
      ranks = next_word shape.ranks at_ranks;
      edges = next_word shape.edges at_edges;
      sources = next_word shape.neighbours at_sources;
      destinations = next_word shape.neighbours at_destinations;
      behind = words_after shape.neighbours at_destinations;
    }

-- the words behind these as those of a call with these fields, which ends with a name or doesn't
unfoldable pub call_in : Fields → (named : Bool) → List (List ℕ) → CallSyntax
call_in fields named words =
    let at_operation : List (List ℕ) = words_after fields.root words in
    let at_type : List (List ℕ) = words_after fields.op at_operation in
    let at_scounts : List (List ℕ) = words_after fields.items at_type in
    let at_rcounts : List (List ℕ) = words_after (is_had fields.scounts) at_scounts in
    let at_items : List (List ℕ) = words_after (is_had fields.rcounts) at_rcounts in
    let up_to_arrow : List (List ℕ) = words_before named at_items in
    record {
      root = next_word fields.root words;
      operation = next_word fields.op at_operation;
      ty = next_word fields.items at_type;
      scounts = next_word (is_had fields.scounts) at_scounts;
      rcounts = next_word (is_had fields.rcounts) at_rcounts;
      items = words_before named up_to_arrow;
      arrow = last_word named up_to_arrow;
      name = last_word named at_items;
    }

-- the words behind a statement as those of one that asks
unfoldable pub ask_in : QuestionForm → List (List ℕ) → AskSyntax
ask_in asked words =
    let at_second : List (List ℕ) = drop 1 words in
    let at_ranks : List (List ℕ) = words_after (has_second asked) at_second in
    record {
      first = slice_get words 0;
      second = next_word (has_second asked) at_second;
      ranks = next_word (has_ranks asked) at_ranks;
      behind = words_after (has_ranks asked) at_ranks;
    }

-- the words behind a statement as those of a call of a kind: the communicator, what is said of a new one, and the fields

abbrev pub communicator_in : List (List ℕ) → Option (List ℕ)
communicator_in words = slice_get words 0

abbrev pub new_of : Kind → List (List ℕ) → NewSyntax
new_of kind words = new_in (shape_of kind) (drop 1 words)

abbrev pub call_of : Kind → Mode → List (List ℕ) → CallSyntax
call_of kind mode words = call_in (fields_of kind) (ends_with_name kind mode) (new_of kind words).behind

-- WHAT THEY ARE REFUSED FOR

-- another operation or type
abbrev pub has_unknown_word : List Operation → CallSyntax → Bool
has_unknown_word ops call = fails (λ word. is_some (operation_named ops word)) call.operation || fails (λ word. is_some (type_named word)) call.ty

-- a word is asked for and isn't there
abbrev pub lacks : Bool → Option (List ℕ) → Bool
lacks asked word = asked && is_none word

-- words are missing, or there are more than the call has fields
abbrev pub has_wrong_count : Fields → CallSyntax → Bool
has_wrong_count fields call = lacks fields.root call.root
    || lacks fields.op call.operation
    || lacks fields.items call.ty
    || lacks (is_had fields.scounts) call.scounts
    || lacks (is_had fields.rcounts) call.rcounts
    || (not fields.items && not (length call.items == 0))

-- the arrow before a name is missing, as it is wherever the name is, or another word stands there
abbrev pub has_wrong_end : (named : Bool) → CallSyntax → Bool
has_wrong_end named call = lacks named call.arrow || fails is_arrow call.arrow

-- a word is missing, or there are more
abbrev pub has_wrong_question : QuestionForm → AskSyntax → Bool
has_wrong_question asked ask = is_none ask.first || lacks (has_second asked) ask.second || lacks (has_ranks asked) ask.ranks || not (length ask.behind == 0)

-- whether a word is a number
abbrev pub is_number : List ℕ → Bool
is_number word = is_some (number_of word)

-- whether a word is a list
abbrev pub is_list : List ℕ → Bool
is_list word = is_some (list_named word)

-- a colour or a key is none
abbrev pub has_strange_choice : NewSyntax → Bool
has_strange_choice new = fails (λ word. is_some (colour_named word)) new.colour || fails is_number new.key

-- or a tag is no number
abbrev pub has_strange_new_number : NewSyntax → Bool
has_strange_new_number new = fails is_number new.tag || has_strange_choice new

-- counts are none
abbrev pub are_strange : Number → Option (List ℕ) → Bool
are_strange number word = fails (λ word. is_some (counts_named number word)) word

-- a single count is no number
abbrev pub has_strange_count : Fields → CallSyntax → Bool
has_strange_count fields call = (is_one fields.scounts && are_strange fields.scounts call.scounts) || (is_one fields.rcounts && are_strange fields.rcounts call.rcounts)

-- a root, a single count or an item is no number
abbrev pub has_strange_number : Fields → CallSyntax → Bool
has_strange_number fields call = fails is_number call.root
    || has_strange_count fields call
    || list_any (λ word. not (is_number word)) call.items

-- send counts or receive counts are no list
abbrev pub has_strange_list : Fields → CallSyntax → Bool
has_strange_list fields call = (not (is_one fields.scounts) && are_strange fields.scounts call.scounts) || (not (is_one fields.rcounts) && are_strange fields.rcounts call.rcounts)

-- the graph of these words, if the kind has them; none where they are no lists of one
abbrev pub graph_at : (edges sources destinations : Option (List ℕ)) → Option (Option GraphView)
graph_at (Some edges) sources destinations = option_map Some (edges_graph edges)
graph_at None (Some sources) (Some destinations) = option_map Some (neighbours_graph sources destinations)
graph_at edges sources destinations = Some None

unfoldable pub graph_in : NewSyntax → Option (Option GraphView)
graph_in new = graph_at new.edges new.sources new.destinations

-- ranks are no list, or the words of a graph are none
abbrev pub has_strange_new_list : NewSyntax → Bool
has_strange_new_list new = fails is_list new.ranks || is_none (graph_in new)

-- ranks that may be none are no list
abbrev pub has_strange_ranks : AskSyntax → Bool
has_strange_ranks ask = fails (λ word. is_some (ranks_named word)) ask.ranks

-- WHAT THEY SAY

-- the draft of a call by its fields; a field that the kind hasn't is 0, sum, i8, no counts or no graph
abbrev pub call_draft_in : List Operation → Kind → Mode → CallSyntax → Draft
call_draft_in ops kind mode call = record (empty_draft (call_with mode kind)) {
  root = said number_of (pos 0) call.root;
  op = said (operation_named ops) O.Sum call.operation;
  ty = said type_named T.I8 call.ty;
  scounts = said (counts_named (fields_of kind).scounts) [] call.scounts;
  rcounts = said (counts_named (fields_of kind).rcounts) [] call.rcounts;
  items = filter_map number_of call.items;
}

-- with what it says of a new communicator
abbrev pub draft_in : List Operation → Kind → Mode → NewSyntax → CallSyntax → Draft
draft_in ops kind mode new call = record (call_draft_in ops kind mode call) {
  colour = said colour_named None new.colour;
  key = said number_of (pos 0) new.key;
  group = said list_named [] new.ranks;
  graph = unwrap_or (graph_in new) None;
}

-- what a call of this mode posts that makes no communicator
abbrev pub call_posted : Mode → (on : List ℕ) → Draft → (request : List ℕ) → Posting
call_posted Blocking on draft request = Call on draft
call_posted Nonblocking on draft request = Start on draft request

-- what one posts that makes one
abbrev pub new_posted : NewCommunicator → (on : List ℕ) → Draft → (tag : ℤ) → (target : List ℕ) → Posting
new_posted N.CreateGroup on draft tag target = CreateGroup on tag draft.group target
new_posted new on draft tag target = New on draft target

-- what one of a kind posts on a communicator, with this draft, this tag, and this name for the new one or for the request
abbrev pub call_or_new_posted : Kind → Mode → (on : List ℕ) → Draft → (tag : ℤ) → (name : List ℕ) → Posting
call_or_new_posted (K.NewCommunicator new) mode on draft tag name = new_posted new on draft tag name
call_or_new_posted kind mode on draft tag name = call_posted mode on draft name

abbrev pub posting_said : List Operation → Kind → Mode → Option (List ℕ) → NewSyntax → CallSyntax → Posting
posting_said ops kind mode communicator new call = call_or_new_posted kind mode (unwrap_or communicator []) (draft_in ops kind mode new call) (said number_of (pos 0) new.tag) (unwrap_or call.name [])

abbrev pub question_said : QuestionForm → AskSyntax → Question
question_said (A.Neighbours side) ask = Neighbours (unwrap_or ask.first []) side
question_said A.Compare ask = Compare (unwrap_or ask.first []) (unwrap_or ask.second [])
question_said A.Translate ask = Translate (unwrap_or ask.first []) (unwrap_or ask.second []) (said ranks_named [] ask.ranks)

-- the words behind a statement's word as a statement of that form
abbrev pub parted_statement : List Operation → Form → List (List ℕ) → Statement
parted_statement ops (M.Call kind mode) words = Post (posting_said ops kind mode (communicator_in words) (new_of kind words) (call_of kind mode words))
parted_statement ops (M.Wait waited) words = Wait words
parted_statement ops (M.Ask asked) words = Ask (question_said asked (ask_in asked words))
