-- The words behind the word of a call: in which places they stand, what each is refused for, and what it says.
use Rattle.std.specs.Prelude.{ℕ, ◌-◌, Bool, true, false, cond, List, [], ◌∷◌, length, take, drop, slice_get, Option, Some, None, is_some, unwrap_or, option_and_then, ℤ, if◌then◌else◌}
use Rattle.std.specs.Option.{option_map}
use Rattle.mpx_num.specs.Text.{number_of}
use Rattle.mpx_num.specs.declared.own.Operation.{Operation}
use Rattle.mpx_kind.specs.declared.kinds.Fields.{Fields}
use Rattle.mpx_kind.specs.declared.kinds.Kind.{Kind}
use Rattle.mpx_kind.specs.declared.kinds.Kind.TheVariants as K
use Rattle.mpx_kind.specs.declared.kinds.Mode.{Mode}
use Rattle.mpx_kind.specs.declared.kinds.NewCommunicator.TheVariants as N
use Rattle.mpx_kind.specs.declared.kinds.Number.{Number}
use Rattle.mpx_kind.specs.Kinds.{fields_of, is_had}
use Rattle.mpx_post.specs.declared.draft.Draft.{Draft}
use Rattle.mpx_script.specs.Grammar.{ends_with_name}
use Rattle.mpx_script.specs.Fields.{operation_named, type_named, is_one, counts_named, list_named, colour_named}
use Rattle.mpx_script.specs.Graphs.{edges_graph, neighbours_graph}
use Rattle.mpx_script.specs.declared.faults.ScriptFault.{ScriptFault}
use Rattle.mpx_script.specs.declared.faults.ScriptFault.TheVariants.{UnknownStatement, BadNumber, BadList}

-- what a word says, and something else where there is no word
abbrev pub said : {A : Type 0} → (List ℕ → Option A) → A → Option (List ℕ) → A
said meaning other word = unwrap_or (option_and_then meaning word) other

-- a place: whether a call has a word there, what a word without a meaning is refused for, which words have one, and the draft with what a word says
pub record Place : Type 0 where
  pub had : Bool
  pub fault : ScriptFault
  pub means : List ℕ → Bool
  pub fills : Option (List ℕ) → Draft → Draft

-- the place of words with this meaning. A word is put into the draft by what it makes of the value that stands there: what it says, if it is there
abbrev pub place : {A : Type 0} → (had : Bool) → ScriptFault → (List ℕ → Option A) → (put : (A → A) → Draft → Draft) → Place
place had fault meaning put = record { had = had; fault = fault; means = λ word. is_some (meaning word); fills = λ word draft. put (λ other. said meaning other word) draft }

abbrev pub ranks_place : Place
ranks_place = place true BadList list_named (λ say d. record d { group = say d.group })

-- of counts: one number, or a list
abbrev pub counts_place : Number → ((List ℤ → List ℤ) → Draft → Draft) → Place
counts_place number put = place (is_had number) (if is_one number then BadNumber else BadList) (counts_named number) put

-- the places of a call behind its communicator, in their order, by its words there: destinations are read with the sources before them
abbrev pub places : List Operation → Kind → List (List ℕ) → List Place
places ops (K.NewCommunicator N.Dup) words = []
places ops (K.NewCommunicator N.Split) words = place true BadNumber colour_named (λ say d. record d { colour = say d.colour }) ∷ place true BadNumber number_of (λ say d. record d { key = say d.key }) ∷ []
places ops (K.NewCommunicator N.Create) words = ranks_place ∷ []
places ops (K.NewCommunicator N.CreateGroup) words = place true BadNumber number_of (λ say d. d) ∷ ranks_place ∷ []
places ops (K.NewCommunicator N.DistGraph) words = place true BadList (λ edges. option_map Some (edges_graph edges)) (λ say d. record d { graph = say d.graph }) ∷ []
places ops (K.NewCommunicator N.DistGraphAdjacent) words = place true BadList Some (λ say d. d)
    ∷ place true BadList (λ to. option_map Some (option_and_then (λ from. neighbours_graph from to) (slice_get words 0))) (λ say d. record d { graph = say d.graph }) ∷ []
places ops kind words = place (fields_of kind).root BadNumber number_of (λ say d. record d { root = say d.root })
    ∷ place (fields_of kind).op UnknownStatement (operation_named ops) (λ say d. record d { op = say d.op })
    ∷ place (fields_of kind).items UnknownStatement type_named (λ say d. record d { ty = say d.ty })
    ∷ counts_place (fields_of kind).scounts (λ say d. record d { scounts = say d.scounts })
    ∷ counts_place (fields_of kind).rcounts (λ say d. record d { rcounts = say d.rcounts })
    ∷ []

-- the next word, where it is asked for, and the words after it
abbrev pub next_word : Bool → List (List ℕ) → Option (List ℕ)
next_word asked words = cond asked (slice_get words 0) None

abbrev pub words_after : Bool → List (List ℕ) → List (List ℕ)
words_after asked words = cond asked (drop 1 words) words

-- the last word, where it is asked for, and the words before it
abbrev pub last_word : Bool → List (List ℕ) → Option (List ℕ)
last_word asked words = cond asked (slice_get words (length words - 1)) None

abbrev pub words_before : Bool → List (List ℕ) → List (List ℕ)
words_before asked words = cond asked (take (length words - 1) words) words

-- each place with its word, and the words behind them
abbrev pub seated : List Place → List (List ℕ) → List (Place × Option (List ℕ))
seated [] words = []
seated (p ∷ more) words = (p, next_word p.had words) ∷ seated more (words_after p.had words)

abbrev pub behind : List Place → List (List ℕ) → List (List ℕ)
behind [] words = words
behind (p ∷ more) words = behind more (words_after p.had words)

-- a call by its words: its places, its items, and the arrow and the name, where it ends with a name
pub record CallWords : Type 0 where
  pub seats : List (Place × Option (List ℕ))
  pub items : List (List ℕ)
  pub arrow : Option (List ℕ)
  pub name : Option (List ℕ)

-- by the words behind its communicator
abbrev pub call_words : List Operation → Kind → Mode → List (List ℕ) → CallWords
call_words ops kind mode words =
    let at_items : List (List ℕ) = behind (places ops kind words) words in
    let up_to_arrow : List (List ℕ) = words_before (ends_with_name kind mode) at_items in
    record {
      seats = seated (places ops kind words) words;
      items = words_before (ends_with_name kind mode) up_to_arrow;
      arrow = last_word (ends_with_name kind mode) up_to_arrow;
      name = last_word (ends_with_name kind mode) at_items;
    }
