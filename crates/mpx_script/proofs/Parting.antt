-- The program's way to take a line apart comes to what its places say, and to the same refusal.
use Rattle.std.proofs.Common.{◌≡◌, ℕ, suc, ◌==◌, Bool, true, false, not, ◌||◌, ◌&&◌, List, [], ◌∷◌, length, Option, Some, None, is_some, is_none, refl, sym, ap, ◌∙◌, arith}
use Rattle.std.specs.Prelude.{if◌then◌else◌}
use Rattle.std.specs.List.{list_any}
use Rattle.std.specs.Option.{option_map}
use Rattle.std.proofs.lemmas.Bool.Decides.{nat_tests}
use Rattle.mpx_num.specs.Text.{number_of}
use Rattle.mpx_num.specs.declared.own.Operation.{Operation}
use Rattle.mpx_kind.specs.declared.kinds.Fields.{Fields}
use Rattle.mpx_kind.specs.declared.kinds.Kind.{Kind}
use Rattle.mpx_kind.specs.declared.kinds.Kind.TheVariants as K
use Rattle.mpx_kind.specs.declared.kinds.Mode.{Mode}
use Rattle.mpx_kind.specs.declared.kinds.Mode.TheVariants.{Blocking, Nonblocking}
use Rattle.mpx_kind.specs.declared.kinds.NewCommunicator.TheVariants as N
use Rattle.mpx_kind.specs.Kinds.{fields_of, is_had}
use Rattle.mpx_script.specs.declared.faults.ScriptFault.{ScriptFault}
use Rattle.mpx_script.specs.declared.faults.ScriptFault.TheVariants.{UnknownStatement, WrongWords, BadNumber, BadList}
use Rattle.mpx_script.specs.declared.grammar.Form.{Form}
use Rattle.mpx_script.specs.declared.grammar.Form.TheVariants as M
use Rattle.mpx_script.specs.declared.grammar.QuestionForm.{QuestionForm}
use Rattle.mpx_script.specs.declared.grammar.QuestionForm.TheVariants as A
use Rattle.mpx_script.specs.Grammar.{ends_with_name}
use Rattle.mpx_script.specs.Fields.{operation_named, type_named, is_one, list_named, ranks_named, colour_named, is_arrow}
use Rattle.mpx_script.specs.Graphs.{edges_graph, neighbours_graph}
use Rattle.mpx_script.specs.Places.{last_word, words_before}
use Rattle.mpx_script.specs.Refusals.{fails, is_fault, is_unknown_as, has_wrong_words, has_bad_number, has_bad_list}
use Rattle.mpx_script.specs.Meanings.{statement_as}
use Rattle.mpx_script.specs.laws.Parts.{CallSyntax, ask_in, call_in, call_of, communicator_in, graph_in, new_in, has_unknown_word, has_wrong_count, has_wrong_end, has_strange_number, has_strange_list, are_strange, is_number, lacks, parted_statement}
use Rattle.mpx_script.specs.Reading.{first_holding}
use Rattle.mpx_script.specs.Sentences.{form_refusal}

-- what is refused for these
abbrev of_four : (unknown wrong number list : Bool) → Option ScriptFault
of_four unknown wrong number list = first_holding ((UnknownStatement, unknown) ∷ (WrongWords, wrong) ∷ (BadNumber, number) ∷ (BadList, list) ∷ [])

-- TESTS OF WORDS IN PLACES, in their order, and as the program asks them

-- counts of which one is asked for are refused as a number, others as a list
abbrev count_fault : (asked : ScriptFault) → (one strange : Bool) → Bool
count_fault asked one strange = is_fault asked (if one then BadNumber else BadList) && strange

unknown_same : (op ty one_sent sent one_received received : Bool)
    → (op || (ty || (count_fault UnknownStatement one_sent sent || (count_fault UnknownStatement one_received received || false)))) ≡ (op || ty)
unknown_same true ty one_sent sent one_received received = refl
unknown_same false true one_sent sent one_received received = refl
unknown_same false false true sent true received = refl
unknown_same false false true sent false received = refl
unknown_same false false false sent true received = refl
unknown_same false false false sent false received = refl

number_same : (root one_sent sent one_received received items : Bool)
    → ((root || (count_fault BadNumber one_sent sent || (count_fault BadNumber one_received received || false))) || items) ≡ (root || ((one_sent && sent) || (one_received && received)) || items)
number_same true one_sent sent one_received received items = refl
number_same false true true one_received received items = refl
number_same false true false true true items = refl
number_same false true false true false items = refl
number_same false true false false received items = refl
number_same false false sent true true items = refl
number_same false false sent true false items = refl
number_same false false sent false received items = refl

list_same : (one_sent sent one_received received : Bool)
    → (count_fault BadList one_sent sent || (count_fault BadList one_received received || false)) ≡ (((not one_sent && sent) || (not one_received && received)) || false)
list_same true sent true received = refl
list_same true sent false true = refl
list_same true sent false false = refl
list_same false true one_received received = refl
list_same false false true received = refl
list_same false false false true = refl
list_same false false false false = refl

wrong_same : (on root op ty sent received items arrow strange : Bool)
    → (on || ((root || (op || (ty || (sent || (received || false))))) || items || arrow || strange)) ≡ (on || (root || op || ty || sent || received || items) || (arrow || strange))
wrong_same true root op ty sent received items arrow strange = refl
wrong_same false true op ty sent received items arrow strange = refl
wrong_same false false true ty sent received items arrow strange = refl
wrong_same false false false true sent received items arrow strange = refl
wrong_same false false false false true received items arrow strange = refl
wrong_same false false false false false true items arrow strange = refl
wrong_same false false false false false false true arrow strange = refl
wrong_same false false false false false false false arrow strange = refl

-- A CALL THAT MAKES NO COMMUNICATOR

module _ (ops : List Operation) (kind : Kind) (mode : Mode) (words : List (List ℕ)) where
  abbrev fields : Fields
  fields = fields_of kind

  abbrev call : CallSyntax
  call = call_of kind mode words

  abbrev named : Bool
  named = ends_with_name kind mode

  abbrev root : Bool
  root = fails is_number call.root

  abbrev op : Bool
  op = fails (λ word. is_some (operation_named ops word)) call.operation

  abbrev ty : Bool
  ty = fails (λ word. is_some (type_named word)) call.ty

  abbrev sent : Bool
  sent = are_strange fields.scounts call.scounts

  abbrev received : Bool
  received = are_strange fields.rcounts call.rcounts

  abbrev items : Bool
  items = list_any (λ word. not (is_number word)) call.items

  of_fields : of_four
      (op || (ty || (count_fault UnknownStatement (is_one fields.scounts) sent || (count_fault UnknownStatement (is_one fields.rcounts) received || false))))
      (is_none (communicator_in words) || ((lacks fields.root call.root || (lacks fields.op call.operation || (lacks fields.items call.ty || (lacks (is_had fields.scounts) call.scounts || (lacks (is_had fields.rcounts) call.rcounts || false))))) || (not fields.items && not (length call.items == 0)) || lacks named call.arrow || fails is_arrow call.arrow))
      ((root || (count_fault BadNumber (is_one fields.scounts) sent || (count_fault BadNumber (is_one fields.rcounts) received || false))) || items)
      (count_fault BadList (is_one fields.scounts) sent || (count_fault BadList (is_one fields.rcounts) received || false))
      ≡ of_four (has_unknown_word ops call) (is_none (communicator_in words) || has_wrong_count fields call || has_wrong_end named call) (has_strange_number fields call) (has_strange_list fields call || false)
  of_fields = λ i. of_four
      (unknown_same op ty (is_one fields.scounts) sent (is_one fields.rcounts) received i)
      (wrong_same (is_none (communicator_in words)) (lacks fields.root call.root) (lacks fields.op call.operation) (lacks fields.items call.ty) (lacks (is_had fields.scounts) call.scounts) (lacks (is_had fields.rcounts) call.rcounts) (not fields.items && not (length call.items == 0)) (lacks named call.arrow) (fails is_arrow call.arrow) i)
      (number_same root (is_one fields.scounts) sent (is_one fields.rcounts) received items i)
      (list_same (is_one fields.scounts) sent (is_one fields.rcounts) received i)

-- ONE THAT MAKES A COMMUNICATOR, by the words behind those of its places

or_nothing : (a : Bool) → (a || false) ≡ a
or_nothing true = refl
or_nothing false = refl

two_numbers : (a b : Bool) → (a || (b || false)) ≡ (a || b)
two_numbers true b = refl
two_numbers false b = or_nothing b

end_same : (items arrow strange : Bool) → (items || arrow || strange) ≡ (items || (arrow || strange))
end_same true arrow strange = refl
end_same false arrow strange = refl

module _ (named : Bool) (rest : List (List ℕ)) where
  abbrev left : List (List ℕ)
  left = words_before named (words_before named rest)

  abbrev arrow : Option (List ℕ)
  arrow = last_word named (words_before named rest)

  -- its numbers and lists are refused alike
  of_new : (number number' list list' : Bool) → number ≡ number' → list ≡ list'
      → of_four false (not (length left == 0) || lacks named arrow || fails is_arrow arrow) (number || list_any (λ word. not (is_number word)) left) list
      ≡ of_four false (not (length left == 0) || (lacks named arrow || fails is_arrow arrow)) (number' || list_any (λ word. not (is_number word)) left) list'
  of_new number number' list list' numbers lists = λ i. of_four false (end_same (not (length left == 0)) (lacks named arrow) (fails is_arrow arrow) i) (numbers i || list_any (λ word. not (is_number word)) left) (lists i)

-- A STATEMENT THAT ASKS, with more words than it asks for

not_none : (n : ℕ) → (suc n == 0) ≡ false
not_none n = grind (arith, nat_tests)

not_one : (n : ℕ) → (suc (suc n) == 1) ≡ false
not_one n = grind (arith, nat_tests)

not_two : (n : ℕ) → (suc (suc (suc n)) == 2) ≡ false
not_two n = grind (arith, nat_tests)

not_three : (n : ℕ) → (suc (suc (suc (suc n))) == 3) ≡ false
not_three n = grind (arith, nat_tests)

too_many : (asked behind : Bool) (other : Option ScriptFault) → asked ≡ false → behind ≡ false → (if not asked then Some WrongWords else other) ≡ (if not behind then Some WrongWords else other)
too_many asked behind other a l = ap (λ (b : Bool). if not b then Some WrongWords else other) (a ∙ sym l)

-- ALL FORMS

pub parted_refusal : (ops : List Operation) (form : Form) (words : List (List ℕ))
    → of_four (is_unknown_as ops form words) (has_wrong_words ops form words) (has_bad_number ops form words) (has_bad_list ops form words) ≡ form_refusal ops form words
unfolding new_in call_in ask_in graph_in
parted_refusal ops (M.Call (K.Exchange exchange) mode) words = of_fields ops (K.Exchange exchange) mode words
parted_refusal ops (M.Call (K.Reduction reduction) mode) words = of_fields ops (K.Reduction reduction) mode words
parted_refusal ops (M.Call (K.Neighbourhood exchange) mode) words = of_fields ops (K.Neighbourhood exchange) mode words
parted_refusal ops (M.Call K.Free mode) words = of_fields ops K.Free mode words
parted_refusal ops (M.Call (K.NewCommunicator N.Dup) mode) [] = refl
parted_refusal ops (M.Call (K.NewCommunicator N.Dup) mode) (on ∷ rest) = of_new (ends_with_name (K.NewCommunicator N.Dup) mode) rest false false false false refl refl
parted_refusal ops (M.Call (K.NewCommunicator N.Split) mode) [] = refl
parted_refusal ops (M.Call (K.NewCommunicator N.Split) Blocking) (on ∷ []) = refl
parted_refusal ops (M.Call (K.NewCommunicator N.Split) Nonblocking) (on ∷ []) = refl
parted_refusal ops (M.Call (K.NewCommunicator N.Split) Blocking) (on ∷ a ∷ []) = refl
parted_refusal ops (M.Call (K.NewCommunicator N.Split) Nonblocking) (on ∷ a ∷ []) = refl
parted_refusal ops (M.Call (K.NewCommunicator N.Split) mode) (on ∷ a ∷ b ∷ rest) = of_new (ends_with_name (K.NewCommunicator N.Split) mode) rest (fails (λ word. is_some (colour_named word)) (Some a) || (fails is_number (Some b) || false)) (fails (λ word. is_some (colour_named word)) (Some a) || fails is_number (Some b)) false false (two_numbers (fails (λ word. is_some (colour_named word)) (Some a)) (fails is_number (Some b))) refl
parted_refusal ops (M.Call (K.NewCommunicator N.Create) mode) [] = refl
parted_refusal ops (M.Call (K.NewCommunicator N.Create) Blocking) (on ∷ []) = refl
parted_refusal ops (M.Call (K.NewCommunicator N.Create) Nonblocking) (on ∷ []) = refl
parted_refusal ops (M.Call (K.NewCommunicator N.Create) mode) (on ∷ a ∷ rest) = of_new (ends_with_name (K.NewCommunicator N.Create) mode) rest false false (fails (λ word. is_some (list_named word)) (Some a) || false) (fails (λ word. is_some (list_named word)) (Some a) || false) refl refl
parted_refusal ops (M.Call (K.NewCommunicator N.CreateGroup) mode) [] = refl
parted_refusal ops (M.Call (K.NewCommunicator N.CreateGroup) Blocking) (on ∷ []) = refl
parted_refusal ops (M.Call (K.NewCommunicator N.CreateGroup) Nonblocking) (on ∷ []) = refl
parted_refusal ops (M.Call (K.NewCommunicator N.CreateGroup) Blocking) (on ∷ a ∷ []) = refl
parted_refusal ops (M.Call (K.NewCommunicator N.CreateGroup) Nonblocking) (on ∷ a ∷ []) = refl
parted_refusal ops (M.Call (K.NewCommunicator N.CreateGroup) mode) (on ∷ a ∷ b ∷ rest) = of_new (ends_with_name (K.NewCommunicator N.CreateGroup) mode) rest (fails is_number (Some a) || false) (fails is_number (Some a) || false) (fails (λ word. is_some (list_named word)) (Some b) || false) (fails (λ word. is_some (list_named word)) (Some b) || false) refl refl
parted_refusal ops (M.Call (K.NewCommunicator N.DistGraph) mode) [] = refl
parted_refusal ops (M.Call (K.NewCommunicator N.DistGraph) Blocking) (on ∷ []) = refl
parted_refusal ops (M.Call (K.NewCommunicator N.DistGraph) Nonblocking) (on ∷ []) = refl
parted_refusal ops (M.Call (K.NewCommunicator N.DistGraph) mode) (on ∷ a ∷ rest) = of_new (ends_with_name (K.NewCommunicator N.DistGraph) mode) rest false false (is_none (option_map Some (edges_graph a)) || false) (is_none (option_map Some (edges_graph a))) refl (or_nothing (is_none (option_map Some (edges_graph a))))
parted_refusal ops (M.Call (K.NewCommunicator N.DistGraphAdjacent) mode) [] = refl
parted_refusal ops (M.Call (K.NewCommunicator N.DistGraphAdjacent) Blocking) (on ∷ []) = refl
parted_refusal ops (M.Call (K.NewCommunicator N.DistGraphAdjacent) Nonblocking) (on ∷ []) = refl
parted_refusal ops (M.Call (K.NewCommunicator N.DistGraphAdjacent) Blocking) (on ∷ a ∷ []) = refl
parted_refusal ops (M.Call (K.NewCommunicator N.DistGraphAdjacent) Nonblocking) (on ∷ a ∷ []) = refl
parted_refusal ops (M.Call (K.NewCommunicator N.DistGraphAdjacent) mode) (on ∷ a ∷ b ∷ rest) = of_new (ends_with_name (K.NewCommunicator N.DistGraphAdjacent) mode) rest false false (is_none (option_map Some (neighbours_graph a b)) || false) (is_none (option_map Some (neighbours_graph a b))) refl (or_nothing (is_none (option_map Some (neighbours_graph a b))))
parted_refusal ops (M.Wait waited) words = refl
parted_refusal ops (M.Ask (A.Neighbours side)) [] = refl
parted_refusal ops (M.Ask (A.Neighbours side)) (a ∷ []) = refl
parted_refusal ops (M.Ask (A.Neighbours side)) (a ∷ b ∷ rest) = too_many (suc (suc (length rest)) == 1) (suc (length rest) == 0) None (not_one (length rest)) (not_none (length rest))
parted_refusal ops (M.Ask A.Compare) [] = refl
parted_refusal ops (M.Ask A.Compare) (a ∷ []) = refl
parted_refusal ops (M.Ask A.Compare) (a ∷ b ∷ []) = refl
parted_refusal ops (M.Ask A.Compare) (a ∷ b ∷ c ∷ rest) = too_many (suc (suc (suc (length rest))) == 2) (suc (length rest) == 0) None (not_two (length rest)) (not_none (length rest))
parted_refusal ops (M.Ask A.Translate) [] = refl
parted_refusal ops (M.Ask A.Translate) (a ∷ []) = refl
parted_refusal ops (M.Ask A.Translate) (a ∷ b ∷ []) = refl
parted_refusal ops (M.Ask A.Translate) (a ∷ b ∷ c ∷ []) = refl
parted_refusal ops (M.Ask A.Translate) (a ∷ b ∷ c ∷ d ∷ rest) =
    too_many (suc (suc (suc (suc (length rest)))) == 3) (suc (length rest) == 0) (if fails (λ word. is_some (ranks_named word)) (Some c) then Some BadList else None) (not_three (length rest)) (not_none (length rest))

pub parted_says : (ops : List Operation) (form : Form) (words : List (List ℕ)) → statement_as ops form words ≡ parted_statement ops form words
unfolding new_in call_in ask_in graph_in
parted_says ops (M.Call (K.Exchange exchange) Blocking) words = refl
parted_says ops (M.Call (K.Reduction reduction) Blocking) words = refl
parted_says ops (M.Call (K.Neighbourhood exchange) Blocking) words = refl
parted_says ops (M.Call K.Free Blocking) words = refl
parted_says ops (M.Call (K.Exchange exchange) Nonblocking) words = refl
parted_says ops (M.Call (K.Reduction reduction) Nonblocking) words = refl
parted_says ops (M.Call (K.Neighbourhood exchange) Nonblocking) words = refl
parted_says ops (M.Call K.Free Nonblocking) words = refl
parted_says ops (M.Call (K.NewCommunicator N.Dup) mode) words = refl
parted_says ops (M.Call (K.NewCommunicator N.Split) mode) words = refl
parted_says ops (M.Call (K.NewCommunicator N.Create) mode) words = refl
parted_says ops (M.Call (K.NewCommunicator N.CreateGroup) mode) [] = refl
parted_says ops (M.Call (K.NewCommunicator N.CreateGroup) mode) (a ∷ rest) = refl
parted_says ops (M.Call (K.NewCommunicator N.DistGraph) mode) [] = refl
parted_says ops (M.Call (K.NewCommunicator N.DistGraph) mode) (a ∷ []) = refl
parted_says ops (M.Call (K.NewCommunicator N.DistGraph) mode) (a ∷ b ∷ rest) = refl
parted_says ops (M.Call (K.NewCommunicator N.DistGraphAdjacent) mode) [] = refl
parted_says ops (M.Call (K.NewCommunicator N.DistGraphAdjacent) mode) (a ∷ []) = refl
parted_says ops (M.Call (K.NewCommunicator N.DistGraphAdjacent) mode) (a ∷ b ∷ []) = refl
parted_says ops (M.Call (K.NewCommunicator N.DistGraphAdjacent) mode) (a ∷ b ∷ c ∷ rest) = refl
parted_says ops (M.Wait waited) words = refl
parted_says ops (M.Ask (A.Neighbours side)) [] = refl
parted_says ops (M.Ask (A.Neighbours side)) (a ∷ rest) = refl
parted_says ops (M.Ask A.Compare) [] = refl
parted_says ops (M.Ask A.Compare) (a ∷ []) = refl
parted_says ops (M.Ask A.Compare) (a ∷ b ∷ rest) = refl
parted_says ops (M.Ask A.Translate) [] = refl
parted_says ops (M.Ask A.Translate) (a ∷ []) = refl
parted_says ops (M.Ask A.Translate) (a ∷ b ∷ []) = refl
parted_says ops (M.Ask A.Translate) (a ∷ b ∷ c ∷ rest) = refl
