-- The refusal of a line whose bytes are in order.
use Rattle.std.proofs.Common.{◌≡◌, ℕ, ℤ, pos, ◌+◌, Bool, true, false, cond, is_some, is_none, ◌⊎◌, inl, inr, nat_lt, ◌∙◌, List, [], ◌∷◌, ◌++◌, Option, Some, None, refl, sym, ap, subst}
use Rattle.std.specs.Prelude.{option_and_then}
use Rattle.std.specs.Option.{option_map}
use Rattle.mpx_num.specs.declared.own.Operation.{Operation}
use Rattle.mpx_num.specs.Text.{number_of}
use Rattle.mpx_kind.specs.declared.kinds.Kind.{Kind}
use Rattle.mpx_kind.specs.declared.kinds.Mode.{Mode}
use Rattle.mpx_kind.specs.Kinds.{fields_of}
use Rattle.mpx_script.specs.Words.{words, counts, is_ascii}
use Rattle.mpx_script.specs.Grammar.{ends_with_name, form_named}
use Rattle.mpx_script.specs.Syntax.{DirectiveSyntax, directive_in, form_in, label_in, ranks_meant, statements_in}
use Rattle.mpx_script.specs.laws.Parts.{NewSyntax, CallSyntax, has_unknown_word, has_wrong_count, has_wrong_end, parted_statement}
use Rattle.mpx_script.specs.Refusals.{is_past, is_unknown_line, on_form, has_wrong_words, has_bad_number, has_bad_list}
use Rattle.mpx_script.specs.Meanings.{statement_in, statement_as}
use Rattle.mpx_script.specs.Naming.{BoundNames, has_bad_name, lacks_name, on_names, ranks_labelled, takes_name}
use Rattle.mpx_script.specs.Reading.{refusal, first_holding, plain_context, statements_limit}
use Rattle.mpx_script.specs.Sentences.{IsLineRefusal, form_refusal, statement_refusal, names_refusal, call_refusal, draft_refusal, posting_refusal, read_at}
use Rattle.mpx_script.specs.declared.grammar.Form.{Form}
use Rattle.mpx_statement.specs.declared.statement.Statement.{Statement}
use Rattle.mpx_script.specs.declared.faults.LineError.{LineError}
use Rattle.mpx_script.specs.declared.faults.LineError.TheVariants.{Fault, OutOfMemory}
use Rattle.mpx_script.specs.declared.faults.ScriptFault.{ScriptFault}
use Rattle.mpx_script.specs.declared.faults.ScriptFault.TheVariants.{TooLarge, RankOutOfRange, UnknownStatement, WrongWords, BadNumber, BadList, BadName, NameUnknown, NameTaken}
use Rattle.mpx_script.proofs.Accepted.{read_nothing, read_says}
use Rattle.mpx_script.proofs.Parting.{parted_refusal, parted_says}

-- a statement that is known is refused as one of its form
pub refusal_of_form : (ops : List Operation) (p : DirectiveSyntax) (form : Form) → is_none (label_in p) ≡ false → form_in p ≡ Some form → statement_refusal ops p ≡ form_refusal ops form p.behind
unfolding statement_refusal is_unknown_line on_form
refusal_of_form ops p form label known = rw (label, known) (parted_refusal ops form p.behind)

-- and says what its form does
pub said_of_form : (ops : List Operation) (p : DirectiveSyntax) (form : Form) → form_in p ≡ Some form → statement_in ops p ≡ Some (parted_statement ops form p.behind)
unfolding statement_in
said_of_form ops p form known = rw known (ap (λ s. Some s) (parted_says ops form p.behind))

pub refusal_of_no_word : (ops : List Operation) (p : DirectiveSyntax) → is_none (label_in p) ≡ false → form_in p ≡ None → statement_refusal ops p ≡ Some UnknownStatement
unfolding statement_refusal is_unknown_line
refusal_of_no_word ops p label no_form = rw (label, no_form) refl

-- a call whose words are as many as its kind asks for is refused as what it posts
pub refusal_as_posting : (ops : List Operation) (kind : Kind) (mode : Mode) (communicator : Option (List ℕ)) (new : NewSyntax) (call : CallSyntax) → has_unknown_word ops call ≡ false → is_none communicator ≡ false → has_wrong_count (fields_of kind) call ≡ false → has_wrong_end (ends_with_name kind mode) call ≡ false → call_refusal ops kind mode communicator new call ≡ posting_refusal kind new call
refusal_as_posting ops kind mode communicator new call known there counted ended = rw (known, there, counted, ended) refl

module _ (kind : Kind) (new : NewSyntax) (call : CallSyntax) where
  -- which is refused for its tag
  pub refusal_of_tag : read_at number_of (pos 0) new.tag ≡ None → posting_refusal kind new call ≡ Some BadNumber
  refusal_of_tag tag = rw (read_nothing number_of (pos 0) new.tag tag) refl

  module _ (tag : ℤ) (numbered : read_at number_of (pos 0) new.tag ≡ Some tag) where
    as_draft : posting_refusal kind new call ≡ draft_refusal kind new call
    as_draft = rw (read_says number_of (pos 0) new.tag tag numbered) refl

    -- and then as its draft
    pub refusal_of_draft : (e : LineError) → IsLineRefusal (draft_refusal kind new call) e → IsLineRefusal (posting_refusal kind new call) e
    refusal_of_draft e h = subst (λ found. IsLineRefusal found e) (sym as_draft) h

    pub posting_accepted : draft_refusal kind new call ≡ None → posting_refusal kind new call ≡ None
    posting_accepted fine = as_draft ∙ fine

-- the first refusal, or else the other
abbrev first_of : Option ScriptFault → Option ScriptFault → Option ScriptFault
first_of None other = other
first_of (Some what) other = Some what

first_of_both : (asked more : List (ScriptFault × Bool)) → first_holding (asked ++ more) ≡ first_of (first_holding asked) (first_holding more)
first_of_both [] more = refl
first_of_both (one ∷ asked) more = elim one.1 as (λ v. cond v (Some one.0) (first_holding (asked ++ more)) ≡ first_of (cond v (Some one.0) (first_holding asked)) (first_holding more))
    [ true ↦ refl | false ↦ first_of_both asked more ]

refusal_first : (found other : Option ScriptFault) (e : LineError) → IsLineRefusal found e → IsLineRefusal (first_of found other) e
refusal_first found other OutOfMemory h = tt
refusal_first found other (Fault what) h = rw h refl

-- what the names of a line are refused for
abbrev line_names_refusal : List Operation → List BoundNames → ℕ → DirectiveSyntax → Option ScriptFault
line_names_refusal ops bound n p = first_holding ((BadName, has_bad_name ops p) ∷ (NameUnknown, on_names lacks_name ops bound n p) ∷ (NameTaken, on_names takes_name ops bound n p) ∷ [])

-- what a further line is asked
abbrev further_refusal : List Operation → DirectiveSyntax → ℕ → ℕ → List BoundNames → Option ScriptFault
further_refusal ops p n k bound =
    cond (nat_lt statements_limit (k + statements_in n p)) (Some TooLarge)
    (cond (is_past n (label_in p)) (Some RankOutOfRange) (first_of (statement_refusal ops p) (line_names_refusal ops bound n p)))

refusal_of_further : (ops : List Operation) (line : List ℕ) (n k : ℕ) (bound : List BoundNames) → is_ascii line ≡ true → counts (words line) ≡ true → refusal ops (plain_context line (Some n) k bound) ≡ further_refusal ops (directive_in (words line)) n k bound
unfolding statement_refusal
refusal_of_further ops line n k bound ascii counted =
    let p : DirectiveSyntax = directive_in (words line) in
    rw (ascii, counted) (ap (λ rest. cond (nat_lt statements_limit (k + statements_in n p)) (Some TooLarge) (cond (is_past n (label_in p)) (Some RankOutOfRange) rest))
    (first_of_both ((UnknownStatement, is_unknown_line ops p) ∷ (WrongWords, on_form (has_wrong_words ops) p) ∷ (BadNumber, on_form (has_bad_number ops) p) ∷ (BadList, on_form (has_bad_list ops) p) ∷ []) ((BadName, has_bad_name ops p) ∷ (NameUnknown, on_names lacks_name ops bound n p) ∷ (NameTaken, on_names takes_name ops bound n p) ∷ [])))

module _ (ops : List Operation) (line : List ℕ) (n k : ℕ) (bound : List BoundNames) (ascii : is_ascii line ≡ true) (counted : counts (words line) ≡ true) where
  pub refusal_of_many : nat_lt statements_limit (k + statements_in n (directive_in (words line))) ≡ true → refusal ops (plain_context line (Some n) k bound) ≡ Some TooLarge
  refusal_of_many many = refusal_of_further ops line n k bound ascii counted ∙ rw many

  module _ (few : nat_lt statements_limit (k + statements_in n (directive_in (words line))) ≡ false) where
    -- no rank, or no label
    pub refusal_of_label : (e : LineError) → ((e ≡ Fault RankOutOfRange) × (is_past n (label_in (directive_in (words line))) ≡ true)) ⊎ ((e ≡ Fault UnknownStatement) × (label_in (directive_in (words line)) ≡ None)) → IsLineRefusal (refusal ops (plain_context line (Some n) k bound)) e
    unfolding statement_refusal is_unknown_line
    refusal_of_label e (inl h) = rw h.0 (refusal_of_further ops line n k bound ascii counted ∙ rw (few, h.1))
    refusal_of_label e (inr h) = rw h.0 (refusal_of_further ops line n k bound ascii counted ∙ rw (few, h.1))

    module _ (there : is_past n (label_in (directive_in (words line))) ≡ false) where
      refusal_of_words : refusal ops (plain_context line (Some n) k bound) ≡ first_of (statement_refusal ops (directive_in (words line))) (line_names_refusal ops bound n (directive_in (words line)))
      refusal_of_words = refusal_of_further ops line n k bound ascii counted ∙ rw (few, there)

      -- the words of its statement
      pub refusal_of_statement : (e : LineError) → IsLineRefusal (statement_refusal ops (directive_in (words line))) e → IsLineRefusal (refusal ops (plain_context line (Some n) k bound)) e
      refusal_of_statement e h = subst (λ found. IsLineRefusal found e) (sym refusal_of_words) (refusal_first _ _ e h)

      -- then its names
      pub refusal_of_names : statement_refusal ops (directive_in (words line)) ≡ None → refusal ops (plain_context line (Some n) k bound) ≡ line_names_refusal ops bound n (directive_in (words line))
      refusal_of_names fine = refusal_of_words ∙ rw fine refl

-- which are asked of its statement at the ranks of the label
pub names_asked : (ops : List Operation) (p : DirectiveSyntax) (statement : Statement) (n : ℕ) (bound : List BoundNames) (ranks : List ℕ) → statement_in ops p ≡ Some statement → ranks_labelled n (label_in p) ≡ ranks → line_names_refusal ops bound n p ≡ names_refusal bound ranks statement
unfolding has_bad_name on_names
names_asked ops p statement n bound ranks said labelled = rw (said, labelled) refl

has_word : (ops : List Operation) (word : Option (List ℕ)) (words : List (List ℕ)) (statement : Statement) → option_map (λ form. statement_as ops form words) (option_and_then form_named word) ≡ Some statement → is_some word ≡ true
has_word ops None words statement h = cc h
has_word ops (Some word) words statement h = refl

-- a line that says a statement has a word behind its label
pub count_of_statement : (ops : List Operation) (n : ℕ) (p : DirectiveSyntax) (statement : Statement) → statement_in ops p ≡ Some statement → statements_in n p ≡ ranks_meant n (label_in p)
unfolding statement_in statements_in
count_of_statement ops n p statement h =
    let there : is_some p.statement ≡ true = has_word ops p.statement p.behind statement h in
    rw there
