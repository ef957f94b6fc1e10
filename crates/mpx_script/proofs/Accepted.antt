-- The words of a call that is accepted.
use Rattle.std.proofs.Common.{◌≡◌, Bool, true, false, not, ◌||◌, cond, List, [], ℕ, ℤ, pos, Option, Some, None, is_some, refl, ap, ◌∙◌}
use Rattle.std.specs.Prelude.{unwrap_or}
use Rattle.std.proofs.lemmas.Option.{same_Some}
use Rattle.std.specs.List.{list_any}
use Rattle.mpx_num.specs.Text.{number_of}
use Rattle.mpx_kind.specs.declared.kinds.Kind.{Kind}
use Rattle.mpx_kind.specs.Kinds.{fields_of}
use Rattle.mpx_post.specs.Graphs.{GraphView}
use Rattle.mpx_script.specs.Fields.{colour_named, list_named}
use Rattle.mpx_script.specs.Places.{said}
use Rattle.mpx_script.specs.Refusals.{fails}
use Rattle.mpx_script.specs.laws.Parts.{NewSyntax, CallSyntax, graph_in, is_number, has_strange_count, has_strange_number, has_strange_list, has_strange_new_list}
use Rattle.mpx_script.specs.Sentences.{IsLineRefusal, counts_refusal, draft_refusal, fields_refusal, new_refusal, read_at}
use Rattle.mpx_script.specs.declared.faults.LineError.{LineError}
use Rattle.mpx_script.specs.declared.faults.LineError.TheVariants.{Fault, OutOfMemory}
use Rattle.mpx_script.specs.declared.faults.ScriptFault.{ScriptFault}
use Rattle.mpx_script.specs.declared.faults.ScriptFault.TheVariants.{BadNumber, BadList}

-- what says something doesn't fail
pub read_says : {A : Type 0} (meaning : List ℕ → Option A) (other : A) (word : Option (List ℕ)) (x : A) → read_at meaning other word ≡ Some x → fails (λ word. is_some (meaning word)) word ≡ false
read_says meaning other None x h = refl
read_says meaning other (Some word) x h = ap (λ said. not (is_some said)) h

-- and what says nothing does
pub read_nothing : {A : Type 0} (meaning : List ℕ → Option A) (other : A) (word : Option (List ℕ)) → read_at meaning other word ≡ None → fails (λ word. is_some (meaning word)) word ≡ true
read_nothing meaning other None h = cc
read_nothing meaning other (Some word) h = ap (λ said. not (is_some said)) h

-- then that is what the word says, or what stands for no word
pub said_is : {A : Type 0} (meaning : List ℕ → Option A) (other : A) (word : Option (List ℕ)) (x : A) → read_at meaning other word ≡ Some x → said meaning other word ≡ x
said_is meaning other None x h = same_Some other x h
said_is meaning other (Some word) x h = ap (λ found. unwrap_or found other) h

fields_of_counts : (counts lists : Bool) → cond (counts || false) (Some BadNumber) (cond lists (Some BadList) None) ≡ cond counts (Some BadNumber) (cond lists (Some BadList) None)
fields_of_counts true lists = refl
fields_of_counts false lists = refl

-- a call whose root and whose items are numbers is refused as its counts
pub refusal_of_counts : (kind : Kind) (p : CallSyntax) (root : ℤ) → read_at number_of (pos 0) p.root ≡ Some root → list_any (λ word. not (is_number word)) p.items ≡ false → fields_refusal kind p ≡ counts_refusal (fields_of kind) p
refusal_of_counts kind p root at_root items =
    let root_says = read_says number_of (pos 0) p.root root at_root in
    rw (root_says, items) (fields_of_counts (has_strange_count (fields_of kind) p) (has_strange_list (fields_of kind) p))

first_kept : (numbers lists ranks : Bool) (what : ScriptFault) → cond numbers (Some BadNumber) (cond lists (Some BadList) None) ≡ Some what → cond numbers (Some BadNumber) (cond (lists || ranks) (Some BadList) None) ≡ Some what
first_kept true lists ranks what h = h
first_kept false true ranks what h = h
first_kept false false ranks what h = cc

ranks_left : (numbers lists ranks : Bool) → cond numbers (Some BadNumber) (cond lists (Some BadList) None) ≡ None → cond numbers (Some BadNumber) (cond (lists || ranks) (Some BadList) None) ≡ cond ranks (Some BadList) None
ranks_left true lists ranks h = cc
ranks_left false true ranks h = cc
ranks_left false false ranks h = refl

-- What is said of a new communicator
module _ (kind : Kind) (new : NewSyntax) (p : CallSyntax) where
  pub refusal_of_colour : read_at colour_named None new.colour ≡ None → draft_refusal kind new p ≡ Some BadNumber
  refusal_of_colour h = rw (read_nothing colour_named None new.colour h) refl

  module _ (colour : Option ℤ) (at_colour : read_at colour_named None new.colour ≡ Some colour) where
    pub refusal_of_key : read_at number_of (pos 0) new.key ≡ None → draft_refusal kind new p ≡ Some BadNumber
    refusal_of_key h = rw (read_says colour_named None new.colour colour at_colour, read_nothing number_of (pos 0) new.key h) refl

    module _ (key : ℤ) (at_key : read_at number_of (pos 0) new.key ≡ Some key) where
      behind_choice : draft_refusal kind new p ≡ cond (has_strange_number (fields_of kind) p) (Some BadNumber) (cond (has_strange_list (fields_of kind) p || has_strange_new_list new) (Some BadList) None)
      behind_choice = rw (read_says colour_named None new.colour colour at_colour, read_says number_of (pos 0) new.key key at_key) refl

      pub refusal_of_fields : (e : LineError) → IsLineRefusal (fields_refusal kind p) e → IsLineRefusal (draft_refusal kind new p) e
      refusal_of_fields OutOfMemory h = tt
      refusal_of_fields (Fault what) h = behind_choice ∙ first_kept _ _ _ what h

      -- its fields are in order
      pub refusal_of_lists : fields_refusal kind p ≡ None → (e : LineError) → IsLineRefusal (new_refusal new) e → IsLineRefusal (draft_refusal kind new p) e
      refusal_of_lists fine OutOfMemory h = tt
      refusal_of_lists fine (Fault what) h = behind_choice ∙ ranks_left _ _ _ fine ∙ h

      pub draft_accepted : fields_refusal kind p ≡ None → new_refusal new ≡ None → draft_refusal kind new p ≡ None
      draft_accepted fine h = behind_choice ∙ ranks_left _ _ _ fine ∙ h

-- The ranks and the graph of a new communicator
module _ (new : NewSyntax) where
  pub refusal_of_ranks : read_at list_named [] new.ranks ≡ None → new_refusal new ≡ Some BadList
  refusal_of_ranks h = rw (read_nothing list_named [] new.ranks h) refl

  module _ (group : List ℤ) (at_ranks : read_at list_named [] new.ranks ≡ Some group) where
    pub refusal_of_graph : graph_in new ≡ None → new_refusal new ≡ Some BadList
    refusal_of_graph h = rw (read_says list_named [] new.ranks group at_ranks, h) refl

    pub new_accepted : (graph : Option GraphView) → graph_in new ≡ Some graph → new_refusal new ≡ None
    new_accepted graph h = rw (read_says list_named [] new.ranks group at_ranks, h) refl
