-- Counts that are refused, by what was read of them.
use Rattle.std.proofs.Common.{◌≡◌, ℕ, not, is_some, List, [], ℤ, Option, Some, None, refl, sym, ap, ◌∙◌}
use Rattle.std.specs.Prelude.{is_none}
use Rattle.mpx_script.specs.laws.Parts.{CallSyntax, are_strange}
use Rattle.mpx_kind.specs.declared.kinds.Fields.{Fields}
use Rattle.mpx_kind.specs.declared.kinds.Number.{Number}
use Rattle.mpx_script.specs.Fields.{counts_named}
use Rattle.mpx_script.specs.Sentences.{faulty_counts, counts_refusal, read_at}

-- what is strange is read as none
strange_read : (number : Number) (word : Option (List ℕ)) (found : Option (List ℤ)) → found ≡ read_at (counts_named number) [] word → are_strange number word ≡ is_none found
strange_read number None found e = ap is_none (sym e)
strange_read number (Some word) found e = by_found (counts_named number word) ∙ ap is_none (sym e) where
  by_found : (o : Option (List ℤ)) → not (is_some o) ≡ is_none o
  by_found None = refl
  by_found (Some x) = refl

-- so they are refused by what was read of them
pub same_fault : (fields : Fields) (call : CallSyntax) (s r : Option (List ℤ)) → s ≡ read_at (counts_named fields.scounts) [] call.scounts → r ≡ read_at (counts_named fields.rcounts) [] call.rcounts → faulty_counts fields (is_none s) (is_none r) ≡ counts_refusal fields call
same_fault fields call s r sent received = λ i. faulty_counts fields (sym (strange_read fields.scounts call.scounts s sent) i) (sym (strange_read fields.rcounts call.rcounts r received) i)
