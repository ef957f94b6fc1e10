-- Lines that are told behind others.
use Rattle.std.proofs.Common.{◌≡◌, ℕ, ◌-◌, List, ◌++◌, append_assoc, length, map, take, Some, Result, Ok, Err, ap, sym, ◌∙◌}
use Rattle.std.specs.Prelude.{OnOk, ℤ, codes}
use Rattle.std.specs.List.{flat_map}
use Rattle.std.proofs.lemmas.List.{length-map, take-map}
use Rattle.mpx_eval.specs.declared.complaints.Complaint.{Complaint}
use Rattle.mpx_eval.specs.Found.{complaint_view}
use Rattle.mpx_num.specs.Text.{number_text}
use Rattle.mpx_num.specs.Wrapping.{into_range}
use Rattle.mpx_num.specs.declared.types.Ty.{Ty}
use Rattle.mpx_waiting.specs.ToldLines.{more_text}
use Rattle.mpx_explain.specs.declared.named.NamedCall.{NamedCall}
use Rattle.mpx_explain.specs.Findings.{AreTold, named_text, named_view, placed_call}
use Rattle.mpx_explain.specs.Overflows.{past_text, past_result_text}

-- the lines of calls that are named, and that of how many more there are, tell of these calls
pub tells_calls : {E : Type 0} (text : List ℕ) (calls : List Complaint) (named shown : List NamedCall) (many : ℕ) (old new : List ℕ) (pushed : Result (Unit {0}) E)
    → map named_view named ≡ map (placed_call text) (map complaint_view (take 100 calls)) → shown ≡ named → many ≡ length calls
    → OnOk pushed (new ≡ (old ++ flat_map named_text shown) ++ more_text (many - 100)) → OnOk pushed (AreTold text (map complaint_view calls) old new)
tells_calls text calls named shown many old new (Ok done) are same count told = record {
  named = named;
  each = are ∙ ap (map (placed_call text)) (sym (take-map complaint_view 100 calls));
  told = told ∙ ap (λ xs. (old ++ flat_map named_text xs) ++ more_text (many - 100)) same ∙ ap (λ n. (old ++ flat_map named_text named) ++ more_text (n - 100)) (count ∙ sym (length-map calls complaint_view));
}
tells_calls text calls named shown many old new (Err e) are same count told = tt

-- a number that is past its type, and what the type makes of it
pub tells_exact : {E : Type 0} (ty : Ty) (z given : ℤ) (old mid new : List ℕ) (pushed : Result (Unit {0}) E) → mid ≡ old ++ past_text ty z → given ≡ into_range ty z
    → OnOk pushed (new ≡ (mid ++ codes ", which gives ") ++ number_text given) → OnOk pushed (new ≡ old ++ past_result_text ty (Some z))
tells_exact ty z given old mid new (Ok done) first is told =
    let gives = codes ", which gives " in
    told
    ∙ ap (λ xs. (xs ++ gives) ++ number_text given) first
    ∙ append_assoc (old ++ past_text ty z) gives (number_text given)
    ∙ append_assoc old (past_text ty z) (gives ++ number_text given)
    ∙ ap (λ (x : ℤ). old ++ (past_text ty z ++ (gives ++ number_text x))) is
tells_exact ty z given old mid new (Err e) first is told = tt
