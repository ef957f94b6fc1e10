-- What ranks complain of at the end, by the program's ranks.
use Rattle.std.proofs.Common.{◌≡◌, ℕ, zero, suc, ◌+◌, ◌<◌, List, ◌∷◌, ◌++◌, append_assoc, drop, drop-cons, get_or, length, refl, sym, ap, ◌∙◌, arith}
use Rattle.std.specs.Prelude.{slice_get}
use Rattle.mpx_num.specs.declared.own.Operation.{Operation}
use Rattle.mpx_script.specs.ScriptView.{ScriptView}
use Rattle.mpx_meaning.specs.Evaluation.{statements_of}
use Rattle.mpx_eval.specs.Complaints.{ComplaintView, complaints_at, complaints_in, complaints_upto}
use Rattle.mpx_eval.specs.Found.{complaints_found}
use Rattle.mpx_eval.specs.Places.{TableRank}
use Rattle.mpx_eval.specs.Rounds.{AreAtEnd}
use Rattle.mpx_eval.specs.Tables.{Table}
use Rattle.mpx_eval.proofs.Reporting.{at_index, there}

pub upto_same : (f g : ℕ → List ComplaintView) (n : ℕ) → ((p : ℕ) → p < n → f p ≡ g p) → complaints_upto f n ≡ complaints_upto g n
upto_same f g zero h = refl
upto_same f g (suc n) h = λ i. upto_same f g n (λ p l. h p (omega (arith, l))) i ++ h n (omega arith) i

-- one statement more
pub place_more : {A : Type 0} (at : (place : ℕ) → A → List ComplaintView) (from : (place : ℕ) → List A → List ComplaintView) → ((i : ℕ) (x : A) (xs : List A) → from i (x ∷ xs) ≡ at i x ++ from (i + 1) xs)
    → (xs : List A) (i : ℕ) (x : A) → i < length xs → x ≡ get_or xs i x → (had new : List ComplaintView) → new ≡ had ++ at i x → new ++ from (i + 1) (drop (i + 1) xs) ≡ had ++ from i (drop i xs)
place_more at from cons xs i x l is had new e =
    let k : suc i ≡ i + 1 = omega arith in
    let rest = drop (i + 1) xs in
    let cut : drop i xs ≡ x ∷ rest = drop-cons xs i x l ∙ (λ j. sym is j ∷ drop (k j) xs) in
    ap (λ ys. ys ++ from (i + 1) rest) e ∙ append_assoc had (at i x) (from (i + 1) rest) ∙ ap (λ ys. had ++ ys) (sym (cons i x rest) ∙ ap (from i) (sym cut))

module _ (ops : List Operation) (script : ScriptView) (rs : List TableRank) (t : Table) (e : AreAtEnd ops script.statements script.ranks rs t) where
  of_rank : (p : ℕ) → p < script.ranks → complaints_found script.statements p (slice_get rs p) ≡ complaints_at p (statements_of script.statements p) (e.end p).lines (e.end p).origins
  of_rank p l =
      let at = there ops script rs t e p l in
      let here = (e.are.each p at.0 at.1).1 in
      ap (complaints_found script.statements p) at.1 ∙ λ i. complaints_at p (at_index script.statements p i) (here.lines i) (here.origins i)

  pub complaints_same : complaints_upto (λ p. complaints_found script.statements p (slice_get rs p)) script.ranks ≡ complaints_in script.statements script.ranks e.end
  complaints_same = upto_same (λ p. complaints_found script.statements p (slice_get rs p)) (λ p. complaints_at p (statements_of script.statements p) (e.end p).lines (e.end p).origins) script.ranks of_rank
