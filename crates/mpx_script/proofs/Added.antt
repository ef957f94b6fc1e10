-- Statements that are added rank by rank.
use Rattle.std.proofs.Common.{◌≡◌, ℕ, ◌+◌, ◌-◌, ◌<◌, ◌≤◌, true, false, ◌&&◌, cond, ltb, leb, List, [], ◌∷◌, ◌++◌, length, get_or, sym, ap, subst, ◌∙◌, inl, inr, arith}
use Rattle.std.proofs.Math.ListN.{set, length-set}
use Rattle.std.proofs.lemmas.Bool.{cases_eq}
use Rattle.std.proofs.lemmas.Bool.Decides.{nat_tests}
use Rattle.std.proofs.lemmas.List.{append-nil, get_or-set_same, get_or-set_other}
use Rattle.mpx_statement.specs.declared.statement.Statement.{Statement}
use Rattle.mpx_script.specs.ScriptView.{Adds}

added_last : (from to : ℕ) (statement : Statement) (old mid new : List (List Statement)) → from ≤ to → to < length old → Adds from to statement old mid → new ≡ set mid to (get_or mid to [] ++ statement ∷ []) → get_or new to [] ≡ get_or old to [] ++ cond (leb from to && ltb to (to + 1)) (statement ∷ []) []
added_last from to statement old mid new low high a e =
    let inside : (leb from to && ltb to (to + 1)) ≡ true = grind (arith, nat_tests) in
    let outside : (leb from to && ltb to to) ≡ false = grind (arith, nat_tests) in
    let before : get_or mid to [] ≡ get_or old to [] = a.at to high ∙ rw outside (append-nil (get_or old to [])) in
    let room : to < length mid = omega (arith, a.len) in
    rw inside (ap (λ xs. get_or xs to []) e ∙ get_or-set_same mid to (get_or mid to [] ++ statement ∷ []) [] room ∙ ap (λ xs. xs ++ statement ∷ []) before)

-- and then rank by rank
pub adds_more : (from to : ℕ) (statement : Statement) (old mid new : List (List Statement)) → from ≤ to → to < length old → Adds from to statement old mid → new ≡ set mid to (get_or mid to [] ++ statement ∷ []) → Adds from (to + 1) statement old new
adds_more from to statement old mid new low high a e = record {
  len = ap length e ∙ length-set mid to (get_or mid to [] ++ statement ∷ []) ∙ a.len;
  at = λ rank h. elim (cases_eq rank to) [
    | inl same ↦ subst (λ k. get_or new k [] ≡ get_or old k [] ++ cond (leb from k && ltb k (to + 1)) (statement ∷ []) []) (sym same) (added_last from to statement old mid new low high a e)
    | inr other ↦
        let kept : get_or new rank [] ≡ get_or mid rank [] = ap (λ xs. get_or xs rank []) e ∙ get_or-set_other mid to rank (get_or mid to [] ++ statement ∷ []) [] other in
        let tests : (leb from rank && ltb rank (to + 1)) ≡ (leb from rank && ltb rank to) = grind (arith, nat_tests) in
        rw tests (kept ∙ a.at rank h)
  ];
}

-- the last rank, as the code finds it
pub adds_all : (from rank to : ℕ) (statement : Statement) (old mid new : List (List Statement)) → from < to → to ≤ length old → from ≤ rank → to ≤ rank + 1 → rank < to → Adds from rank statement old mid → new ≡ set mid (to - 1) (get_or mid (to - 1) [] ++ statement ∷ []) → Adds from to statement old new
adds_all from rank to statement old mid new some within low high below a e =
    let last : to - 1 ≡ rank = omega arith in
    let next : rank + 1 ≡ to = omega arith in
    subst (λ n. Adds from n statement old new) next (adds_more from rank statement old mid new low (omega arith) a (e ∙ ap (λ k. set mid k (get_or mid k [] ++ statement ∷ [])) last))
