-- A result of a fine free: all posts of its row are frees.
use Rattle.std.proofs.Common.{◌≡◌, ℕ, zero, suc, ◌<◌, ◌≤◌, ◌==◌, true, List, [], ◌∷◌, get_or, Option, Some, refl, sym, ap, ◌∙◌, subst, arith}
use Rattle.std.specs.Prelude.{slice_get, option_and_then}
use Rattle.std.proofs.lemmas.List.Quantifiers.{position-Some}
use Rattle.std.proofs.lemmas.Option.{get_or_from_slice_get, option_and_then_some, same_Some, slice_get-get_or, slice_get_within}
use Rattle.mpx_name.specs.Name.{Name}
use Rattle.mpx_num.specs.declared.own.Operation.{Operation}
use Rattle.mpx_post.specs.Posts.{Given, is_free, nothing_given}
use Rattle.mpx_birth.specs.Births.{BirthView, rank_in}
use Rattle.mpx_post.specs.Rows.{RowView, all_of}
use Rattle.mpx_birth.specs.Topologies.{TopologyView}
use Rattle.mpx_match.specs.declared.faults.Verdict.TheVariants as V
use Rattle.mpx_match.specs.Verdicts.{verdict}
use Rattle.mpx_match.proofs.FirstFault.{verdict-fine}
use Rattle.mpx_post.specs.Agreement.{IsFineWith, first_of, post_at}
use Rattle.mpx_value.specs.declared.outcomes.Outcome.{Outcome}
use Rattle.mpx_value.specs.declared.outcomes.Outcome.TheVariants.{Nothing, Absent, Items, NewComm, Null, Fault}
use Rattle.mpx_value.specs.Histories.{value_for}
use Rattle.mpx_value.specs.Values.{value}
use Rattle.mpx_value.proofs.Fine.{nothing-fine}
use Rattle.mpx_node.specs.declared.finished.Finished.{Finished}
use Rattle.mpx_node.specs.Nodes.{is_fine_free, is_nothing}
use Rattle.mpx_world.specs.Worlds.{WorldView, births, history, own_front}
use Rattle.mpx_world.specs.Soundness.{HaveHarvested, IsFreed, IsValue}
use Rattle.mpx_world.proofs.Lists.{both_true, same_number}

-- ROWS

-- a whole row has at each member's place what the member posted
pub all_of_at : {A B : Type 0} (f : B → Option A) (ps : List B) (xs : List A) → all_of f ps ≡ Some xs → (i : ℕ) (p : B) → slice_get ps i ≡ Some p → (x : A) × (f p ≡ Some x) × (slice_get xs i ≡ Some x)
all_of_at f [] xs h i p e = cc e
all_of_at f (q ∷ ps) xs h zero p e =
    option_and_then_some (λ x. option_and_then (λ ys. Some (x ∷ ys)) (all_of f ps)) (f q) xs h (λ x ex r.
    option_and_then_some (λ ys. Some (x ∷ ys)) (all_of f ps) xs r (λ ys es s.
    (x, ap f (sym (same_Some q p e)) ∙ ex, subst (λ zs. slice_get zs 0 ≡ Some x) (same_Some (x ∷ ys) xs s) refl)))
all_of_at f (q ∷ ps) xs h (suc i) p e =
    option_and_then_some (λ x. option_and_then (λ ys. Some (x ∷ ys)) (all_of f ps)) (f q) xs h (λ x ex r.
    option_and_then_some (λ ys. Some (x ∷ ys)) (all_of f ps) xs r (λ ys es s.
    let there = all_of_at f ps ys es i p e in
    (there.0, there.1, subst (λ zs. slice_get zs (suc i) ≡ Some there.0) (same_Some (x ∷ ys) xs s) there.2)))

post_is : (row : RowView) (i : ℕ) (x : Given) → slice_get row i ≡ Some x → post_at row i ≡ x
post_is row i x e = get_or_from_slice_get row i x nothing_given e

-- in a fine row all posts are of one kind
same_as_first : (topology : Option TopologyView) (row : RowView) → IsFineWith topology row → (i : ℕ) (x : Given) → slice_get row i ≡ Some x → x.kind ≡ (first_of row).kind
same_as_first topology row fine i x e = ap (λ (g : Given). g.kind) (sym (post_is row i x e)) ∙ (fine.each i (slice_get_within row i x e)).kind

-- so where one is a free, all are
all_free : (topology : Option TopologyView) (row : RowView) → IsFineWith topology row → (i : ℕ) (x : Given) → slice_get row i ≡ Some x → is_free x ≡ true → (j : ℕ) (y : Given) → slice_get row j ≡ Some y → is_free y ≡ true
all_free topology row fine i x ex free j y ey =
    let kind : y.kind ≡ x.kind = same_as_first topology row fine j y ey ∙ sym (same_as_first topology row fine i x ex) in
    ap (λ k. is_free (record x { kind = k })) kind ∙ free

-- RESULTS

nothing_is : (o : Outcome) → is_nothing o ≡ true → o ≡ Nothing
nothing_is Nothing t = refl
nothing_is Absent t = cc t
nothing_is (Items items) t = cc t
nothing_is (NewComm name size rank) t = cc t
nothing_is Null t = cc t
nothing_is (Fault fault) t = cc t

-- who is given nothing has a rank, and the row is fine
given_nothing : (ops : List Operation) (birth : BirthView) (p : ℕ) (row : RowView) (name : Name) (k : ℕ) → value_for ops birth p row name k ≡ Some Nothing → (rank : ℕ) × (rank_in p birth.members ≡ Some rank) × (verdict ops birth.topology row ≡ V.Fine)
given_nothing ops birth p row name k e =
    option_and_then_some (λ rank. let o : Option Outcome = Some (value ops birth row name k rank) in o) (rank_in p birth.members) Nothing e (λ rank is given.
    (rank, is, nothing-fine ops birth row name k rank (same_Some (value ops birth row name k rank) Nothing given)))

-- the process at a rank
pub ranked_at : (p : ℕ) (ps : List ℕ) (rank : ℕ) → rank_in p ps ≡ Some rank → slice_get ps rank ≡ Some p
ranked_at p ps rank e =
    let at = position-Some (λ q. q == p) ps rank 0 e in
    slice_get-get_or ps rank 0 at.0 ∙ ap Some (same_number (get_or ps rank 0) p at.1)

-- where a process has the result of a fine free, and all members have harvested it, the context is freed
pub free_done : (w : WorldView) (p : ℕ) (name : Name) (k n : ℕ) (r : Finished) → IsValue w p name k r → is_fine_free r ≡ true → k < n → HaveHarvested w name n (births w name) → IsFreed w name
free_done w p name k n r v t l done =
    let both = both_true (is_free r.mine) (is_nothing r.outcome) t in
    let nothing = given_nothing w.operations v.birth p v.row name k (v.outcome ∙ ap Some (nothing_is r.outcome both.1)) in
    let own = all_of_at ((history w).post name k) v.birth.members v.row v.whole nothing.0 p (ranked_at p v.birth.members nothing.0 nothing.1) in
    let mine : own.0 ≡ r.mine = same_Some own.0 r.mine (sym own.1 ∙ v.mine) in
    record {
      birth = v.birth;
      call = k;
      row = v.row;
      born = v.born;
      whole = v.whole;
      fine = nothing.2;
      frees = all_free v.birth.topology v.row (verdict-fine w.operations v.birth.topology v.row nothing.2) nothing.0 own.0 own.2 (ap is_free mine ∙ both.0);
      harvested = λ rank q m. let far : n ≤ own_front w name q = (subst (HaveHarvested w name n) v.born done) rank q m in omega (arith, l, far);
    }
