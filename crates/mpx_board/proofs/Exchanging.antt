-- What stores again what stood before.
use Rattle.std.proofs.Common.{arith, ◌≡◌, ℕ, ◌==◌, true, cond, Some, is_some, refl, sym, ap, ◌∙◌}
use Rattle.std.proofs.lemmas.Bool.Decides.{nat_tests}
use Rattle.std.specs.Ordering.{eq_by_cmp, nat_cmp}
use Rattle.std.specs.Cmp.{unsigned_tied, nat_cmp_total}
use Rattle.std.specs.FinMap.{get, get-insert, get_tied, insert, same_map, nat_cmp-IsAntisymmetric}
use Rattle.join_core.specs.laws.Cases.{answer, yes, no, is_tied}
use Rattle.join_nest.specs.Keyed.{replaced}
use Rattle.mpx_board.specs.declared.acks.Raised.{Raised}
use Rattle.mpx_board.specs.Boards.{IsBoardBelow, Look}
use Rattle.mpx_board.specs.Contexts.{look_of}
use Rattle.mpx_board.specs.Parts.{AcksView, OfProcesses, PartsView}
use Rattle.mpx_board.specs.Raised.{StoringLeads, Raises, stored, view_of_raised}
use Rattle.mpx_board.specs.Tidy.{is_tidy}
use Rattle.mpx_board.proofs.Acknowledging.{stored_tidy}

itself : (p : ℕ) → eq_by_cmp nat_cmp p p ≡ true
itself p = unsigned_tied p p ∙ same p where
  same : (p : ℕ) → (p == p) ≡ true
  same p = grind (arith, nat_tests)

-- another value at a key, and then the old one again
pub replaced_back : (m : OfProcesses AcksView) (p : ℕ) (v w : AcksView) → get m p ≡ Some w → replaced (replaced m p v) p w ≡ m
replaced_back m p v w there =
    let new = insert m p v in
    let at : get new p ≡ Some v = get-insert nat_cmp_total m p v p ∙ ap (λ b. cond b (Some v) (get m p)) (itself p) in
    ap (λ o. replaced (cond (is_some o) new m) p w) there
    ∙ ap (λ o. cond (is_some o) (insert new p w) new) at
    ∙ same_map nat_cmp_total nat_cmp-IsAntisymmetric (insert new p w) m (λ q. get-insert nat_cmp_total new p w q ∙ elim (answer (eq_by_cmp nat_cmp q p)) [
      | yes t ↦ ap (λ b. cond b (Some w) (get new q)) t ∙ sym there ∙ get_tied nat_cmp_total m q p (is_tied _ t)
      | no f ↦ ap (λ b. cond b (Some w) (get new q)) f ∙ get-insert nat_cmp_total m p v q ∙ ap (λ b. cond b (Some v) (get m q)) f
    ])

-- what was made of a board's parts leads on from them
pub raised_leads : (raised : Raised) (a : PartsView) (tidy : is_tidy a ≡ true) (new : Look) → Raises raised (look_of a) new → StoringLeads raised a (a.0, stored (view_of_raised raised) a.1)
raised_leads raised a tidy new r = record { contexts = refl; says = refl; neat = stored_tidy raised a tidy new r (a.0, stored (view_of_raised raised) a.1) refl }

-- and what leads there from a board was made of it
pub leads_raises : (raised : Raised) (old new : PartsView) → is_tidy old ≡ true → StoringLeads raised old new → IsBoardBelow (look_of old) (look_of new) → Raises raised (look_of old) (look_of new)
leads_raises raised old new tidy l above =
    let is : (old.0, stored (view_of_raised raised) old.1) ≡ new = λ i. (sym l.contexts i, l.says i) in
    record { parts = old; tidy = tidy; made_of = refl; gives = ap look_of is; neat = ap is_tidy is ∙ l.neat; above = above }
