-- Pieces of rows, of which some change.
use Rattle.std.proofs.Common.{◌≡◌, ◌==◌, ◌&&◌, ℕ, zero, suc, cond, false, Some, ◌+◌, ◌-◌, ◌*◌, ◌≤◌, ◌<◌, List, [], ◌∷◌, ◌++◌, length, take, drop, set, refl, sym, ap, ◌∙◌, subst, arith}
use Rattle.std.proofs.lemmas.List.{take-set-le, drop-set-lt, drop-set-add, drop-take}
use Rattle.std.proofs.Math.Seq.{take-take}
use Rattle.std.specs.Prelude.{is_some}
use Rattle.std.specs.Ordering.{nat_cmp}
use Rattle.std.specs.Cmp.{nat_cmp_total}
use Rattle.std.specs.FinMap.{get}
use Rattle.std.specs.Cmp.{unsigned_tied}
use Rattle.join_core.specs.laws.Cases.{answer, yes, no}
use Rattle.join_nest.specs.Keyed.{replaced}
use Rattle.join_nest.specs.laws.Keyed.{get_replaced}
use Rattle.mpx_board.specs.Parts.{AcksView, OfProcesses}
use Rattle.mpx_format.specs.declared.kept.KeptAcks.{KeptAcks}
use Rattle.mpx_format.specs.Kept.{AreKept, ArePieces, IsPiece, Row, pieces_of, rows_of}

-- a row changes, and its piece isn't known then
pub forgotten : (k r : ℕ) (ps : List (List ℕ)) (rows : List Row) (row : Row) → r < 8 → ArePieces ps rows → ArePieces (set ps k []) (set rows (8 * k + r) row)
unfolding ArePieces
forgotten k r [] rows row lt h = tt
forgotten zero r (p ∷ ps) rows row lt h =
    let at : r ≡ 8 * zero + r = omega arith in
    (tt, subst (λ (more : List Row). ArePieces ps more) (sym (drop-set-lt 8 rows r row lt) ∙ ap (λ i. drop 8 (set rows i row)) at) h.1)
forgotten (suc k) r (p ∷ ps) rows row lt h =
    let at : 8 + (8 * k + r) ≡ 8 * suc k + r = omega arith in
    let far : 8 ≤ 8 * suc k + r = omega arith in (
      subst (IsPiece p) (sym (take-set-le 8 rows (8 * suc k + r) row far)) h.0,
      subst (λ (more : List Row). ArePieces (set ps k []) more) (sym (drop-set-add 8 rows (8 * k + r) row) ∙ ap (λ i. drop 8 (set rows i row)) at) (forgotten k r ps (drop 8 rows) row lt h.1),
    )

first_rows : (n at : ℕ) (rows new : List Row) → n ≤ at → take at new ≡ take at rows → take n new ≡ take n rows
first_rows n at rows new le same = sym (take-take n at new le) ∙ ap (take n) same ∙ take-take n at rows le

-- pieces of rows that are as before
pub first_kept : (k at : ℕ) (ps : List (List ℕ)) (rows new : List Row) → 8 * k ≤ at → take at new ≡ take at rows → ArePieces ps rows → ArePieces (take k ps) new
unfolding ArePieces
first_kept zero at ps rows new le same h = tt
first_kept (suc k) at [] rows new le same h = tt
first_kept (suc k) at (p ∷ ps) rows new le same h =
    let far : 8 ≤ at = omega (arith, le) in
    let is : at ≡ 8 + (at - 8) = omega (arith, far) in
    let both : take (8 + (at - 8)) new ≡ take (8 + (at - 8)) rows = ap (λ i. take i new) (sym is) ∙ same ∙ ap (λ i. take i rows) is in
    let behind : take (at - 8) (drop 8 new) ≡ take (at - 8) (drop 8 rows) = sym (drop-take 8 (at - 8) new) ∙ ap (drop 8) both ∙ drop-take 8 (at - 8) rows in (
      subst (IsPiece p) (sym (first_rows 8 at rows new far same)) h.0,
      first_kept k (at - 8) ps (drop 8 rows) (drop 8 new) (omega (arith, le, far)) behind h.1,
    )

-- past the last piece nothing is known
pub none_there : (k : ℕ) (ps : List (List ℕ)) → length ps ≤ k → set ps k [] ≡ ps
none_there k [] le = refl
none_there zero (p ∷ ps) le = absurd (omega (arith, le))
none_there (suc k) (p ∷ ps) le = ap (λ more. p ∷ more) (none_there k ps (omega (arith, le)))

-- of a process without pieces nothing is kept
pub none_kept : (rows : List Row) → ArePieces [] rows
unfolding ArePieces
none_kept rows = tt

pub nothing_kept : (k : List KeptAcks) (acks : OfProcesses AcksView) → k ≡ [] → AreKept k acks
nothing_kept k acks is q = subst (λ l. ArePieces (pieces_of l q) (rows_of (get acks q))) (sym is) (none_kept (rows_of (get acks q)))

module _ (old new : OfProcesses AcksView) (k l : List KeptAcks) (p : ℕ) (forgot : (q : ℕ) → pieces_of l q ≡ cond (q == p) [] (pieces_of k q)) where
  -- of one process nothing is kept, and all others say what they said
  pub others_kept : ((q : ℕ) → (q == p) ≡ false → get new q ≡ get old q) → AreKept k old → AreKept l new
  others_kept same h q = elim (answer (q == p)) [
    | yes t ↦ subst (λ ps. ArePieces ps (rows_of (get new q))) (sym (forgot q ∙ ap (λ b. cond b [] (pieces_of k q)) t)) (none_kept (rows_of (get new q)))
    | no n ↦
        subst (λ ps. ArePieces ps (rows_of (get new q))) (sym (forgot q ∙ ap (λ b. cond b [] (pieces_of k q)) n))
        (subst (λ o. ArePieces (pieces_of k q) (rows_of o)) (sym (same q n)) (h q))
  ]

-- all others say what they said
pub others_replaced : (m : OfProcesses AcksView) (p : ℕ) (v : AcksView) (q : ℕ) → (q == p) ≡ false → get (replaced m p v) q ≡ get m q
others_replaced m p v q n = get_replaced nat_cmp_total m p v q ∙ ap (λ b. cond (b && is_some (get m p)) (Some v) (get m q)) (unsigned_tied q p ∙ n)
