-- Full rounds lead to the end of the evaluation.
use Rattle.std.proofs.Common.{◌≡◌, ℕ, ◌<◌, ◌≤◌, List, [], ◌∷◌, ◌++◌, length, Option, Some, None, refl, sym, ap, ◌∙◌, subst, arith, inl, inr}
use Rattle.std.specs.Prelude.{◌⊎◌}
use Rattle.std.proofs.lemmas.List.{append-nil}
use Rattle.mpx_num.specs.declared.own.Operation.{Operation}
use Rattle.mpx_statement.specs.declared.statement.Statement.{Statement}
use Rattle.mpx_meaning.specs.Ranks.{Local, step}
use Rattle.mpx_meaning.specs.Evaluation.{IsEvaluation, IsMaximal, rank_goes_on, known, left, move}
use Rattle.mpx_meaning.proofs.Ways.{step-grows}
use Rattle.mpx_meaning.proofs.Ends.{move-left}
use Rattle.mpx_system.specs.Systems.{System, Doing, Nets, Drives, MayDo, MayDoAll, Leads, does, does_all, start_system, world_tells}
use Rattle.mpx_system.specs.Rest.{IsFullRound, AreFullRounds, after_rounds}
use Rattle.mpx_system.proofs.Coupling.{Couples, couples_does, goes_on-none, goes_on-same, tells_known}
use Rattle.mpx_system.proofs.Leading.{coupled, leads_on}
use Rattle.mpx_system.proofs.Settled.{settled_stuck, stuck_ends}

may_do-early : (ranks : ℕ) (early late : List Doing) (s : System) → MayDoAll ranks s (early ++ late) → MayDoAll ranks s early
may_do-early ranks [] late s m = tt
may_do-early ranks (d ∷ early) late s m = (m.0, may_do-early ranks early late (does s d) m.1)

pub leads_through : (ranks : ℕ) (from : System) (ds : List Doing) (to : System) → Leads ranks from to → MayDoAll ranks to ds → Leads ranks from (does_all to ds)
leads_through ranks from [] to led m = led
leads_through ranks from (d ∷ ds) to led m = leads_through ranks from ds (does to d) (leads_on ranks from to d led m.0) m.1

module _ (ops : List Operation) (script : List (List Statement)) (ranks : ℕ) where
  -- a rank's move by what its node holds is a move of the evaluation
  module _ (s : System) (c : Couples ops script ranks s) (p : ℕ) (t : Local) (e : step s.world.operations (world_tells s.world p) (s.ranks p) ≡ Some t) where
    by_ops : step ops (world_tells s.world p) (s.ranks p) ≡ Some t
    by_ops = sym (λ i. step (c.operations i) (world_tells s.world p) (s.ranks p)) ∙ e

    by_known : step ops (known ops ranks s.ranks p) (s.ranks p) ≡ Some t
    by_known = step-grows ops (world_tells s.world p) (known ops ranks s.ranks p) (tells_known ops script ranks s c p) (s.ranks p) t by_ops

    is_move : rank_goes_on s.world.operations s.ranks p (world_tells s.world p) ≡ move ops ranks s.ranks p
    is_move = (λ i. rank_goes_on (c.operations i) s.ranks p (world_tells s.world p)) ∙ goes_on-same ops s.ranks p (world_tells s.world p) (known ops ranks s.ranks p) t by_ops by_known

  -- a doing moves nobody, or less is left
  does_leaves : (s : System) → Couples ops script ranks s → (d : Doing) → MayDo ranks s d → ((does s d).ranks ≡ s.ranks) ⊎ (left ranks (does s d).ranks < left ranks s.ranks)
  does_leaves s c (Nets h) m = inl refl
  does_leaves s c (Drives p) m = by_step (step s.world.operations (world_tells s.world p) (s.ranks p)) refl where
    by_step : (o : Option Local) → step s.world.operations (world_tells s.world p) (s.ranks p) ≡ o → (rank_goes_on s.world.operations s.ranks p (world_tells s.world p) ≡ s.ranks) ⊎ (left ranks (rank_goes_on s.world.operations s.ranks p (world_tells s.world p)) < left ranks s.ranks)
    by_step None e = inl (sym (goes_on-none s.world.operations s.ranks p (world_tells s.world p) e))
    by_step (Some t) e = inr (subst (λ u. left ranks u < left ranks s.ranks) (sym (is_move s c p t e)) (move-left ops ranks s.ranks p m t (by_known s c p t e)))

  all_leave : (ds : List Doing) (s : System) → Couples ops script ranks s → MayDoAll ranks s ds → ((early late : List Doing) → early ++ late ≡ ds → (does_all s early).ranks ≡ s.ranks) ⊎ (left ranks (does_all s ds).ranks < left ranks s.ranks)
  all_leave [] s c m = inl none where
    none : (early late : List Doing) → early ++ late ≡ [] → (does_all s early).ranks ≡ s.ranks
    none [] late e = refl
    none (x ∷ early) late e = cc e
  all_leave (d ∷ ds) s c m = elim (does_leaves s c d m.0) [
    | inl same ↦ elim (all_leave ds (does s d) (couples_does ops script ranks s c d m.0) m.1) [
      | inl rest ↦ inl (none same rest)
      | inr less ↦ inr (subst (λ u. left ranks (does_all (does s d) ds).ranks < left ranks u) same less)
    ]
    | inr fewer ↦ elim (all_leave ds (does s d) (couples_does ops script ranks s c d m.0) m.1) [
      | inl rest ↦ inr (subst (λ u. left ranks u < left ranks s.ranks) (sym (rest ds [] (append-nil ds))) fewer)
      | inr less ↦ inr (omega (arith, less, fewer))
    ]
  ] where
    none : (does s d).ranks ≡ s.ranks → ((early late : List Doing) → early ++ late ≡ ds → (does_all (does s d) early).ranks ≡ (does s d).ranks) → (early late : List Doing) → early ++ late ≡ d ∷ ds → (does_all s early).ranks ≡ s.ranks
    none same rest [] late e = refl
    none same rest (x ∷ early) late e =
        let first : x ≡ d = cc e in
        let others : early ++ late ≡ ds = cc e in
        ap (λ y. (does_all (does s y) early).ranks) first ∙ rest early late others ∙ same

  -- at the end of the evaluation nobody moves any more
  does_stays : (s : System) → Couples ops script ranks s → IsMaximal ops ranks s.ranks → (d : Doing) → (does s d).ranks ≡ s.ranks
  does_stays s c stuck (Nets h) = refl
  does_stays s c stuck (Drives p) = by_step (step s.world.operations (world_tells s.world p) (s.ranks p)) refl where
    by_step : (o : Option Local) → step s.world.operations (world_tells s.world p) (s.ranks p) ≡ o → rank_goes_on s.world.operations s.ranks p (world_tells s.world p) ≡ s.ranks
    by_step None e = sym (goes_on-none s.world.operations s.ranks p (world_tells s.world p) e)
    by_step (Some t) e = let moved = by_known s c p t e in let none = stuck p in cc (moved, none)

  all_stay : (ds : List Doing) (s : System) → Couples ops script ranks s → IsMaximal ops ranks s.ranks → MayDoAll ranks s ds → (does_all s ds).ranks ≡ s.ranks
  all_stay [] s c stuck m = refl
  all_stay (d ∷ ds) s c stuck m =
      let same = does_stays s c stuck d in
      all_stay ds (does s d) (couples_does ops script ranks s c d m.0) (subst (IsMaximal ops ranks) (sym same) stuck) m.1 ∙ same

  module _ (size : ℕ) (few : length script ≤ ranks) where
    -- a full round after which as much is left began at the end of the evaluation
    full_round : (s : System) → Leads ranks (start_system ops script ranks size) s → (ds : List Doing) → IsFullRound ranks s ds → IsEvaluation ops script ranks s.ranks ⊎ (left ranks (does_all s ds).ranks < left ranks s.ranks)
    full_round s led ds full =
        let c = coupled ops script ranks size s led in
        elim (all_leave ds s c full.may) [
          | inl same ↦ inl (stuck_ends ops script ranks s.ranks few c.reached (λ p l.
              let w = full.each p l in
              settled_stuck ops script ranks size s led w.early (may_do-early ranks w.early w.late s (subst (MayDoAll ranks s) (sym w.all) full.may)) (same w.early w.late w.all) p l w.settled))
          | inr less ↦ inr less
        ]

    rounds_stay : (rounds : List (List Doing)) (s : System) → Couples ops script ranks s → IsMaximal ops ranks s.ranks → AreFullRounds ranks s rounds → (after_rounds s rounds).ranks ≡ s.ranks
    rounds_stay [] s c stuck full = refl
    rounds_stay (ds ∷ rest) s c stuck full =
        let same = all_stay ds s c stuck full.0.may in
        rounds_stay rest (does_all s ds) (all_coupled ds s c full.0.may) (subst (IsMaximal ops ranks) (sym same) stuck) full.1 ∙ same where
          all_coupled : (ds : List Doing) (s : System) → Couples ops script ranks s → MayDoAll ranks s ds → Couples ops script ranks (does_all s ds)
          all_coupled [] s c m = c
          all_coupled (d ∷ ds) s c m = all_coupled ds (does s d) (couples_does ops script ranks s c d m.0) m.1

    pub rounds_end : (rounds : List (List Doing)) (s : System) → Leads ranks (start_system ops script ranks size) s → AreFullRounds ranks s rounds → left ranks s.ranks < length rounds → IsEvaluation ops script ranks (after_rounds s rounds).ranks
    rounds_end [] s led full l = absurd (omega (arith, l))
    rounds_end (ds ∷ rest) s led full l = elim (full_round s led ds full.0) [
      | inl e ↦ subst (IsEvaluation ops script ranks) (sym (rounds_stay (ds ∷ rest) s (coupled ops script ranks size s led) e.maximal full)) e
      | inr less ↦ rounds_end rest (does_all s ds) (leads_through ranks (start_system ops script ranks size) ds s led full.0.may) full.1 (omega (arith, less, l))
    ]
