-- Moves of ranks among all, rounds, and their end.
use Rattle.std.proofs.Common.{◌≡◌, ℕ, zero, suc, ◌+◌, ◌<◌, ◌≤◌, ◌==◌, Bool, true, false, cond, List, [], ◌∷◌, ◌++◌, length, take, drop, set, Some, refl, sym, ap, ◌∙◌, subst, arith, inl, inr}
use Rattle.std.proofs.Math.Nat.{eq-or-lt_of_le}
use Rattle.std.specs.Prelude.{◌||◌, slice_get, IsTrue}
use Rattle.std.proofs.lemmas.Bool.{or_parts, cases_lt}
use Rattle.std.proofs.lemmas.Bool.Decides.{Decides-eqb}
use Rattle.std.proofs.lemmas.List.{length-set}
use Rattle.std.proofs.lemmas.Option.{slice_get_within}
use Rattle.mpx_num.specs.declared.own.Operation.{Operation}
use Rattle.mpx_statement.specs.declared.statement.Statement.{Statement}
use Rattle.mpx_meaning.specs.Ranks.{step}
use Rattle.mpx_meaning.specs.Evaluation.{State, IsQuiet, IsReached, known, move, moves, or_stay, start_state}
use Rattle.mpx_meaning.proofs.Ends.{move-quiet}
use Rattle.mpx_meaning.proofs.Steps.{step_ends}
use Rattle.mpx_meaning.proofs.Tells.{each-bound, each-me}
use Rattle.mpx_rank.specs.Places.{StandsInScript}
use Rattle.mpx_eval.specs.Places.{After, Before, EvalMoves, TableRank}
use Rattle.mpx_rank.specs.Moves.{left_of}
use Rattle.mpx_eval.specs.Rounds.{AreAtEnd, AreIn, LeadsToEnd, IsStuck, RankLeads, Round, Rounds, all_left}
use Rattle.mpx_eval.specs.Tables.{Table}
use Rattle.mpx_eval.proofs.Moving.{move_stays}
use Rattle.mpx_eval.proofs.Tables.{some_of}
use Rattle.mpx_meaning.proofs.Standing.{none_there}
use Rattle.mpx_post.proofs.Lists.{set_cases, set_twice, set_has, set_same, written}

-- LISTS

-- a vector whose elements were lent has what was written there
pub written_back : {A : Type 0} (len : ℕ) (old new : List A) → length new ≡ length old → length old ≡ len → take len (new ++ drop (length new) old) ≡ new
written_back zero [] [] e f = refl
written_back (suc len) [] [] e f = absurd (omega (arith, f))
written_back len [] (x ∷ xs) e f = absurd (omega (arith, e))
written_back len (y ∷ ys) [] e f = absurd (omega (arith, e))
written_back zero (y ∷ ys) (x ∷ xs) e f = absurd (omega (arith, f))
written_back (suc len) (y ∷ ys) (x ∷ xs) e f = ap (λ zs. x ∷ zs) (written_back len ys xs (omega (arith, e)) (omega (arith, f)))

-- what is left
pub left_le : (rs : List TableRank) (p : ℕ) (old new : TableRank) → slice_get rs p ≡ Some old → left_of new ≤ left_of old → all_left (set rs p new) ≤ all_left rs
left_le [] p old new e l = cc e
left_le (r ∷ rs) zero old new e l = let same : r ≡ old = cc e in omega (arith, l, ap left_of same)
left_le (r ∷ rs) (suc p) old new e l = omega (arith, left_le rs p old new e l)

pub left_lt : (rs : List TableRank) (p : ℕ) (old new : TableRank) → slice_get rs p ≡ Some old → left_of new < left_of old → all_left (set rs p new) < all_left rs
left_lt [] p old new e l = cc e
left_lt (r ∷ rs) zero old new e l = let same : r ≡ old = cc e in omega (arith, l, ap left_of same)
left_lt (r ∷ rs) (suc p) old new e l = omega (arith, left_lt rs p old new e l)

-- less is left where the ranks so far have moved or the next one has
pub less_more : (changed moved : Bool) (a b c : ℕ) → b ≤ a → (IsTrue changed → b < a) → c ≤ b → (IsTrue moved → c < b) → IsTrue (changed || moved) → c < a
less_more true moved a b c le less le2 less2 e = omega (arith, le2, less refl)
less_more false true a b c le less le2 less2 e = omega (arith, le, less2 refl)
less_more false false a b c le less le2 less2 e = cc e

module _ (ops : List Operation) where
  -- MOVES

  moves-push : (ranks : ℕ) (ps : List ℕ) (p : ℕ) (s : State) → moves ops ranks (ps ++ p ∷ []) s ≡ move ops ranks (moves ops ranks ps s) p
  moves-push ranks [] p s = refl
  moves-push ranks (q ∷ ps) p s = moves-push ranks ps p (move ops ranks s q)

  reached_on : (script : List (List Statement)) (ranks : ℕ) (s : State) (p : ℕ) → IsReached ops script ranks s → IsReached ops script ranks (move ops ranks s p)
  reached_on script ranks s p r = record { order = r.order ++ p ∷ []; reached = moves-push ranks r.order p (start_state script ranks) ∙ ap (λ u. move ops ranks u p) r.reached }

  move_other : (ranks : ℕ) (s : State) (p q : ℕ) → (q ≡ p → ⊥) → move ops ranks s p q ≡ s q
  move_other ranks s p q other = by_test (q == p) refl where
    by_test : (b : Bool) → (q == p) ≡ b → cond b (or_stay (s q) (step ops (known ops ranks s p) (s q))) (s q) ≡ s q
    by_test true e = absurd (other ((Decides-eqb q p).0 e))
    by_test false e = refl

  module _ (script : List (List Statement)) (ranks p : ℕ) (u : State) (rs : List TableRank) (l : p < ranks) (b : TableRank) (t : Table) (at : slice_get rs p ≡ Some b) (reached : IsReached ops script ranks u) (are : AreIn ops ranks rs t u) where
    -- where it stands before a move
    before : Before ops ranks p b t u
    before = record {
      me = (are.each p b at).0;
      local_me = each-me ops script ranks u reached p;
      stands = (are.each p b at).1;
      born = λ word name birth e. (each-bound ops script ranks u reached p l word name birth e).born;
      shows = are.shows;
    }

    are_after : (c : TableRank) (tc : Table) (moved : Bool) → After ops ranks p c tc u moved → IsQuiet ranks (move ops ranks u p) → AreIn ops ranks (set rs p c) tc (move ops ranks u p)
    are_after c tc moved a quiet = record {
      count = length-set rs p c ∙ are.count;
      each = λ q x e. set_cases rs p q c x (λ y. (y.me ≡ q) × StandsInScript y (move ops ranks u p q)) e
          (λ same. (a.me ∙ sym same, subst (λ j. StandsInScript c (move ops ranks u p j)) (sym same) a.stands))
          (λ old other. let x0 = are.each q x old in (x0.0, subst (StandsInScript x) (sym (move_other ranks u p q other)) x0.1));
      shows = a.shows;
      quiet = quiet;
    }

    -- it has moved
    pub moved_on : (c : TableRank) (tc : Table) → EvalMoves ops b t c tc true → IsReached ops script ranks (move ops ranks u p) × AreIn ops ranks (set rs p c) tc (move ops ranks u p)
    moved_on c tc m =
        let a = m ranks p u before in
        let found = some_of (step ops (known ops ranks u p) (u p)) (sym a.moves) in
        (reached_on script ranks u p reached, are_after c tc true a (move-quiet ops ranks u p l found.0 found.1 are.quiet))

    -- it has no move
    pub stands_still : (c : TableRank) (tc : Table) → EvalMoves ops b t c tc false → IsStuck ops ranks u p × AreIn ops ranks (set rs p c) tc u
    stands_still c tc m =
        let a = m ranks p u before in
        let none = none_there (step ops (known ops ranks u p) (u p)) (sym a.moves) in
        let same : move ops ranks u p ≡ u = λ i q. move_stays ops ranks u p none q i in
        (none, subst (AreIn ops ranks (set rs p c) tc) same (are_after c tc false a (subst (IsQuiet ranks) (sym same) are.quiet)))

  -- a move more
  pub leads_itself : (a : TableRank) (ta : Table) → RankLeads ops a ta a ta false
  leads_itself a ta script ranks p s rs l at reached are = record { to = s; reached = reached; are = subst (λ xs. AreIn ops ranks xs ta s) (sym (set_same rs p a at)) are; still = λ e. refl }

  pub leads_on : (a : TableRank) (ta : Table) (b : TableRank) (tb : Table) (c : TableRank) (tc : Table) (moved : Bool) → RankLeads ops a ta b tb moved → EvalMoves ops b tb c tc true → RankLeads ops a ta c tc true
  leads_on a ta b tb c tc moved h m script ranks p s rs l at reached are =
      let led = h script ranks p s rs l at reached are in
      let new = moved_on script ranks p led.to (set rs p b) l b tb (set_has rs p a b at) led.reached led.are c tc m in
      record { to = move ops ranks led.to p; reached = new.0; are = subst (λ xs. AreIn ops ranks xs tc (move ops ranks led.to p)) (set_twice rs p b c) new.1; still = λ e. cc e }

  -- the last one
  pub goes_to_end : (a : TableRank) (ta : Table) (b : TableRank) (tb : Table) (c : TableRank) (tc : Table) (moved : Bool) → RankLeads ops a ta b tb moved → EvalMoves ops b tb c tc false → LeadsToEnd ops a ta c tc moved
  goes_to_end a ta b tb c tc moved h m script ranks p s rs l at reached are =
      let led = h script ranks p s rs l at reached are in
      let end = stands_still script ranks p led.to (set rs p b) l b tb (set_has rs p a b at) led.reached led.are c tc m in
      (record { to = led.to; reached = led.reached; are = subst (λ xs. AreIn ops ranks xs tc led.to) (set_twice rs p b c) end.1; still = led.still }, end.0)

  -- ROUNDS

  pub round_more : (old : List TableRank) (before : Table) (rs : List TableRank) (t : Table) (changed moved : Bool) (n : ℕ) (a c : TableRank) (tc : Table) → slice_get rs n ≡ Some a → Round ops old before rs t changed n → LeadsToEnd ops a t c tc moved → Round ops old before (set rs n c) tc (changed || moved) (n + 1)
  round_more old before rs t changed moved n a c tc at h g script ranks s reached are =
      let first = h script ranks s reached are in
      let led = first.0 in
      let l : n < ranks = omega (arith, slice_get_within rs n a at, led.are.count) in
      let then = g script ranks n led.to rs l at led.reached led.are in
      let same : (changed || moved) ≡ false → then.0.to ≡ s = λ e. let parts = or_parts changed moved e in then.0.still parts.1 ∙ led.still parts.0 in (
        record { to = then.0.to; reached = then.0.reached; are = then.0.are; still = same },
        λ e p less.
            let below : p ≤ n = omega (arith, less) in
            elim (eq-or-lt_of_le below) [
              | inl is ↦ subst (λ q. IsStuck ops ranks s q) (sym is) (subst (λ v. IsStuck ops ranks v n) (same e) then.1)
              | inr more ↦ first.1 (or_parts changed moved e).0 p more
            ],
      )

  pub rounds_on : (old : List TableRank) (before : Table) (rs : List TableRank) (t : Table) (new : List TableRank) (u : Table) (moved : Bool) (n : ℕ) → Rounds ops old before rs t → Round ops rs t new u moved n → Rounds ops old before new u
  rounds_on old before rs t new u moved n h r script ranks s reached are =
      let here = h script ranks s reached are in
      let led = (r script ranks here.0 here.1 here.2).0 in
      (led.to, led.reached, led.are)

  -- after a round that moves nobody
  pub rounds_end : (old : List TableRank) (before : Table) (rs : List TableRank) (t : Table) (new : List TableRank) (u : Table) (n : ℕ) → length rs ≤ n → Rounds ops old before rs t → Round ops rs t new u false n → (script : List (List Statement)) (ranks : ℕ) (s : State) → IsReached ops script ranks s → AreIn ops ranks old before s → AreAtEnd ops script ranks new u
  rounds_end old before rs t new u n many h r script ranks s reached are =
      let here = h script ranks s reached are in
      let last = r script ranks here.0 here.1 here.2 in
      let stuck : (p : ℕ) → IsStuck ops ranks here.0 p = λ p. elim (cases_lt p ranks) [
        | inl l ↦ last.1 refl p (omega (arith, l, here.2.count, many))
        | inr g ↦ step_ends ops (known ops ranks here.0 p) (here.0 p) (here.2.quiet.from p g)
      ] in
      record {
        end = here.0;
        evaluation = record { reached = here.1; maximal = stuck };
        are = subst (AreIn ops ranks new u) (last.0.still refl) last.0.are;
      }
