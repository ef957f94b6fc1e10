-- A rank's moves are those of the evaluation, where the table carries its posts.
use Rattle.std.proofs.Common.{◌≡◌, ◌<◌, ◌≤◌, Bool, true, false, Option, Some, None, refl, sym, ap, ◌∙◌, subst, arith, List}
use Rattle.std.specs.Prelude.{IsTrue}
use Rattle.std.specs.Option.{option_map}
use Rattle.mpx_num.specs.declared.own.Operation.{Operation}
use Rattle.mpx_value.specs.Histories.{Answer}
use Rattle.mpx_rank.specs.Moves.{GoesOn, Move, Ran, Still, are_done, has_ended, left_of, moved_on, passes_not, posts_not, stayed, waits_on}
use Rattle.mpx_rank.proofs.Moving.{move_leaves}
use Rattle.mpx_eval.specs.declared.table.Table.{Table}
use Rattle.mpx_eval.specs.Carrying.{table_terms}
use Rattle.mpx_eval.specs.Places.{After, EvalMoves, TableRank}
use Rattle.mpx_eval.specs.Rounds.{RankLeads, LeadsToEnd}
use Rattle.mpx_eval.specs.Tables.{answer_on, table_of}
use Rattle.mpx_eval.proofs.Going.{goes_to_end, leads_itself, leads_on}
use Rattle.mpx_eval.proofs.Moving as M

none_told : (o : Option Answer) → option_map (λ (a : Answer). a.outcome) o ≡ None → o ≡ None
none_told None e = refl
none_told (Some a) e = cc e

module _ (ops : List Operation) where
  -- MOVES

  -- a move of the rank is one of the evaluation's
  pub move_is : (r : TableRank) (c : Table) (s : TableRank) (d : Table) → Move (table_terms ops) r c s d → EvalMoves ops r (table_of c) s (table_of d) true
  move_is r c s d moves = λ ranks p u b. M.move_is_one ops ranks p u r c b s d moves

  -- and none is none
  pub still_is : (r : TableRank) (c d : Table) → Still (table_terms ops) r c d → EvalMoves ops r (table_of c) r (table_of d) false
  still_is r c d (has_ended waits todo) = λ ranks p u b. M.has_ended ops ranks p u r (table_of c) b waits todo
  still_is r c d (waits_on w waits still none) = λ ranks p u b.
      let here : answer_on ops (table_of c) r.me w.name w.call ≡ None = ap (λ t. answer_on ops (table_of t) r.me w.name w.call) (sym still) ∙ none_told (answer_on ops (table_of d) r.me w.name w.call) none in
      subst (λ t. After ops ranks p r (table_of t) u false) (sym still) (M.waits_still ops ranks p u r (table_of c) b w waits here)
  still_is r c d (passes_not {mid = mid} words rest waits todo before undone after) = λ ranks p u b.
      subst (λ t. After ops ranks p r (table_of t) u false) (sym (after ∙ before)) (M.passes_not ops ranks p u r (table_of c) b words rest waits todo (subst (λ m. are_done ((table_terms ops).tells m r.me) r.requests words ≡ false) before undone))
  still_is r c d (posts_not posting rest waits todo tried) = absurd tried

  -- MANY MOVES

  ran_leads : (r : TableRank) (c : Table) (s : TableRank) (d : Table) (moved : Bool) → Ran (table_terms ops) r c s d moved → RankLeads ops r (table_of c) s (table_of d) moved
  ran_leads r c s d moved stayed = leads_itself ops r (table_of c)
  ran_leads r c s d moved (moved_on {s = mid} {d = before} {moved = earlier} ran move) =
      leads_on ops r (table_of c) mid (table_of before) s (table_of d) earlier (ran_leads r c mid before earlier ran) (move_is mid before s d move)

  pub goes_is : (r : TableRank) (c : Table) (s : TableRank) (d : Table) (moved : Bool) → GoesOn (table_terms ops) r c s d moved → LeadsToEnd ops r (table_of c) s (table_of d) moved
  goes_is r c s d moved goes = goes_to_end ops r (table_of c) s (table_of goes.0) s (table_of d) moved (ran_leads r c s goes.0 moved goes.1) (still_is s goes.0 d goes.2)

  -- so much is left
  ran_left : (r : TableRank) (c : Table) (s : TableRank) (d : Table) (moved : Bool) → Ran (table_terms ops) r c s d moved → (left_of s ≤ left_of r) × (IsTrue moved → left_of s < left_of r)
  ran_left r c s d moved stayed = (omega arith, λ e. cc e)
  ran_left r c s d moved (moved_on {s = mid} {d = before} {moved = earlier} ran move) =
      let first = (ran_left r c mid before earlier ran).0 in
      let less = move_leaves (table_terms ops) mid before s d move in
      (omega (arith, first, less), λ e. omega (arith, first, less))

  pub goes_left : (r : TableRank) (c : Table) (s : TableRank) (d : Table) (moved : Bool) → GoesOn (table_terms ops) r c s d moved → (left_of s ≤ left_of r) × (IsTrue moved → left_of s < left_of r)
  goes_left r c s d moved goes = ran_left r c s goes.0 moved goes.1
