-- The lines of ranks that wait, one after the other.
use Rattle.std.proofs.Common.{◌≡◌, ℕ, suc, ◌+◌, ◌-◌, ◌<◌, ◌++◌, List, length, get_or, drop, drop-cons, map, ap, ◌∙◌, arith}
use Rattle.std.proofs.lemmas.List.{length-map}
use Rattle.mpx_statement.specs.declared.statement.Statement.{Statement}
use Rattle.mpx_eval.specs.declared.who_waits.WaitingRank.{WaitingRank}
use Rattle.mpx_eval.specs.Found.{missing_view, waiting_view}
use Rattle.mpx_waiting.specs.ToldLines.{rank_text, ranks_text}

-- the lines of the ranks from one on are its own and those of the next
pub ranks_more : (text : List ℕ) (statements : List (List Statement)) (places : List (ℕ × ℕ)) (most : ℕ) (found : List WaitingRank) (i : ℕ) (w : WaitingRank) → i < length found
    → ranks_text text statements places most (map waiting_view (drop i found))
    ≡ rank_text text statements places most (waiting_view (get_or found i w)) ++ ranks_text text statements places (most - length (get_or found i w).calls.items) (map waiting_view (drop (i + 1) found))
ranks_more text statements places most found i w l =
    let k : suc i ≡ i + 1 = omega arith in
    let x = get_or found i w in
    ap (λ ys. ranks_text text statements places most (map waiting_view ys)) (drop-cons found i w l)
    ∙ ap (λ n. rank_text text statements places most (waiting_view x) ++ ranks_text text statements places (most - n) (map waiting_view (drop (suc i) found))) (length-map x.calls.items missing_view)
    ∙ ap (λ n. rank_text text statements places most (waiting_view x) ++ ranks_text text statements places (most - length x.calls.items) (map waiting_view (drop n found))) k
