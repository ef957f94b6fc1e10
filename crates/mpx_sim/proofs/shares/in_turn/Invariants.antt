use Rattle.std.proofs.Common.{◌≡◌, ◌+◌, ◌<◌, ◌≤◌, ℕ, get_or}
use Rattle.std.specs.Fork.{ChangesAt}
use Rattle.mpx_sim.proofs.shares.in_turn.Given as goal

abbrev pub invariant-loop-place : goal.invariant-loop-place
invariant-loop-place g l = record {
  rest : (k : ℕ) (d : g.row.T.Denot) → l.place ≤ k → get_or l.places k d ≡ get_or l.initial.places k d;
  done : (k : ℕ) (d : g.row.T.Denot) → k < l.place → ChangesAt g.F.Fn l.work (l.first + k) (get_or l.initial.places k d) (get_or l.places k d);
}
