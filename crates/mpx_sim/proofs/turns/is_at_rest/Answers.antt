use Rattle.std.proofs.Common.{inl, inr}
use Rattle.mpx_sim.proofs.turns.is_at_rest.Goals as goal

pub returns-clause-rests : goal.returns-clause-rests
returns-clause-rests g c e = inr (inl (c.are_same-2.ensures e, c.in_ok-lack.ensures.lack c.if-not-lack.false))

pub returns-then-lost-clause-rests : goal.returns-then-lost-clause-rests
returns-then-lost-clause-rests g c e = inr (inr (c.loses_all-lost.ensures.0 c.if-lost.true, c.in_ok-lack.ensures.lack c.if-not-lack.false))
