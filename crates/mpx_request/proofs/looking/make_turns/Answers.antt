use Rattle.std.proofs.Common.{◌≡◌, ◌+◌, ◌-◌, ◌<◌, ◌∙◌, subst, arith}
use Rattle.mpx_request.proofs.Steps.{later_more}
use Rattle.mpx_request.proofs.looking.make_turns.Goals as goal

pub loop-left-preserved : goal.loop-left-preserved
loop-left-preserved g c =
    let some : 0 < c.loop-left.left = grind (arith, c.loop-left-test.true) in
    let same : (c.args.turns - c.loop-left.left) + 1 ≡ c.args.turns - (c.loop-left.left - 1) = omega (arith, c.loop-left.invariant.few, some) in
    record {
      later = later_more (g.H.Host.node c.args.host.now) (g.H.Host.node c.loop-left.host) (g.H.Host.node c.turn.new.self) c.loop-left.invariant.later c.turn.ensures.later;
      opened = c.turn.ensures.opened ∙ c.loop-left.invariant.opened;
      turned = subst (λ n. g.H.Host.turned c.args.host.now n c.turn.new.self) same (g.met.H.Host.turns_more _ _ _ (c.args.turns - c.loop-left.left) 1 c.loop-left.invariant.turned c.in_ok-turn.ensures.counted);
      few = omega (arith, c.loop-left.invariant.few);
    }
