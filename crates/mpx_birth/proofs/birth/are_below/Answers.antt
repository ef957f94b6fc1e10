use Rattle.std.proofs.Common.{◌<◌, arith, sym, take}
use Rattle.std.proofs.lemmas.List.{take_all}
use Rattle.std.proofs.lemmas.List.Elements.{All-more, All-same}
use Rattle.mpx_birth.proofs.birth.are_below.Goals as goal

pub loop-member-preserved : goal.loop-member-preserved
loop-member-preserved c =
    All-more (λ p. p < 64) _ _ c.member-item.result c.loop-member-test.true c.loop-member.invariant (omega (arith, c.member-item.is, c.number-number.ensures.number, c.number-number.ensures.below))

pub returns : goal.returns
returns c =
    All-same (λ p. p < 64) c.args.members.now (take c.loop-member.member-index c.args.members.now)
    (sym (take_all c.loop-member.member-index c.args.members.now c.loop-member-test.false)) c.loop-member.invariant
