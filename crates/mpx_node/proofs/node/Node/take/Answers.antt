use Rattle.std.proofs.Common.{refl}
use Rattle.mpx_node.specs.Keeping.{named}
use Rattle.mpx_node.proofs.Frames.{mapped_err}
use Rattle.mpx_board.specs.Looks.{parts_of}
use Rattle.mpx_format.proofs.Pieces.{nothing_kept}
use Rattle.mpx_node.proofs.node.Node.take.Goals as goal

pub invariant_of-self : goal.invariant_of-self
invariant_of-self c =
    let node = c.args.self.now in
    record { some = node.some; few = node.few; kept_right = named _ _ (nothing_kept c.forget_all.new.self.of.items (parts_of c.take.new.self).1 c.forget_all.ensures) }

pub returns-clause-err : goal.returns-clause-err
returns-clause-err c = mapped_err c.take.result (λ left. (refl, left)) c.take.ensures.err
