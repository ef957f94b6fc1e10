use Rattle.std.proofs.Common.{arith}
use Rattle.mpx_board.specs.Looks.{parts_of}
use Rattle.mpx_format.proofs.Pieces.{nothing_kept}
use Rattle.mpx_node.specs.Keeping.{named}
use Rattle.mpx_node.proofs.node.Node.new.Goals as goal

pub invariant_of-result : goal.invariant_of-result
invariant_of-result c = record { some = omega (arith, c.requires.some, c.requires.ranks); few = c.requires.few; kept_right = named _ _ (nothing_kept c.new.result.of.items (parts_of c.in_ok-board.board).1 c.new.ensures) }

pub returns-in-Ok : goal.returns-in-Ok
returns-in-Ok c = λ i. record { me = c.args.me; processes = c.args.processes; board = c.in_ok-board.ensures i; opened = λ name. c.in-Ok.ensures name i }
