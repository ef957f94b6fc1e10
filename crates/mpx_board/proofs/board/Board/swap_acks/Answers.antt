use Rattle.std.proofs.Common.{ap, ◌∙◌}
use Rattle.mpx_board.specs.Looks.{parts_of}
use Rattle.mpx_board.specs.Tidy.{is_tidy}
use Rattle.mpx_board.specs.Views.{view_of_all_acks}
use Rattle.mpx_board.proofs.Acknowledging.{replaced_tidy}
use Rattle.mpx_board.proofs.board.Board.swap_acks.Goals as goal

pub returns-clause-mine : goal.returns-clause-mine
returns-clause-mine c = ap (λ m. ((parts_of c.args.self.now).0, view_of_all_acks m)) c.swap.ensures.x_after

pub returns-clause-theirs : goal.returns-clause-theirs
returns-clause-theirs c = ap (λ m. ((parts_of c.args.other.now).0, view_of_all_acks m)) c.swap.ensures.y_after

pub invariant_of-self : goal.invariant_of-self
invariant_of-self c = record { tidy = ap (λ m. is_tidy ((parts_of c.args.self.now).0, view_of_all_acks m)) c.swap.ensures.x_after ∙ replaced_tidy (parts_of c.args.self.now) (parts_of c.args.other.now) c.args.self.now.tidy c.args.other.now.tidy }

pub invariant_of-other : goal.invariant_of-other
invariant_of-other c = record { tidy = ap (λ m. is_tidy ((parts_of c.args.other.now).0, view_of_all_acks m)) c.swap.ensures.y_after ∙ replaced_tidy (parts_of c.args.other.now) (parts_of c.args.self.now) c.args.other.now.tidy c.args.self.now.tidy }
