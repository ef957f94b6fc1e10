-- The board of the one context, which is dead.
use Rattle.std.proofs.Common.{refl}
use Rattle.std.proofs.lemmas.Result.{IfOk-weaker}
use Rattle.join_nest.specs.Lift.{dead}
use Rattle.mpx_board.specs.Boards.{Dead}
use Rattle.mpx_board.specs.Looks.{parts_of}
use Rattle.mpx_delta.proofs.Made.{is_context, context_tidy, context_says, says_context, is_piece}
use Rattle.mpx_delta.proofs.MadeSizes.{dead_fits}
use Rattle.mpx_delta.proofs.pieces.dead_piece.Goals as goal

pub about-requires : goal.about-requires
about-requires c = λ v is. context_tidy c.args.name.now dead v (is_context c.args.name.now dead v is) refl

pub returns : goal.returns
returns c = IfOk-weaker c.about.result _ _ (λ b is.
    let of = is_context c.args.name.now dead (parts_of b) is in
    is_piece (λ P. P (Dead c.args.name.now)) b
    (says_context c.args.name.now dead (parts_of b) of)
    (context_says c.args.name.now dead (parts_of b) of)
    (dead_fits (parts_of b) c.args.name.now of c.short_name.ensures))
    c.about.ensures
