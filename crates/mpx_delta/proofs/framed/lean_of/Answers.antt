-- The lean board of a tidy one is tidy.
use Rattle.std.proofs.Common.{ap, ◌∙◌}
use Rattle.mpx_board.specs.Contexts.{look_of}
use Rattle.mpx_board.specs.Looks.{parts_of}
use Rattle.mpx_board.specs.Views.{view_of_acks}
use Rattle.mpx_digest.specs.Keep.{keep}
use Rattle.mpx_delta.specs.Lean.{lean_context}
use Rattle.mpx_delta.proofs.Leaning.{lean_tidy}
use Rattle.mpx_delta.proofs.Framing.{lean_own}
use Rattle.mpx_delta.proofs.framed.lean_of.Goals as goal

pub from_tidy-requires : goal.from_tidy-requires
from_tidy-requires c = lean_tidy (view_of_acks c.args.shared.now) (parts_of c.args.board.now) _ _ c.pair.ensures.tidy (c.in_ok-first.ensures ∙ ap (λ v. keep (lean_context (view_of_acks c.args.shared.now)) v.0) c.pair.ensures.value) c.new-second.ensures

pub returns : goal.returns
returns c =
    let digest = view_of_acks c.args.shared.now in
    let board = parts_of c.args.board.now in
    ap (λ v. look_of (v.0, board.1)) c.from_tidy.ensures
    ∙ lean_own digest board _ (c.in_ok-first.ensures ∙ ap (λ v. keep (lean_context digest) v.0) c.pair.ensures.value)
