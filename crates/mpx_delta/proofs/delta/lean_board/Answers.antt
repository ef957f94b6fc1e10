-- A lean board of a tidy one is tidy.
use Rattle.std.proofs.Common.{ap, ◌∙◌}
use Rattle.mpx_board.specs.Contexts.{look_of}
use Rattle.mpx_board.specs.Looks.{look, parts_of}
use Rattle.mpx_board.specs.Parts.{PartsView}
use Rattle.mpx_board.specs.Views.{view_of_acks}
use Rattle.mpx_digest.specs.Keep.{keep}
use Rattle.mpx_delta.specs.Lean.{lean_context}
use Rattle.mpx_delta.proofs.Leaning.{lean_said, lean_tidy}
use Rattle.mpx_delta.proofs.delta.lean_board.Goals as goal

pub from_tidy-lean-requires : goal.from_tidy-lean-requires
from_tidy-lean-requires c = lean_tidy (view_of_acks c.args.digest.now) (parts_of c.args.board.now) _ _ c.pair.ensures.tidy (c.in-Ok.ensures ∙ ap (λ v. keep (lean_context (view_of_acks c.args.digest.now)) v.0) c.pair.ensures.value) c.new-second.ensures

pub returns-in-Ok : goal.returns-in-Ok
returns-in-Ok c =
    c.with_acks.ensures
    ∙ ap (λ (v : PartsView). record (look_of v) { acks = (look c.args.said).acks }) c.from_tidy-lean.ensures
    ∙ lean_said (view_of_acks c.args.digest.now) (parts_of c.args.board.now) _ _ (look c.args.said) (c.in-Ok.ensures ∙ ap (λ v. keep (lean_context (view_of_acks c.args.digest.now)) v.0) c.pair.ensures.value)
