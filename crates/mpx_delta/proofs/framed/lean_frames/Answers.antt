-- The contexts stand in the board without these posts while it is framed; where nothing is left out it is the board itself.
use Rattle.std.proofs.Common.{◌≡◌, true, IfSome, subst, sym, ap, ◌∙◌}
use Rattle.std.proofs.lemmas.Result.{IfOk-weaker}
use Rattle.join_nest.specs.Placed.{with_values}
use Rattle.join_nest.specs.Seen.{seen}
use Rattle.mpx_board.specs.Contexts.{look_of}
use Rattle.mpx_board.specs.Looks.{look, parts_of}
use Rattle.mpx_board.specs.Tidy.{is_bare}
use Rattle.mpx_board.specs.Views.{view_of_acks, view_of_entries, view_of_lifted}
use Rattle.mpx_digest.specs.Keep.{keep}
use Rattle.mpx_delta.specs.Lacking.{AreFramesOf}
use Rattle.mpx_delta.specs.Lean.{lean_context}
use Rattle.mpx_delta.proofs.Framing.{lean_own, nothing_left_out}
use Rattle.mpx_delta.proofs.InPlace.{placed_on, placed_tidy}
use Rattle.mpx_delta.proofs.framed.lean_frames.Goals as goal

pub returns-then-is_empty-clause-frames : goal.returns-then-is_empty-clause-frames
returns-then-is_empty-clause-frames c =
    let bare : is_bare (view_of_acks c.in_ok-shared.shared) ≡ true = sym c.is_empty.ensures ∙ c.if-is_empty.true in
    let lean = sym (nothing_left_out (view_of_acks c.in_ok-shared.shared) (look c.args.board.now) bare) ∙ c.in_ok-shared.ensures in
    IfOk-weaker c.frames_of.result _ _ (λ made. subst (λ b. AreFramesOf c.args.limit b made.items) lean) c.frames_of.ensures

pub exchange_contexts-requires : goal.exchange_contexts-requires
exchange_contexts-requires c =
    let digest = view_of_acks c.in_ok-shared.shared in
    let contexts = view_of_entries c.pair.result.now.first in
    let board = parts_of c.args.board.now in
    let cs = seen view_of_lifted c.in-Some.changes.values.items in
    let made : with_values contexts cs ≡ keep (lean_context digest) contexts = subst (λ o. IfSome o (λ changes. with_values contexts (seen view_of_lifted changes.values.items) ≡ keep (lean_context digest) contexts)) c.in-Some.is c.in_ok-changes.ensures in
    placed_tidy digest board cs c.pair.ensures.tidy (placed_on digest contexts board.0 cs (ap (λ v. v.0) c.pair.ensures.value) made)

pub returns-clause-frames : goal.returns-clause-frames
returns-clause-frames c =
    let digest = view_of_acks c.in_ok-shared.shared in
    let contexts = view_of_entries c.pair.result.now.first in
    let board = parts_of c.args.board.now in
    let cs = seen view_of_lifted c.in-Some.changes.values.items in
    let made : with_values contexts cs ≡ keep (lean_context digest) contexts = subst (λ o. IfSome o (λ changes. with_values contexts (seen view_of_lifted changes.values.items) ≡ keep (lean_context digest) contexts)) c.in-Some.is c.in_ok-changes.ensures in
    let lean = ap look_of c.exchange_contexts.ensures.new ∙ lean_own digest board (with_values board.0 cs) (placed_on digest contexts board.0 cs (ap (λ v. v.0) c.pair.ensures.value) made) ∙ c.in_ok-shared.ensures in
    IfOk-weaker c.frames_of-made.result _ _ (λ made. subst (λ b. AreFramesOf c.args.limit b made.items) lean) c.frames_of-made.ensures
