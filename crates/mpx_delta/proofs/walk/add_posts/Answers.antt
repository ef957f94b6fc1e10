-- The pieces of one entry after another.
use Rattle.std.proofs.Common.{not}
use Rattle.std.proofs.lemmas.List.Elements.{All-nil}
use Rattle.join_core.specs.FlatSeen.{flat_view}
use Rattle.join_core.specs.laws.Cases.{second_true}
use Rattle.mpx_board.specs.Tidy.{is_bare, is_unknown, are_tidy_posts}
use Rattle.mpx_board.specs.Views.{view_of_call}
use Rattle.mpx_digest.proofs.Steps.{passes_at}
use Rattle.mpx_delta.specs.Facts.{SaysPost}
use Rattle.mpx_delta.proofs.Adding.{adds_nothing, adds_piece, adds_more, adds_all, told_false}
use Rattle.mpx_delta.proofs.walk.add_posts.Goals as goal

pub loop-process-init : goal.loop-process-init
loop-process-init c = adds_nothing _ _ (λ P. All-nil _)

pub loop-process-preserved : goal.loop-process-preserved
loop-process-preserved c = rw c.in_ok-push.ensures.items (adds_more (λ P x. SaysPost P c.args.name.now c.args.call (x.0, flat_view (λ v. v) x.1)) c.entries-process-items.result.now c.loop-process.process-index c.loop-process-item.result c.args.made.now.items _ _ c.loop-process-test.true c.loop-process-item.is c.loop-process.invariant (adds_piece _ _ _ c.in_ok-post_piece.ensures))

pub post_piece-requires-clause-told : goal.post_piece-requires-clause-told
post_piece-requires-clause-told c = told_false _ (passes_at (flat_view (λ v. v)) (λ x. not (is_unknown x.1)) c.entries-process-items.result.now _ c.loop-process.process-index c.loop-process-item.result c.loop-process-test.true c.loop-process-item.is c.entries-process-items.ensures.entries (second_true (not (is_bare (view_of_call c.args.posts.now))) _ (second_true _ (are_tidy_posts (view_of_call c.args.posts.now)) c.requires)))

pub returns : goal.returns
returns c = adds_all (flat_view (λ v. v)) (λ P. SaysPost P c.args.name.now c.args.call) c.entries-process-items.result.now _ c.loop-process.process-index c.args.made.now.items c.loop-process.made.items c.loop-process-test.false c.entries-process-items.ensures.entries c.loop-process.invariant
