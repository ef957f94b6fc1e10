-- The pieces of one entry after another.
use Rattle.std.proofs.lemmas.List.Elements.{All-nil}
use Rattle.mpx_board.specs.Tidy.{is_tidy_call}
use Rattle.mpx_board.specs.Views.{view_of_call}
use Rattle.mpx_digest.proofs.Steps.{passes_at}
use Rattle.mpx_delta.specs.Facts.{SaysCall}
use Rattle.mpx_delta.proofs.Adding.{adds_nothing, adds_more, adds_all}
use Rattle.mpx_delta.proofs.walk.add_calls.Goals as goal

pub loop-call-init : goal.loop-call-init
loop-call-init c = adds_nothing _ _ (λ P. All-nil _)

pub loop-call-preserved : goal.loop-call-preserved
loop-call-preserved c = adds_more (λ P x. SaysCall P c.args.name.now (x.0, view_of_call x.1)) c.entries-call-items.result.now c.loop-call.call-index c.loop-call-item.result c.args.made.now.items _ _ c.loop-call-test.true c.loop-call-item.is c.loop-call.invariant c.in_ok-add_posts.ensures

pub add_posts-requires : goal.add_posts-requires
add_posts-requires c = passes_at view_of_call (λ x. is_tidy_call x.0 x.1) c.entries-call-items.result.now _ c.loop-call.call-index c.loop-call-item.result c.loop-call-test.true c.loop-call-item.is c.entries-call-items.ensures.entries c.requires

pub returns : goal.returns
returns c = adds_all view_of_call (λ P. SaysCall P c.args.name.now) c.entries-call-items.result.now _ c.loop-call.call-index c.args.made.now.items c.loop-call.made.items c.loop-call-test.false c.entries-call-items.ensures.entries c.loop-call.invariant
