-- The board of the one post.
use Rattle.std.proofs.Common.{refl}
use Rattle.std.proofs.lemmas.Result.{IfOk-weaker}
use Rattle.mpx_board.specs.Boards.{Held}
use Rattle.mpx_board.specs.Looks.{parts_of}
use Rattle.mpx_delta.proofs.Made.{post_of, context_tidy, posted_tidy, context_says, says_context, posted_says, says_posted, is_piece}
use Rattle.mpx_delta.proofs.MadeSizes.{post_fits}
use Rattle.mpx_delta.proofs.pieces.post_piece.Goals as goal

pub about-requires : goal.about-requires
about-requires c = λ v is.
    let of = post_of c.args.name.now c.args.call c.args.process _ _ _ _ v is refl c.new.ensures c.in_ok-one_call.ensures.dropped c.in_ok-one_call.ensures.calls c.in_ok-of_call.ensures c.in_ok-copy.ensures in
    context_tidy c.args.name.now _ v of.0 (posted_tidy c.args.name.now c.args.call c.args.process _ _ of.1 c.requires.call c.requires.told)

pub returns : goal.returns
returns c = IfOk-weaker c.about.result _ _ (λ b is.
    let of = post_of c.args.name.now c.args.call c.args.process _ _ _ _ (parts_of b) is refl c.new.ensures c.in_ok-one_call.ensures.dropped c.in_ok-one_call.ensures.calls c.in_ok-of_call.ensures c.in_ok-copy.ensures in
    is_piece (λ P. P (Held c.args.name.now c.args.call c.args.process _)) b
    (λ P says. says_posted c.args.name.now c.args.call c.args.process _ _ of.1 P (says_context c.args.name.now _ (parts_of b) of.0 P says))
    (λ P says. context_says c.args.name.now _ (parts_of b) of.0 P (posted_says c.args.name.now c.args.call c.args.process _ _ of.1 P says))
    (post_fits (parts_of b) c.args.name.now c.args.call c.args.process _ _ of.0 of.1 c.short_name.ensures c.short_post.ensures))
    c.about.ensures
