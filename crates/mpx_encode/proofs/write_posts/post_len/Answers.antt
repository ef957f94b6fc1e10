use Rattle.std.proofs.Common.{◌≡◌, length, subst, arith}
use Rattle.mpx_kind.specs.Kinds.{fields_of, is_had}
use Rattle.std.proofs.lemmas.Int.{ints}
use Rattle.mpx_num.specs.Types.{IsInRange}
use Rattle.mpx_num.specs.declared.types.Ty.TheVariants.{I32}
use Rattle.mpx_post.specs.Posts.{key_of}
use Rattle.mpx_format.specs.Posts.{counts_if}
use Rattle.mpx_format.proofs.SpelledPosts.{post_fits}
use Rattle.mpx_encode.proofs.Posts.{length-post, post_making}
use Rattle.mpx_encode.proofs.write_posts.post_len.Goals as goal

pub making_len-requires : goal.making_len-requires
making_len-requires c =
    let g = c.args.given.now in
    let key : IsInRange I32 (key_of g) = subst (IsInRange I32) c.key-key.ensures (record { low = omega (arith, ints, c.key-key.type_inv); high = omega (arith, ints, c.key-key.type_inv) }) in
    post_making g (post_fits g c.limits.ensures.post c.limits.ensures.scounts c.limits.ensures.rcounts c.limits.ensures.items key)

pub returns-clause-fits : goal.returns-clause-fits
returns-clause-fits c =
    let g = c.args.given.now in
    let key : IsInRange I32 (key_of g) = subst (IsInRange I32) c.key-key.ensures (record { low = omega (arith, ints, c.key-key.type_inv); high = omega (arith, ints, c.key-key.type_inv) }) in
    post_fits g c.limits.ensures.post c.limits.ensures.scounts c.limits.ensures.rcounts c.limits.ensures.items key

pub returns-clause-value : goal.returns-clause-value
returns-clause-value c =
    let g = c.args.given.now in
    let sent : c.counts_len.result ≡ length ((counts_if (is_had (fields_of g.kind).scounts)).spelling g.scounts) = rw (c.is_had.ensures, c.fields-fields.ensures, c.kind.ensures, c.scounts.ensures) at c.counts_len.ensures.value in
    let received : c.counts_len-2.result ≡ length ((counts_if (is_had (fields_of g.kind).rcounts)).spelling g.rcounts) = rw (c.is_had-2.ensures, c.fields-fields.ensures, c.kind.ensures, c.rcounts.ensures) at c.counts_len-2.ensures.value in
    omega (arith, length-post g, sent, received, c.root_len.ensures.value, c.operation_len.ensures.value, c.typed_len.ensures.value, c.making_len.ensures.value)
