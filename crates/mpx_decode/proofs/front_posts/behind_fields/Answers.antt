use Rattle.std.proofs.Common.{◌++◌, arith}
use Rattle.mpx_decode.proofs.FrontPosts.{items_behind, none_behind, on_true}
use Rattle.mpx_decode.proofs.front_posts.behind_fields.Goals as goal

pub behind_counts-requires : goal.behind_counts-requires
behind_counts-requires c = rw (c.is_had.ensures, c.fields-fields.ensures, c.kind.ensures, c.scounts.ensures) c.limits.ensures.post.scounts

pub behind_counts-requires-2 : goal.behind_counts-requires-2
behind_counts-requires-2 c = rw (c.is_had-2.ensures, c.fields-fields.ensures, c.kind.ensures, c.rcounts.ensures) c.limits.ensures.post.rcounts

pub returns-in-None-clause-some : goal.returns-in-None-clause-some
returns-in-None-clause-some c =
    let none = rw c.making.ensures at (on_true _ c.if-not-makes_nothing.false c.makes_nothing.ensures) in
    let sent = rw (c.is_had.ensures, c.fields-fields.ensures, c.kind.ensures, c.scounts.ensures) at c.in_ok-first.ensures in
    let got = rw (c.is_had-2.ensures, c.fields-fields.ensures, c.kind.ensures, c.rcounts.ensures) at c.in_ok-both.ensures in
    none_behind c.args.post.now c.limits.ensures.post none c.args.bytes.now c.in_ok-head.head.now c.in_ok-first.first.now c.in_ok-both.both.now c.args.beyond.now (λ i. omega (arith, c.type_inv.bytes i)) c.in_ok-head.ensures sent got c.in-None.ensures.value

pub returns-in-Some-clause-some : goal.returns-in-Some-clause-some
returns-in-Some-clause-some c =
    let none = rw c.making.ensures at (on_true _ c.if-not-makes_nothing.false c.makes_nothing.ensures) in
    let sent = rw (c.is_had.ensures, c.fields-fields.ensures, c.kind.ensures, c.scounts.ensures) at c.in_ok-first.ensures in
    let got = rw (c.is_had-2.ensures, c.fields-fields.ensures, c.kind.ensures, c.rcounts.ensures) at c.in_ok-both.ensures in
    items_behind c.args.post.now c.limits.ensures.post none c.args.bytes.now c.in_ok-head.head.now c.in_ok-first.first.now c.in_ok-both.both.now c.args.beyond.now (λ i. omega (arith, c.type_inv.bytes i)) c.in_ok-head.ensures sent got
    c.behind_items.result (λ x. x.now ++ c.behind_items.new.beyond) c.in-Some.items.now c.in-Some.ensures.value c.behind_items.ensures.some
