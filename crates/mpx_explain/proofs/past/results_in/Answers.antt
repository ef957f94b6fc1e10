use Rattle.std.proofs.Common.{◌≡◌, [], arith, length, refl}
use Rattle.std.specs.Prelude.{slice_index_or}
use Rattle.std.specs.List.{flat_map, range_with_len}
use Rattle.mpx_explain.specs.Overflows.{past_in_call}
use Rattle.mpx_explain.specs.Sums.{posts_in}
use Rattle.mpx_explain.proofs.Summing.{told_all, told_more, told_start, told_upto}
use Rattle.mpx_explain.proofs.past.results_in.Goals as goal

pub loop-call-init : goal.loop-call-init
loop-call-init c = told_start c.new-all.result.items c.new-all.ensures.items

pub loop-call-preserved : goal.loop-call-preserved
loop-call-preserved c = told_more (past_in_call c.args.script.now.statements (posts_in c.args.posts.now)) c.loop-call.call [] c.loop-call.all.items c.push_call.new.all.items c.loop-call.invariant c.in_ok-push_call.ensures

pub returns : goal.returns
returns c =
    let posts = posts_in c.args.posts.now in
    let call = past_in_call c.args.script.now.statements posts in
    let calls = length (slice_index_or posts 0 []) in
    let all : c.loop-call.call ≡ calls = omega (arith, c.loop-call-test.false, c.loop-call.auto.call-end, c.calls_in-call-end.ensures) in
    told_all (flat_map call (range_with_len 0 calls)) [] c.loop-call.all.items refl (told_upto call c.loop-call.call calls [] c.loop-call.all.items all c.loop-call.invariant)
