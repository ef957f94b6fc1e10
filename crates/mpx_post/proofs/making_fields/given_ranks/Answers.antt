use Rattle.std.proofs.Common.{◌∙◌, FitsSigned, get_or, pos, not, ap, rules}
use mir.Syntax.{w128}
use Rattle.std.specs.List.{list_all}
use Rattle.std.proofs.lemmas.Bool.{and_parts}
use Rattle.std.proofs.lemmas.Int.{to_z-of_z}
use Rattle.std.proofs.lemmas.Result.{IfOk-weaker}
use Rattle.mpx_group.specs.Group.{has_twice}
use Rattle.mpx_post.specs.Drafts.{is_rank, natural, naturals}
use Rattle.mpx_post.proofs.Lists.{all_at, map_all, map_pushed}
use Rattle.mpx_post.proofs.Makings.{AreRanks-from}
use Rattle.mpx_post.proofs.making_fields.given_ranks.Goals as goal

pub given_rank-requires : goal.given_rank-requires
given_rank-requires c =
    let group = c.args.group.now in
    let i = c.loop-rank.rank-index in
    let fits : FitsSigned w128 (get_or group i (pos 0)) = search rules in
    let parts = and_parts (list_all (is_rank 64) group) (not (has_twice (naturals group))) c.requires in
    rw (to_z-of_z w128 (get_or group i (pos 0))) (all_at (is_rank 64) group i (pos 0) c.loop-rank-test.true parts.0)

pub loop-rank-preserved : goal.loop-rank-preserved
loop-rank-preserved c =
    let group = c.args.group.now in
    let i = c.loop-rank.rank-index in
    let fits : FitsSigned w128 (get_or group i (pos 0)) = search rules in
    map_pushed natural group i (pos 0) c.loop-rank-test.true _ _ _ c.loop-rank.invariant c.in_ok-push.ensures.items (c.given_rank.ensures.value ∙ ap natural (to_z-of_z w128 (get_or group i (pos 0)) fits))

pub new-requires : goal.new-requires
new-requires c =
    let all = map_all natural c.args.group.now c.loop-rank.rank-index c.loop-rank-test.false in
    rw (c.loop-rank.invariant, all) (AreRanks-from c.args.group.now c.requires)

pub returns : goal.returns
returns c = IfOk-weaker c.new.result _ _ (λ ranks is. is ∙ c.loop-rank.invariant ∙ map_all natural c.args.group.now c.loop-rank.rank-index c.loop-rank-test.false) c.new.ensures
