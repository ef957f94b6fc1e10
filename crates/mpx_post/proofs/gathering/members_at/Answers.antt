use Rattle.std.proofs.Common.{◌≡◌, ◌∙◌, FitsSigned, false, get_or, pos, length, nat_abs, ap, rules, take_all}
use mir.Syntax.{w128}
use Rattle.std.proofs.lemmas.Int.{to_z-of_z}
use Rattle.std.proofs.lemmas.List.{get_or_default}
use Rattle.mpx_group.specs.Group.{has_twice}
use Rattle.mpx_post.specs.Drafts.{is_rank}
use Rattle.mpx_post.specs.Gatherings.{members_at}
use Rattle.mpx_post.proofs.Gatherings.{rank_as, members_at-pushed}
use Rattle.mpx_post.proofs.Lists.{all_at}
use Rattle.mpx_post.proofs.gathering.members_at.Goals as goal

pub overflow_cast-rank : goal.overflow_cast-rank
overflow_cast-rank c =
    let ranks = c.args.ranks.now in
    let i = c.loop-rank.rank-index in
    let fits : FitsSigned w128 (get_or ranks i (pos 0)) = search rules in
    let rank = all_at (is_rank (length c.args.members.now)) ranks i (pos 0) c.loop-rank-test.true c.requires.ranks in
    let small = rank_as (length c.args.members.now) (get_or ranks i (pos 0)) rank in
    rw (to_z-of_z w128 (get_or ranks i (pos 0))) (search rules)

pub bounds-members-rank : goal.bounds-members-rank
bounds-members-rank c =
    let ranks = c.args.ranks.now in
    let i = c.loop-rank.rank-index in
    let fits : FitsSigned w128 (get_or ranks i (pos 0)) = search rules in
    let rank = all_at (is_rank (length c.args.members.now)) ranks i (pos 0) c.loop-rank-test.true c.requires.ranks in
    rw (to_z-of_z w128 (get_or ranks i (pos 0))) (rank_as (length c.args.members.now) (get_or ranks i (pos 0)) rank).0

pub loop-rank-preserved : goal.loop-rank-preserved
loop-rank-preserved c =
    let members = c.args.members.now in
    let ranks = c.args.ranks.now in
    let i = c.loop-rank.rank-index in
    let x = c.index-members-rank.result in
    let fits : FitsSigned w128 (get_or ranks i (pos 0)) = search rules in
    let rank = rank_as (length members) (get_or ranks i (pos 0)) (all_at (is_rank (length members)) ranks i (pos 0) c.loop-rank-test.true c.requires.ranks) in
    let read : x ≡ get_or members (nat_abs (get_or ranks i (pos 0))) x = rw (to_z-of_z w128 (get_or ranks i (pos 0))) at c.index-members-rank.is in
    let member = read ∙ get_or_default members (nat_abs (get_or ranks i (pos 0))) x 0 rank.0 ∙ ap (λ n. get_or members n 0) rank.1 in
    members_at-pushed members ranks i c.loop-rank-test.true _ _ x c.loop-rank.invariant c.in_ok-push.ensures.items member

pub unreachable-requires : goal.unreachable-requires
unreachable-requires c =
    let once : has_twice c.loop-rank.list.items ≡ false = rw (c.loop-rank.invariant, take_all c.loop-rank.rank-index c.args.ranks.now c.loop-rank-test.false) c.requires.distinct in
    let made = rw once at c.new.ensures in
    cc (made, c.in-Err.is)

pub returns-clause-value : goal.returns-clause-value
returns-clause-value c =
    let all = ap (members_at c.args.members.now) (take_all c.loop-rank.rank-index c.args.ranks.now c.loop-rank-test.false) in
    let once : has_twice c.loop-rank.list.items ≡ false = rw (c.loop-rank.invariant, all) c.requires.distinct in
    let made = rw once at c.new.ensures in
    cc (made, c.in-Ok.is, c.loop-rank.invariant, all)

pub returns-clause-few : goal.returns-clause-few
returns-clause-few c = c.size-size.ensures.group.few
