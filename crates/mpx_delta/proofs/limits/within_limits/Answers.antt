-- What its parts keep.
use Rattle.std.proofs.Common.{length, ap, ◌∙◌, subst, arith}
use Rattle.mpx_group.proofs.Members.{length_distinct}
use Rattle.mpx_post.specs.Posts.{few_items}
use Rattle.mpx_delta.proofs.limits.within_limits.Goals as goal

pub returns : goal.returns
returns c = record {
  scounts = omega (arith, ap length (c.as_slice-sent.ensures.value ∙ c.scounts.ensures), c.as_slice-sent.ensures.few);
  rcounts = omega (arith, ap length (c.as_slice-received.ensures.value ∙ c.rcounts.ensures), c.as_slice-received.ensures.few);
  items = subst few_items c.items-items.ensures.value c.items-items.ensures.few;
  group = omega (arith, ap length c.group-group.ensures.value, length_distinct 64 c.group-group.result.now c.group-group.ensures.ranks.distinct c.group-group.ensures.ranks.below);
  edges = c.edges-edges.ensures.edges.few;
  near = c.sources-sources.ensures.neighbours.few;
}
