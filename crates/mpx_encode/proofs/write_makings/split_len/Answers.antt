use Rattle.std.proofs.Common.{length, sym, ap, ◌∙◌}
use Rattle.mpx_post.specs.declared.making.Making.TheVariants.{Split}
use Rattle.mpx_format.specs.Posts.{split}
use Rattle.mpx_encode.proofs.Posts.{length-split_none, length-split_some}
use Rattle.mpx_encode.proofs.write_makings.split_len.Goals as goal

pub returns-in-None-clause-value : goal.returns-in-None-clause-value
returns-in-None-clause-value c = sym (ap (λ o. length (split.spelling (Split o c.args.key))) c.in-None.is ∙ length-split_none c.args.key)

pub returns-in-Some-clause-value : goal.returns-in-Some-clause-value
returns-in-Some-clause-value c = sym (ap (λ o. length (split.spelling (Split o c.args.key))) c.in-Some.is ∙ length-split_some c.in-Some.field-0 c.args.key)
