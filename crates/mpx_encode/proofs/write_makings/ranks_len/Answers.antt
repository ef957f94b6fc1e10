use Rattle.std.proofs.Common.{◌+◌, length, sym, ap, ◌∙◌, arith}
use Rattle.mpx_encode.proofs.Posts.{length-ranks, ranks_below}
use Rattle.mpx_encode.proofs.write_makings.ranks_len.Goals as goal

pub returns-clause-value : goal.returns-clause-value
returns-clause-value c = ap (λ (l : _). 1 + length l) c.as_slice.ensures.value ∙ sym (length-ranks c.args.ranks.now)

pub returns-clause-small : goal.returns-clause-small
returns-clause-small c = omega (arith, ap length c.as_slice.ensures.value, ranks_below c.args.ranks.now c.requires)
