use Rattle.std.proofs.Common.{◌+◌, ◌*◌, length, sym, ap, ◌∙◌}
use Rattle.mpx_encode.proofs.Births.{length-neighbours}
use Rattle.mpx_encode.proofs.write_births.neighbours_len.Goals as goal

pub returns-clause-value : goal.returns-clause-value
returns-clause-value c = ap (λ w. 2 + length c.args.list.now * (1 + w)) c.weight_len.ensures ∙ sym (length-neighbours c.args.weighted c.args.list.now)
