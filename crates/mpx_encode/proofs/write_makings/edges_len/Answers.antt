use Rattle.std.proofs.Common.{◌+◌, ◌*◌, length, cond, sym, ap, ◌∙◌}
use Rattle.mpx_encode.proofs.Posts.{length-edges}
use Rattle.mpx_encode.proofs.write_makings.edges_len.Goals as goal

pub returns-clause-value : goal.returns-clause-value
returns-clause-value c =
    let es = c.args.edges.now in
    let w = c.weight_len.ensures ∙ ap (λ b. cond b 4 0) c.weighted.ensures in
    ap (λ (l : _). 3 + length l * (2 + c.weight_len.result)) c.as_slice.ensures.value ∙ ap (λ n. 3 + length es.edges * (2 + n)) w ∙ sym (length-edges es)
