use Rattle.std.proofs.Common.{◌+◌, ◌*◌, length, sym, ap, ◌∙◌}
use Rattle.mpx_format.specs.Posts.{counts_if}
use Rattle.mpx_encode.proofs.Posts.{length-counts}
use Rattle.mpx_encode.proofs.write_posts.counts_len.Goals as goal

pub returns-then-had-clause-value : goal.returns-then-had-clause-value
returns-then-had-clause-value c =
    let cs = c.args.counts.now in
    ap (λ (l : _). 2 + 2 * length l) c.as_slice.ensures.value ∙ sym (ap (λ b. length ((counts_if b).spelling cs)) c.if-had.true ∙ length-counts cs)
