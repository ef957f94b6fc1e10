use Rattle.std.proofs.Common.{◌≡◌, true, ◌++◌, length, ap, ◌∙◌, rules}
use Rattle.std.specs.Int.{w16, to_be_bytes}
use Rattle.mpx_encode.proofs.Maps.{told_behind}
use Rattle.mpx_format.specs.Posts.{counts_if}
use Rattle.mpx_encode.proofs.Posts.{counts_spelled}
use Rattle.mpx_encode.proofs.write_posts.write_counts.Goals as goal

pub returns : goal.returns
returns c =
    let cs = c.args.counts.now in
    let had : c.args.had ≡ true = search rules in
    let first : c.write_u16.new.out ≡ c.args.out.now ++ to_be_bytes w16 (length cs) = rw c.as_slice-list.ensures.value at c.in_ok-write_u16.ensures in
    told_behind c.write_each_count.result c.args.out.now c.write_u16.new.out c.write_each_count.new.out _ _ _ (ap (λ b. (counts_if b).spelling cs) had ∙ counts_spelled cs) first (rw c.as_slice-list.ensures.value at c.write_each_count.ensures)
