use Rattle.std.proofs.Common.{◌∙◌, ℕ, List, length, take, sum, ap, arith}
use Rattle.mpx_post.specs.Posts.{Given}
use Rattle.mpx_post.specs.Agreement.{count_at}
use Rattle.mpx_fold.proofs.Places.{counted_place, a_count_each}
use Rattle.mpx_fold.proofs.folds.counted_block.Goals as goal

abbrev rcounts_in : Given → List ℕ
rcounts_in given = given.rcounts

pub bounds-as_slice-place : goal.bounds-as_slice-place
bounds-as_slice-place c =
    let counts = c.as_slice.ensures.value ∙ c.rcounts-counts.ensures ∙ ap rcounts_in c.post.ensures.value in
    omega (arith, ap length counts, a_count_each c.args.row.now c.args.rank c.requires.fine c.requires.rank c.requires.kind)

pub returns : goal.returns
returns c =
    let counts = c.rcounts-counts.ensures ∙ ap rcounts_in c.post.ensures.value in
    counted_place c.args.row.now c.args.rank c.requires.fine c.requires.rank _ _ c.requires.kind
    (c.sum_before.ensures.value ∙ ap (λ (n : ℕ). sum (take n c.rcounts-counts.result.now)) c.from-place.ensures ∙ ap (λ (list : List ℕ). sum (take c.args.rank list)) counts)
    (c.from.ensures ∙ ap (count_at c.as_slice.result.now) c.from-place.ensures ∙ ap (λ (list : List ℕ). count_at list c.args.rank) (c.as_slice.ensures.value ∙ counts))
