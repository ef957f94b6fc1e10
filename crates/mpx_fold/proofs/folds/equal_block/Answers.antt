use Rattle.std.proofs.Common.{◌∙◌, ℕ, ◌*◌, List, length, ap, arith}
use Rattle.mpx_post.specs.Posts.{Given}
use Rattle.mpx_post.specs.Agreement.{count_at}
use Rattle.mpx_fold.proofs.Places.{equal_place, one_count}
use Rattle.mpx_fold.proofs.folds.equal_block.Goals as goal

abbrev rcounts_in : Given → List ℕ
rcounts_in given = given.rcounts

pub bounds-as_slice-0 : goal.bounds-as_slice-0
bounds-as_slice-0 c =
    let counts = c.as_slice.ensures.value ∙ c.rcounts.ensures ∙ ap rcounts_in c.post.ensures.value in
    omega (arith, ap length counts, one_count c.args.row.now c.args.rank c.requires.fine c.requires.rank c.requires.kind)

pub returns : goal.returns
returns c =
    let counts = c.as_slice.ensures.value ∙ c.rcounts.ensures ∙ ap rcounts_in c.post.ensures.value in
    equal_place c.args.row.now c.args.rank c.requires.fine c.requires.rank _ _ c.requires.kind
    (ap (λ (n : ℕ). n * c.from-count.result) c.from.ensures)
    (c.from-count.ensures ∙ ap (λ (list : List ℕ). count_at list 0) counts)
