use Rattle.std.proofs.Common.{◌≡◌, ℕ, ◌==◌, ◌∙◌, true, false, nat_eq, Option, None, Some, is_some, ap, sym, arith}
use Rattle.std.specs.Option.{option_eq}
use Rattle.std.specs.Prelude.{unwrap_or}
use Rattle.std.proofs.lemmas.Bool.Decides.{nat_tests}
use Rattle.mpx_kind.specs.declared.kinds.Kind.{Kind}
use Rattle.mpx_kind.specs.declared.kinds.Kind.TheVariants as K
use Rattle.mpx_kind.specs.declared.kinds.Reduction.TheVariants.{Reduce}
use Rattle.mpx_kind.specs.Kinds.{fields_of}
use Rattle.mpx_post.specs.Posts.{Given, root_of}
use Rattle.mpx_post.specs.Rows.{RowView}
use Rattle.mpx_post.specs.Agreement.{first_of}
use Rattle.mpx_fold.proofs.Giving.{given_above, given_all, given_below, given_counted, given_elsewhere, given_equal, given_first, given_root}
use Rattle.mpx_fold.proofs.folds.value_of.Goals as goal

-- the test of the root, where there is one
is_rank : (root : Option ℕ) (rank : ℕ) → is_some root ≡ true → (rank == unwrap_or root 0) ≡ option_eq nat_eq root (Some rank)
is_rank None rank there = cc there
is_rank (Some root) rank there = grind (arith, nat_tests)

at_root : (row : RowView) (rank : ℕ) (first : Given) (root : Option ℕ) → first ≡ first_of row → (first_of row).kind ≡ K.Reduction Reduce → root ≡ first.root → is_some root ≡ (fields_of first.kind).root → (rank == root_of (first_of row)) ≡ option_eq nat_eq root (Some rank)
at_root row rank first root e kind r there =
    ap (λ (given : Given). rank == root_of given) (sym e)
    ∙ ap (λ (o : Option ℕ). rank == unwrap_or o 0) (sym r)
    ∙ is_rank root rank (there ∙ ap (λ (given : Given). (fields_of given.kind).root) e ∙ ap (λ (kind : Kind). (fields_of kind).root) kind)

pub returns-then-eq : goal.returns-then-eq
returns-then-eq g c =
    let row = c.args.row.now in
    let root : (c.args.rank == root_of (first_of row)) ≡ true = at_root row c.args.rank c.post-first.result.now c.root.result c.post-first.ensures.value (c.requires.kind ∙ ap K.Reduction c.in-Reduce.is) c.root.ensures.value c.root.ensures.there ∙ sym c.if-eq.ensures in
    rw c.in-Reduce.is (given_root _ row c.args.rank _ c.folded_value.result root c.len.ensures.count c.folded_value.ensures)

pub returns-else-eq : goal.returns-else-eq
returns-else-eq g c =
    let row = c.args.row.now in
    let root : (c.args.rank == root_of (first_of row)) ≡ false = at_root row c.args.rank c.post-first.result.now c.root.result c.post-first.ensures.value (c.requires.kind ∙ ap K.Reduction c.in-Reduce.is) c.root.ensures.value c.root.ensures.there ∙ sym c.if-eq.ensures in
    rw c.in-Reduce.is (given_elsewhere _ row c.args.rank root)

pub returns-in-Allreduce : goal.returns-in-Allreduce
returns-in-Allreduce g c =
    rw c.in-Allreduce.is (given_all _ c.args.row.now c.args.rank _ c.folded_value-in-Allreduce.result c.len-in-Allreduce.ensures.count c.folded_value-in-Allreduce.ensures)

pub returns-in-ReduceScatterBlock : goal.returns-in-ReduceScatterBlock
returns-in-ReduceScatterBlock g c =
    rw c.in-ReduceScatterBlock.is (given_equal _ c.args.row.now c.args.rank c.equal_block.result c.block_value.result c.equal_block.ensures c.block_value.ensures)

pub returns-in-ReduceScatter : goal.returns-in-ReduceScatter
returns-in-ReduceScatter g c =
    rw c.in-ReduceScatter.is (given_counted _ c.args.row.now c.args.rank c.counted_block.result c.block_value-in-ReduceScatter.result c.counted_block.ensures c.block_value-in-ReduceScatter.ensures)

pub returns-in-Scan : goal.returns-in-Scan
returns-in-Scan g c =
    rw c.in-Scan.is (given_below _ c.args.row.now c.args.rank _ c.folded_value-in-Scan.result c.from-place.ensures c.folded_value-in-Scan.ensures)

pub returns-then-rank-eq0 : goal.returns-then-rank-eq0
returns-then-rank-eq0 g c =
    let zero_rank : (c.args.rank == 0) ≡ true = grind (arith, nat_tests) in
    rw c.in-Exscan.is (given_first _ c.args.row.now c.args.rank zero_rank)

pub returns-else-rank-eq0 : goal.returns-else-rank-eq0
returns-else-rank-eq0 g c =
    let other_rank : (c.args.rank == 0) ≡ false = grind (arith, nat_tests) in
    rw c.in-Exscan.is (given_above _ c.args.row.now c.args.rank _ c.folded_value-else-rank-eq0.result other_rank c.from-place.ensures c.folded_value-else-rank-eq0.ensures)
