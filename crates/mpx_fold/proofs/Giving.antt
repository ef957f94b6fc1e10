-- What each reduction gives a rank, by the fold that was computed.
use Rattle.std.proofs.Common.{◌≡◌, ℕ, ◌+◌, ◌==◌, true, false, List, length, Result, sym, ap, ◌∙◌}
use Rattle.std.specs.Result.{IfOk}
use Rattle.std.proofs.lemmas.Bool.{cond-true, cond-false}
use Rattle.join_core.specs.declared.memory.OutOfMemory.{OutOfMemory}
use Rattle.mpx_num.specs.declared.own.Operation.{Operation}
use Rattle.mpx_kind.specs.declared.kinds.Reduction.TheVariants.{Reduce, Allreduce, ReduceScatterBlock, ReduceScatter, Scan, Exscan}
use Rattle.mpx_post.specs.declared.block.Block.{Block}
use Rattle.mpx_post.specs.declared.value.Value.{Value}
use Rattle.mpx_post.specs.declared.value.Value.TheVariants.{Nothing, Absent}
use Rattle.mpx_post.specs.Agreement.{first_of}
use Rattle.mpx_post.specs.Blocks.{IsBlock, part, repeated}
use Rattle.mpx_post.specs.Posts.{numbers_of, root_of, type_of}
use Rattle.mpx_post.specs.Rows.{RowView}
use Rattle.mpx_post.specs.Values.{GivesValue, as_items}
use Rattle.mpx_post.proofs.Values.{gives_items}
use Rattle.mpx_fold.specs.Folds.{fold_of, folded}

module _ (ops : List Operation) (row : RowView) (rank : ℕ) where
  -- the first m members' fold, where m is n
  gives_folded : (m n : ℕ) (answer : Result Value OutOfMemory) (value : Value) → m ≡ n → as_items row (folded ops row n) ≡ value → IfOk answer (λ v. v ≡ as_items row (folded ops row m)) → GivesValue value answer
  gives_folded m n answer value e is h = gives_items answer (as_items row (folded ops row m)) value (ap (λ (k : ℕ). as_items row (folded ops row k)) e ∙ is) h tt

  pub given_root : (m : ℕ) (answer : Result Value OutOfMemory) → (rank == root_of (first_of row)) ≡ true → m ≡ length row → IfOk answer (λ v. v ≡ as_items row (folded ops row m)) → GivesValue (fold_of ops Reduce row rank) answer
  given_root m answer root e h = gives_folded m (length row) answer (fold_of ops Reduce row rank) e (sym (cond-true (rank == root_of (first_of row)) (as_items row (folded ops row (length row))) Nothing root)) h

  pub given_elsewhere : (rank == root_of (first_of row)) ≡ false → Nothing ≡ fold_of ops Reduce row rank
  given_elsewhere root = sym (cond-false (rank == root_of (first_of row)) (as_items row (folded ops row (length row))) Nothing root)

  pub given_all : (m : ℕ) (answer : Result Value OutOfMemory) → m ≡ length row → IfOk answer (λ v. v ≡ as_items row (folded ops row m)) → GivesValue (fold_of ops Allreduce row rank) answer
  given_all m answer e h = gives_folded m (length row) answer (as_items row (folded ops row (length row))) e (λ i. as_items row (folded ops row (length row))) h

  pub given_equal : (block : Block) (answer : Result Value OutOfMemory) → IsBlock (type_of (first_of row)) (repeated (length row) (first_of row).rcounts) rank (length (numbers_of (first_of row))) block → IfOk answer (λ v. v ≡ as_items row (part (type_of (first_of row)) block (folded ops row (length row)))) → GivesValue (fold_of ops ReduceScatterBlock row rank) answer
  given_equal block answer is h = gives_items answer (as_items row (part (type_of (first_of row)) block (folded ops row (length row)))) (fold_of ops ReduceScatterBlock row rank) (ap (as_items row) (is.at (folded ops row (length row)))) h tt

  pub given_counted : (block : Block) (answer : Result Value OutOfMemory) → IsBlock (type_of (first_of row)) (first_of row).rcounts rank (length (numbers_of (first_of row))) block → IfOk answer (λ v. v ≡ as_items row (part (type_of (first_of row)) block (folded ops row (length row)))) → GivesValue (fold_of ops ReduceScatter row rank) answer
  given_counted block answer is h = gives_items answer (as_items row (part (type_of (first_of row)) block (folded ops row (length row)))) (fold_of ops ReduceScatter row rank) (ap (as_items row) (is.at (folded ops row (length row)))) h tt

  -- a scan gives a rank what it and those below it give
  pub given_below : (place : ℕ) (answer : Result Value OutOfMemory) → place ≡ rank → IfOk answer (λ v. v ≡ as_items row (folded ops row (place + 1))) → GivesValue (fold_of ops Scan row rank) answer
  given_below place answer e h = gives_folded (place + 1) (rank + 1) answer (as_items row (folded ops row (rank + 1))) (ap (λ (n : ℕ). n + 1) e) (λ i. as_items row (folded ops row (rank + 1))) h

  -- an exclusive one those below it alone, of which rank 0 has none
  pub given_first : (rank == 0) ≡ true → Absent ≡ fold_of ops Exscan row rank
  given_first e = sym (cond-true (rank == 0) Absent (as_items row (folded ops row rank)) e)

  pub given_above : (place : ℕ) (answer : Result Value OutOfMemory) → (rank == 0) ≡ false → place ≡ rank → IfOk answer (λ v. v ≡ as_items row (folded ops row place)) → GivesValue (fold_of ops Exscan row rank) answer
  given_above place answer other e h = gives_folded place rank answer (fold_of ops Exscan row rank) e (sym (cond-false (rank == 0) Absent (as_items row (folded ops row rank)) other)) h
