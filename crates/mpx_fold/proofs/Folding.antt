-- The fold of a row, post by post.
use Rattle.std.proofs.Common.{◌≡◌, ℕ, ◌+◌, ◌<◌, List, [], ◌∷◌, ◌++◌, ℤ, length, map, take, refl, sym, ap, ◌∙◌, length-take, arith}
use Rattle.std.proofs.lemmas.List.{length-map, map_more}
use Rattle.std.proofs.lemmas.List.Sums.{fold_push}
use Rattle.mpx_num.specs.declared.types.Ty.{Ty}
use Rattle.mpx_num.specs.declared.operations.Op.{Op}
use Rattle.mpx_num.specs.declared.own.Operation.{Operation}
use Rattle.mpx_num.specs.Operations.{fold_items, elementwise}
use Rattle.mpx_post.specs.Posts.{nothing_given, operation_given, type_of, numbers_of}
use Rattle.mpx_post.specs.Rows.{RowView}
use Rattle.mpx_post.specs.Agreement.{first_of, post_at}
use Rattle.mpx_fold.specs.Folds.{folded}

fold_items_push : (ops : List Operation) (op : Op) (ty : Ty) (lists : List (List ℤ)) (nums : List ℤ) → 0 < length lists → fold_items ops op ty (lists ++ nums ∷ []) ≡ elementwise ops op ty (fold_items ops op ty lists) nums
fold_items_push ops op ty [] nums some = absurd (omega arith)
fold_items_push ops op ty (first ∷ rest) nums some = fold_push (elementwise ops op ty) first rest nums

-- one contribution
pub folded_one : (ops : List Operation) (row : RowView) → 0 < length row → folded ops row 1 ≡ numbers_of (first_of row)
folded_one ops [] some = absurd (omega arith)
folded_one ops (given ∷ rest) some = refl

folded_more : (ops : List Operation) (row : RowView) (rank : ℕ) → 0 < rank → rank < length row → folded ops row (rank + 1) ≡ elementwise ops (operation_given (first_of row)) (type_of (first_of row)) (folded ops row rank) (numbers_of (post_at row rank))
folded_more ops row rank some l =
    ap (fold_items ops (operation_given (first_of row)) (type_of (first_of row))) (map_more numbers_of row rank nothing_given l)
    ∙ fold_items_push ops _ _ (map numbers_of (take rank row)) (numbers_of (post_at row rank)) (simp (length-map, length-take) (omega arith))

-- one more contribution, combined into what was
pub folded_step : (ops : List Operation) (row : RowView) (rank : ℕ) (op : Op) (ty : Ty) (left right : List ℤ) → 0 < rank → rank < length row → op ≡ operation_given (first_of row) → ty ≡ type_of (first_of row) → left ≡ folded ops row rank → right ≡ numbers_of (post_at row rank) → elementwise ops op ty left right ≡ folded ops row (rank + 1)
folded_step ops row rank op ty left right some l o t f g = rw (o, t, f, g) (sym (folded_more ops row rank some l))
