use Rattle.std.proofs.Common.{◌≡◌, length, map}
use Rattle.mpx_num.specs.Own.{operation_of}
use Rattle.mpx_post.specs.Posts.{numbers_of, type_of}
use Rattle.mpx_post.specs.Agreement.{first_of}
use Rattle.mpx_fold.specs.Folds.{folded}
use Rattle.mpx_fold.proofs.folds.fold_upto.Given as goal

abbrev pub invariant-loop-rank : goal.invariant-loop-rank
invariant-loop-rank g l = record {
  ty : l.folded.ty ≡ type_of (first_of l.row);
  nums : l.folded.nums ≡ folded (map (λ b. let o = goal.OwnOp-dyn g (b.vtable, b.value) in operation_of (o.word_bytes b.value) (o.fits_type b.value) (o.combination b.value)) l.ops.list.items) l.row l.rank;
  len : length l.folded.nums ≡ length (numbers_of (first_of l.row));
}
