-- What the fields of a draft within its limits say of the post's.
use Rattle.std.proofs.Common.{◌≡◌, ◌≤◌, ◌*◌, Bool, true, false, not, cond, is_some, [], ℤ, List, length, nat_lt, pos, negsuc, refl, arith}
use Rattle.std.specs.Prelude.{◌&&◌, int_le}
use Rattle.std.specs.List.{list_all}
use Rattle.std.specs.Option.{option_map_or}
use Rattle.std.proofs.lemmas.Bool.{and_parts}
use Rattle.std.proofs.lemmas.Bool.Decides.{nat_tests}
use Rattle.std.proofs.lemmas.List.{length-map}
use Rattle.mpx_num.specs.declared.operations.Op.{Op}
use Rattle.mpx_num.specs.declared.operations.Op.TheVariants.{Own}
use Rattle.mpx_num.specs.declared.own.Operation.{Operation}
use Rattle.mpx_num.specs.declared.types.Ty.{Ty}
use Rattle.mpx_num.specs.declared.types.Ty.TheVariants.{I8}
use Rattle.mpx_num.specs.ItemList.{ItemList}
use Rattle.mpx_num.specs.Operations.{fits, is_for}
use Rattle.mpx_num.specs.Types.{item_len}
use Rattle.mpx_kind.specs.declared.kinds.Kind.{Kind}
use Rattle.mpx_kind.specs.declared.kinds.Kind.TheVariants as K
use Rattle.mpx_kind.specs.declared.kinds.Exchange.TheVariants as E
use Rattle.mpx_kind.specs.declared.kinds.Reduction.TheVariants as R
use Rattle.mpx_kind.specs.declared.kinds.NewCommunicator.TheVariants as N
use Rattle.mpx_kind.specs.declared.kinds.Neighbourhood.TheVariants as H
use Rattle.mpx_kind.specs.Kinds.{fields_of}
use Rattle.mpx_post.specs.Posts.{AreCounts, NoneUnless, few_items, most_counts, most_items}
use Rattle.mpx_post.specs.Drafts.{is_count, is_rank, natural, naturals, where_had}
use Rattle.mpx_post.proofs.Graphs.{all_made}

pub from_not : (b : Bool) → not b ≡ false → b ≡ true
from_not true h = refl
from_not false h = cc

-- what isn't wrong is right, where the kind has it
pub right : (had fine : Bool) → (had && not fine) ≡ false → cond had fine true ≡ true
right true fine h = from_not fine h
right false fine h = refl

pub not_wrong : (had fine : Bool) → cond had fine true ≡ true → (had && not fine) ≡ false
not_wrong true true h = refl
not_wrong true false h = cc
not_wrong false fine h = refl

pub right_more : (had fine more : Bool) → (fine ≡ true → more ≡ true) → cond had fine true ≡ true → cond had more true ≡ true
right_more true fine more through h = through h
right_more false fine more through h = refl

pub is_some-where_had : {A : Type 0} (had : Bool) (x : A) → is_some (where_had had x) ≡ had
is_some-where_had true x = refl
is_some-where_had false x = refl

pub few_given : (had : Bool) (ty : Ty) (nums : List ℤ) → nat_lt (most_items * item_len ty) (length (cond had nums [])) ≡ false → few_items (where_had had (record { ty = ty; nums = nums }))
few_given true ty nums few = grind (arith, nat_tests)
few_given false ty nums few = tt

pub root_given : (had : Bool) (z : ℤ) → cond had (is_rank 64 z) true ≡ true → option_map_or (λ root. nat_lt root 64) (where_had had (natural z)) true ≡ true
root_given true z h = (and_parts (int_le (pos 0) z) (nat_lt (natural z) 64) h).1
root_given false z h = refl

is_count-below : (z : ℤ) → is_count z ≡ true → natural z ≤ most_items
is_count-below (pos n) h = grind (arith, nat_tests)
is_count-below (negsuc n) h = omega arith

pub AreCounts-from : (numbers : List ℤ) → list_all is_count numbers ≡ true → length numbers ≤ most_counts → AreCounts (naturals numbers)
AreCounts-from numbers h few = record {
  small = all_made is_count natural (λ count. count ≤ most_items) is_count-below numbers h;
  few = omega (arith, length-map numbers natural);
}

pub counts_given : (had : Bool) (numbers : List ℤ) → NoneUnless had (naturals (cond had numbers []))
counts_given true numbers = tt
counts_given false numbers = refl

-- an operation that is for a type may stand beside it
pub is_for-fits : (ops : List Operation) (op : Op) (ty : Ty) → is_for ops op ty ≡ true → fits op ty ≡ true
is_for-fits ops (Own place) ty h = (and_parts (nat_lt place 16) _ h).0
is_for-fits ops op ty h = h

-- a kind with an operation has items
typed : (kind : Kind) → (fields_of kind).op ≡ true → (fields_of kind).items ≡ true
typed (K.Exchange E.Barrier) h = cc
typed (K.Exchange E.Bcast) h = cc
typed (K.Exchange E.Gather) h = cc
typed (K.Exchange E.Gatherv) h = cc
typed (K.Exchange E.Scatter) h = cc
typed (K.Exchange E.Scatterv) h = cc
typed (K.Exchange E.Allgather) h = cc
typed (K.Exchange E.Allgatherv) h = cc
typed (K.Exchange E.Alltoall) h = cc
typed (K.Exchange E.Alltoallv) h = cc
typed (K.Reduction R.Reduce) h = refl
typed (K.Reduction R.Allreduce) h = refl
typed (K.Reduction R.ReduceScatterBlock) h = refl
typed (K.Reduction R.ReduceScatter) h = refl
typed (K.Reduction R.Scan) h = refl
typed (K.Reduction R.Exscan) h = refl
typed (K.NewCommunicator N.Dup) h = cc
typed (K.NewCommunicator N.Split) h = cc
typed (K.NewCommunicator N.Create) h = cc
typed (K.NewCommunicator N.CreateGroup) h = cc
typed (K.NewCommunicator N.DistGraph) h = cc
typed (K.NewCommunicator N.DistGraphAdjacent) h = cc
typed (K.Neighbourhood H.Allgather) h = cc
typed (K.Neighbourhood H.Allgatherv) h = cc
typed (K.Neighbourhood H.Alltoall) h = cc
typed (K.Neighbourhood H.Alltoallv) h = cc
typed K.Free h = cc

type_where : (with_op with_items : Bool) (op : Op) (ty : Ty) (nums : List ℤ) → (with_op ≡ true → with_items ≡ true) → cond with_op (fits op ty) true ≡ true → option_map_or (λ o. fits o (option_map_or (λ (items : ItemList). items.ty) (where_had with_items (record { ty = ty; nums = nums })) I8)) (where_had with_op op) true ≡ true
type_where true true op ty nums both h = h
type_where true false op ty nums both h = let never = both refl in cc
type_where false with_items op ty nums both h = refl

pub type_given : (kind : Kind) (op : Op) (ty : Ty) (nums : List ℤ) → cond (fields_of kind).op (fits op ty) true ≡ true → option_map_or (λ o. fits o (option_map_or (λ (items : ItemList). items.ty) (where_had (fields_of kind).items (record { ty = ty; nums = nums })) I8)) (where_had (fields_of kind).op op) true ≡ true
type_given kind op ty nums h = type_where (fields_of kind).op (fields_of kind).items op ty nums (typed kind) h
