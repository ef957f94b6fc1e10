-- Worked rows: two ranks' blocks of three items, in a part of two and one of one.
use Rattle.std.proofs.Common.{◌≡◌, ℕ, true, false, List, [], ◌∷◌, ℤ, pos, Some, None, map, refl}
use Rattle.mpx_num.specs.declared.types.Ty.TheVariants.{I32}
use Rattle.mpx_kind.specs.declared.kinds.Kind.TheVariants as K
use Rattle.mpx_kind.specs.declared.kinds.Exchange.{Exchange}
use Rattle.mpx_kind.specs.declared.kinds.Exchange.TheVariants.{Gather, Scatter, Alltoall}
use Rattle.mpx_kind.specs.declared.kinds.Mode.TheVariants.{Blocking}
use Rattle.mpx_post.specs.declared.making.Making.TheVariants.{Nothing}
use Rattle.mpx_post.specs.Posts.{Given, numbers_of}
use Rattle.mpx_post.specs.Rows.{RowView}
use Rattle.mpx_post.specs.Agreement.{post_at}
use Rattle.mpx_call.specs.Parts.{put_together}
use Rattle.mpx_move.specs.Moves.{move_of}
use Rattle.mpx_parts.specs.Rows.{value_numbers}
use Rattle.mpx_parts.specs.Exchanges.{blocks_given, blocks_got}

-- a post by the root 1, of blocks of `count` items
abbrev gives : Exchange → (count : ℕ) → List ℤ → Given
gives exchange count nums = record { kind = K.Exchange exchange; mode = Blocking; root = Some 1; op = None; scounts = []; rcounts = count ∷ []; items = Some (record { ty = I32; nums = nums }); making = Nothing }

-- what the parts give this rank, put together
abbrev of_parts : Exchange → (rank : ℕ) → List RowView → List ℤ
of_parts exchange rank parts = put_together (blocks_got exchange 2) (map (λ part. value_numbers (move_of exchange part rank)) parts)

-- an alltoall: each rank gives a block for either
abbrev alltoall : RowView
alltoall = gives Alltoall 3 (pos 1 ∷ pos 2 ∷ pos 3 ∷ pos 4 ∷ pos 5 ∷ pos 6 ∷ []) ∷ gives Alltoall 3 (pos 11 ∷ pos 12 ∷ pos 13 ∷ pos 14 ∷ pos 15 ∷ pos 16 ∷ []) ∷ []

abbrev parts_of_alltoall : List RowView
parts_of_alltoall =
    (gives Alltoall 2 (pos 1 ∷ pos 2 ∷ pos 4 ∷ pos 5 ∷ []) ∷ gives Alltoall 2 (pos 11 ∷ pos 12 ∷ pos 14 ∷ pos 15 ∷ []) ∷ [])
    ∷ (gives Alltoall 1 (pos 3 ∷ pos 6 ∷ []) ∷ gives Alltoall 1 (pos 13 ∷ pos 16 ∷ []) ∷ []) ∷ []

cut_of_alltoall : put_together (blocks_given Alltoall 2 false) (map (λ part. numbers_of (post_at part 0)) parts_of_alltoall) ≡ numbers_of (post_at alltoall 0)
cut_of_alltoall = refl

whole_alltoall : value_numbers (move_of Alltoall alltoall 1) ≡ pos 4 ∷ pos 5 ∷ pos 6 ∷ pos 14 ∷ pos 15 ∷ pos 16 ∷ []
whole_alltoall = refl

alltoall_in_parts : of_parts Alltoall 1 parts_of_alltoall ≡ pos 4 ∷ pos 5 ∷ pos 6 ∷ pos 14 ∷ pos 15 ∷ pos 16 ∷ []
alltoall_in_parts = refl

-- a gather: each rank gives one block
abbrev parts_of_gather : List RowView
parts_of_gather = (gives Gather 0 (pos 1 ∷ pos 2 ∷ []) ∷ gives Gather 0 (pos 11 ∷ pos 12 ∷ []) ∷ []) ∷ (gives Gather 0 (pos 3 ∷ []) ∷ gives Gather 0 (pos 13 ∷ []) ∷ []) ∷ []

gather_in_parts : of_parts Gather 1 parts_of_gather ≡ pos 1 ∷ pos 2 ∷ pos 3 ∷ pos 11 ∷ pos 12 ∷ pos 13 ∷ []
gather_in_parts = refl

gather_elsewhere : of_parts Gather 0 parts_of_gather ≡ []
gather_elsewhere = refl

-- a scatter: the root gives a block for either
abbrev parts_of_scatter : List RowView
parts_of_scatter = (gives Scatter 2 [] ∷ gives Scatter 2 (pos 1 ∷ pos 2 ∷ pos 11 ∷ pos 12 ∷ []) ∷ []) ∷ (gives Scatter 1 [] ∷ gives Scatter 1 (pos 3 ∷ pos 13 ∷ []) ∷ []) ∷ []

cut_of_scatter : put_together (blocks_given Scatter 2 true) (map (λ part. numbers_of (post_at part 1)) parts_of_scatter) ≡ pos 1 ∷ pos 2 ∷ pos 3 ∷ pos 11 ∷ pos 12 ∷ pos 13 ∷ []
cut_of_scatter = refl

scatter_in_parts : of_parts Scatter 0 parts_of_scatter ≡ pos 1 ∷ pos 2 ∷ pos 3 ∷ []
scatter_in_parts = refl
