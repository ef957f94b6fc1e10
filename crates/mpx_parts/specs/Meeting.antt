-- A longer call of all ranks, as each rank made it in parts, and the rows in which these met.
use Rattle.std.specs.Prelude.{◌≡◌, ◌==◌, ℕ, ℤ, ◌<◌, List, length, map}
use Rattle.std.specs.List.{All}
use Rattle.mpx_num.specs.declared.own.Operation.{Operation}
use Rattle.mpx_kind.specs.declared.kinds.Kind.TheVariants as K
use Rattle.mpx_kind.specs.declared.kinds.Exchange.{Exchange}
use Rattle.mpx_kind.specs.declared.kinds.Reduction.{Reduction}
use Rattle.mpx_post.specs.declared.value.Value.{Value}
use Rattle.mpx_post.specs.Posts.{numbers_of, root_of}
use Rattle.mpx_post.specs.Rows.{RowView}
use Rattle.mpx_post.specs.Agreement.{IsFine, first_of, post_at}
use Rattle.mpx_call.specs.Parts.{AreParts, Part}
use Rattle.mpx_fold.specs.Folds.{fold_of}
use Rattle.mpx_move.specs.Moves.{move_of}
use Rattle.mpx_parts.specs.Exchanges.{IsPart, blocks_given, blocks_got}
use Rattle.mpx_parts.specs.Rows.{IsPartOf, value_numbers}

-- each rank has its own items, list and parts. Its parts met those of the others in these rows, one after the other, and each gave it what that row gives.
-- In the row of the one call it gives all its items
pub record MeetInRows {T : Type 0} (numbers : List T → List ℤ) (value : RowView → ℕ → Value) (most count : ℕ) (gives : ℕ → ℕ) (gets : ℕ) (row : RowView) (rows : List RowView) (items list : ℕ → List T) (parts : ℕ → List (Part T)) : Type 0 where
  pub whole : (rank : ℕ) → rank < length row → numbers_of (post_at row rank) ≡ numbers (items rank)
  pub cut : (rank : ℕ) → rank < length row → AreParts most (gives rank) gets count (items rank) (list rank) (parts rank)
  pub given : (rank : ℕ) → rank < length row → map (λ (at : RowView). numbers_of (post_at at rank)) rows ≡ map (λ (part : Part T). numbers part.given) (parts rank)
  pub got : (rank : ℕ) → rank < length row → map (λ (at : RowView). value_numbers (value at rank)) rows ≡ map (λ (part : Part T). numbers part.got) (parts rank)

-- so it is of an exchange, and all rows are fine
pub record MeetInExchange {T : Type 0} (numbers : List T → List ℤ) (most count : ℕ) (exchange : Exchange) (row : RowView) (rows : List RowView) (items list : ℕ → List T) (parts : ℕ → List (Part T)) : Type 0 where
  pub fine : IsFine row
  pub kind : (first_of row).kind ≡ K.Exchange exchange
  pub all : All (IsPart exchange row) rows
  pub met : MeetInRows numbers (move_of exchange) most count (λ rank. blocks_given exchange (length row) (rank == root_of (first_of row))) (blocks_got exchange (length row)) row rows items list parts

-- so it is of a reduction or a scan: each rank gives one block, and gets one
pub record MeetInReduction {T : Type 0} (numbers : List T → List ℤ) (most count : ℕ) (ops : List Operation) (reduction : Reduction) (row : RowView) (rows : List RowView) (items list : ℕ → List T) (parts : ℕ → List (Part T)) : Type 0 where
  pub all : All (IsPartOf row) rows
  pub met : MeetInRows numbers (fold_of ops reduction) most count (λ rank. 1) 1 row rows items list parts
