-- Who sends each member a block of its own.
use Rattle.std.specs.Prelude.{◌≡◌, ℕ, Bool, true, false, length, None}
use Rattle.mpx_kind.specs.declared.kinds.Kind.{Kind}
use Rattle.mpx_kind.specs.declared.kinds.Kind.TheVariants as K
use Rattle.mpx_kind.specs.declared.kinds.Exchange.TheVariants as E
use Rattle.mpx_post.specs.Rows.{RowView}
use Rattle.mpx_post.specs.Agreement.{counts_sent, first_of}

-- whether calls of the kind send each member a block of its own
abbrev pub sends_blocks : Kind → Bool
sends_blocks (K.Exchange E.Scatter) = true
sends_blocks (K.Exchange E.Scatterv) = true
sends_blocks (K.Exchange E.Alltoall) = true
sends_blocks (K.Exchange E.Alltoallv) = true
sends_blocks kind = false

-- the member with this rank sends each member a block
pub record IsSender (row : RowView) (sender : ℕ) : Type 0 where
  pub kind : sends_blocks (first_of row).kind ≡ true
  pub each : length (counts_sent None row sender) ≡ length row
