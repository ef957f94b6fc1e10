-- The counts of a list, however they are kept.
use Rattle.std.specs.Prelude.{List, [], ℕ}
use Rattle.std.specs.Arc.{arc_value}
use Rattle.mpx_post.specs.declared.counts.KeptCounts.{KeptCounts}
use Rattle.mpx_post.specs.declared.counts.KeptCounts.TheVariants.{None, One, Shared}

abbrev pub kept_counts : KeptCounts → List ℕ
kept_counts None = []
kept_counts (One one) = one
kept_counts (Shared list) = (arc_value list).items
