-- Ranks of a communicator's members.
use Rattle.std.specs.Prelude.{◌≡◌, ℕ, ◌<◌, false, List}
use Rattle.std.specs.List.{All}
use Rattle.mpx_group.specs.Group.{has_twice}

-- ranks of at most 64 members, none twice
pub record AreRanks (ranks : List ℕ) : Type 0 where
  pub below : All (λ r. r < 64) ranks
  pub distinct : has_twice ranks ≡ false
