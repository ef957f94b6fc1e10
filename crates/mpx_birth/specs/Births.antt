-- How a communicator came to be: its members, and their topology (MPI 4.1, sections 7.2 and 8.5).
use Rattle.std.specs.Prelude.{◌≡◌, ℕ, ◌<◌, ◌==◌, ◌&&◌, nat_eq, nat_le, nat_lt, not, Bool, true, false, List, length, Option, Some, None, refl}
use Rattle.std.proofs.Common.{ap}
use Rattle.std.specs.Bool.{Decides}
use Rattle.std.specs.List.{list_all}
use Rattle.std.proofs.lemmas.Bool.Decides.{Decides-and, Decides-eqb, Decides-like}
use Rattle.std.proofs.lemmas.Slice.Eq.{slice_eq-Decides}
use lib.Pointwise.{pointwise}
use Rattle.join_core.specs.Joins.{IsEquality}
use Rattle.mpx_group.specs.Group.{IsGroup, has_twice}
pub use Rattle.mpx_group.specs.Group.{rank_in}
pub use Rattle.mpx_birth.specs.Orders.{upto}
use Rattle.mpx_birth.specs.Topologies.{TopologyView, same_topology, topologies_decided}

-- a communicator: its members in rank order, and the neighbours of each of them where it has a topology
pub record BirthView : Type 0 where
  pub members : List ℕ
  pub topology : Option TopologyView

-- these members in this order, without a topology
abbrev pub of_members : List ℕ → BirthView
of_members members = record { members = members; topology = None }

-- a topology has so many ranks, where there is one
abbrev pub fits_topology : ℕ → Option TopologyView → Type 0
fits_topology size None = Unit {0}
fits_topology size (Some topology) = length topology.ranks ≡ size

-- 1 to 64 members, each below 64, none twice, and a topology of as many ranks, if any
pub record IsBirth (birth : BirthView) : Type 0 where
  pub some : 0 < length birth.members
  pub group : IsGroup birth.members
  pub topology : fits_topology (length birth.members) birth.topology

-- the same as tests

abbrev pub has_ranks : ℕ → Option TopologyView → Bool
has_ranks size None = true
has_ranks size (Some topology) = length topology.ranks == size

unfoldable pub is_birth : BirthView → Bool
is_birth birth =
    nat_lt 0 (length birth.members)
    && (nat_le (length birth.members) 64
    && (not (has_twice birth.members)
    && (list_all (λ p. nat_lt p 64) birth.members && has_ranks (length birth.members) birth.topology)))

-- what is made of such parts: the communicator, where they are one's, and none where they aren't
abbrev pub IsBirthOf : BirthView → Option BirthView → Type 0
IsBirthOf parts None = is_birth parts ≡ false
IsBirthOf parts (Some birth) = (is_birth parts ≡ true) × (birth ≡ parts)

abbrev pub same_topologies : Option TopologyView → Option TopologyView → Bool
same_topologies None None = true
same_topologies None (Some b) = false
same_topologies (Some a) None = false
same_topologies (Some a) (Some b) = same_topology a b

-- the same members in the same order, and the same neighbours
abbrev pub same_birth : BirthView → BirthView → Bool
same_birth a b = pointwise nat_eq a.members b.members && same_topologies a.topology b.topology

members_decided : (ps qs : List ℕ) → Decides (pointwise nat_eq ps qs) (ps ≡ qs)
members_decided ps qs = slice_eq-Decides Decides-eqb ps qs (pointwise nat_eq ps qs) refl

optional_decided : (a b : Option TopologyView) → Decides (same_topologies a b) (a ≡ b)
optional_decided None None = (λ t. refl, λ e. refl)
optional_decided None (Some b) = (λ t. cc, λ e. cc)
optional_decided (Some a) None = (λ t. cc, λ e. cc)
optional_decided (Some a) (Some b) = Decides-like _ (ap Some) (λ e. cc) (topologies_decided a b)

births_decided : (a b : BirthView) → Decides (same_birth a b) (a ≡ b)
births_decided a b =
    Decides-like _
    (λ e. λ i. record { members = e.0 i; topology = e.1 i })
    (λ e. (ap (λ (v : BirthView). v.members) e, ap (λ (v : BirthView). v.topology) e))
    (Decides-and _ _ (members_decided a.members b.members) (optional_decided a.topology b.topology))

pub birth_equality : IsEquality same_birth
birth_equality = record {
  reflexive = λ a. (births_decided a a).1 refl;
  sound = λ a b. (births_decided a b).0;
}
