-- What the types of posts and births keep, so that a frame of one of them is short.
use Rattle.std.specs.Prelude.{◌≡◌, ◌≤◌, ◌+◌, true, length, Some}
use Rattle.mpx_birth.specs.Births.{BirthView}
use Rattle.mpx_birth.specs.Topologies.{TopologyView, is_topology}
use Rattle.mpx_post.specs.Posts.{Given, few_items, group_of, edges_of, sources_of, destinations_of}

-- few members, and a topology of as many ranks, if any
pub record IsShortBirth (b : BirthView) : Type 0 where
  pub members : length b.members ≤ 64
  pub topology : (t : TopologyView) → b.topology ≡ Some t → (is_topology t ≡ true) × (length t.ranks ≡ length b.members)

-- each list of it is short
pub record IsShortPost (g : Given) : Type 0 where
  pub scounts : length g.scounts ≤ 65535
  pub rcounts : length g.rcounts ≤ 65535
  pub items : few_items g.items
  pub group : length (group_of g) ≤ 64
  pub edges : length (edges_of g) ≤ 512
  pub near : length (sources_of g) + length (destinations_of g) ≤ 512
