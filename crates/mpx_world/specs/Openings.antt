-- When a process may open a gathering, and when it may drop posts.
use Rattle.std.specs.Prelude.{◌≡◌, ◌<◌, ◌≤◌, ◌⊎◌, ℕ, ℤ, true, false, List, length, Some}
use Rattle.mpx_birth.specs.Births.{BirthView, rank_in}
use Rattle.mpx_post.specs.Drafts.{is_tag, most_steps, natural}
use Rattle.mpx_post.specs.Gatherings.{GatheringView, is_bad_group, members_at}
use Rattle.mpx_name.specs.Name.{Name}
use Rattle.mpx_board.specs.Boards.{Look, IsGone, floor_on, told}
use Rattle.mpx_node.specs.Nodes.{NodeView}
use Rattle.mpx_world.specs.Worlds.{MayPost}

-- a process may open this gathering with a tag, of the members with these ranks, which differ, and of which it is one: below a context
-- that it has opened and not freed, of which it is told the birth, and whose name has room for a step
pub record MayGather (node : NodeView) (parent : Name) (tag : ℤ) (ranks : List ℤ) (g : GatheringView) : Type 0 where
  pub opened : MayPost (node.opened parent)
  pub birth : BirthView
  pub rank : ℕ
  pub born : told (node.board.contexts parent).birth ≡ Some birth
  pub member : rank_in node.me birth.members ≡ Some rank
  pub room : length parent < most_steps
  pub group : is_bad_group birth.members node.me ranks ≡ false
  pub tagged : is_tag tag ≡ true
  pub is : g ≡ record { tag = natural tag; members = members_at birth.members ranks }

-- it may drop the posts of calls below a number that each member's front has reached, as the board tells these; of a context that is dead
-- any, of which nothing is left
abbrev pub MayPrune : Look → Name → (number : ℕ) → Type 0
MayPrune b name n = IsGone b name ⊎ ((floor : ℕ) × (floor_on b name ≡ Some floor) × (n ≤ floor))
