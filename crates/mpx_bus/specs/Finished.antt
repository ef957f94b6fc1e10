-- Which instances two processes have both finished.
use Rattle.std.specs.Prelude.{◌≡◌, ◌⊎◌, ℕ, ◌<◌, ◌≤◌, ◌^◌, ◌-◌, min, List, [], ◌∷◌, map, Some, slice_get, sum}
use Rattle.mpx_name.specs.Name.{Name}
use Rattle.mpx_board.specs.Boards.{IsGone}
use Rattle.mpx_node.specs.Nodes.{NodeView, front_on}

-- the board tells how many calls of each context the process has harvested, or that the context is dead
abbrev pub TellsFronts : NodeView → Type 0
TellsFronts node = (name : Name) → IsGone node.board name ⊎ (front_on node name ≤ (node.board.contexts name).fronts node.me)

-- how many calls of a context both have finished: the first so many
abbrev pub finished_by_both : NodeView → NodeView → Name → ℕ
finished_by_both a b name = min (front_on a name) (front_on b name)

-- no two of these are one
abbrev pub AreApart : List Name → Type 0
AreApart [] = Unit {0}
AreApart (name ∷ names) = ((i : ℕ) → slice_get names i ≡ Some name → ⊥) × AreApart names

-- on each of some contexts, no two of which are one, both have finished so many calls, and none on others: that many instances, or
-- the greatest number that is told
pub record BothHaveFinished (a b : NodeView) (count : ℕ) : Type 0 where
  pub names : List Name
  pub apart : AreApart names
  pub whole : (name : Name) → 0 < finished_by_both a b name → (i : ℕ) × (slice_get names i ≡ Some name)
  pub counted : count ≡ min (2 ^ 64 - 1) (sum (map (finished_by_both a b) names))
