-- How far contexts are looked through for calls that come first.
use Rattle.std.specs.Prelude.{◌≡◌, ℕ, Bool, true, false, List, Option, Some, None}
use Rattle.std.specs.BTreeMap.{BTreeMap, get}
use Rattle.mpx_name.specs.Name.{Name}
use Rattle.mpx_name.specs.Order.{name_cmp}
use Rattle.mpx_node.specs.Nodes.{NodeView}
use Rattle.mpx_explain.specs.RunEnds.{FirstView, first_lacking, is_told_on}
use Rattle.mpx_explain.specs.declared.ended.EndedRun.{EndedRun}

-- of a context one is told
abbrev pub is_told_in : Option (Option ℕ) → Bool
is_told_in None = false
is_told_in (Some None) = true
is_told_in (Some (Some calls)) = false

-- the map has, of each context, that a call on it is told, or before which call none lacks posts
pub record HasLooked (run : EndedRun) (node : NodeView) (firsts : List FirstView) (looked : BTreeMap Name (Option ℕ)) : Type 0 where
  pub told : (name : Name) → is_told_on name firsts ≡ is_told_in (get name_cmp looked name)
  pub none : (name : Name) (calls : ℕ) → get name_cmp looked name ≡ Some (Some calls) → first_lacking run node name calls ≡ None
