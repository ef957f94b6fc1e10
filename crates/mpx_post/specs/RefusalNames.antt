-- The names of refusals.
use Rattle.std.specs.Prelude.{ℕ, List, codes}
use Rattle.mpx_post.specs.declared.draft.PostError.{PostError}
use Rattle.mpx_post.specs.declared.draft.PostError.TheVariants as R

-- as a refusal prints
abbrev pub refusal_name : PostError → List ℕ
refusal_name R.NotMember = codes "NotMember"
refusal_name R.Closed = codes "Closed"
refusal_name R.RootOutOfRange = codes "RootOutOfRange"
refusal_name R.OpNotForType = codes "OpNotForType"
refusal_name R.CountsLength = codes "CountsLength"
refusal_name R.ItemsLength = codes "ItemsLength"
refusal_name R.ItemOutOfRange = codes "ItemOutOfRange"
refusal_name R.TooManyItems = codes "TooManyItems"
refusal_name R.NoTopology = codes "NoTopology"
refusal_name R.CallsUsedUp = codes "CallsUsedUp"
refusal_name R.DepthUsedUp = codes "DepthUsedUp"
refusal_name R.BadGroup = codes "BadGroup"
refusal_name R.BadEdge = codes "BadEdge"
refusal_name R.TooManyEdges = codes "TooManyEdges"
refusal_name R.BadTag = codes "BadTag"
refusal_name R.OutOfMemory = codes "OutOfMemory"
