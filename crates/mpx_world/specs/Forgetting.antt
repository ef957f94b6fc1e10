-- Results that processes let go.
use Rattle.std.specs.Prelude.{◌≡◌, ℕ, ◌<◌, ◌⊎◌, List, slice_get, Some}
use Rattle.mpx_name.specs.Name.{Name}
use Rattle.mpx_node.specs.declared.finished.Finished.{Finished}
use Rattle.mpx_node.specs.Nodes.{NodeView, result_on}
use Rattle.mpx_node.specs.Forgetting.{forgotten_on}
use Rattle.mpx_world.specs.Worlds.{Happening, Forgets}

-- a node holds the result, or has let it go
abbrev pub IsHeldOrGone : NodeView → Name → (call : ℕ) → Finished → Type 0
IsHeldOrGone node name k r = (result_on node name k ≡ Some r) ⊎ (k < forgotten_on node name)

-- one of these is that the results below a number were let go, this call's among them
abbrev pub HasForgotten : {A : Type 0} → (forget : ℕ → A) → (happened : List A) → (k : ℕ) → Type 0
HasForgotten forget happened k = (below : ℕ) × (k < below) × (place : ℕ) × (slice_get happened place ≡ Some (forget below))

-- what lets no results go
abbrev pub LetsNothingGo : Happening → Type 0
LetsNothingGo (Forgets p name below) = ⊥
LetsNothingGo h = Unit {0}
