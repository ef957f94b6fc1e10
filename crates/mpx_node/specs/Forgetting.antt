-- A process lets results go.
use Rattle.std.specs.Prelude.{◌≡◌, ℕ, ◌-◌, ◌≤◌}
use Rattle.mpx_name.specs.Name.{Name}
use Rattle.mpx_node.specs.Nodes.{NodeView, does_on, front_on, posted_on, result_on, results_on}
use Rattle.mpx_node.specs.Stored.{count_gone, let_go}

-- it lets go what it has harvested of a context's calls below this one, but never the newest, and changes nothing else
abbrev pub forgets : Name → (below : ℕ) → NodeView → NodeView
forgets name below node = does_on name (λ o. record o { results = let_go below o.results }) node

-- how many of the first results on a context it has let go
abbrev pub forgotten_on : NodeView → Name → ℕ
forgotten_on node name = count_gone (results_on node name)

-- on a context as many calls are posted and harvested as were, and the result of the newest call is what it was, and of each from this one on
pub record KeepsFrom (below : ℕ) (name : Name) (old new : NodeView) : Type 0 where
  pub posted : posted_on new name ≡ posted_on old name
  pub front : front_on new name ≡ front_on old name
  pub newest : result_on new name (front_on new name - 1) ≡ result_on old name (front_on old name - 1)
  pub rest : (call : ℕ) → below ≤ call → result_on new name call ≡ result_on old name call
