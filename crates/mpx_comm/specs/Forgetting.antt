-- What a desk lets go: results that none of its open requests is for.
use Rattle.std.specs.Prelude.{◌≡◌, ◌≤◌, ◌⊎◌, ℕ, List, slice_get, Some, Result, Ok, Err}
use Rattle.mpx_name.specs.Name.{Name}
use Rattle.mpx_node.specs.declared.finished.Finished.{Finished}
use Rattle.mpx_node.specs.Forgetting.{forgets}
use Rattle.mpx_node.specs.Nodes.{NodeView, front_on, has_next}
use Rattle.mpx_request.specs.declared.answers.TurnError.{TurnError}
use Rattle.mpx_request.specs.declared.answers.WaitError.{WaitError}
use Rattle.mpx_request.specs.declared.request.Request.{Request}
use Rattle.mpx_request.specs.Later.{Later}
use Rattle.mpx_request.specs.Requests.{Waits, result_of}

-- it is the least of this number and of the calls of the context that these requests are for
pub record IsLeastCall (most : ℕ) (name : Name) (requests : List Request) (least : ℕ) : Type 0 where
  pub within : least ≤ most
  pub low : (i : ℕ) (request : Request) → slice_get requests i ≡ Some request → request.name ≡ name → least ≤ request.call
  pub met : (least ≡ most) ⊎ ((i : ℕ) × (request : Request) × (slice_get requests i ≡ Some request) × (request.name ≡ name) × (least ≡ request.call))

-- each of these requests has the result that it had, and the next one on its context can be had as before
abbrev pub AreUntouched : (old new : NodeView) → List Request → Type 0
AreUntouched old new requests = (i : ℕ) (request : Request) → slice_get requests i ≡ Some request → (result_of new request ≡ result_of old request) × (has_next new request.name ≡ has_next old request.name)

-- with no turn it lets go what it has harvested of the context below the least call that one of these requests is for, or all where none is;
-- but never the newest result
abbrev pub HostForgets : {H : Type 0} → (node : H → NodeView) → (turned : H → ℕ → H → Type 0) → Name → List Request → H → H → Type 0
HostForgets node turned name requests a b = ((below : ℕ) × IsLeastCall (front_on (node a) name) name requests below × (node b ≡ forgets name below (node a))) × turned a 0 b

-- a wait; and where it ends with the result, the desk then lets go, on its communicator, what no request is for that is still open
abbrev pub WaitsAndForgets : {H : Type 0} → (node : H → NodeView) → (turned : H → ℕ → H → Type 0) → (refused : H → TurnError → H → Type 0) → Request → (turns : ℕ) → Result Finished (WaitError Request) → (old new : H) → (before after : List Request) → Type 0
WaitsAndForgets {H} node turned refused request turns (Ok finished) old new before after =
    (waited : H) × Waits node turned refused request turns (Ok finished) old waited before after × Later (node old) (node waited) × HostForgets node turned request.name after waited new
WaitsAndForgets node turned refused request turns (Err e) old new before after = Waits node turned refused request turns (Err e) old new before after × Later (node old) (node new)
