-- What the user's calls do to a desk: to its host, and to its open requests.
use Rattle.std.specs.Prelude.{ℕ, ℤ, ◌⊎◌, List, Result}
use Rattle.mpx_name.specs.Name.{Name}
use Rattle.mpx_num.specs.declared.own.Operation.{Operation}
use Rattle.mpx_post.specs.declared.draft.Draft.{Draft}
use Rattle.mpx_post.specs.declared.draft.PostError.{PostError}
use Rattle.mpx_node.specs.declared.finished.Finished.{Finished}
use Rattle.mpx_node.specs.Nodes.{NodeView}
use Rattle.mpx_comm.specs.declared.answers.CallError.{CallError}
use Rattle.mpx_request.specs.declared.answers.TurnError.{TurnError}
use Rattle.mpx_comm.specs.declared.desk.Desk.{Desk}
use Rattle.mpx_request.specs.declared.request.Request.{Request}
use Rattle.mpx_comm.specs.Calls.{Asks, AsksGathered, Calls, CallsGathered, IsNotGathered}

-- the draft is posted on the host, and its request is the desk's last open one; or it is refused, and nothing changes
abbrev pub DeskAsks : {H : Type 0} {g : _} → List Operation → (node : H → NodeView) → Name → Draft → Result Request PostError → (old new : Desk H g) → Type 0
DeskAsks ops node name draft result old new = Asks ops name draft result (node old.host) (node new.host) old.requests.keys new.requests.keys

-- a blocking call: the draft is posted on the host, and the host waits for its result, with the desk's requests
abbrev pub DeskCalls : {H : Type 0} {g : _} → List Operation → (node : H → NodeView) → (turned : H → ℕ → H → Type 0) → (refused : H → TurnError → H → Type 0) → Name → Draft → (turns : ℕ) → Result Finished CallError → (old new : Desk H g) → Type 0
DeskCalls ops node turned refused name draft turns result old new = Calls ops node turned refused name draft turns result old.host new.host old.requests.keys new.requests.keys

-- the same on a gathering, which is opened before
abbrev pub DeskAsksGathered : {H : Type 0} {g : _} → List Operation → (node : H → NodeView) → (turned : H → ℕ → H → Type 0) → (parent : Name) → (tag : ℤ) → (ranks : List ℤ) → Result Request PostError → (old new : Desk H g) → Type 0
DeskAsksGathered ops node turned parent tag ranks result old new = AsksGathered ops node turned parent tag ranks result old.host new.host old.requests.keys new.requests.keys

abbrev pub DeskCallsGathered : {H : Type 0} {g : _} → List Operation → (node : H → NodeView) → (turned : H → ℕ → H → Type 0) → (refused : H → TurnError → H → Type 0) → (parent : Name) → (tag : ℤ) → (ranks : List ℤ) → (turns : ℕ) → Result Finished CallError → (old new : Desk H g) → Type 0
DeskCallsGathered ops node turned refused parent tag ranks turns result old new =
    IsNotGathered node turned parent tag ranks result old.host new.host old.requests.keys new.requests.keys
    ⊎ CallsGathered ops node turned refused parent tag ranks turns result old.host new.host old.requests.keys new.requests.keys
