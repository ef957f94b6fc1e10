-- Turns, and looks between them.
use Rattle.std.specs.Prelude.{◌≡◌, ℕ, zero, suc, ◌<◌, ◌≤◌, ◌⊎◌, Result, Ok, Err}
use Rattle.mpx_node.specs.Nodes.{NodeView}
use Rattle.mpx_request.specs.declared.answers.TurnError.{TurnError}
use Rattle.mpx_request.specs.declared.answers.TurnError.TheVariants.{OutOfMemory}
use Rattle.mpx_request.specs.Later.{Later}

-- from one state of a host to a later one by so many turns
abbrev pub HostMoves : {H : Type 0} → (node : H → NodeView) → (turned : H → ℕ → H → Type 0) → H → ℕ → H → Type 0
HostMoves node turned a n b = turned a n b × Later (node a) (node b)

-- so many turns, and just before each of them a look at which it was pending
abbrev pub Looks : {H : Type 0} → (node : H → NodeView) → (turned : H → ℕ → H → Type 0) → (is_pending : NodeView → Type 0) → H → ℕ → H → Type 0
Looks {H} node turned is_pending a zero b = HostMoves node turned a 0 b
Looks {H} node turned is_pending a (suc n) b = (look : H) × Looks node turned is_pending a n look × is_pending (node look) × HostMoves node turned look 1 b

-- so many turns in all, each after such a look
abbrev pub Awaits : {H : Type 0} → (node : H → NodeView) → (turned : H → ℕ → H → Type 0) → (is_pending : NodeView → Type 0) → H → ℕ → H → Type 0
Awaits node turned is_pending a n b = turned a n b × Looks node turned is_pending a n b

-- so many turns and nothing else; or fewer, and then one that was refused, and why
abbrev pub MakesTurns : {H : Type 0} → (turned : H → ℕ → H → Type 0) → (refused : H → TurnError → H → Type 0) → (turns : ℕ) → Result (Unit {0}) TurnError → H → H → Type 0
MakesTurns turned refused turns (Ok u) a b = turned a turns b
MakesTurns {H} turned refused turns (Err why) a b = (n : ℕ) × (last : H) × (n < turns) × turned a n last × refused last why b

-- given up after at most so many turns: memory was wanting at a look at what is at hand, or one turn more was refused, and why
abbrev pub GivesUp : {H : Type 0} → (node : H → NodeView) → (turned : H → ℕ → H → Type 0) → (refused : H → TurnError → H → Type 0) → (is_pending is_at_hand : NodeView → Type 0) → (why : TurnError) → (turns : ℕ) → H → H → Type 0
GivesUp {H} node turned refused is_pending is_at_hand why turns a b =
    ((why ≡ OutOfMemory) × ((n : ℕ) × (n ≤ turns) × Awaits node turned is_pending a n b × is_at_hand (node b)))
    ⊎ ((n : ℕ) × (look : H) × (n < turns) × Awaits node turned is_pending a n look × is_pending (node look) × refused look why b)
