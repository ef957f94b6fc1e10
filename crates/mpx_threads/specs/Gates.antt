-- Where a gate may give up.
use Rattle.std.specs.Prelude.{ℕ, ◌<◌}
use Rattle.mpx_threads.specs.declared.gate.BusStep.{BusStep}

-- at no step of any process
abbrev pub nowhere : ℕ → BusStep → ℕ → Type 0
nowhere process step nth = ⊥

-- at a step of this process that is its nth of some kind
abbrev pub GivesUpAt : (ℕ → BusStep → ℕ → Type 0) → (process nth : ℕ) → Type 0
GivesUpAt gives_up process nth = (step : BusStep) × gives_up process step nth

-- at one of the first so many steps of some kind
abbrev pub GivesUpWithin : (ℕ → BusStep → ℕ → Type 0) → (process turns : ℕ) → Type 0
GivesUpWithin gives_up process turns = (nth : ℕ) × ((nth < turns) × GivesUpAt gives_up process nth)

-- that of some process among so many
abbrev pub GivesUpAmong : (ℕ → BusStep → ℕ → Type 0) → (processes turns : ℕ) → Type 0
GivesUpAmong gives_up processes turns = (process : ℕ) × ((process < processes) × GivesUpWithin gives_up process turns)
