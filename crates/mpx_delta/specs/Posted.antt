-- The numbers of a digest that tell held posts apart: those above the first call with posts.
use Rattle.std.specs.Prelude.{ℕ, zero, suc, min, nat_lt, cond, List, [], ◌∷◌, Option, Some, None, option_and_then}
use Rattle.std.specs.FinMap.{empty, entries, get}
use Rattle.join_nest.specs.Lift.{live, dead}
use Rattle.mpx_name.specs.Name.{Name}
use Rattle.mpx_board.specs.Parts.{AcksView, CallView, LiftedView, OfProcesses}
use Rattle.mpx_digest.specs.Digest.{number_at}
use Rattle.mpx_digest.specs.Keep.{keep, unless_bare}

-- a number above the call
abbrev pub if_above : ℕ → ℕ → Option ℕ
if_above call n = cond (nat_lt call n) (Some n) None

-- the numbers of a process on a context, above the call
abbrev pub above : ℕ → Option (OfProcesses ℕ) → OfProcesses ℕ
above call None = empty
above call (Some numbers) = keep (λ p n. if_above call n) numbers

-- of these numbers the lesser ones of both, above the call
abbrev pub lesser : ℕ → OfProcesses ℕ → Option (OfProcesses ℕ) → OfProcesses ℕ
lesser call numbers None = empty
lesser call numbers (Some others) = keep (λ p n. if_above call (min n (number_at others p))) numbers

-- what the process says of the context
abbrev pub said_on : OfProcesses AcksView → Name → ℕ → Option (OfProcesses ℕ)
said_on all name q = option_and_then (λ acks. get acks name) (get all q)

-- the least numbers that the first processes say, one and so many more, above the call
abbrev pub least_above : OfProcesses AcksView → Name → (call more : ℕ) → OfProcesses ℕ
least_above all name call zero = above call (said_on all name 0)
least_above all name call (suc n) = lesser call (least_above all name call n) (said_on all name (suc n))

-- the same above the first call with posts, where there is one
abbrev pub least_from : OfProcesses AcksView → Name → (more : ℕ) → List (ℕ × CallView) → OfProcesses ℕ
least_from all name more [] = empty
least_from all name more (c ∷ calls) = least_above all name c.0 more

abbrev pub least_posted : OfProcesses AcksView → (more : ℕ) → Name → LiftedView → OfProcesses ℕ
least_posted all more name (live e) = least_from all name more (entries e.1.1.calls)
least_posted all more name dead = empty

abbrev pub least_context : OfProcesses AcksView → (more : ℕ) → Name → LiftedView → Option (OfProcesses ℕ)
least_context all more name l = unless_bare (least_posted all more name l)
