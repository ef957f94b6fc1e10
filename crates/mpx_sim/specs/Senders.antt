-- To whom processes send, and when.
use Rattle.std.specs.Prelude.{◌≡◌, ℕ, suc, ◌+◌, ◌%◌, Bool, nat_lt, List, length, slice_index_or, sum_by, if◌then◌else◌}

-- how far a process has come with sending: the place of the shift by which its next list goes, and the turn from which on it makes that list
pub record SenderView : Type 0 where
  pub place : ℕ
  pub out : ℕ

abbrev pub first_sender : SenderView
first_sender = record { place = 0; out = 0 }

-- to whom a process sends by the shift at that place: to the one so many places on, where the first comes after the last
abbrev pub receiver : (shifts : List ℕ) (size p place : ℕ) → ℕ
receiver shifts size p place = (p + slice_index_or shifts place 1) % size

-- the place of the next shift: after the last one the first
abbrev pub next_place : (shifts : List ℕ) (place : ℕ) → ℕ
next_place shifts place = if nat_lt (suc place) (length shifts) then suc place else 0

-- a process once it was asked for a list in a turn: where its last list wasn't out, as it was; else so many frames go out from this turn on
abbrev pub then_by : (shifts : List ℕ) (turn frames : ℕ) → SenderView → SenderView
then_by shifts turn frames s = if nat_lt turn s.out then s else record { place = next_place shifts s.place; out = turn + frames }

-- some of these shifts lead so far on together, each once
abbrev pub LeadSoFar : (shifts : List ℕ) (far : ℕ) → Type 0
LeadSoFar shifts far = (takes : ℕ → Bool) × (sum_by (λ shift. if takes shift then shift else 0) shifts ≡ far)
