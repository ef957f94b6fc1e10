-- What is drawn of a seed.
use Rattle.std.specs.Prelude.{ℕ, zero, suc, ◌+◌, ◌%◌, ◌^◌, ◌++◌, ◌∷◌, [], List, nat_eq, nat_lt, if◌then◌else◌}
use Rattle.std.specs.List.{swap}
use Rattle.rand_pcg.specs.Lcg.{Lcg, increment_of, started}
use Rattle.rand_pcg.specs.Pcg.{multiplier_64, pcg32}

-- the generator of a seed before the first draw: PCG32's, of stream 54
abbrev pub generator : (seed : ℕ) → Lcg
generator seed = started 64 multiplier_64 seed (increment_of 64 54)

-- the number below a limit that comes next, and the generator behind it
abbrev pub draw : (limit : ℕ) → Lcg → ℕ
draw limit g = (pcg32 g).0 % limit

abbrev pub drawn : Lcg → Lcg
drawn g = (pcg32 g).1

-- the generator once so many numbers are drawn
abbrev pub drawn_times : (times : ℕ) → Lcg → Lcg
drawn_times zero g = g
drawn_times (suc n) g = drawn (drawn_times n g)

-- a schedule: of a hundred frames so many are lost, the generator is there, and lists go by these shifts, one after the other and from the first again
pub record ScheduleView : Type 0 where
  pub loss : ℕ
  pub draws : Lcg
  pub shifts : List ℕ

abbrev pub drawn_once : ScheduleView → ScheduleView
drawn_once s = record { loss = s.loss; draws = drawn s.draws; shifts = s.shifts }

-- for a frame that has come: a number below four, and where that is 0, so that the frame comes again, one more
abbrev pub drawn_again : ScheduleView → ScheduleView
drawn_again s = if nat_eq (draw 4 s.draws) 0 then drawn_once (drawn_once s) else drawn_once s

-- how many of the first so many powers of two, from 1 on, are below the limit
abbrev pub powers_below : (powers limit : ℕ) → ℕ
powers_below zero limit = 0
powers_below (suc n) limit = if nat_lt (2 ^ n) limit then suc (powers_below n limit) else powers_below n limit

-- and which these are, in rising order
abbrev pub all_below : (powers limit : ℕ) → List ℕ
all_below zero limit = []
all_below (suc n) limit = if nat_lt (2 ^ n) limit then (all_below n limit ++ 2 ^ n ∷ []) else all_below n limit

-- items in an order that is drawn: each place from this one on, of which so many are left, gets one of the items that the places before it left
abbrev pub shuffled : {A : Type 0} (place left : ℕ) → Lcg → List A → List A
shuffled place zero g items = items
shuffled place (suc n) g items = shuffled (suc place) n (drawn g) (swap items place (place + draw (suc n) g))

-- the schedule of a seed before the first turn: the shifts are the powers of two from 1 to 32 below the number of processes, in an order that is drawn once
abbrev pub first_schedule : (processes seed loss : ℕ) → ScheduleView
first_schedule processes seed loss = record {
  loss = loss;
  draws = drawn_times (powers_below 6 processes) (generator seed);
  shifts = shuffled 0 (powers_below 6 processes) (generator seed) (all_below 6 processes);
}
