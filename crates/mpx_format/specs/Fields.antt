-- The fields of frames that no board is needed for: numbers of processes, names of contexts, lists of members, numbers of calls.
use Rattle.std.specs.Prelude.{ℕ, zero, suc, ◌-◌, ◌^◌, not, ◌&&◌, nat_lt, nat_le, List, ◌∷◌, reverse, Option, Some, None, Result, Ok}
use Rattle.std.specs.Int.{w16, w32}
use Rattle.std.specs.Ordering.{nat_cmp}
use Rattle.std.specs.FinMap.{FinMap}
use Rattle.mpx_group.specs.Group.{has}
use Rattle.mpx_name.specs.declared.steps.Step.{Step}
use Rattle.mpx_name.specs.declared.steps.Step.TheVariants.{Child, Gathering}
use Rattle.mpx_name.specs.Order.{name_cmp}
use Rattle.mpx_format.specs.declared.defects.Defect.{Defect}
use Rattle.mpx_format.specs.Format.{Format, ◌>>=◌, byte, number, both, only, through, counted, tagged, out_of_limits, not_canonical}
use Rattle.mpx_format.specs.Rising.{keyed, always}

-- the number of a process
unfoldable pub process : Format ℕ
process = only out_of_limits (λ p. nat_lt p 64) byte

-- one process more, which isn't among those before
unfoldable pub member : List ℕ → Format ℕ
member before = only out_of_limits (λ p. not (has before p)) process

-- how many members there are: 1 to 64
unfoldable pub member_count : Format ℕ
member_count = only out_of_limits (λ n. nat_lt 0 n && nat_le n 64) byte

unfoldable pub members : Format (List ℕ)
members = counted member_count member

-- the number of a call: below 4,294,967,295
unfoldable pub call : Format ℕ
call = only out_of_limits (λ k. nat_lt k (2 ^ 32 - 1)) (number w32)

unfoldable pub colour : Format ℕ
colour = only out_of_limits (λ c. nat_lt c (2 ^ 31)) (number w32)

unfoldable pub tag : Format ℕ
tag = only out_of_limits (λ t. nat_lt t (2 ^ 15)) (number w16)

-- STEPS AND NAMES

abbrev pub code_of_step : Step → ℕ
code_of_step (Child k c) = 0
code_of_step (Gathering t ps) = 1

abbrev pub child_of : ℕ × ℕ → Step
child_of x = Child x.0 x.1

abbrev pub of_child : Step → Option (ℕ × ℕ)
of_child (Child k c) = Some (k, c)
of_child (Gathering t ps) = None

abbrev pub gathering_of : ℕ × List ℕ → Step
gathering_of x = Gathering x.0 x.1

abbrev pub of_gathering : Step → Option (ℕ × List ℕ)
of_gathering (Child k c) = None
of_gathering (Gathering t ps) = Some (t, ps)

unfoldable pub child : Format Step
child = through child_of of_child (both call (λ k. colour))

unfoldable pub gathering : Format Step
gathering = through gathering_of of_gathering (both tag (λ t. members))

-- 0 and a child, or 1 and a gathering
abbrev pub step_form : ℕ → Format Step
step_form zero = child
step_form (suc n) = gathering

unfoldable pub step : Format Step
step = tagged (λ t. nat_lt t 2) code_of_step step_form

-- a name with the step that was read below it
abbrev pub below : List Step → Result (Step × List ℕ) Defect → Result (List Step × List ℕ) Defect
below parent read = read >>= λ s. Ok (s.0 ∷ parent, s.1)

-- at most 8
unfoldable pub step_count : Format ℕ
step_count = only out_of_limits (λ n. nat_le n 8) byte

-- the steps, the oldest first
unfoldable pub steps : Format (List Step)
steps = counted step_count (λ before. step)

unfoldable pub name : Format (List Step)
name = through reverse (λ n. Some (reverse n)) steps

-- NUMBERS OF CALLS BY PROCESS

-- a number of calls, which isn't 0
unfoldable pub some_calls : Format ℕ
some_calls = only not_canonical (λ n. nat_lt 0 n) (number w32)

-- how many entries there are, at least one
unfoldable pub some_byte : Format ℕ
some_byte = only not_canonical (λ n. nat_lt 0 n) byte

-- how many names there are
unfoldable pub name_count : Format ℕ
name_count = only out_of_limits (λ n. nat_le n 4096) (number w16)

unfoldable pub some_names : Format ℕ
some_names = only not_canonical (λ n. nat_lt 0 n) name_count

unfoldable pub fronts : Format (FinMap nat_cmp ℕ)
fronts = keyed nat_cmp byte process some_calls always

-- ACKNOWLEDGEMENTS

unfoldable pub numbers : Format (FinMap nat_cmp ℕ)
numbers = keyed nat_cmp some_byte process some_calls always

unfoldable pub acks : Format (FinMap name_cmp (FinMap nat_cmp ℕ))
acks = keyed name_cmp some_names name numbers always

unfoldable pub all_acks : Format (FinMap nat_cmp (FinMap name_cmp (FinMap nat_cmp ℕ)))
all_acks = keyed nat_cmp byte process acks always
