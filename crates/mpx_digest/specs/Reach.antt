-- How many calls of a process an entry has in order, by the maps that it is made of.
use Rattle.std.specs.Prelude.{◌≡◌, ℕ, ◌+◌, ◌<◌, ◌&&◌, ◌||◌, Bool, false, not, nat_eq, nat_lt, cond, List, [], ◌∷◌, get_or, Option, Some, None}
use Rattle.std.specs.List.{list_any}
use Rattle.std.specs.FinMap.{empty, entries, from_sorted}
use Rattle.join_nest.specs.Lift.{live, dead}
use Rattle.mpx_group.specs.Group.{has}
use Rattle.mpx_birth.specs.Births.{BirthView, upto}
use Rattle.mpx_board.specs.Boards.{told}
use Rattle.mpx_board.specs.Contexts.{post_in}
use Rattle.mpx_board.specs.Parts.{OfProcesses, AcksView, CallView, EntryView, LiftedView, PartsView}
use Rattle.mpx_board.specs.Tidy.{is_unknown}
use Rattle.mpx_digest.specs.Keep.{kept, keep, unless_bare}

-- the process's post is told
abbrev pub is_told_of : ℕ → CallView → Bool
is_told_of p posts = not (is_unknown (post_in p (Some posts)))

-- the number past the call, where it is the call's and the post is told
abbrev pub next_number : ℕ → Bool → ℕ → ℕ
next_number call told n = cond (nat_eq call n && told) (n + 1) n

-- the first number from n on that isn't the next call with a post of the process
abbrev pub reach : (p n : ℕ) → List (ℕ × CallView) → ℕ
reach p n [] = n
reach p n (e ∷ es) = cond (nat_eq e.0 n && is_told_of p e.1) (reach p (n + 1) es) n

abbrev pub is_member_of : ℕ → Option BirthView → Bool
is_member_of p None = false
is_member_of p (Some birth) = has birth.members p

-- the process has a post
abbrev pub has_posted : ℕ → List (ℕ × CallView) → Bool
has_posted p es = list_any (λ x. is_told_of p x.1) es

abbrev pub is_listed : EntryView → ℕ → Bool
is_listed e p = is_member_of p (told e.0) || has_posted p (entries e.1.1.calls)

-- how many calls of the process, where it is listed
abbrev pub digest_number : EntryView → ℕ → ℕ
digest_number e p = cond (is_listed e p) (reach p e.1.1.dropped (entries e.1.1.calls)) 0

abbrev pub unless_zero : ℕ → Option ℕ
unless_zero n = cond (nat_lt 0 n) (Some n) None

abbrev pub numbers_with : List ℕ → List (ℕ × Unit {0})
numbers_with [] = []
numbers_with (n ∷ ns) = (n, tt) ∷ numbers_with ns

-- the first so many processes
abbrev pub numbered : ℕ → List (ℕ × Unit {0})
numbered n = numbers_with (upto n)

abbrev pub digest_numbers : EntryView → OfProcesses ℕ
digest_numbers e = from_sorted (kept (λ p u. unless_zero (digest_number e p)) (numbered 64))

-- nobody is listed in a dead context
abbrev pub digest_lifted : LiftedView → OfProcesses ℕ
digest_lifted (live e) = digest_numbers e
digest_lifted dead = empty

abbrev pub digest_parts : PartsView → AcksView
digest_parts v = keep (λ name l. unless_bare (digest_lifted l)) v.0

-- of each process below 64 the answer
abbrev pub AreMarks : (ℕ → Bool) → List Bool → Type 0
AreMarks answer marks = (p : ℕ) → p < 64 → get_or marks p false ≡ answer p
