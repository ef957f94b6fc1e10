-- Boards with nothing in them that says nothing.
use Rattle.std.specs.Prelude.{ℕ, ◌&&◌, Bool, true, false, not, nat_lt, nat_eq}
use Rattle.std.specs.List.{list_all}
use Rattle.std.specs.declared.cmp.Ordering.{Ordering}
use Rattle.std.specs.FinMap.{FinMap, entries, len}
use Rattle.join_core.specs.Flat.{FlatView, unknown, known, clash}
use Rattle.mpx_post.specs.Drafts.{most_calls}
use Rattle.join_nest.specs.Lift.{live, dead}
use Rattle.mpx_board.specs.Parts.{CallView, EntryView, LiftedView, AcksView, PartsView, OfProcesses, OfNames}

abbrev pub is_unknown : {A : Type 0} → FlatView A → Bool
is_unknown unknown = true
is_unknown v = false

-- whether no key has an entry
abbrev pub is_bare : {K V : Type 0} {R : K → K → Ordering} → FinMap R V → Bool
is_bare m = nat_eq (len m) 0

-- whether each entry passes the test
abbrev pub all_entries : {K V : Type 0} {R : K → K → Ordering} → (K → V → Bool) → FinMap R V → Bool
all_entries p m = list_all (λ e. p e.0 e.1) (entries m)

-- no number is 0
abbrev pub has_no_zero : OfProcesses ℕ → Bool
has_no_zero m = all_entries (λ p n. nat_lt 0 n) m

-- there is some post, and each is told
abbrev pub are_tidy_posts : CallView → Bool
are_tidy_posts posts = not (is_bare posts) && all_entries (λ p v. not (is_unknown v)) posts

-- a call with its posts
abbrev pub is_tidy_call : ℕ → CallView → Bool
is_tidy_call k posts = nat_lt k most_calls && are_tidy_posts posts

-- whether nothing is said of a context
abbrev pub says_nothing : EntryView → Bool
says_nothing e = is_unknown e.0 && (is_bare e.1.0 && (not (nat_lt 0 e.1.1.dropped) && is_bare e.1.1.calls))

-- the same of a context that may be dead, which is never nothing
abbrev pub is_silent : LiftedView → Bool
is_silent (live e) = says_nothing e
is_silent dead = false

-- none of its fronts and calls says nothing
abbrev pub is_neat_entry : EntryView → Bool
is_neat_entry e = has_no_zero e.1.0 && all_entries is_tidy_call e.1.1.calls

-- it says something, and no part of it says nothing
abbrev pub is_tidy_entry : EntryView → Bool
is_tidy_entry e = not (says_nothing e) && is_neat_entry e

-- a live entry that is tidy, or a dead one, which is never empty
abbrev pub is_tidy_lifted : LiftedView → Bool
is_tidy_lifted (live e) = is_tidy_entry e
is_tidy_lifted dead = true

abbrev pub are_tidy_entries : OfNames LiftedView → Bool
are_tidy_entries m = all_entries (λ name e. is_tidy_lifted e) m

abbrev pub is_tidy_numbers : OfProcesses ℕ → Bool
is_tidy_numbers m = not (is_bare m) && has_no_zero m

-- each context that is named has a number, and none is 0
abbrev pub are_tidy_numbers : AcksView → Bool
are_tidy_numbers m = all_entries (λ name n. is_tidy_numbers n) m

abbrev pub is_tidy_acks : AcksView → Bool
is_tidy_acks m = not (is_bare m) && are_tidy_numbers m

abbrev pub are_tidy_acks : OfProcesses AcksView → Bool
are_tidy_acks m = all_entries (λ p a. is_tidy_acks a) m

-- no part says nothing, and no call has a number past the last
abbrev pub is_tidy : PartsView → Bool
is_tidy b = are_tidy_entries b.0 && are_tidy_acks b.1
