-- What a process doesn't say yet of a digest: of contexts without held calls it may say as much.
use Rattle.std.specs.Prelude.{ℕ, ◌||◌, ◌&&◌, Bool, true, false, nat_eq, nat_le, cond, List, [], ◌∷◌, Option, Some, None}
use Rattle.std.specs.FinMap.{empty, entries, get}
use Rattle.join_nest.specs.Lift.{live, dead}
use Rattle.mpx_birth.specs.Births.{BirthView}
use Rattle.mpx_name.specs.Name.{Name}
use Rattle.mpx_board.specs.Boards.{told}
use Rattle.mpx_board.specs.Parts.{AcksView, CallView, EntryView, LiftedView, OfProcesses, PartsView}
use Rattle.mpx_digest.specs.Digest.{number_at}
use Rattle.mpx_digest.specs.Keep.{keep, unless_bare}
use Rattle.mpx_digest.specs.Reach.{digest_lifted}

-- none of the members' numbers is less
abbrev pub have_all : OfProcesses ℕ → (least : ℕ) → (members : List ℕ) → Bool
have_all numbers least [] = true
have_all numbers least (p ∷ members) = nat_le least (number_at numbers p) && have_all numbers least members

-- so many calls of each member are said to be known
abbrev pub says_members : Option (OfProcesses ℕ) → (dropped : ℕ) → (members : List ℕ) → Bool
says_members None dropped members = false
says_members (Some numbers) dropped members = have_all numbers dropped members

abbrev pub says_dropped : Option (OfProcesses ℕ) → (dropped : ℕ) → Option BirthView → Bool
says_dropped said dropped None = true
says_dropped said dropped (Some birth) = nat_eq dropped 0 || says_members said dropped birth.members

-- as much is said as the digest of a context without held calls
abbrev pub says_quiet : Option (OfProcesses ℕ) → EntryView → List (ℕ × CallView) → Bool
says_quiet said e [] = says_dropped said e.1.1.dropped (told e.0)
says_quiet said e (c ∷ calls) = false

abbrev pub says_all : AcksView → Name → LiftedView → Bool
says_all said name (live e) = says_quiet (get said name) e (entries e.1.1.calls)
says_all said name dead = true

-- the digest of a context, where that isn't said
abbrev pub numbers_above : AcksView → Name → LiftedView → OfProcesses ℕ
numbers_above said name l = cond (says_all said name l) empty (digest_lifted l)

abbrev pub digest_above : AcksView → PartsView → AcksView
digest_above said v = keep (λ name l. unless_bare (numbers_above said name l)) v.0
