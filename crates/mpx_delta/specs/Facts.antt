-- What the parts of a board say, fact by fact.
use Rattle.std.specs.Prelude.{◌≢◌, ◌<◌, ℕ, All}
use Rattle.std.specs.FinMap.{entries}
use Rattle.join_core.specs.Flat.{FlatView, unknown}
use Rattle.join_nest.specs.Lift.{live, dead}
use Rattle.mpx_name.specs.Name.{Name}
use Rattle.mpx_post.specs.Posts.{Given}
use Rattle.mpx_board.specs.Boards.{Look, Fact, Born, Held, Front, Dropped, Dead, Acknowledged, Has}
use Rattle.mpx_board.specs.Parts.{OfProcesses, CallView, EntryView, LiftedView, AcksView, PartsView}

-- each fact of the one is a fact of the other
abbrev pub OnlyFactsOf : Look → Look → Type 0
OnlyFactsOf a b = (f : Fact) → Has a f → Has b f

-- P holds of what a process's post of a call says
abbrev pub SaysPost : (Fact → Type 0) → Name → ℕ → ℕ × FlatView Given → Type 0
SaysPost P name k x = P (Held name k x.0 x.1)

-- and of each fact that the posts of a call say
abbrev pub SaysCall : (Fact → Type 0) → Name → ℕ × CallView → Type 0
SaysCall P name x = All (SaysPost P name x.0) (entries x.1)

-- what is said of a context beside the posts: its birth, its fronts and its dropped front
pub record SaysHead (P : Fact → Type 0) (name : Name) (e : EntryView) : Type 0 where
  pub birth : e.0 ≢ unknown → P (Born name e.0)
  pub fronts : All (λ x. P (Front name x.0 x.1)) (entries e.1.0)
  pub dropped : 0 < e.1.1.dropped → P (Dropped name e.1.1.dropped)

pub record SaysEntry (P : Fact → Type 0) (x : Name × EntryView) : Type 0 where
  pub head : SaysHead P x.0 x.1
  pub calls : All (SaysCall P x.0) (entries x.1.1.1.calls)

-- of a live context all of that, of a dead one that it is dead
abbrev SaysOf : (Fact → Type 0) → Name → LiftedView → Type 0
SaysOf P name (live e) = SaysEntry P (name, e)
SaysOf P name dead = P (Dead name)

abbrev pub SaysLifted : (Fact → Type 0) → Name × LiftedView → Type 0
SaysLifted P x = SaysOf P x.0 x.1

-- what a process acknowledges of one context
abbrev pub SaysNumbers : (Fact → Type 0) → ℕ → Name × OfProcesses ℕ → Type 0
SaysNumbers P q x = All (λ y. P (Acknowledged q x.0 y.0 y.1)) (entries x.1)

-- and of all contexts
abbrev pub SaysAcks : (Fact → Type 0) → ℕ × AcksView → Type 0
SaysAcks P x = All (SaysNumbers P x.0) (entries x.1)

pub record SaysParts (P : Fact → Type 0) (v : PartsView) : Type 0 where
  pub contexts : All (SaysLifted P) (entries v.0)
  pub acks : All (SaysAcks P) (entries v.1)
