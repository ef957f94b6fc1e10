-- How many calls of each process a board knows, in order.
use Rattle.std.specs.Prelude.{◌≡◌, ◌≢◌, ◌<◌, ℕ, max, Bool, true, false, slice_get, Some}
use Rattle.std.specs.FinMap.{get}
use Rattle.join_core.specs.Flat.{unknown, known}
use Rattle.mpx_name.specs.Name.{Name}
use Rattle.mpx_birth.specs.Births.{BirthView}
pub use Rattle.mpx_board.specs.Boards.{Numbers}
use Rattle.mpx_board.specs.Boards.{Context, Look}
use Rattle.mpx_board.specs.Changes.{is_posted}
pub use Rattle.mpx_board.specs.Contexts.{numbers_acked}
use Rattle.mpx_board.specs.Contexts.{or_zero}
use Rattle.mpx_board.specs.Parts.{OfProcesses}

-- the number at a process: 0 where there is none
abbrev pub number_at : OfProcesses ℕ → (process : ℕ) → ℕ
number_at numbers p = or_zero (get numbers p)

-- the first number that fails the test
pub record IsFirstGap (had : ℕ → Bool) (n : ℕ) : Type 0 where
  pub below : (k : ℕ) → k < n → had k ≡ true
  pub gap : had n ≡ false

-- a process of the context: a member, or one that has a post there
pub data IsListed (c : Context) (p : ℕ) : Type 0 where
  member : (birth : BirthView) (rank : ℕ) → c.birth ≡ known birth → slice_get birth.members rank ≡ Some p → IsListed c p
  posted : (k : ℕ) → c.posts k p ≢ unknown → IsListed c p

-- for each process of a context how many of its calls are told or dropped, in order up to the first gap; for the others 0
pub record IsDigest (d : Numbers) (b : Look) : Type 0 where
  pub listed : (name : Name) (p : ℕ) → p < 64 → IsListed (b.contexts name) p → IsFirstGap (λ k. is_posted (b.contexts name) k p) (d name p)
  pub others : (name : Name) (p : ℕ) → 0 < d name p → (p < 64) × IsListed (b.contexts name) p

-- with what the process says already, these are as much as a digest
pub record IsDigestBeyond (me : ℕ) (d : Numbers) (b : Look) : Type 0 where
  pub whole : Numbers
  pub digest : IsDigest whole b
  pub same : (name : Name) (p : ℕ) → max (b.acks me name p) (d name p) ≡ max (b.acks me name p) (whole name p)
