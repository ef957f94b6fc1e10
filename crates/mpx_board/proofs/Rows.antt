-- The row of a context, where it is live.
use Rattle.std.proofs.Common.{◌≡◌, ℕ, List, Option, Some, None, option_and_then, ap, ◌∙◌}
use Rattle.mpx_birth.specs.Births.{BirthView}
use Rattle.mpx_post.specs.Rows.{RowView, all_of}
use Rattle.mpx_board.specs.Boards.{Context, told}
use Rattle.mpx_board.specs.Parts.{EntryView, LiftedView}
use Rattle.mpx_board.specs.Contexts.{context_of, live_of, or_nothing}
use Rattle.mpx_board.proofs.Live.{read_birth}

-- the row of a context that came to be so, if that is known
abbrev row_with : ℕ → Context → Option BirthView → Option RowView
row_with k x birth = option_and_then (λ (b : BirthView). all_of (λ p. told (x.posts k p)) b.members) birth

-- the row of a context
abbrev pub row_of : Context → ℕ → Option RowView
row_of x k = row_with k x (told x.birth)

-- where the birth isn't known
pub unborn : (e : EntryView) (o : Option LiftedView) (k : ℕ) → Some e ≡ live_of o → None ≡ told e.0 → None ≡ row_of (or_nothing o) k
unborn e o k is no_birth = read_birth (row_with k) e o None is no_birth

-- where it is
pub born : (e : EntryView) (o : Option LiftedView) (k : ℕ) (birth : BirthView) (ms : List ℕ) (r : Option RowView) → Some e ≡ live_of o → Some birth ≡ told e.0 → ms ≡ birth.members → r ≡ all_of (λ p. told ((context_of e).posts k p)) ms → r ≡ row_of (or_nothing o) k
born e o k birth ms r is told_birth members row = row ∙ ap (all_of (λ p. told ((context_of e).posts k p))) members ∙ read_birth (row_with k) e o (Some birth) is told_birth
