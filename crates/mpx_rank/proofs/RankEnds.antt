-- How ranks end that stand somewhere in their scripts.
use Rattle.std.proofs.Common.{◌≡◌, ℕ, List, [], ◌++◌, Option, None, Some, refl, sym}
use Rattle.mpx_name.specs.Name.{Name}
use Rattle.mpx_meaning.specs.Ends.{Asked, asked_then, end_of, waits_with}
use Rattle.mpx_meaning.specs.Ranks.{Local}
use Rattle.mpx_rank.specs.Moves.{RankView}
use Rattle.mpx_rank.specs.Places.{CommunicatorView, StandsInScript, end_of_rank}

pub end_stands : (r : RankView CommunicatorView) (s : Local) → StandsInScript r s → end_of_rank r ≡ end_of s
end_stands r s h = λ i. record { lines = h.lines i; origins = h.origins i; waits = waits_with (λ word. h.requests word i) (sym h.todo i) }

-- the call of a request, and those behind it
pub asked_then-append : (word : List ℕ) (o : Option (Name × ℕ)) (rest : List Asked) → asked_then word o [] ++ rest ≡ asked_then word o rest
asked_then-append word None rest = refl
asked_then-append word (Some place) rest = refl
