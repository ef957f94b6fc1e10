-- A wait that isn't over.
use Rattle.std.specs.Prelude.{◌≡◌, ℕ, false, List, Option}
use Rattle.mpx_name.specs.Name.{Name}
use Rattle.mpx_rank.specs.Carriers.{Terms}
use Rattle.mpx_rank.specs.Moves.{are_done}

-- at some moment between the two not all calls of these requests were done
pub record WasNotDone {C K : Type 0} (terms : Terms C K) (me : ℕ) (requests : List ℕ → Option (Name × ℕ)) (words : List (List ℕ)) (old new : C) : Type 0 where
  pub moment : C
  pub after : terms.hears old moment
  pub before : terms.hears moment new
  pub not_done : are_done (terms.tells moment me) requests words ≡ false
