-- A gathering below a context that is known.
use Rattle.std.proofs.Common.{◌≡◌, ℕ, ℤ, Bool, List, Some, sym, ap}
use Rattle.std.specs.Prelude.{Result, Ok, Err}
use Rattle.mpx_name.specs.Name.{Name}
use Rattle.mpx_post.specs.declared.draft.PostError.{PostError}
use Rattle.mpx_post.specs.declared.draft.PostError.TheVariants.{OutOfMemory}
use Rattle.mpx_birth.specs.Births.{BirthView, of_members}
use Rattle.mpx_post.specs.Gatherings.{ChecksGathering, GatheringView, gathering}
use Rattle.mpx_value.specs.Histories.{History, birth_of, gathered}
use Rattle.mpx_value.proofs.Growth.{then_some}
use Rattle.mpx_eval.specs.Places.{gathering_name}
use Rattle.mpx_value.proofs.Histories.{gathered_there}

-- the gathering came to be so
pub born_below : (h : History) (ranks : ℕ) (parent : Name) (birth : BirthView) (me depth : ℕ) (closed : Bool) (tag : ℤ) (given : List ℤ) (g : GatheringView) → birth_of h ranks parent ≡ Some birth → gathering birth me depth closed tag given ≡ Ok g → birth_of h ranks (gathering_name parent g) ≡ Some (of_members g.members)
born_below h ranks parent birth me depth closed tag given g born e = then_some (gathered g.members) (birth_of h ranks parent) birth (of_members g.members) born (gathered_there birth me depth closed tag given g e)

pub checks_gathering : (r : Result GatheringView PostError) (g : GatheringView) → ChecksGathering r (Ok g) → r ≡ Ok g
checks_gathering (Err refusal) g e = cc e
checks_gathering (Ok made) g e = ap Ok (sym e)

-- a refusal, but want of memory, is told as it is
pub checks_refusal : (r : Result GatheringView PostError) (refusal : PostError) → ChecksGathering r (Err refusal) → (refusal ≡ OutOfMemory → ⊥) → r ≡ Err refusal
checks_refusal (Err told) refusal e other = sym e
checks_refusal (Ok made) refusal e other = absurd (other e)
