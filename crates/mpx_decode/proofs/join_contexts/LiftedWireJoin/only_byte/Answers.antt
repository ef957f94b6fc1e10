use Rattle.std.proofs.Common.{◌∷◌, refl, subst, sym}
use Rattle.join_nest.specs.Lift.{dead}
use Rattle.mpx_board.specs.Parts.{entry_joining, lifted_joining}
use Rattle.mpx_decode.specs.Raising.{JoinsFront}
use Rattle.mpx_decode.proofs.JoinedParts.{dead_stays, two_form}
use Rattle.mpx_decode.proofs.join_contexts.LiftedWireJoin.only_byte.Goals as goal

pub returns-in-Dead : goal.returns-in-Dead
returns-in-Dead c more =
    rw c.in-Dead.is (subst (λ f. JoinsFront f lifted_joining (1 ∷ more) more dead dead) (sym (two_form c.args.version c.in-Two.is)) (record { value = dead; read = refl; joined = dead_stays entry_joining dead }))
