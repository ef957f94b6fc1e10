use Rattle.std.proofs.Common.{FitsSigned, ◌+ℤ◌, ◌≤ℤ◌, arith, rules}
use mir.Syntax.{w128}
use Rattle.std.proofs.lemmas.Int.{ints, to_z-of_z}
use Rattle.mpx_group.proofs.Strides.{up_not_past}
use Rattle.mpx_group.proofs.triplets.Triplet.after.Goals as goal

pub returns-else-self-rank : goal.returns-else-self-rank
returns-else-self-rank c =
    let t = c.args.self.now in
    let rank = c.ranges.rank in
    let stride : FitsSigned w128 t.stride = search rules in
    let last : FitsSigned w128 t.last = search rules in
    let sum : FitsSigned w128 (c.args.rank +ℤ t.stride) = grind (arith, ints) in
    let low : (c.args.rank +ℤ t.stride) ≤ℤ t.last = grind (arith, ints) in
    let within = up_not_past t (c.args.rank +ℤ t.stride) (omega (arith, ints)) low in
    simp (to_z-of_z, within)
