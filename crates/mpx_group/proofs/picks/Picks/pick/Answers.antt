use Rattle.std.proofs.Common.{◌<◌, arith, sym, ◌∙◌, lit<}
use Rattle.std.specs.Prelude.{unsigned_abs}
use Rattle.std.proofs.lemmas.Bool.{or_from}
use Rattle.std.proofs.lemmas.Int.{ints, to_z-of_z}
use Rattle.std.proofs.lemmas.List.Elements.{All-push}
use Rattle.mpx_group.proofs.Members.{length_distinct-new, has_twice-push}
use Rattle.mpx_group.proofs.Places.{unsigned_abs-below}
use Rattle.mpx_group.proofs.picks.Picks.pick.Goals as goal

pub push-requires : goal.push-requires
push-requires c =
    let fits = c.ranges.rank in
    let fresh = simp (to_z-of_z, c.as_slice.ensures.value) at c.contains.ensures.value in (
      lit< tt,
      length_distinct-new 64 _ (unsigned_abs c.args.rank) c.self.invariant.0 c.self.invariant.1 (sym fresh ∙ c.if-contains.false) (unsigned_abs-below c.args.rank c.args.size 64 (omega (arith, ints)) (omega (arith, ints)) (omega arith)),
    )

pub invariant_of-self-else-contains : goal.invariant_of-self-else-contains
invariant_of-self-else-contains c =
    let fits = c.ranges.rank in
    let fresh = simp (to_z-of_z, c.as_slice.ensures.value) at c.contains.ensures.value in
    let items = simp to_z-of_z at c.push.ensures.items in
    rw items (
      has_twice-push c.self.inside.ranks.items (unsigned_abs c.args.rank) ∙ or_from _ _ c.self.invariant.0 (sym fresh ∙ c.if-contains.false),
      All-push (λ r. r < 64) _ _ c.self.invariant.1 (unsigned_abs-below c.args.rank c.args.size 64 (omega (arith, ints)) (omega (arith, ints)) (omega arith)),
    )
