use Rattle.std.proofs.Common.{◌≤◌, length, sym, subst, arith}
use Rattle.std.proofs.lemmas.Option.{slice_get_past}
use Rattle.join_nest.specs.Placed.{set_values}
use Rattle.mpx_format.specs.Kept.{ArePieces, of_kept}
use Rattle.mpx_format.proofs.Pieces.{none_kept}
use Rattle.mpx_format.proofs.kept.Kept.forget_places.Goals as goal

pub returns-else-place-len-clause-rows : goal.returns-else-place-len-clause-rows
returns-else-place-len-clause-rows c rows values same h =
    let past : length c.args.self.now.of.items ≤ c.args.process = omega arith in
    subst (λ kept. ArePieces (of_kept kept) (set_values rows values)) (sym (slice_get_past c.args.self.now.of.items c.args.process past)) (none_kept (set_values rows values))
