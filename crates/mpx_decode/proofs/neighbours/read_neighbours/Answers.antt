use Rattle.std.proofs.lemmas.Result.{err_from_is_err_and}
use Rattle.mpx_format.specs.Births.{neighbours}
use Rattle.mpx_decode.proofs.Loop.{fails_on}
use Rattle.mpx_decode.proofs.neighbours.read_neighbours.Goals as goal

pub returns-in_err-list : goal.returns-in_err-list
unfolding neighbours
returns-in_err-list c =
    let p = err_from_is_err_and c.from_residual-in_err-list.result c.from_residual-in_err-list.ensures.1 in
    let e = c.in_err-list.field-0.0 in
    rw (p.1, p.2, c.in_ok-count.ensures.gives) (fails_on e _ _ (fails_on e _ _ c.in_err-list.ensures.read))
