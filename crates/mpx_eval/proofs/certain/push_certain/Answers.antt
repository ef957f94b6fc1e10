use Rattle.std.proofs.Common.{List, map, refl, ◌∙◌}
use Rattle.mpx_num.specs.declared.own.Operation.{Operation}
use Rattle.mpx_num.specs.Own.{operation_of}
use Rattle.mpx_statement.specs.declared.statement.Statement.{Statement}
use Rattle.mpx_eval.specs.Certain.{certain_at, certain_from}
use Rattle.mpx_eval.specs.Found.{complaint_view}
use Rattle.mpx_eval.proofs.Complaining.{place_more}
use Rattle.mpx_eval.proofs.certain.push_certain.Goals as goal

pub loop-place-preserved : goal.loop-place-preserved
loop-place-preserved g c =
    let ops : List Operation = (map (λ b. let o = goal.OwnOp-dyn g (b.vtable, b.value) in operation_of (o.word_bytes b.value) (o.fits_type b.value) (o.combination b.value)) c.args.ops.now.list.items) in
    let statement : Statement = c.index-statements-place.result in
    place_more (certain_at ops c.args.ranks c.args.rank) (certain_from ops c.args.ranks c.args.rank) (λ i x xs. refl) c.args.statements.now c.loop-place.place statement c.loop-place-test.true c.index-statements-place.is
    (map complaint_view c.loop-place.found.items) (map complaint_view c.push_at.new.found.items) c.in_ok-push_at.ensures
    ∙ c.loop-place.invariant
