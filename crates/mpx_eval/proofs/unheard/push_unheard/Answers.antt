use Rattle.std.proofs.Common.{List, map, refl, ◌∙◌}
use Rattle.mpx_num.specs.declared.own.Operation.{Operation}
use Rattle.mpx_num.specs.Own.{operation_of}
use Rattle.mpx_meaning.specs.Standing.{looked_up}
use Rattle.mpx_statement.specs.declared.statement.Statement.{Statement}
use Rattle.mpx_eval.specs.Found.{complaint_view}
use Rattle.mpx_eval.specs.Tables.{answer_on, table_of}
use Rattle.mpx_eval.specs.Unheard.{unheard_at, unheard_from}
use Rattle.mpx_eval.proofs.Complaining.{place_more}
use Rattle.mpx_eval.proofs.unheard.push_unheard.Goals as goal

pub loop-place-preserved : goal.loop-place-preserved
loop-place-preserved g c =
    let ops : List Operation = (map (λ b. let o = goal.OwnOp-dyn g (b.vtable, b.value) in operation_of (o.word_bytes b.value) (o.fits_type b.value) (o.combination b.value)) c.args.ops.now.list.items) in
    let requests = looked_up c.args.requests.now in
    let known = answer_on ops (table_of c.args.table.now) c.args.me in
    let statement : Statement = c.index-statements-place.result in
    place_more (unheard_at c.args.rank requests known) (unheard_from c.args.rank requests known) (λ i x xs. refl) c.args.statements.now c.loop-place.place statement c.loop-place-test.true c.index-statements-place.is
    (map complaint_view c.loop-place.found.items) (map complaint_view c.push_at.new.found.items) c.in_ok-push_at.ensures
    ∙ c.loop-place.invariant
