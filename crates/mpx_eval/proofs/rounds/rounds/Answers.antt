use Rattle.std.proofs.Common.{◌≤◌, map, length, subst, arith, List}
use Rattle.std.proofs.lemmas.List.{length-map}
use Rattle.mpx_num.specs.declared.own.Operation.{Operation}
use Rattle.mpx_num.specs.Own.{operation_of}
use Rattle.mpx_eval.specs.Rounds.{Round}
use Rattle.mpx_eval.specs.Carrying.{shown}
use Rattle.mpx_eval.specs.Tables.{table_of}
use Rattle.mpx_eval.proofs.Going.{rounds_end, rounds_on}
use Rattle.mpx_eval.proofs.rounds.rounds.Goals as goal

pub loop-preserved : goal.loop-preserved
loop-preserved g c =
    let ops : List Operation = map (λ b. let o = goal.OwnOp-dyn g (b.vtable, b.value) in operation_of (o.word_bytes b.value) (o.fits_type b.value) (o.combination b.value)) c.args.ops.now.list.items in
    rounds_on ops (map shown c.args.ranks.now) (table_of c.args.table.now) (map shown c.loop.ranks) (table_of c.loop.table) (map shown c.round.new.ranks) (table_of c.round.new.table) c.in_ok-round.field-0 (length c.loop.ranks) c.loop.invariant c.in_ok-round.ensures.goes

pub returns : goal.returns
returns g c =
    let ops : List Operation = map (λ b. let o = goal.OwnOp-dyn g (b.vtable, b.value) in operation_of (o.word_bytes b.value) (o.fits_type b.value) (o.combination b.value)) c.args.ops.now.list.items in
    let many : length (map shown c.loop.ranks) ≤ length c.loop.ranks = omega (arith, length-map c.loop.ranks shown) in
    let last = subst (λ m. Round ops (map shown c.loop.ranks) (table_of c.loop.table) (map shown c.round.new.ranks) (table_of c.round.new.table) m (length c.loop.ranks)) c.if-branch.false c.in_ok-round.ensures.goes in
    rounds_end ops (map shown c.args.ranks.now) (table_of c.args.table.now) (map shown c.loop.ranks) (table_of c.loop.table) (map shown c.round.new.ranks) (table_of c.round.new.table) (length c.loop.ranks) many c.loop.invariant last
