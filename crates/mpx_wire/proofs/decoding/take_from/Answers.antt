use Rattle.mpx_board.specs.Looks.{parts_of}
use Rattle.mpx_decode.specs.Raising.{no_parts}
use Rattle.join_nest.proofs.Fronts.{on_err}
use Rattle.mpx_wire.proofs.Taking.{behind_it, front_stands, parts_stand, spelled_joined, spelled_left, spells_none}
use Rattle.mpx_wire.proofs.decoding.take_from.Goals as goal

pub take_parts-requires-clause-spelled : goal.take_parts-requires-clause-spelled
take_parts-requires-clause-spelled c = parts_stand c.args.bytes.now c.requires.spelled c.in-Ok.version c.in-Ok.rest.now c.in-Ok.ensures.gives

pub returns-in_err-_after-in-Ok-clause-err : goal.returns-in_err-_after-in-Ok-clause-err
returns-in_err-_after-in-Ok-clause-err c =
    on_err c.from_residual.result (spelled_left c.args.bytes.now c.in-Ok.version c.in-Ok.rest.now c.in-Ok.ensures.gives (parts_of c.args.board.now) (parts_of c.take_parts.new.board) c.in_err-_after-in-Ok.ensures.err)

pub unreachable-requires : goal.unreachable-requires
unreachable-requires c = front_stands c.args.bytes.now c.requires.spelled c.in-Err.field-0 c.in-Err.ensures.gives c.in-Err.ensures.memory

pub returns-clause-ok : goal.returns-clause-ok
returns-clause-ok c =
    spelled_joined c.args.bytes.now c.in-Ok.version c.in-Ok.rest.now c.in-Ok.ensures.gives (parts_of c.args.board.now) (parts_of c.take_parts.new.board) c.in_ok-_after-in-Ok._after.now c.in_ok-_after-in-Ok.ensures.ok

pub returns-in_err-_after-in-Ok-clause-some : goal.returns-in_err-_after-in-Ok-clause-some
returns-in_err-_after-in-Ok-clause-some c =
    on_err c.from_residual.result (λ v s none. c.in_err-_after-in-Ok.ensures.some (behind_it c.args.bytes.now c.in-Ok.version c.in-Ok.rest.now c.in-Ok.ensures.gives s.0 no_parts (spells_none c.args.bytes.now v s none)))
