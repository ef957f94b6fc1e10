use Rattle.mpx_board.specs.Views.{view_of_entry}
use Rattle.mpx_format.specs.Births.{birth}
use Rattle.mpx_format.specs.Fields.{fronts}
use Rattle.mpx_format.specs.Contexts.{told}
use Rattle.mpx_encode.proofs.Contexts.{context_spelled, context_birth, context_fronts, context_held}
use Rattle.mpx_encode.proofs.Maps.{told_behind, written_behind}
use Rattle.mpx_encode.proofs.write_contexts.write_context.Goals as goal

pub write_told_birth-requires : goal.write_told_birth-requires
write_told_birth-requires c = context_birth (view_of_entry c.args.entry.now) c.requires

pub write_fronts-requires : goal.write_fronts-requires
write_fronts-requires c = context_fronts (view_of_entry c.args.entry.now) c.requires

pub write_held-requires : goal.write_held-requires
write_held-requires c = context_held (view_of_entry c.args.entry.now) c.requires

pub returns : goal.returns
returns c =
    let e = view_of_entry c.args.entry.now in
    let old = c.args.out.now in
    let first = written_behind old c.write_told_birth.new.out c.write_fronts.new.out ((told birth).spelling e.0) (fronts.spelling e.1.0) c.in_ok-write_told_birth.ensures c.in_ok-write_fronts.ensures in
    told_behind c.write_held.result old c.write_fronts.new.out c.write_held.new.out _ _ _ (context_spelled e) first c.write_held.ensures
