use Rattle.std.proofs.Common.{◌++◌, arith}
use Rattle.std.specs.Cmp.{nat_cmp_total}
use Rattle.std.specs.FinMap.{nat_cmp-IsAntisymmetric}
use Rattle.join_nest.proofs.Fronts.{on_err}
use Rattle.mpx_board.specs.Parts.{acks_between_laws, acks_laws}
use Rattle.mpx_board.specs.Views.{view_of_acks}
use Rattle.mpx_format.specs.Fields.{acks, process}
use Rattle.mpx_decode.proofs.RaisedRows.{all_raised, none_yet, one_more, row_stands, stops_there}
use Rattle.mpx_decode.proofs.join_kept.raise_processes.Goals as goal

pub loop-init : goal.loop-init
loop-init c = record {
  rising = c.requires.rising;
  so_far = none_yet nat_cmp_total nat_cmp-IsAntisymmetric process acks view_of_acks c.args.count (c.args.bytes.now ++ c.args.beyond.now) c.args.entries.now.items;
  kept = c.requires.kept;
  less = omega arith;
}

pub raise_process-requires-clause-spelled : goal.raise_process-requires-clause-spelled
raise_process-requires-clause-spelled c =
    row_stands nat_cmp_total nat_cmp-IsAntisymmetric process acks view_of_acks c.args.count (c.args.bytes.now ++ c.args.beyond.now) c.args.entries.now.items c.loop.counter (c.loop.rest.now ++ c.loop.beyond) c.loop.entries.items c.loop-test.true c.loop.invariant.so_far c.requires.spelled

pub returns-in_err-after-clause-err : goal.returns-in_err-after-clause-err
returns-in_err-after-clause-err c =
    on_err c.from_residual.result (stops_there nat_cmp_total nat_cmp-IsAntisymmetric process acks view_of_acks c.args.count (c.args.bytes.now ++ c.args.beyond.now) c.args.entries.now.items acks_laws acks_between_laws
    c.loop.counter (c.loop.rest.now ++ c.loop.beyond) c.loop.entries.items c.raise_process.new.entries.items c.loop-test.true c.requires.rising c.raise_process.ensures.rising c.loop.invariant.so_far c.requires.spelled c.in_err-after.ensures.err)

pub loop-preserved : goal.loop-preserved
loop-preserved c = record {
  rising = c.raise_process.ensures.rising;
  so_far = one_more nat_cmp_total nat_cmp-IsAntisymmetric process acks view_of_acks c.args.count (c.args.bytes.now ++ c.args.beyond.now) c.args.entries.now.items
      c.loop.counter (c.loop.rest.now ++ c.loop.beyond) (c.in_ok-after.left.now ++ c.raise_process.new.beyond) c.loop.entries.items c.raise_process.new.entries.items c.loop-test.true c.loop.invariant.so_far c.requires.spelled c.in_ok-after.ensures.ok;
  kept = c.raise_process.ensures.kept;
  less = omega (arith, c.loop.invariant.less, c.raise_process.ensures.less);
}

pub returns-clause-ok : goal.returns-clause-ok
returns-clause-ok c =
    all_raised nat_cmp_total nat_cmp-IsAntisymmetric process acks view_of_acks c.args.count (c.args.bytes.now ++ c.args.beyond.now) c.args.entries.now.items c.loop.counter (c.loop.rest.now ++ c.loop.beyond) c.loop.entries.items c.loop-test.false c.requires.rising c.loop.invariant.rising c.loop.invariant.so_far
