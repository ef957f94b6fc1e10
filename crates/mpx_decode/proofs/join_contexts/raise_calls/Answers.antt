use Rattle.std.proofs.Common.{◌++◌, arith}
use Rattle.join_nest.proofs.Fronts.{on_err}
use Rattle.mpx_board.specs.Parts.{call_between_laws, call_laws}
use Rattle.mpx_board.specs.Views.{view_of_calls}
use Rattle.mpx_format.specs.Contexts.{call_posts}
use Rattle.mpx_decode.proofs.RaisedCalls.{all_calls_raised, call_stands, no_call_yet, one_call_more, stops_at_call}
use Rattle.mpx_decode.proofs.join_contexts.raise_calls.Goals as goal

pub loop-init : goal.loop-init
loop-init c = record { so_far = no_call_yet (call_posts c.args.version) c.args.count (c.args.bytes.now ++ c.args.beyond.now) (view_of_calls c.args.held.now); less = omega arith }

pub raise_call-requires : goal.raise_call-requires
raise_call-requires c = call_stands (call_posts c.args.version) c.args.count (c.args.bytes.now ++ c.args.beyond.now) (view_of_calls c.args.held.now) c.loop.counter (c.loop.rest.now ++ c.loop.beyond) (view_of_calls c.loop.held) c.loop-test.true c.loop.invariant.so_far c.requires

pub returns-in_err-after-clause-err : goal.returns-in_err-after-clause-err
returns-in_err-after-clause-err c =
    on_err c.from_residual.result (stops_at_call (call_posts c.args.version) c.args.count (c.args.bytes.now ++ c.args.beyond.now) (view_of_calls c.args.held.now) c.loop.counter (c.loop.rest.now ++ c.loop.beyond) (view_of_calls c.loop.held) call_laws call_between_laws (view_of_calls c.raise_call.new.held)
    c.loop-test.true c.loop.invariant.so_far c.requires c.in_err-after.ensures.err)

pub loop-preserved : goal.loop-preserved
loop-preserved c = record {
  so_far = one_call_more (call_posts c.args.version) c.args.count (c.args.bytes.now ++ c.args.beyond.now) (view_of_calls c.args.held.now) c.loop.counter (c.loop.rest.now ++ c.loop.beyond) (view_of_calls c.loop.held) (c.in_ok-after.after.now ++ c.raise_call.new.beyond) (view_of_calls c.raise_call.new.held)
      c.loop-test.true c.loop.invariant.so_far c.requires c.in_ok-after.ensures.ok;
  less = omega (arith, c.loop.invariant.less, c.raise_call.ensures.less);
}

pub returns-clause-ok : goal.returns-clause-ok
returns-clause-ok c = all_calls_raised (call_posts c.args.version) c.args.count (c.args.bytes.now ++ c.args.beyond.now) (view_of_calls c.args.held.now) c.loop.counter (c.loop.rest.now ++ c.loop.beyond) (view_of_calls c.loop.held) c.loop-test.false c.loop.invariant.so_far
