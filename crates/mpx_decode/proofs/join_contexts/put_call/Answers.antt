use Rattle.std.proofs.Common.{refl, ap, arith, ◌++◌}
use Rattle.join_nest.proofs.Fronts.{on_err}
use Rattle.mpx_board.specs.Views.{view_of_call, view_of_calls}
use Rattle.mpx_format.specs.Contexts.{call_posts}
use Rattle.mpx_decode.proofs.RaisedCalls.{left_out, put_in}
use Rattle.mpx_decode.proofs.join_contexts.put_call.Goals as goal

pub returns-then-call-dropped-clause-ok : goal.returns-then-call-dropped-clause-ok
returns-then-call-dropped-clause-ok c =
    left_out (call_posts c.args.version) c.args.call (c.args.bytes.now ++ c.args.beyond.now) (c.in-Ok.rest.now ++ c.read_new.new.beyond) (view_of_call c.in-Ok.posts) c.in-Ok.ensures.read (view_of_calls c.args.held.now) (view_of_calls c.args.held.now) (omega arith) refl

pub returns-clause-ok : goal.returns-clause-ok
returns-clause-ok c =
    put_in (call_posts c.args.version) c.args.call (c.args.bytes.now ++ c.args.beyond.now) (c.in-Ok.rest.now ++ c.read_new.new.beyond) (view_of_call c.in-Ok.posts) c.in-Ok.ensures.read (view_of_calls c.args.held.now) (view_of_calls c.put.new.self) (omega arith) c.in_ok-put.ensures.ok

pub returns-in_err-put-clause-err : goal.returns-in_err-put-clause-err
returns-in_err-put-clause-err c = on_err c.from_residual.result (ap (λ t. t.calls) c.in_err-put.ensures.err)
