use Rattle.std.proofs.Common.{◌++◌, ◌≤◌, length}
use Rattle.mpx_board.specs.Parts.{call_joining}
use Rattle.mpx_board.specs.Views.{view_of_calls}
use Rattle.mpx_format.specs.Contexts.{call_posts}
use Rattle.mpx_decode.proofs.RaisedCalls.{CallsSoFar}
use Rattle.mpx_decode.proofs.join_contexts.raise_calls.Given as goal

abbrev pub invariant-loop : goal.invariant-loop
invariant-loop l = record {
  so_far : CallsSoFar (call_posts l.version) call_joining l.count l.counter (l.rest ++ l.beyond) (l.bytes ++ l.fn.beyond) (view_of_calls l.fn.held) (view_of_calls l.held);
  less : length l.beyond ≤ length l.fn.beyond;
}
