use Rattle.std.proofs.Common.{◌++◌}
use Rattle.join_nest.proofs.Fronts.{on_err}
use Rattle.mpx_board.specs.Parts.{call_between_laws, call_laws, numbers_between_laws, call_joining, call_between}
use Rattle.mpx_board.specs.Views.{view_of_calls}
use Rattle.join_nest.specs.laws.Between.{trunc_between_laws}
use Rattle.join_nest.specs.Between.{trunc_between}
use Rattle.join_nest.specs.Trunc.{trunc_joining}
use Rattle.mpx_format.specs.Contexts.{held, progress}
use Rattle.mpx_format.specs.Fields.{fronts}
use Rattle.mpx_decode.proofs.JoinedParts.{both_joined, first_stands, first_stops, second_stands, second_stops}
use Rattle.mpx_decode.proofs.join_contexts.raise_progress.Goals as goal

pub raise_fronts-requires : goal.raise_fronts-requires
unfolding progress
raise_fronts-requires c = first_stands fronts (held c.args.version) (c.args.bytes.now ++ c.args.beyond.now) c.requires

pub raise_held-requires : goal.raise_held-requires
unfolding progress
raise_held-requires c = second_stands fronts (held c.args.version) (c.args.bytes.now ++ c.args.beyond.now) (c.in_ok-rest.rest.now ++ c.raise_fronts.new.beyond) c.in_ok-rest.ensures.ok c.requires

pub returns-in_err-rest-clause-err : goal.returns-in_err-rest-clause-err
unfolding progress
returns-in_err-rest-clause-err c =
    on_err c.from_residual.result (first_stops fronts (held c.args.version) (c.args.bytes.now ++ c.args.beyond.now) (trunc_between_laws call_laws call_between_laws) (view_of_calls c.args.known.now.second) c.requires c.in_err-rest.ensures.err)

pub returns-clause-ok : goal.returns-clause-ok
unfolding progress
returns-clause-ok c =
    both_joined fronts (held c.args.version) (c.args.bytes.now ++ c.args.beyond.now) c.raise_held.result (λ x. x.now ++ c.raise_held.new.beyond) (c.in_ok-rest.rest.now ++ c.raise_fronts.new.beyond) c.in_ok-rest.ensures.ok (trunc_joining call_joining) _ _ c.raise_held.ensures.ok

pub returns-clause-err : goal.returns-clause-err
unfolding progress
returns-clause-err c =
    second_stops fronts (held c.args.version) (c.args.bytes.now ++ c.args.beyond.now) c.raise_held.result (λ x. x.now ++ c.raise_held.new.beyond) (c.in_ok-rest.rest.now ++ c.raise_fronts.new.beyond) c.in_ok-rest.ensures.ok numbers_between_laws (trunc_between call_between) _ _ c.raise_held.ensures.err
