use Rattle.std.proofs.Common.{◌++◌}
use Rattle.join_core.specs.laws.Between.{old_or_joined-laws, pair_between_laws}
use Rattle.join_core.specs.laws.Flat.{flat_laws}
use Rattle.join_core.specs.Pair.{pair_between, pair_joining}
use Rattle.join_nest.proofs.Fronts.{on_err}
use Rattle.join_nest.specs.laws.Between.{trunc_between_laws}
use Rattle.join_nest.specs.Between.{trunc_between}
use Rattle.join_nest.specs.Trunc.{trunc_joining}
use Rattle.mpx_birth.specs.Births.{birth_equality}
use Rattle.mpx_board.specs.Parts.{call_between, call_between_laws, call_joining, call_laws, numbers_between, numbers_between_laws, numbers_joining}
use Rattle.mpx_board.specs.Views.{view_of_calls, view_of_numbers}
use Rattle.mpx_format.specs.Births.{birth}
use Rattle.mpx_format.specs.Contexts.{context, progress, told}
use Rattle.mpx_decode.proofs.JoinedParts.{both_joined, first_stands, first_stops, second_stands, second_stops}
use Rattle.mpx_decode.proofs.join_contexts.raise_context.Goals as goal

pub raise_birth-requires : goal.raise_birth-requires
unfolding context
raise_birth-requires c = first_stands (told birth) (progress c.args.version) (c.args.bytes.now ++ c.args.beyond.now) c.requires

pub raise_progress-requires : goal.raise_progress-requires
unfolding context
raise_progress-requires c = second_stands (told birth) (progress c.args.version) (c.args.bytes.now ++ c.args.beyond.now) (c.in_ok-rest.rest.now ++ c.raise_birth.new.beyond) c.in_ok-rest.ensures.ok c.requires

pub returns-in_err-rest-clause-err : goal.returns-in_err-rest-clause-err
unfolding context
returns-in_err-rest-clause-err c =
    on_err c.from_residual.result (first_stops (told birth) (progress c.args.version) (c.args.bytes.now ++ c.args.beyond.now) (pair_between_laws numbers_between_laws (trunc_between_laws call_laws call_between_laws))
    (view_of_numbers c.args.entry.now.second.first, view_of_calls c.args.entry.now.second.second) c.requires c.in_err-rest.ensures.err)

pub returns-clause-ok : goal.returns-clause-ok
unfolding context
returns-clause-ok c =
    both_joined (told birth) (progress c.args.version) (c.args.bytes.now ++ c.args.beyond.now) c.raise_progress.result (λ x. x.now ++ c.raise_progress.new.beyond) (c.in_ok-rest.rest.now ++ c.raise_birth.new.beyond) c.in_ok-rest.ensures.ok (pair_joining numbers_joining (trunc_joining call_joining)) _ _ c.raise_progress.ensures.ok

pub returns-clause-err : goal.returns-clause-err
unfolding context
returns-clause-err c =
    second_stops (told birth) (progress c.args.version) (c.args.bytes.now ++ c.args.beyond.now) c.raise_progress.result (λ x. x.now ++ c.raise_progress.new.beyond) (c.in_ok-rest.rest.now ++ c.raise_birth.new.beyond) c.in_ok-rest.ensures.ok (old_or_joined-laws (flat_laws birth_equality)) (pair_between numbers_between (trunc_between call_between)) _ _ c.raise_progress.ensures.err
