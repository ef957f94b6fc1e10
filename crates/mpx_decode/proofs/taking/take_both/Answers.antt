use Rattle.std.proofs.Common.{[], ◌∷◌, ◌++◌, ap}
use Rattle.std.specs.FinMap.{nat_cmp-IsAntisymmetric}
use Rattle.std.specs.Cmp.{nat_cmp_total}
use Rattle.join_nest.proofs.Fronts.{on_err}
use Rattle.join_nest.specs.Between.{keyed_between}
use Rattle.join_nest.specs.Keyed.{keyed_joining}
use Rattle.join_nest.specs.laws.Between.{keyed_between_laws}
use Rattle.mpx_name.specs.Order.{name_exact, name_total}
use Rattle.mpx_board.specs.Parts.{acks_between, acks_between_laws, acks_joining, acks_laws, lifted_between_laws, lifted_laws}
use Rattle.mpx_board.specs.Views.{view_of_all_acks}
use Rattle.mpx_format.specs.Contexts.{parts}
use Rattle.mpx_format.specs.Fields.{all_acks}
use Rattle.mpx_format.specs.Format.{byte}
use Rattle.mpx_decode.specs.Raising.{contexts}
use Rattle.mpx_decode.proofs.JoinedParts.{both_joined, first_stands, first_stops, second_stands, second_stops}
use Rattle.mpx_decode.proofs.NoParts.{no_names}
use Rattle.mpx_decode.proofs.Taken.{if_err}
use Rattle.mpx_decode.proofs.taking.take_both.Goals as goal

pub raise_contexts-requires : goal.raise_contexts-requires
unfolding parts
raise_contexts-requires c = first_stands (contexts c.args.version) all_acks (c.args.bytes.now ++ c.args.beyond.now) c.requires.spelled

pub raise_all_acks-requires-clause-spelled : goal.raise_all_acks-requires-clause-spelled
unfolding parts
raise_all_acks-requires-clause-spelled c = second_stands (contexts c.args.version) all_acks (c.args.bytes.now ++ c.args.beyond.now) (c.in_ok-rest.rest.now ++ c.raise_contexts.new.beyond) c.in_ok-rest.ensures.ok c.requires.spelled

pub returns-in_err-rest-clause-err : goal.returns-in_err-rest-clause-err
unfolding parts
returns-in_err-rest-clause-err c =
    on_err c.from_residual.result (first_stops (contexts c.args.version) all_acks (c.args.bytes.now ++ c.args.beyond.now) (keyed_between_laws nat_cmp_total nat_cmp-IsAntisymmetric acks_laws acks_between_laws) (view_of_all_acks c.args.acks.now) c.requires.spelled c.in_err-rest.ensures.err)

pub returns-clause-ok : goal.returns-clause-ok
unfolding parts
returns-clause-ok c =
    both_joined (contexts c.args.version) all_acks (c.args.bytes.now ++ c.args.beyond.now) c.raise_all_acks.result (λ x. x.now ++ c.raise_all_acks.new.beyond) (c.in_ok-rest.rest.now ++ c.raise_contexts.new.beyond) c.in_ok-rest.ensures.ok (keyed_joining acks_joining) _ _ c.raise_all_acks.ensures.ok

pub returns-clause-err : goal.returns-clause-err
unfolding parts
returns-clause-err c =
    second_stops (contexts c.args.version) all_acks (c.args.bytes.now ++ c.args.beyond.now) c.raise_all_acks.result (λ x. x.now ++ c.raise_all_acks.new.beyond) (c.in_ok-rest.rest.now ++ c.raise_contexts.new.beyond) c.in_ok-rest.ensures.ok (keyed_between_laws name_total name_exact lifted_laws lifted_between_laws) (keyed_between acks_between) _ _ c.raise_all_acks.ensures.err

pub returns-in_err-rest-clause-some : goal.returns-in_err-rest-clause-some
returns-in_err-rest-clause-some c = on_err c.from_residual.result (λ none. c.in_err-rest.ensures.some (0 ∷ []) (no_names c.args.version c.args.bytes.now none))

pub returns-clause-some : goal.returns-clause-some
returns-clause-some c =
    if_err c.raise_all_acks.result (λ some none. some [] (ap byte.read (c.in_ok-rest.ensures.none (0 ∷ []) (no_names c.args.version c.args.bytes.now none)))) c.raise_all_acks.ensures.some
