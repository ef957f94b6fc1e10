use Rattle.std.proofs.Common.{ap, sym, subst, ◌∙◌, ◌++◌, arith}
use Rattle.std.specs.Ordering.{nat_cmp}
use Rattle.std.specs.Cmp.{nat_cmp_total}
use Rattle.std.specs.FinMap.{nat_cmp-IsAntisymmetric}
use Rattle.join_nest.specs.Between.{keyed_between}
use Rattle.join_nest.specs.laws.Between.{keyed_between_laws}
use Rattle.join_nest.specs.Seen.{keyed_view}
use Rattle.mpx_name.specs.Order.{name_cmp}
use Rattle.mpx_board.specs.Parts.{acks_between, acks_between_laws, acks_joining, acks_laws}
use Rattle.mpx_board.specs.Views.{view_of_all_acks}
use Rattle.mpx_format.specs.Kept.{AreKept}
use Rattle.mpx_format.specs.Format.{byte}
use Rattle.mpx_format.specs.Fields.{acks, all_acks, process}
use Rattle.mpx_format.proofs.FormatLaws.{byte_laws}
use Rattle.mpx_decode.proofs.NoParts.{fails_not, not_none}
use Rattle.mpx_decode.proofs.Taken.{if_err, map_raised, map_stops, rows_stand, stops_at_once}
use Rattle.mpx_decode.proofs.NearBytes.{read_on}
use Rattle.mpx_decode.proofs.join_kept.raise_all_acks.Goals as goal

pub raise_processes-raised-requires-clause-spelled : goal.raise_processes-raised-requires-clause-spelled
unfolding all_acks
raise_processes-raised-requires-clause-spelled c = rows_stand nat_cmp byte process acks (c.args.bytes.now ++ c.args.beyond.now) c.in-Ok.count (c.in-Ok.rest.now ++ c.args.beyond.now) (read_on byte_laws c.args.bytes.now c.in-Ok.rest.now c.in-Ok.count (λ i. omega (arith, c.type_inv.bytes i)) c.in-Ok.ensures.gives c.args.beyond.now) c.requires.spelled

pub returns-in-Ok-clause-ok : goal.returns-in-Ok-clause-ok
unfolding all_acks
returns-in-Ok-clause-ok c =
    let was = ap (λ m. keyed_view nat_cmp (λ a. keyed_view name_cmp (λ m. keyed_view nat_cmp (λ n. n.0) m.entries.items) a.entries.items) m.entries.items) (sym c.replace.ensures.value) ∙ c.into_entries-entries.ensures.entries in
    map_raised nat_cmp byte process acks (c.args.bytes.now ++ c.args.beyond.now) c.in-Ok.count (c.in-Ok.rest.now ++ c.args.beyond.now) (read_on byte_laws c.args.bytes.now c.in-Ok.rest.now c.in-Ok.count (λ i. omega (arith, c.type_inv.bytes i)) c.in-Ok.ensures.gives c.args.beyond.now) c.raise_processes-raised.result (λ x. x.now ++ c.raise_processes-raised.new.beyond) _ _ _ _ was c.from_rising.ensures acks_joining c.raise_processes-raised.ensures.ok

pub returns-in-Ok-clause-err : goal.returns-in-Ok-clause-err
unfolding all_acks
returns-in-Ok-clause-err c =
    let was = ap (λ m. keyed_view nat_cmp (λ a. keyed_view name_cmp (λ m. keyed_view nat_cmp (λ n. n.0) m.entries.items) a.entries.items) m.entries.items) (sym c.replace.ensures.value) ∙ c.into_entries-entries.ensures.entries in
    map_stops nat_cmp byte process acks (c.args.bytes.now ++ c.args.beyond.now) c.in-Ok.count (c.in-Ok.rest.now ++ c.args.beyond.now) (read_on byte_laws c.args.bytes.now c.in-Ok.rest.now c.in-Ok.count (λ i. omega (arith, c.type_inv.bytes i)) c.in-Ok.ensures.gives c.args.beyond.now) c.raise_processes-raised.result (λ x. x.now ++ c.raise_processes-raised.new.beyond) _ _ _ _ was c.from_rising.ensures acks_between c.raise_processes-raised.ensures.err

pub returns-in-Ok-clause-some : goal.returns-in-Ok-clause-some
returns-in-Ok-clause-some c = if_err c.raise_processes-raised.result (not_none byte c.args.bytes.now c.in-Ok.count c.in-Ok.rest.now c.in-Ok.ensures.gives) c.raise_processes-raised.ensures.some

pub raise_processes-raised-requires-clause-kept : goal.raise_processes-raised-requires-clause-kept
raise_processes-raised-requires-clause-kept c =
    let was = ap view_of_all_acks (sym c.replace.ensures.value) ∙ c.into_entries-entries.ensures.entries in
    subst (AreKept c.args.kept.now.of.items) was c.requires.kept

pub returns-in-Ok-clause-kept : goal.returns-in-Ok-clause-kept
returns-in-Ok-clause-kept c = subst (AreKept c.raise_processes-raised.new.kept.of.items) (sym c.from_rising.ensures) c.raise_processes-raised.ensures.kept

pub returns-in-Err-clause-err : goal.returns-in-Err-clause-err
returns-in-Err-clause-err c =
    let old = view_of_all_acks c.args.all.now in
    stops_at_once all_acks (keyed_between acks_between) (c.args.bytes.now ++ c.args.beyond.now) old ((keyed_between_laws nat_cmp_total nat_cmp-IsAntisymmetric acks_laws acks_between_laws).old old) c.requires.spelled

pub returns-in-Err-clause-some : goal.returns-in-Err-clause-some
returns-in-Err-clause-some c = fails_not byte c.args.bytes.now c.in-Err.field-0 c.in-Err.ensures.gives c.in-Err.ensures.memory
