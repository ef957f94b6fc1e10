use Rattle.std.proofs.Common.{ap, sym, subst, ◌∙◌, ◌++◌, arith}
use Rattle.std.specs.FinMap.{entries}
use Rattle.join_nest.proofs.Views.{entries_of}
use Rattle.mpx_name.specs.Order.{name_cmp}
use Rattle.mpx_board.specs.Parts.{acks_between, acks_between_laws, numbers_between, numbers_joining}
use Rattle.mpx_board.specs.Views.{view_of_acks, view_of_numbers}
use Rattle.mpx_format.specs.Fields.{acks, name, numbers, some_names}
use Rattle.mpx_format.specs.Kept.{ArePieces}
use Rattle.mpx_format.proofs.FieldLaws.{some_names_laws}
use Rattle.mpx_decode.proofs.Taken.{map_raised, map_stops, rows_stand, stops_at_once}
use Rattle.mpx_decode.proofs.NearBytes.{read_on}
use Rattle.mpx_decode.proofs.join_kept.raise_beside.Goals as goal

pub raise_rows-raised-requires-clause-spelled : goal.raise_rows-raised-requires-clause-spelled
unfolding acks
raise_rows-raised-requires-clause-spelled c = rows_stand name_cmp some_names name numbers (c.args.bytes.now ++ c.args.beyond.now) c.in-Ok.count (c.in-Ok.rest.now ++ c.args.beyond.now) (read_on some_names_laws c.args.bytes.now c.in-Ok.rest.now c.in-Ok.count (λ i. omega (arith, c.type_inv.bytes i)) c.in-Ok.ensures.gives c.args.beyond.now) c.requires.spelled

pub raise_rows-raised-requires-clause-kept : goal.raise_rows-raised-requires-clause-kept
raise_rows-raised-requires-clause-kept c =
    let was = ap view_of_acks (sym c.replace.ensures.value) ∙ c.into_entries-entries.ensures.entries in
    subst (ArePieces c.args.kept.now.pieces.items) (ap entries was ∙ entries_of name_cmp view_of_numbers c.into_entries-entries.result.items c.into_entries-entries.ensures.rising) c.requires.kept

pub returns-in-Ok-clause-ok : goal.returns-in-Ok-clause-ok
unfolding acks
returns-in-Ok-clause-ok c =
    let was = ap view_of_acks (sym c.replace.ensures.value) ∙ c.into_entries-entries.ensures.entries in
    map_raised name_cmp some_names name numbers (c.args.bytes.now ++ c.args.beyond.now) c.in-Ok.count (c.in-Ok.rest.now ++ c.args.beyond.now) (read_on some_names_laws c.args.bytes.now c.in-Ok.rest.now c.in-Ok.count (λ i. omega (arith, c.type_inv.bytes i)) c.in-Ok.ensures.gives c.args.beyond.now) c.raise_rows-raised.result (λ x. x.now ++ c.raise_rows-raised.new.beyond) _ _ _ _ was c.from_rising.ensures numbers_joining c.raise_rows-raised.ensures.ok

pub returns-in-Ok-clause-err : goal.returns-in-Ok-clause-err
unfolding acks
returns-in-Ok-clause-err c =
    let was = ap view_of_acks (sym c.replace.ensures.value) ∙ c.into_entries-entries.ensures.entries in
    map_stops name_cmp some_names name numbers (c.args.bytes.now ++ c.args.beyond.now) c.in-Ok.count (c.in-Ok.rest.now ++ c.args.beyond.now) (read_on some_names_laws c.args.bytes.now c.in-Ok.rest.now c.in-Ok.count (λ i. omega (arith, c.type_inv.bytes i)) c.in-Ok.ensures.gives c.args.beyond.now) c.raise_rows-raised.result (λ x. x.now ++ c.raise_rows-raised.new.beyond) _ _ _ _ was c.from_rising.ensures numbers_between c.raise_rows-raised.ensures.err

pub returns-in-Ok-clause-kept : goal.returns-in-Ok-clause-kept
returns-in-Ok-clause-kept c =
    subst (ArePieces c.raise_rows-raised.new.kept.pieces.items) (sym (ap entries c.from_rising.ensures ∙ entries_of name_cmp view_of_numbers c.raise_rows-raised.new.entries.items c.raise_rows-raised.ensures.rising)) c.raise_rows-raised.ensures.kept

pub returns-in-Err-clause-err : goal.returns-in-Err-clause-err
returns-in-Err-clause-err c =
    let old = view_of_acks c.args.said.now in
    stops_at_once acks acks_between (c.args.bytes.now ++ c.args.beyond.now) old (acks_between_laws.old old) c.requires.spelled
