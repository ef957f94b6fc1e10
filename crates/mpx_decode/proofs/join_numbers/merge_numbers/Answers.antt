-- The numbers that are read, to which the taker's are joined.
use Rattle.std.proofs.Common.{ap, sym, ◌∙◌, subst, ◌++◌, arith}
use Rattle.std.specs.Ordering.{nat_cmp}
use Rattle.std.specs.Cmp.{nat_cmp_total}
use Rattle.std.specs.FinMap.{nat_cmp-IsAntisymmetric}
use Rattle.join_core.specs.Joins.{old_or_joined}
use Rattle.join_core.specs.Max.{max_joining}
use Rattle.join_nest.specs.Between.{keyed_between}
use Rattle.join_nest.specs.Keyed.{keyed_joining}
use Rattle.join_nest.specs.laws.Keyed.{keyed_laws}
use Rattle.join_core.specs.laws.Max.{max_laws}
use Rattle.join_nest.specs.Seen.{keyed_view, seen}
use Rattle.mpx_board.specs.Parts.{numbers_between_laws}
use Rattle.mpx_format.specs.Fields.{process, some_calls}
use Rattle.mpx_decode.specs.Raising.{StopsBetween, rows}
use Rattle.mpx_format.proofs.FieldLaws.{process_laws, some_calls_laws}
use Rattle.mpx_decode.proofs.NearBytes.{read_on, rows_laws}
use Rattle.mpx_decode.proofs.Fours.{number_of}
use Rattle.mpx_decode.proofs.RaisedRows.{rows_read}
use Rattle.mpx_decode.proofs.Taken.{read_joined, stops_at_once}
use Rattle.mpx_decode.proofs.join_numbers.merge_numbers.Goals as goal

pub returns-in_default-clause-err : goal.returns-in_default-clause-err
returns-in_default-clause-err c =
    let old = keyed_view nat_cmp number_of c.args.entries.now.items in
    stops_at_once (rows nat_cmp process some_calls c.args.count) (keyed_between (old_or_joined max_joining)) (c.args.bytes.now ++ c.args.beyond.now) old (numbers_between_laws.old old) c.requires.spelled

pub returns-in-Err-clause-err : goal.returns-in-Err-clause-err
returns-in-Err-clause-err c =
    let old = keyed_view nat_cmp number_of c.args.entries.now.items in
    let was = ap (λ es. keyed_view nat_cmp number_of es.items) (sym c.replace.ensures.value) ∙ sym c.from_rising-held.ensures ∙ c.into_entries.ensures.entries in
    subst (StopsBetween (rows nat_cmp process some_calls c.args.count) (keyed_between (old_or_joined max_joining)) (c.args.bytes.now ++ c.args.beyond.now) old) was
    (stops_at_once (rows nat_cmp process some_calls c.args.count) (keyed_between (old_or_joined max_joining)) (c.args.bytes.now ++ c.args.beyond.now) old (numbers_between_laws.old old) c.requires.spelled)

pub returns-clause-ok : goal.returns-clause-ok
returns-clause-ok c =
    let old = keyed_view nat_cmp number_of c.args.entries.now.items in
    let read = keyed_view nat_cmp number_of c.in-Ok.read.items in
    let held = c.from_rising-held.ensures ∙ ap (λ es. keyed_view nat_cmp number_of es.items) c.replace.ensures.value in
    read_joined (rows nat_cmp process some_calls c.args.count) (c.args.bytes.now ++ c.args.beyond.now) (c.in-Ok.rest.now ++ c.args.beyond.now) read
    (read_on (rows_laws nat_cmp_total process_laws some_calls_laws c.args.count) c.args.bytes.now c.in-Ok.rest.now read (λ i. omega (arith, c.type_inv.bytes i))
    (rows_read nat_cmp process some_calls c.args.count c.args.bytes.now (seen number_of c.in-Ok.read.items, c.in-Ok.rest.now) c.in-Ok.ensures.read) c.args.beyond.now)
    (sym c.into_entries-in-Ok-join_in.ensures.entries ∙ c.in-Ok-join_in.ensures.ok ∙ (λ i. (keyed_joining max_joining).join (c.from_rising-all.ensures i) (held i)) ∙ (keyed_laws nat_cmp_total nat_cmp-IsAntisymmetric max_laws).commutative read old)
