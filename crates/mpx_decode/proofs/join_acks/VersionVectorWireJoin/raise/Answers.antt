use Rattle.std.proofs.Common.{ap, sym, ◌∙◌, ◌++◌, arith}
use Rattle.std.specs.Ordering.{nat_cmp}
use Rattle.join_nest.specs.Seen.{keyed_view}
use Rattle.join_core.specs.Joins.{old_or_joined}
use Rattle.join_core.specs.Max.{max_joining}
use Rattle.mpx_board.specs.Parts.{numbers_between, numbers_between_laws}
use Rattle.mpx_board.specs.Views.{view_of_numbers}
use Rattle.mpx_format.specs.Fields.{numbers, process, some_byte, some_calls}
use Rattle.mpx_format.proofs.FieldLaws.{some_byte_laws}
use Rattle.mpx_decode.proofs.Taken.{map_raised, map_stops, rows_stand, stops_at_once}
use Rattle.mpx_decode.proofs.NearBytes.{read_on}
use Rattle.mpx_decode.proofs.join_acks.VersionVectorWireJoin.raise.Goals as goal

pub raise_numbers-raised-requires-clause-spelled : goal.raise_numbers-raised-requires-clause-spelled
unfolding numbers
raise_numbers-raised-requires-clause-spelled c = rows_stand nat_cmp some_byte process some_calls (c.args.bytes.now ++ c.args.beyond.now) c.in-Ok.count (c.in-Ok.rest.now ++ c.args.beyond.now) (read_on some_byte_laws c.args.bytes.now c.in-Ok.rest.now c.in-Ok.count (λ i. omega (arith, c.type_inv.bytes i)) c.in-Ok.ensures.gives c.args.beyond.now) c.requires

pub returns-in-Ok-clause-ok : goal.returns-in-Ok-clause-ok
unfolding numbers
returns-in-Ok-clause-ok c =
    let was = ap (λ m. keyed_view nat_cmp (λ n. n.0) m.entries.items) (sym c.replace.ensures.value) ∙ c.into_entries-entries.ensures.entries in
    map_raised nat_cmp some_byte process some_calls (c.args.bytes.now ++ c.args.beyond.now) c.in-Ok.count (c.in-Ok.rest.now ++ c.args.beyond.now) (read_on some_byte_laws c.args.bytes.now c.in-Ok.rest.now c.in-Ok.count (λ i. omega (arith, c.type_inv.bytes i)) c.in-Ok.ensures.gives c.args.beyond.now) c.raise_numbers-raised.result (λ x. x.now ++ c.raise_numbers-raised.new.beyond) _ _ _ _ was c.from_rising.ensures max_joining c.raise_numbers-raised.ensures.ok

pub returns-in-Ok-clause-err : goal.returns-in-Ok-clause-err
unfolding numbers
returns-in-Ok-clause-err c =
    let was = ap (λ m. keyed_view nat_cmp (λ n. n.0) m.entries.items) (sym c.replace.ensures.value) ∙ c.into_entries-entries.ensures.entries in
    map_stops nat_cmp some_byte process some_calls (c.args.bytes.now ++ c.args.beyond.now) c.in-Ok.count (c.in-Ok.rest.now ++ c.args.beyond.now) (read_on some_byte_laws c.args.bytes.now c.in-Ok.rest.now c.in-Ok.count (λ i. omega (arith, c.type_inv.bytes i)) c.in-Ok.ensures.gives c.args.beyond.now) c.raise_numbers-raised.result (λ x. x.now ++ c.raise_numbers-raised.new.beyond) _ _ _ _ was c.from_rising.ensures (old_or_joined max_joining) c.raise_numbers-raised.ensures.err

pub returns-in-Err-clause-err : goal.returns-in-Err-clause-err
returns-in-Err-clause-err c =
    let old = view_of_numbers c.args.self.now in
    stops_at_once numbers numbers_between (c.args.bytes.now ++ c.args.beyond.now) old (numbers_between_laws.old old) c.requires
