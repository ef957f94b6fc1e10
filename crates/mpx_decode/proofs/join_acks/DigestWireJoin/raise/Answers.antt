use Rattle.std.proofs.Common.{refl, ◌++◌, arith}
use Rattle.mpx_name.specs.Order.{name_cmp}
use Rattle.mpx_board.specs.Parts.{acks_between, acks_between_laws, numbers_between, numbers_joining}
use Rattle.mpx_board.specs.Views.{view_of_acks}
use Rattle.mpx_format.specs.Fields.{acks, name, numbers, some_names}
use Rattle.mpx_format.proofs.FieldLaws.{some_names_laws}
use Rattle.mpx_decode.proofs.Taken.{map_raised, map_stops, rows_stand, stops_at_once}
use Rattle.mpx_decode.proofs.NearBytes.{read_on}
use Rattle.mpx_decode.proofs.join_acks.DigestWireJoin.raise.Goals as goal

pub raise_map-requires-clause-follows : goal.raise_map-requires-clause-follows
raise_map-requires-clause-follows c = (λ v. v, λ x. refl)

pub raise_map-requires-clause-spelled : goal.raise_map-requires-clause-spelled
unfolding acks
raise_map-requires-clause-spelled c = rows_stand name_cmp some_names name numbers (c.args.bytes.now ++ c.args.beyond.now) c.in-Ok.count (c.in-Ok.rest.now ++ c.args.beyond.now) (read_on some_names_laws c.args.bytes.now c.in-Ok.rest.now c.in-Ok.count (λ i. omega (arith, c.type_inv.bytes i)) c.in-Ok.ensures.gives c.args.beyond.now) c.requires

pub returns-in-Ok-clause-ok : goal.returns-in-Ok-clause-ok
unfolding acks
returns-in-Ok-clause-ok c =
    map_raised name_cmp some_names name numbers (c.args.bytes.now ++ c.args.beyond.now) c.in-Ok.count (c.in-Ok.rest.now ++ c.args.beyond.now) (read_on some_names_laws c.args.bytes.now c.in-Ok.rest.now c.in-Ok.count (λ i. omega (arith, c.type_inv.bytes i)) c.in-Ok.ensures.gives c.args.beyond.now) c.raise_map.result (λ x. x.now ++ c.raise_map.new.beyond) _ _ _ _ refl refl numbers_joining c.raise_map.ensures.ok

pub returns-in-Ok-clause-err : goal.returns-in-Ok-clause-err
unfolding acks
returns-in-Ok-clause-err c =
    map_stops name_cmp some_names name numbers (c.args.bytes.now ++ c.args.beyond.now) c.in-Ok.count (c.in-Ok.rest.now ++ c.args.beyond.now) (read_on some_names_laws c.args.bytes.now c.in-Ok.rest.now c.in-Ok.count (λ i. omega (arith, c.type_inv.bytes i)) c.in-Ok.ensures.gives c.args.beyond.now) c.raise_map.result (λ x. x.now ++ c.raise_map.new.beyond) _ _ _ _ refl refl numbers_between c.raise_map.ensures.err

pub returns-in-Err-clause-err : goal.returns-in-Err-clause-err
returns-in-Err-clause-err c =
    let old = view_of_acks c.args.self.now in
    stops_at_once acks acks_between (c.args.bytes.now ++ c.args.beyond.now) old (acks_between_laws.old old) c.requires
