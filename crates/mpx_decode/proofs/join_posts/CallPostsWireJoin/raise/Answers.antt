use Rattle.std.proofs.Common.{refl, ◌++◌, arith}
use Rattle.std.specs.Ordering.{nat_cmp}
use Rattle.join_core.specs.Flat.{flat_joining}
use Rattle.join_core.specs.Joins.{old_or_joined}
use Rattle.mpx_post.specs.Equality.{same_given}
use Rattle.mpx_board.specs.Parts.{call_between, call_between_laws}
use Rattle.mpx_board.specs.Views.{view_of_call}
use Rattle.mpx_format.specs.Contexts.{call_posts, posted}
use Rattle.mpx_format.specs.Fields.{process, some_byte}
use Rattle.mpx_format.proofs.FieldLaws.{some_byte_laws}
use Rattle.mpx_decode.proofs.Taken.{map_raised, map_stops, rows_stand, stops_at_once}
use Rattle.mpx_decode.proofs.NearBytes.{read_on}
use Rattle.mpx_decode.proofs.join_posts.CallPostsWireJoin.raise.Goals as goal

pub raise_map-requires-clause-follows : goal.raise_map-requires-clause-follows
raise_map-requires-clause-follows c = (λ v. v, λ x. refl)

pub raise_map-requires-clause-spelled : goal.raise_map-requires-clause-spelled
unfolding call_posts
raise_map-requires-clause-spelled c = rows_stand nat_cmp some_byte process (posted c.args.version) (c.args.bytes.now ++ c.args.beyond.now) c.in-Ok.count (c.in-Ok.rest.now ++ c.args.beyond.now) (read_on some_byte_laws c.args.bytes.now c.in-Ok.rest.now c.in-Ok.count (λ i. omega (arith, c.type_inv.bytes i)) c.in-Ok.ensures.gives c.args.beyond.now) c.requires

pub returns-in-Ok-clause-ok : goal.returns-in-Ok-clause-ok
unfolding call_posts
returns-in-Ok-clause-ok c =
    map_raised nat_cmp some_byte process (posted c.args.version) (c.args.bytes.now ++ c.args.beyond.now) c.in-Ok.count (c.in-Ok.rest.now ++ c.args.beyond.now) (read_on some_byte_laws c.args.bytes.now c.in-Ok.rest.now c.in-Ok.count (λ i. omega (arith, c.type_inv.bytes i)) c.in-Ok.ensures.gives c.args.beyond.now) c.raise_map.result (λ x. x.now ++ c.raise_map.new.beyond) _ _ _ _ refl refl (flat_joining same_given) c.raise_map.ensures.ok

pub returns-in-Ok-clause-err : goal.returns-in-Ok-clause-err
unfolding call_posts
returns-in-Ok-clause-err c =
    map_stops nat_cmp some_byte process (posted c.args.version) (c.args.bytes.now ++ c.args.beyond.now) c.in-Ok.count (c.in-Ok.rest.now ++ c.args.beyond.now) (read_on some_byte_laws c.args.bytes.now c.in-Ok.rest.now c.in-Ok.count (λ i. omega (arith, c.type_inv.bytes i)) c.in-Ok.ensures.gives c.args.beyond.now) c.raise_map.result (λ x. x.now ++ c.raise_map.new.beyond) _ _ _ _ refl refl (old_or_joined (flat_joining same_given)) c.raise_map.ensures.err

pub returns-in-Err-clause-err : goal.returns-in-Err-clause-err
returns-in-Err-clause-err c =
    let old = view_of_call c.args.self.now in
    stops_at_once (call_posts c.args.version) call_between (c.args.bytes.now ++ c.args.beyond.now) old (call_between_laws.old old) c.requires
