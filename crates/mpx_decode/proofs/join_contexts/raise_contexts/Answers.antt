use Rattle.std.proofs.Common.{refl, ◌++◌, arith, Ok, List, ℕ, ◌≡◌, Result}
use Rattle.join_nest.specs.Between.{keyed_between}
use Rattle.join_nest.specs.Keyed.{keyed_joining}
use Rattle.join_nest.specs.laws.Between.{keyed_between_laws}
use Rattle.mpx_name.specs.Order.{name_cmp, name_exact, name_total}
use Rattle.mpx_board.specs.Parts.{lifted_between, lifted_between_laws, lifted_joining, lifted_laws}
use Rattle.mpx_board.specs.Views.{view_of_entries}
use Rattle.mpx_format.specs.Contexts.{lifted, says_something}
use Rattle.mpx_format.specs.Fields.{name, name_count}
use Rattle.mpx_format.proofs.FieldLaws.{name_count_laws}
use Rattle.mpx_format.specs.Rising.{always, keyed}
use Rattle.mpx_decode.specs.Raising.{contexts}
use Rattle.mpx_decode.proofs.NoParts.{count_is, fails_not, no_rows, not_none, on_each}
use Rattle.mpx_decode.proofs.Stricter.{joins_asked, keyed_asked, stands_asked, stops_asked}
use Rattle.mpx_decode.proofs.Taken.{if_err, map_raised, map_stops, rows_stand, stops_at_once}
use Rattle.mpx_decode.proofs.NearBytes.{read_on}
use Rattle.mpx_decode.proofs.join_contexts.raise_contexts.Goals as goal

pub raise_map-requires-clause-follows : goal.raise_map-requires-clause-follows
raise_map-requires-clause-follows c = (λ v. v, λ x. refl)

pub raise_map-requires-clause-spelled : goal.raise_map-requires-clause-spelled
raise_map-requires-clause-spelled c =
    let asks = keyed_asked name_cmp name_count name (lifted c.args.version) says_something in
    rows_stand name_cmp name_count name (lifted c.args.version) (c.args.bytes.now ++ c.args.beyond.now) c.in-Ok.count (c.in-Ok.rest.now ++ c.args.beyond.now) (read_on name_count_laws c.args.bytes.now c.in-Ok.rest.now c.in-Ok.count (λ i. omega (arith, c.type_inv.bytes i)) c.in-Ok.ensures.gives c.args.beyond.now) (stands_asked (contexts c.args.version) (keyed name_cmp name_count name (lifted c.args.version) always) asks (c.args.bytes.now ++ c.args.beyond.now) c.requires)

pub returns-else-count-eq0-clause-ok : goal.returns-else-count-eq0-clause-ok
returns-else-count-eq0-clause-ok c =
    let asks = keyed_asked name_cmp name_count name (lifted c.args.version) says_something in
    joins_asked (contexts c.args.version) (keyed name_cmp name_count name (lifted c.args.version) always) asks (c.args.bytes.now ++ c.args.beyond.now) c.requires c.raise_map.result (λ x. x.now ++ c.raise_map.new.beyond) _ _ (keyed_joining lifted_joining)
    (map_raised name_cmp name_count name (lifted c.args.version) (c.args.bytes.now ++ c.args.beyond.now) c.in-Ok.count (c.in-Ok.rest.now ++ c.args.beyond.now) (read_on name_count_laws c.args.bytes.now c.in-Ok.rest.now c.in-Ok.count (λ i. omega (arith, c.type_inv.bytes i)) c.in-Ok.ensures.gives c.args.beyond.now) c.raise_map.result (λ x. x.now ++ c.raise_map.new.beyond) _ _ _ _ refl refl lifted_joining c.raise_map.ensures.ok)

pub returns-else-count-eq0-clause-err : goal.returns-else-count-eq0-clause-err
returns-else-count-eq0-clause-err c =
    let asks = keyed_asked name_cmp name_count name (lifted c.args.version) says_something in
    stops_asked (contexts c.args.version) (keyed name_cmp name_count name (lifted c.args.version) always) asks (c.args.bytes.now ++ c.args.beyond.now) c.requires c.raise_map.result (λ x. x.now ++ c.raise_map.new.beyond) _ _ (keyed_between lifted_between)
    (map_stops name_cmp name_count name (lifted c.args.version) (c.args.bytes.now ++ c.args.beyond.now) c.in-Ok.count (c.in-Ok.rest.now ++ c.args.beyond.now) (read_on name_count_laws c.args.bytes.now c.in-Ok.rest.now c.in-Ok.count (λ i. omega (arith, c.type_inv.bytes i)) c.in-Ok.ensures.gives c.args.beyond.now) c.raise_map.result (λ x. x.now ++ c.raise_map.new.beyond) _ _ _ _ refl refl lifted_between c.raise_map.ensures.err)

pub returns-else-count-eq0-clause-some : goal.returns-else-count-eq0-clause-some
returns-else-count-eq0-clause-some c = if_err c.raise_map.result (not_none name_count c.args.bytes.now c.in-Ok.count c.in-Ok.rest.now c.in-Ok.ensures.gives) c.raise_map.ensures.some

pub returns-in-Err-clause-err : goal.returns-in-Err-clause-err
returns-in-Err-clause-err c =
    let old = view_of_entries c.args.contexts.now in
    stops_at_once (contexts c.args.version) (keyed_between lifted_between) (c.args.bytes.now ++ c.args.beyond.now) old ((keyed_between_laws name_total name_exact lifted_laws lifted_between_laws).old old) c.requires

pub returns-in-Err-clause-some : goal.returns-in-Err-clause-some
returns-in-Err-clause-some c = fails_not name_count c.args.bytes.now c.in-Err.field-0 c.in-Err.ensures.gives c.in-Err.ensures.memory

-- no context is told
pub returns-then-count-eq0-clause-ok : goal.returns-then-count-eq0-clause-ok
returns-then-count-eq0-clause-ok c =
    let more = c.args.beyond.now in
    let count = read_on name_count_laws c.args.bytes.now c.in-Ok.rest.now c.in-Ok.count (λ i. omega (arith, c.type_inv.bytes i)) c.in-Ok.ensures.gives more in
    let asks = keyed_asked name_cmp name_count name (lifted c.args.version) says_something in
    let any = keyed name_cmp name_count name (lifted c.args.version) always in
    let old = view_of_entries c.args.contexts.now in
    let left : Result (List ℕ) ℕ = Ok (c.in-Ok.rest.now ++ more) in
    joins_asked (contexts c.args.version) any asks (c.args.bytes.now ++ more) c.requires left (λ x. x) old old (keyed_joining lifted_joining)
    (map_raised name_cmp name_count name (lifted c.args.version) (c.args.bytes.now ++ more) c.in-Ok.count (c.in-Ok.rest.now ++ more) count left (λ x. x) old old old old refl refl lifted_joining
    (no_rows name_total name_exact name (lifted c.args.version) lifted_joining c.in-Ok.count (c.in-Ok.rest.now ++ more) old c.if-count-eq0.true))

pub returns-then-count-eq0-clause-none : goal.returns-then-count-eq0-clause-none
returns-then-count-eq0-clause-none c = λ left is. (count_is name_count c.args.bytes.now c.in-Ok.count c.in-Ok.rest.now c.in-Ok.ensures.gives 0 left is).1

pub returns-else-count-eq0-clause-none : goal.returns-else-count-eq0-clause-none
returns-else-count-eq0-clause-none c = on_each c.raise_map.result (λ x. (left : List ℕ) → name_count.read c.args.bytes.now ≡ Ok (0, left) → x.now ≡ left) (λ x left is. absurd (c.if-count-eq0.false (count_is name_count c.args.bytes.now c.in-Ok.count c.in-Ok.rest.now c.in-Ok.ensures.gives 0 left is).0))
