use Rattle.std.proofs.Common.{◌++◌, arith}
use Rattle.std.specs.Int.{w32}
use Rattle.join_nest.specs.Between.{trunc_between}
use Rattle.join_nest.specs.laws.Between.{trunc_between_laws}
use Rattle.mpx_num.proofs.Spellings.{IsBytes}
use Rattle.mpx_board.specs.Parts.{call_between, call_between_laws, call_laws}
use Rattle.mpx_board.specs.Views.{view_of_calls}
use Rattle.mpx_format.specs.Contexts.{held}
use Rattle.mpx_format.proofs.FormatLaws.{number_laws, wide32}
use Rattle.mpx_decode.proofs.HeldFront.{calls_stand, held_joined, held_left}
use Rattle.mpx_decode.proofs.NearBytes.{left_bytes, read_on}
use Rattle.mpx_decode.proofs.Taken.{stops_at_once}
use Rattle.mpx_decode.proofs.join_contexts.raise_held.Goals as goal

pub returns-in-Err-clause-err : goal.returns-in-Err-clause-err
returns-in-Err-clause-err c =
    let old = view_of_calls c.args.held.now in
    stops_at_once (held c.args.version) (trunc_between call_between) (c.args.bytes.now ++ c.args.beyond.now) old ((trunc_between_laws call_laws call_between_laws).old old) c.requires

pub returns-in-Err-read_u32-clause-err : goal.returns-in-Err-read_u32-clause-err
returns-in-Err-read_u32-clause-err c =
    let old = view_of_calls c.args.held.now in
    stops_at_once (held c.args.version) (trunc_between call_between) (c.args.bytes.now ++ c.args.beyond.now) old ((trunc_between_laws call_laws call_between_laws).old old) c.requires

pub raise_calls-requires : goal.raise_calls-requires
raise_calls-requires c =
    let laws = number_laws w32 wide32 in
    let are : IsBytes c.args.bytes.now = λ i. omega (arith, c.type_inv.bytes i) in
    let first = read_on laws c.args.bytes.now c.in-Ok.rest.now c.in-Ok.dropped are c.in-Ok.ensures.gives in
    let left = left_bytes laws c.args.bytes.now c.in-Ok.rest.now c.in-Ok.dropped are c.in-Ok.ensures.gives in
    let second = read_on laws c.in-Ok.rest.now c.in-Ok-read_u32.rest.now c.in-Ok-read_u32.count left c.in-Ok-read_u32.ensures.gives in
    let more = c.args.beyond.now in
    calls_stand c.args.version (c.args.bytes.now ++ more) (c.in-Ok.rest.now ++ more) c.in-Ok.dropped (first more) (c.in-Ok-read_u32.rest.now ++ more) c.in-Ok-read_u32.count (second more) c.requires

pub returns-in-Ok-read_u32-clause-ok : goal.returns-in-Ok-read_u32-clause-ok
returns-in-Ok-read_u32-clause-ok c =
    let laws = number_laws w32 wide32 in
    let are : IsBytes c.args.bytes.now = λ i. omega (arith, c.type_inv.bytes i) in
    let first = read_on laws c.args.bytes.now c.in-Ok.rest.now c.in-Ok.dropped are c.in-Ok.ensures.gives in
    let left = left_bytes laws c.args.bytes.now c.in-Ok.rest.now c.in-Ok.dropped are c.in-Ok.ensures.gives in
    let second = read_on laws c.in-Ok.rest.now c.in-Ok-read_u32.rest.now c.in-Ok-read_u32.count left c.in-Ok-read_u32.ensures.gives in
    let more = c.args.beyond.now in
    held_joined c.args.version (c.args.bytes.now ++ more) (c.in-Ok.rest.now ++ more) c.in-Ok.dropped (first more) (c.in-Ok-read_u32.rest.now ++ more) c.in-Ok-read_u32.count (second more) c.requires
    c.raise_calls.result (λ x. x.now ++ c.raise_calls.new.beyond) (view_of_calls c.args.held.now) (view_of_calls c.drop_below.new.self) (view_of_calls c.raise_calls.new.held) c.drop_below.ensures c.raise_calls.ensures.ok

pub returns-in-Ok-read_u32-clause-err : goal.returns-in-Ok-read_u32-clause-err
returns-in-Ok-read_u32-clause-err c =
    let laws = number_laws w32 wide32 in
    let are : IsBytes c.args.bytes.now = λ i. omega (arith, c.type_inv.bytes i) in
    let first = read_on laws c.args.bytes.now c.in-Ok.rest.now c.in-Ok.dropped are c.in-Ok.ensures.gives in
    let left = left_bytes laws c.args.bytes.now c.in-Ok.rest.now c.in-Ok.dropped are c.in-Ok.ensures.gives in
    let second = read_on laws c.in-Ok.rest.now c.in-Ok-read_u32.rest.now c.in-Ok-read_u32.count left c.in-Ok-read_u32.ensures.gives in
    let more = c.args.beyond.now in
    held_left c.args.version (c.args.bytes.now ++ more) (c.in-Ok.rest.now ++ more) c.in-Ok.dropped (first more) (c.in-Ok-read_u32.rest.now ++ more) c.in-Ok-read_u32.count (second more) c.requires
    c.raise_calls.result (λ x. x.now ++ c.raise_calls.new.beyond) (view_of_calls c.args.held.now) (view_of_calls c.drop_below.new.self) (view_of_calls c.raise_calls.new.held) c.drop_below.ensures c.raise_calls.ensures.err
