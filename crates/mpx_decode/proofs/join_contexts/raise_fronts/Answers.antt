use Rattle.std.proofs.Common.{◌++◌, Ok, arith, refl, sym, ◌∙◌, List, ℕ, Result}
use Rattle.std.specs.Ordering.{nat_cmp}
use Rattle.std.specs.Cmp.{nat_cmp_total}
use Rattle.std.specs.FinMap.{nat_cmp-IsAntisymmetric}
use Rattle.join_core.specs.Max.{max_joining}
use Rattle.mpx_board.specs.Parts.{numbers_between, numbers_between_laws}
use Rattle.mpx_board.specs.Views.{view_of_numbers}
use Rattle.mpx_format.specs.Fields.{fronts, process, some_calls}
use Rattle.mpx_format.specs.Format.{byte}
use Rattle.mpx_format.proofs.FormatLaws.{byte_laws}
use Rattle.mpx_decode.proofs.NearBytes.{read_on}
use Rattle.mpx_decode.proofs.NoParts.{no_rows}
use Rattle.mpx_decode.proofs.Taken.{fronts_are_numbers, if_err, if_ok, map_raised, stops_at_once}
use Rattle.mpx_decode.proofs.join_contexts.raise_fronts.Goals as goal

pub returns-in-Err-clause-err : goal.returns-in-Err-clause-err
returns-in-Err-clause-err c =
    let old = view_of_numbers c.args.fronts.now in
    stops_at_once fronts numbers_between (c.args.bytes.now ++ c.args.beyond.now) old (numbers_between_laws.old old) c.requires

pub returns-then-count-eq0-clause-ok : goal.returns-then-count-eq0-clause-ok
unfolding fronts
returns-then-count-eq0-clause-ok c =
    let more = c.args.beyond.now in
    let count = read_on byte_laws c.args.bytes.now c.in-Ok.rest.now c.in-Ok.count (λ i. omega (arith, c.type_inv.bytes i)) c.in-Ok.ensures.gives more in
    let old = view_of_numbers c.args.fronts.now in
    let left : Result (List ℕ) ℕ = Ok (c.in-Ok.rest.now ++ more) in
    map_raised nat_cmp byte process some_calls (c.args.bytes.now ++ more) c.in-Ok.count (c.in-Ok.rest.now ++ more) count left (λ x. x) old old old old refl refl max_joining
    (no_rows nat_cmp_total nat_cmp-IsAntisymmetric process some_calls max_joining c.in-Ok.count (c.in-Ok.rest.now ++ more) old c.if-count-eq0.true)

pub raise-requires : goal.raise-requires
raise-requires c =
    let more = c.args.beyond.now in
    let count = read_on byte_laws c.args.bytes.now c.in-Ok.rest.now c.in-Ok.count (λ i. omega (arith, c.type_inv.bytes i)) c.in-Ok.ensures.gives more in
    let same = fronts_are_numbers (c.args.bytes.now ++ more) c.in-Ok.count (c.in-Ok.rest.now ++ more) count (omega (arith, c.if-count-eq0.false)) in
    (c.requires.0, sym same ∙ c.requires.1)

pub returns-else-count-eq0-clause-ok : goal.returns-else-count-eq0-clause-ok
returns-else-count-eq0-clause-ok c =
    let more = c.args.beyond.now in
    let count = read_on byte_laws c.args.bytes.now c.in-Ok.rest.now c.in-Ok.count (λ i. omega (arith, c.type_inv.bytes i)) c.in-Ok.ensures.gives more in
    let same = fronts_are_numbers (c.args.bytes.now ++ more) c.in-Ok.count (c.in-Ok.rest.now ++ more) count (omega (arith, c.if-count-eq0.false)) in
    if_ok c.raise.result _ _ (λ x g. record { value = g.value; read = same ∙ g.read; joined = g.joined }) c.raise.ensures.ok

pub returns-else-count-eq0-clause-err : goal.returns-else-count-eq0-clause-err
returns-else-count-eq0-clause-err c =
    let more = c.args.beyond.now in
    let count = read_on byte_laws c.args.bytes.now c.in-Ok.rest.now c.in-Ok.count (λ i. omega (arith, c.type_inv.bytes i)) c.in-Ok.ensures.gives more in
    let same = fronts_are_numbers (c.args.bytes.now ++ more) c.in-Ok.count (c.in-Ok.rest.now ++ more) count (omega (arith, c.if-count-eq0.false)) in
    if_err c.raise.result (λ g. record { value = g.value; rest = g.rest; read = same ∙ g.read; left = g.left }) c.raise.ensures.err
