use Rattle.std.proofs.Common.{◌++◌, arith}
use Rattle.join_core.specs.laws.Between.{old_or_joined-laws}
use Rattle.join_core.specs.Flat.{flat_joining}
use Rattle.join_core.specs.laws.Flat.{flat_laws}
use Rattle.join_core.specs.FlatSeen.{flat_view}
use Rattle.join_core.specs.Joins.{old_or_joined}
use Rattle.join_nest.proofs.Fronts.{on_err}
use Rattle.mpx_birth.specs.Births.{birth_equality, same_birth}
use Rattle.mpx_format.specs.Births.{birth}
use Rattle.mpx_format.specs.Contexts.{told}
use Rattle.mpx_format.proofs.BirthLaws.{birth_laws}
use Rattle.mpx_format.proofs.ContextLaws.{told_laws}
use Rattle.mpx_decode.proofs.NearBytes.{read_on}
use Rattle.mpx_decode.proofs.Taken.{read_joined, read_stops, same_joined, stops_at_once}
use Rattle.mpx_decode.proofs.join_births.raise_birth.Goals as goal

pub returns-in-Err-clause-err : goal.returns-in-Err-clause-err
returns-in-Err-clause-err c =
    stops_at_once (told birth) (old_or_joined (flat_joining same_birth)) (c.args.bytes.now ++ c.args.beyond.now) (flat_view (λ b. b) c.args.birth.now) (λ b. (old_or_joined-laws (flat_laws birth_equality)).old (flat_view (λ b. b) c.args.birth.now) b) c.requires

pub returns-in_err-join_in-in-Ok-clause-err : goal.returns-in_err-join_in-in-Ok-clause-err
returns-in_err-join_in-in-Ok-clause-err c =
    on_err c.from_residual.result (read_stops (told birth) (c.args.bytes.now ++ c.args.beyond.now) (c.in-Ok.rest.now ++ c.args.beyond.now) (flat_view (λ b. b) c.in-Ok.told) (read_on (told_laws birth_laws) c.args.bytes.now c.in-Ok.rest.now (flat_view (λ b. b) c.in-Ok.told) (λ i. omega (arith, c.type_inv.bytes i)) c.in-Ok.ensures c.args.beyond.now) c.in_err-join_in-in-Ok.ensures.err)

pub returns-in_ok-join_in-in-Ok-clause-ok : goal.returns-in_ok-join_in-in-Ok-clause-ok
returns-in_ok-join_in-in-Ok-clause-ok c = read_joined (told birth) (c.args.bytes.now ++ c.args.beyond.now) (c.in-Ok.rest.now ++ c.args.beyond.now) (flat_view (λ b. b) c.in-Ok.told) (read_on (told_laws birth_laws) c.args.bytes.now c.in-Ok.rest.now (flat_view (λ b. b) c.in-Ok.told) (λ i. omega (arith, c.type_inv.bytes i)) c.in-Ok.ensures c.args.beyond.now) c.in_ok-join_in-in-Ok.ensures.ok

-- the board has just this birth already
pub returns-in-Some-clause-ok : goal.returns-in-Some-clause-ok
returns-in-Some-clause-ok c = same_joined (told birth) (c.args.bytes.now ++ c.args.beyond.now) (c.in-Some.rest.now ++ c.args.beyond.now) (flat_view (λ b. b) c.args.birth.now) (read_on (told_laws birth_laws) c.args.bytes.now c.in-Some.rest.now (flat_view (λ b. b) c.args.birth.now) (λ i. omega (arith, c.type_inv.bytes i)) c.in-Some.ensures c.args.beyond.now) (flat_laws birth_equality)
