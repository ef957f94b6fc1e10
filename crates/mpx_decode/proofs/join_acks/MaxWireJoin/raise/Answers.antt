use Rattle.std.proofs.Common.{◌++◌, arith}
use Rattle.join_core.specs.laws.Between.{old_or_joined-laws}
use Rattle.join_core.specs.laws.Max.{max_laws}
use Rattle.join_core.specs.Joins.{old_or_joined}
use Rattle.join_core.specs.Max.{max_joining}
use Rattle.mpx_format.specs.Fields.{some_calls}
use Rattle.mpx_format.proofs.FieldLaws.{some_calls_laws}
use Rattle.mpx_decode.proofs.NearBytes.{read_on}
use Rattle.mpx_decode.proofs.Taken.{stops_at_once}
use Rattle.mpx_decode.proofs.join_acks.MaxWireJoin.raise.Goals.{then-self-number, else-self-number}
use Rattle.mpx_decode.proofs.join_acks.MaxWireJoin.raise.Goals as goal

pub returns-in-Err-clause-err : goal.returns-in-Err-clause-err
returns-in-Err-clause-err c =
    let old = c.args.self.now.0 in
    stops_at_once some_calls (old_or_joined max_joining) (c.args.bytes.now ++ c.args._beyond.now) old ((old_or_joined-laws max_laws).old old) c.requires

pub returns-after-self-number-clause-ok : goal.returns-after-self-number-clause-ok
returns-after-self-number-clause-ok c = record {
  value = c.in-Ok.number;
  read = read_on some_calls_laws c.args.bytes.now c.in-Ok.rest.now c.in-Ok.number (λ i. omega (arith, c.type_inv.bytes i)) c.in-Ok.ensures.gives c.args._beyond.now;
  joined = elim c.if-self-number.branch [
    | then-self-number w ↦ rw w.self-is (grind (arith, w.if-self-number.true))
    | else-self-number w ↦ rw w.self-is (grind (arith, w.if-self-number.false))
  ];
}
