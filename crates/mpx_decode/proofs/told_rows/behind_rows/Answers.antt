use Rattle.std.proofs.Common.{◌≡◌, ℕ, length, refl, subst, arith}
use Rattle.std.specs.Ordering.{nat_cmp}
use Rattle.join_core.specs.Max.{max_joining}
use Rattle.mpx_format.specs.Fields.{process, some_calls}
use Rattle.mpx_decode.specs.Raising.{RaisesRows, row}
use Rattle.mpx_decode.proofs.Fours.{number_of, rows_append}
use Rattle.mpx_decode.proofs.told_rows.behind_rows.Goals as goal

pub loop-i-preserved : goal.loop-i-preserved
loop-i-preserved c =
    let rows = c.args.rows.now in
    record {
      most = omega (arith, c.loop-i-test.true);
      joined = rows_append nat_cmp number_of (row process some_calls) max_joining c.loop-i.i 1 c.args.bytes.now c.loop-i.rest.now c.in-Some.after.now rows rows rows c.loop-i.invariant.joined (c.in-Some.after.now, rows, c.in-Some.ensures, (refl, refl));
    }

pub returns : goal.returns
returns c =
    let rows = c.args.rows.now in
    let all : c.loop-i.i ≡ length rows = omega (arith, c.loop-i-test.false, c.loop-i.invariant.most) in
    subst (λ (n : ℕ). RaisesRows nat_cmp number_of (row process some_calls) max_joining n c.args.bytes.now c.loop-i.rest.now rows rows) all c.loop-i.invariant.joined
