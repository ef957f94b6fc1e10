use Rattle.std.proofs.Common.{◌≡◌, ℕ, ◌+◌, subst, arith, ◌++◌}
use Rattle.std.specs.Ordering.{nat_cmp}
use Rattle.std.specs.Cmp.{nat_cmp_total}
use Rattle.std.specs.FinMap.{nat_cmp-IsAntisymmetric}
use Rattle.join_core.specs.laws.Between.{old_or_joined-laws}
use Rattle.join_core.specs.Max.{max_joining}
use Rattle.join_core.specs.laws.Max.{max_laws}
use Rattle.join_nest.proofs.Fronts.{on_err}
use Rattle.mpx_format.specs.Fields.{process, some_calls}
use Rattle.mpx_format.proofs.FieldLaws.{process_laws, some_calls_laws}
use Rattle.mpx_format.proofs.FormatLaws.{both_laws}
use Rattle.mpx_decode.proofs.NearBytes.{rows_on}
use Rattle.mpx_decode.proofs.Fours.{number_of, rows_so_far}
use Rattle.mpx_decode.proofs.RaisedRows.{SoFar, all_raised, none_yet, one_more, row_stands, stops_there}
use Rattle.mpx_decode.proofs.join_numbers.raise_numbers.Goals as goal

pub loop-init : goal.loop-init
loop-init c =
    let some = c.raise_fours-done in
    let from_start : 0 + some.result.0 ≡ some.result.0 = omega arith in
    record {
      rising = some.ensures.rising;
      so_far = subst (λ (n : ℕ). SoFar nat_cmp process some_calls number_of max_joining c.args.count n (some.result.1.now ++ c.args.beyond.now) (c.args.bytes.now ++ c.args.beyond.now) c.args.entries.now.items some.new.entries.items) from_start
          (rows_so_far nat_cmp_total nat_cmp-IsAntisymmetric process some_calls number_of c.args.count (c.args.bytes.now ++ c.args.beyond.now) c.args.entries.now.items
          some.result.0 0 (c.args.bytes.now ++ c.args.beyond.now) (some.result.1.now ++ c.args.beyond.now) c.args.entries.now.items some.new.entries.items (omega (arith, some.ensures.few))
          (none_yet nat_cmp_total nat_cmp-IsAntisymmetric process some_calls number_of c.args.count (c.args.bytes.now ++ c.args.beyond.now) c.args.entries.now.items) c.requires.spelled
          (rows_on nat_cmp number_of (both_laws process_laws (λ a fits. some_calls_laws)) max_joining some.result.0 c.args.bytes.now some.result.1.now c.args.beyond.now c.args.entries.now.items some.new.entries.items (λ i. omega (arith, c.type_inv.bytes i)) some.ensures.joined));
      less = omega arith;
    }

pub raise_entry-requires-clause-spelled : goal.raise_entry-requires-clause-spelled
raise_entry-requires-clause-spelled c =
    row_stands nat_cmp_total nat_cmp-IsAntisymmetric process some_calls number_of c.args.count (c.args.bytes.now ++ c.args.beyond.now) c.args.entries.now.items c.loop.counter (c.loop.rest.now ++ c.loop.beyond) c.loop.entries.items c.loop-test.true c.loop.invariant.so_far c.requires.spelled

pub returns-in_err-after-clause-err : goal.returns-in_err-after-clause-err
returns-in_err-after-clause-err c =
    on_err c.from_residual.result (stops_there nat_cmp_total nat_cmp-IsAntisymmetric process some_calls number_of c.args.count (c.args.bytes.now ++ c.args.beyond.now) c.args.entries.now.items max_laws (old_or_joined-laws max_laws)
    c.loop.counter (c.loop.rest.now ++ c.loop.beyond) c.loop.entries.items c.raise_entry.new.entries.items c.loop-test.true c.requires.rising c.raise_entry.ensures.rising c.loop.invariant.so_far c.requires.spelled c.in_err-after.ensures.err)

pub loop-preserved : goal.loop-preserved
loop-preserved c = record {
  rising = c.raise_entry.ensures.rising;
  so_far = one_more nat_cmp_total nat_cmp-IsAntisymmetric process some_calls number_of c.args.count (c.args.bytes.now ++ c.args.beyond.now) c.args.entries.now.items
      c.loop.counter (c.loop.rest.now ++ c.loop.beyond) (c.in_ok-after.left.now ++ c.raise_entry.new.beyond) c.loop.entries.items c.raise_entry.new.entries.items c.loop-test.true c.loop.invariant.so_far c.requires.spelled c.in_ok-after.ensures.ok;
  less = omega (arith, c.loop.invariant.less, c.raise_entry.ensures.less);
}

pub returns-clause-ok : goal.returns-clause-ok
returns-clause-ok c =
    all_raised nat_cmp_total nat_cmp-IsAntisymmetric process some_calls number_of c.args.count (c.args.bytes.now ++ c.args.beyond.now) c.args.entries.now.items c.loop.counter (c.loop.rest.now ++ c.loop.beyond) c.loop.entries.items c.loop-test.false c.requires.rising c.loop.invariant.rising c.loop.invariant.so_far
