use Rattle.std.proofs.Common.{◌≤◌, ◌+◌, arith, ◌++◌}
use Rattle.join_nest.proofs.Fronts.{on_err}
use Rattle.mpx_name.specs.Order.{name_exact, name_total}
use Rattle.mpx_board.specs.Parts.{numbers_between_laws, numbers_laws}
use Rattle.mpx_board.specs.Views.{view_of_numbers}
use Rattle.mpx_format.specs.Fields.{name, numbers}
use Rattle.mpx_decode.proofs.Fours.{rows_so_far}
use Rattle.mpx_decode.proofs.RaisedRows.{all_raised, row_stands, stops_there}
use Rattle.mpx_decode.proofs.join_kept.raise_rows.Goals as goal

pub raise_some-requires-clause-spelled : goal.raise_some-requires-clause-spelled
raise_some-requires-clause-spelled c =
    row_stands name_total name_exact name numbers view_of_numbers c.args.count (c.args.bytes.now ++ c.args.beyond.now) c.args.entries.now.items c.loop-done.done (c.loop-done.rest.now ++ c.loop-done.beyond) c.loop-done.entries.items c.loop-done-test.true c.loop-done.invariant.so_far c.requires.spelled

pub returns-in_err-some-clause-err : goal.returns-in_err-some-clause-err
returns-in_err-some-clause-err c =
    on_err c.from_residual.result (stops_there name_total name_exact name numbers view_of_numbers c.args.count (c.args.bytes.now ++ c.args.beyond.now) c.args.entries.now.items numbers_laws numbers_between_laws
    c.loop-done.done (c.loop-done.rest.now ++ c.loop-done.beyond) c.loop-done.entries.items c.raise_some.new.entries.items c.loop-done-test.true c.requires.rising c.raise_some.ensures.rising c.loop-done.invariant.so_far c.requires.spelled c.in_err-some.ensures.err)

pub loop-done-preserved : goal.loop-done-preserved
loop-done-preserved c =
    let few = c.in_ok-some.ensures.few in
    let le : c.loop-done.done + c.in_ok-some.some ≤ c.args.count = omega (arith, few) in
    record {
      within = le;
      rising = c.raise_some.ensures.rising;
      so_far = rows_so_far name_total name_exact name numbers view_of_numbers c.args.count (c.args.bytes.now ++ c.args.beyond.now) c.args.entries.now.items c.in_ok-some.some
          c.loop-done.done (c.loop-done.rest.now ++ c.loop-done.beyond) (c.in_ok-some.after.now ++ c.raise_some.new.beyond) c.loop-done.entries.items c.raise_some.new.entries.items le c.loop-done.invariant.so_far c.requires.spelled c.in_ok-some.ensures.ok;
      kept = c.raise_some.ensures.kept;
      less = omega (arith, c.loop-done.invariant.less, c.raise_some.ensures.less);
    }

pub returns-clause-ok : goal.returns-clause-ok
returns-clause-ok c =
    all_raised name_total name_exact name numbers view_of_numbers c.args.count (c.args.bytes.now ++ c.args.beyond.now) c.args.entries.now.items c.loop-done.done (c.loop-done.rest.now ++ c.loop-done.beyond) c.loop-done.entries.items c.loop-done-test.false c.requires.rising c.loop-done.invariant.rising c.loop-done.invariant.so_far
