use Rattle.std.proofs.Common.{◌++◌, subst, arith}
use Rattle.join_nest.proofs.Fronts.{on_err}
use Rattle.mpx_decode.specs.Raising.{RaisesRow, row}
use Rattle.mpx_decode.proofs.RaisedRows.{all_raised, none_yet, one_more, row_stands, stops_there}
use Rattle.mpx_decode.proofs.join_rows.raise_entries.Goals as goal

pub loop-init : goal.loop-init
loop-init g c = record {
  rising = c.requires.rising;
  so_far = none_yet g.met.K.Ord.total g.met.K.Key.exact_order g.K.WireKey.format (g.J.WireJoin.wire c.args.version) g.J.WireJoin.view c.args.count (c.args.bytes.now ++ c.args.beyond.now) c.args.entries.now.items;
  less = omega arith;
}

pub raise_entry-requires-clause-spelled : goal.raise_entry-requires-clause-spelled
raise_entry-requires-clause-spelled g c =
    row_stands g.met.K.Ord.total g.met.K.Key.exact_order g.K.WireKey.format (g.J.WireJoin.wire c.args.version) g.J.WireJoin.view c.args.count (c.args.bytes.now ++ c.args.beyond.now) c.args.entries.now.items c.loop.counter (c.loop.rest.now ++ c.loop.beyond) c.loop.entries.items c.loop-test.true c.loop.invariant.so_far c.requires.spelled

pub returns-in_err-after-clause-err : goal.returns-in_err-after-clause-err
returns-in_err-after-clause-err g c =
    on_err c.from_residual.result (stops_there g.met.K.Ord.total g.met.K.Key.exact_order g.K.WireKey.format (g.J.WireJoin.wire c.args.version) g.J.WireJoin.view c.args.count (c.args.bytes.now ++ c.args.beyond.now) c.args.entries.now.items g.met.J.WireJoin.laws g.met.J.WireJoin.between_laws
    c.loop.counter (c.loop.rest.now ++ c.loop.beyond) c.loop.entries.items c.raise_entry.new.entries.items c.loop-test.true c.requires.rising c.raise_entry.ensures.rising c.loop.invariant.so_far c.requires.spelled c.in_err-after.ensures.err)

-- the entry at the front changes nothing
pub loop-preserved-in-Some : goal.loop-preserved-in-Some
loop-preserved-in-Some g c =
    let same = subst (λ es. RaisesRow g.K.Ord.cmp g.J.WireJoin.view (row g.K.WireKey.format (g.J.WireJoin.wire c.args.version)) g.J.WireJoin.joining (c.loop.rest.now ++ c.loop.beyond) (c.in-Some.after.now ++ c.loop.beyond) es es) c.as_slice.ensures.value (c.in-Some.ensures.same c.loop.beyond) in
    record {
      rising = c.loop.invariant.rising;
      so_far = one_more g.met.K.Ord.total g.met.K.Key.exact_order g.K.WireKey.format (g.J.WireJoin.wire c.args.version) g.J.WireJoin.view c.args.count (c.args.bytes.now ++ c.args.beyond.now) c.args.entries.now.items
          c.loop.counter (c.loop.rest.now ++ c.loop.beyond) (c.in-Some.after.now ++ c.loop.beyond) c.loop.entries.items c.loop.entries.items c.loop-test.true c.loop.invariant.so_far c.requires.spelled same;
      less = c.loop.invariant.less;
    }

pub loop-preserved : goal.loop-preserved
loop-preserved g c = record {
  rising = c.raise_entry.ensures.rising;
  so_far = one_more g.met.K.Ord.total g.met.K.Key.exact_order g.K.WireKey.format (g.J.WireJoin.wire c.args.version) g.J.WireJoin.view c.args.count (c.args.bytes.now ++ c.args.beyond.now) c.args.entries.now.items
      c.loop.counter (c.loop.rest.now ++ c.loop.beyond) (c.in_ok-after.left.now ++ c.raise_entry.new.beyond) c.loop.entries.items c.raise_entry.new.entries.items c.loop-test.true c.loop.invariant.so_far c.requires.spelled c.in_ok-after.ensures.ok;
  less = omega (arith, c.loop.invariant.less, c.raise_entry.ensures.less);
}

pub returns-clause-ok : goal.returns-clause-ok
returns-clause-ok g c =
    all_raised g.met.K.Ord.total g.met.K.Key.exact_order g.K.WireKey.format (g.J.WireJoin.wire c.args.version) g.J.WireJoin.view c.args.count (c.args.bytes.now ++ c.args.beyond.now) c.args.entries.now.items c.loop.counter (c.loop.rest.now ++ c.loop.beyond) c.loop.entries.items c.loop-test.false c.requires.rising c.loop.invariant.rising c.loop.invariant.so_far
