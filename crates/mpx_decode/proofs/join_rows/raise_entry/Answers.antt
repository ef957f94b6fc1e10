use Rattle.std.proofs.Common.{◌<◌, length, inl, refl, ap, arith, ◌++◌}
use Rattle.join_nest.proofs.Fronts.{on_err}
use Rattle.join_nest.proofs.JoinsIn.{same_place}
use Rattle.mpx_decode.proofs.OneRow.{raises_at, sorted_at, stops_at, value_stands}
use Rattle.mpx_decode.proofs.join_rows.raise_entry.Goals as goal

pub raise-requires : goal.raise-requires
raise-requires g c = value_stands g.K.WireKey.format (g.J.WireJoin.wire c.args.version) (c.args.bytes.now ++ c.args.beyond.now) c.index.result.now.0 (c.in-Some.after.now ++ c.args.beyond.now) (c.in-Some.ensures c.args.beyond.now) c.requires.spelled

pub returns-in_err-rest-clause-err : goal.returns-in_err-rest-clause-err
returns-in_err-rest-clause-err g c =
    let lt : c.args.next < length c.args.entries.now.items = omega arith in
    let there = same_place c.args.entries.now.items c.args.next c.index_mut.result.now c.index.result.now lt c.index_mut.ensures.value c.index.ensures in
    on_err c.from_residual.result (stops_at g.met.K.Ord.total g.met.K.Key.exact_order g.J.WireJoin.view g.K.WireKey.format (g.J.WireJoin.wire c.args.version) (c.args.bytes.now ++ c.args.beyond.now) c.index.result.now.0 (c.in-Some.after.now ++ c.args.beyond.now) (c.in-Some.ensures c.args.beyond.now) c.args.entries.now.items c.requires.rising
    c.args.next c.index_mut.result.now c.raise.new.self lt c.index_mut.ensures.value (ap (λ e. e.0) there) g.met.J.WireJoin.laws g.met.J.WireJoin.between_laws c.in_err-rest.ensures.err)

pub returns-in_err-rest-clause-rising : goal.returns-in_err-rest-clause-rising
returns-in_err-rest-clause-rising g c =
    sorted_at g.met.K.Ord.total g.met.K.Key.exact_order g.J.WireJoin.view c.args.entries.now.items c.requires.rising c.args.next c.index_mut.result.now c.raise.new.self (omega arith) c.index_mut.ensures.value

pub returns-in-Some-clause-ok : goal.returns-in-Some-clause-ok
returns-in-Some-clause-ok g c =
    let lt : c.args.next < length c.args.entries.now.items = omega arith in
    let there = same_place c.args.entries.now.items c.args.next c.index_mut.result.now c.index.result.now lt c.index_mut.ensures.value c.index.ensures in
    raises_at g.met.K.Ord.total g.met.K.Key.exact_order g.J.WireJoin.view g.K.WireKey.format (g.J.WireJoin.wire c.args.version) (c.args.bytes.now ++ c.args.beyond.now) c.index.result.now.0 (c.in-Some.after.now ++ c.args.beyond.now) (c.in-Some.ensures c.args.beyond.now) c.args.entries.now.items c.requires.rising
    c.args.next c.index_mut.result.now c.raise.new.self lt c.index_mut.ensures.value (ap (λ e. e.0) there) g.J.WireJoin.joining (c.in_ok-rest.rest.now ++ c.raise.new.beyond) c.in_ok-rest.ensures.ok

pub returns-in-Some-clause-rising : goal.returns-in-Some-clause-rising
returns-in-Some-clause-rising g c =
    sorted_at g.met.K.Ord.total g.met.K.Key.exact_order g.J.WireJoin.view c.args.entries.now.items c.requires.rising c.args.next c.index_mut.result.now c.raise.new.self (omega arith) c.index_mut.ensures.value

pub returns-in-Some-clause-changed : goal.returns-in-Some-clause-changed
returns-in-Some-clause-changed g c =
    record { at = c.args.next; entry = (c.index_mut.result.now.0, c.raise.new.self); next = refl; within = omega arith; made = inl refl }
