use Rattle.std.proofs.Common.{inl, inr, refl, arith, ◌++◌}
use Rattle.join_nest.proofs.Fronts.{on_err}
use Rattle.mpx_decode.specs.Raising.{row}
use Rattle.mpx_decode.proofs.OneRow.{key_at, raises_at, raises_in, sorted_at, sorted_in, stops_at, stops_before, value_stands}
use Rattle.mpx_decode.proofs.join_rows.raise_placed.Goals as goal

pub raise-requires : goal.raise-requires
raise-requires g c = value_stands g.K.WireKey.format (g.J.WireJoin.wire c.args.version) (c.args.bytes.now ++ c.args.beyond.now) c.in-Ok.key (c.in-Ok.rest.now ++ c.args.beyond.now) (c.in-Ok.ensures.whole c.args.beyond.now) c.requires.spelled

pub read_new-requires : goal.read_new-requires
read_new-requires g c = value_stands g.K.WireKey.format (g.J.WireJoin.wire c.args.version) (c.args.bytes.now ++ c.args.beyond.now) c.in-Ok.key (c.in-Ok.rest.now ++ c.args.beyond.now) (c.in-Ok.ensures.whole c.args.beyond.now) c.requires.spelled

pub returns-in_err-rest-in-Ok-place_of_key-clause-err : goal.returns-in_err-rest-in-Ok-place_of_key-clause-err
returns-in_err-rest-in-Ok-place_of_key-clause-err g c =
    let there = rw c.deref.ensures.value at c.in-Ok-place_of_key.ensures.found in
    let same = key_at g.met.K.Ord.total g.met.K.Key.exact_order g.J.WireJoin.view c.in-Ok.key c.args.entries.now.items c.in-Ok-place_of_key.at c.index_mut.result.now there c.index_mut.ensures.value in
    on_err c.from_residual.result (stops_at g.met.K.Ord.total g.met.K.Key.exact_order g.J.WireJoin.view g.K.WireKey.format (g.J.WireJoin.wire c.args.version) (c.args.bytes.now ++ c.args.beyond.now) c.in-Ok.key (c.in-Ok.rest.now ++ c.args.beyond.now) (c.in-Ok.ensures.whole c.args.beyond.now) c.args.entries.now.items c.requires.rising
    c.in-Ok-place_of_key.at c.index_mut.result.now c.raise.new.self there.in_range c.index_mut.ensures.value same g.met.J.WireJoin.laws g.met.J.WireJoin.between_laws c.in_err-rest-in-Ok-place_of_key.ensures.err)

pub returns-in_err-rest-in-Ok-place_of_key-clause-rising : goal.returns-in_err-rest-in-Ok-place_of_key-clause-rising
returns-in_err-rest-in-Ok-place_of_key-clause-rising g c =
    let there = rw c.deref.ensures.value at c.in-Ok-place_of_key.ensures.found in
    sorted_at g.met.K.Ord.total g.met.K.Key.exact_order g.J.WireJoin.view c.args.entries.now.items c.requires.rising c.in-Ok-place_of_key.at c.index_mut.result.now c.raise.new.self there.in_range c.index_mut.ensures.value

pub returns-in-Ok-place_of_key-clause-ok : goal.returns-in-Ok-place_of_key-clause-ok
returns-in-Ok-place_of_key-clause-ok g c =
    let there = rw c.deref.ensures.value at c.in-Ok-place_of_key.ensures.found in
    let same = key_at g.met.K.Ord.total g.met.K.Key.exact_order g.J.WireJoin.view c.in-Ok.key c.args.entries.now.items c.in-Ok-place_of_key.at c.index_mut.result.now there c.index_mut.ensures.value in
    raises_at g.met.K.Ord.total g.met.K.Key.exact_order g.J.WireJoin.view g.K.WireKey.format (g.J.WireJoin.wire c.args.version) (c.args.bytes.now ++ c.args.beyond.now) c.in-Ok.key (c.in-Ok.rest.now ++ c.args.beyond.now) (c.in-Ok.ensures.whole c.args.beyond.now) c.args.entries.now.items c.requires.rising
    c.in-Ok-place_of_key.at c.index_mut.result.now c.raise.new.self there.in_range c.index_mut.ensures.value same g.J.WireJoin.joining (c.in_ok-rest-in-Ok-place_of_key.rest.now ++ c.raise.new.beyond) c.in_ok-rest-in-Ok-place_of_key.ensures.ok

pub returns-in-Ok-place_of_key-clause-rising : goal.returns-in-Ok-place_of_key-clause-rising
returns-in-Ok-place_of_key-clause-rising g c =
    let there = rw c.deref.ensures.value at c.in-Ok-place_of_key.ensures.found in
    sorted_at g.met.K.Ord.total g.met.K.Key.exact_order g.J.WireJoin.view c.args.entries.now.items c.requires.rising c.in-Ok-place_of_key.at c.index_mut.result.now c.raise.new.self there.in_range c.index_mut.ensures.value

pub returns-in_err-insert-in-Err-clause-err : goal.returns-in_err-insert-in-Err-clause-err
returns-in_err-insert-in-Err-clause-err g c =
    on_err c.from_residual-in_err-insert-in-Err.result (rw c.in_err-insert-in-Err.ensures.items
    (stops_before g.met.K.Ord.total g.met.K.Key.exact_order g.J.WireJoin.view (row g.K.WireKey.format (g.J.WireJoin.wire c.args.version)) g.met.J.WireJoin.laws g.met.J.WireJoin.between_laws (c.args.bytes.now ++ c.args.beyond.now) c.args.entries.now.items c.requires.spelled))

pub returns-clause-ok : goal.returns-clause-ok
returns-clause-ok g c =
    let gap = rw c.deref.ensures.value at c.in-Err.ensures.absent in
    rw c.in_ok-insert-in-Err.ensures.items (raises_in g.met.K.Ord.total g.met.K.Key.exact_order g.J.WireJoin.view g.K.WireKey.format (g.J.WireJoin.wire c.args.version) (c.args.bytes.now ++ c.args.beyond.now) c.in-Ok.key (c.in-Ok.rest.now ++ c.args.beyond.now) (c.in-Ok.ensures.whole c.args.beyond.now) c.args.entries.now.items c.requires.rising
    c.in-Err.at gap c.in-Ok-read_new.value (c.in-Ok-read_new.rest.now ++ c.read_new.new.beyond) c.in-Ok-read_new.ensures.read g.J.WireJoin.joining)

pub returns-clause-rising : goal.returns-clause-rising
returns-clause-rising g c =
    let gap = rw c.deref.ensures.value at c.in-Err.ensures.absent in
    rw c.in_ok-insert-in-Err.ensures.items (sorted_in g.met.K.Ord.total g.met.K.Key.exact_order g.J.WireJoin.view c.args.entries.now.items c.requires.rising c.in-Err.at c.in-Ok.key c.in-Ok-read_new.value gap)

pub returns-in-Ok-place_of_key-clause-changed : goal.returns-in-Ok-place_of_key-clause-changed
returns-in-Ok-place_of_key-clause-changed g c =
    let there = rw c.deref.ensures.value at c.in-Ok-place_of_key.ensures.found in
    let lt = there.in_range in
    record { at = c.in-Ok-place_of_key.at; entry = (c.index_mut.result.now.0, c.raise.new.self); next = refl; within = omega (arith, lt); made = inl refl }

pub returns-clause-changed : goal.returns-clause-changed
returns-clause-changed g c =
    let gap = rw c.deref.ensures.value at c.in-Err.ensures.absent in
    record { at = c.in-Err.at; entry = (c.in-Ok.key, c.in-Ok-read_new.value); next = refl; within = gap.in_range; made = inr c.in_ok-insert-in-Err.ensures.items }
