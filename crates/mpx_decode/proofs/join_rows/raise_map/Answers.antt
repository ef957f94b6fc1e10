use Rattle.std.proofs.Common.{IfOk, OnErr, ap, sym, subst, ◌∙◌, ◌++◌}
use Rattle.std.specs.FinMap.{FinMap}
use Rattle.join_nest.specs.Between.{keyed_between}
use Rattle.join_nest.specs.Keyed.{keyed_joining}
use Rattle.join_nest.specs.Seen.{keyed_view}
use Rattle.mpx_decode.specs.Raising.{JoinsFront, StopsBetween, rows}
use Rattle.mpx_decode.proofs.Taken.{alike_by_other}
use Rattle.mpx_decode.proofs.join_rows.raise_map.Goals as goal

-- the map is seen as its entries are
pub returns-clause-ok : goal.returns-clause-ok
returns-clause-ok g c =
    let R = g.K.Ord.cmp in
    let view = g.J.WireJoin.view in
    let follows = c.requires.follows in
    let taken = alike_by_other R g.J.Exact.view view follows.0 follows.1 c.replace.result.entries.items c.into_entries-entries.result.items c.replace.result.sorted c.into_entries-entries.ensures.rising c.into_entries-entries.ensures.entries in
    let was = ap (λ m. keyed_view R view m.entries.items) (sym c.replace.ensures.value) ∙ taken in
    let made = alike_by_other R g.J.Exact.view view follows.0 follows.1 c.from_rising.result.entries.items c.raise_entries-raised.new.entries.items c.from_rising.result.sorted c.raise_entries-raised.ensures.rising c.from_rising.ensures in
    subst (λ (m : FinMap R g.J.WireJoin.View × FinMap R g.J.WireJoin.View). IfOk c.raise_entries-raised.result (λ x. JoinsFront (rows R g.K.WireKey.format (g.J.WireJoin.wire c.args.version) c.args.count) (keyed_joining g.J.WireJoin.joining) (c.args.bytes.now ++ c.args.beyond.now) (x.now ++ c.raise_entries-raised.new.beyond) m.0 m.1)) (λ i. (sym was i, sym made i)) c.raise_entries-raised.ensures.ok

pub returns-clause-err : goal.returns-clause-err
returns-clause-err g c =
    let R = g.K.Ord.cmp in
    let view = g.J.WireJoin.view in
    let follows = c.requires.follows in
    let taken = alike_by_other R g.J.Exact.view view follows.0 follows.1 c.replace.result.entries.items c.into_entries-entries.result.items c.replace.result.sorted c.into_entries-entries.ensures.rising c.into_entries-entries.ensures.entries in
    let was = ap (λ m. keyed_view R view m.entries.items) (sym c.replace.ensures.value) ∙ taken in
    let made = alike_by_other R g.J.Exact.view view follows.0 follows.1 c.from_rising.result.entries.items c.raise_entries-raised.new.entries.items c.from_rising.result.sorted c.raise_entries-raised.ensures.rising c.from_rising.ensures in
    subst (λ (m : FinMap R g.J.WireJoin.View × FinMap R g.J.WireJoin.View). OnErr c.raise_entries-raised.result (StopsBetween (rows R g.K.WireKey.format (g.J.WireJoin.wire c.args.version) c.args.count) (keyed_between g.J.WireJoin.between) (c.args.bytes.now ++ c.args.beyond.now) m.0 m.1)) (λ i. (sym was i, sym made i)) c.raise_entries-raised.ensures.err
