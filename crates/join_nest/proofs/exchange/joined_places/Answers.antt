use Rattle.std.proofs.Common.{◌≡◌, ◌+◌, ◌++◌, sym, ap, ◌∙◌}
use Rattle.join_nest.specs.Placed.{raised_at}
use Rattle.join_nest.specs.Seen.{seen}
use Rattle.join_nest.proofs.RaisedPlaces.{all_joined, raised_more, sorted_rest}
use Rattle.join_nest.proofs.exchange.joined_places.Goals as goal

pub place_of_key-requires : goal.place_of_key-requires
place_of_key-requires g c = sorted_rest g.K.Ord.cmp c.loop-other.from c.args.entries.now c.requires.entries

pub loop-other-preserved : goal.loop-other-preserved
loop-other-preserved g c =
    let view = g.J.Exact.view in
    let made = seen view c.loop-other.made.items in
    let more = seen view c.push_raised.new.made.items in
    let at = c.loop-other.from + c.in-Ok.off in
    let e = c.index-entries-at.result in
    let x = c.other-item.result in
    let add : more ≡ made ++ raised_at g.J.Exact.joining at (view e.1) (view x.1) = c.in_ok-push_raised.ensures ∙ ap (λ y. made ++ raised_at g.J.Exact.joining at (view y.1) (view x.1)) (sym c.index-entries-at.is) in
    raised_more g.met.K.Ord.total view g.met.J.Join.laws c.args.entries.now c.args.others.now c.requires.entries c.requires.others made more c.loop-other.from c.in-Ok.off c.loop-other.other-index e x c.loop-other.invariant c.in-Ok.ensures.found c.loop-other-test.true c.other-item.is c.index-entries-at.is add

pub returns-clause-joined : goal.returns-clause-joined
returns-clause-joined g c = all_joined g.met.K.Ord.total g.met.K.Key.exact_order g.J.Exact.view g.J.Exact.joining c.args.entries.now c.args.others.now (seen g.J.Exact.view c.loop-other.made.items) c.loop-other.from c.loop-other.other-index c.requires.entries c.requires.others c.loop-other-test.false c.loop-other.invariant
