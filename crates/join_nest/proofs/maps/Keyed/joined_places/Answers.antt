use Rattle.std.proofs.Common.{sym, ◌∙◌}
use Rattle.std.specs.FinMap.{from_sorted}
use Rattle.join_nest.specs.Placed.{set_values}
use Rattle.join_nest.specs.Seen.{seen}
use Rattle.join_nest.proofs.RaisedPlaces.{seen_rising}
use Rattle.join_nest.proofs.Views.{entries_of}
use Rattle.join_nest.proofs.maps.Keyed.joined_places.Goals as goal

pub of-requires : goal.of-requires
of-requires g c =
    let told = rw c.in-Some.is at c.in_ok-joined_places.ensures.rising in
    sym (seen_rising g.J.Exact.view 0 c.in-Some.values.items) ∙ told

-- the entries of the map are those in it
pub returns-in-Some : goal.returns-in-Some
returns-in-Some g c =
    let view = g.J.Exact.view in
    let mine = c.args.self.now.entries.items in
    let told = rw (c.in-Some.is, c.deref.ensures.value, c.deref-2.ensures.value) at c.in_ok-joined_places.ensures.joined in
    (λ i. from_sorted (set_values (entries_of g.K.Ord.cmp view mine c.args.self.now.sorted i) (seen view (c.of.ensures i)))) ∙ told
