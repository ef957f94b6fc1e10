use Rattle.std.proofs.Common.{◌∙◌, ap, sym}
use Rattle.std.specs.Option.{option_map}
use Rattle.join_nest.proofs.Views.{get_view}
use Rattle.join_nest.proofs.maps.Keyed.get_from_ends.Goals as goal

pub returns : goal.returns
returns g c =
    let told = rw c.deref.ensures.value at c.lookup_from_ends.ensures in
    ap (option_map g.J.Exact.view) told ∙ sym (get_view g.K.Ord.cmp g.J.Exact.view c.args.self.now.entries.items c.args.key.now c.args.self.now.sorted)
