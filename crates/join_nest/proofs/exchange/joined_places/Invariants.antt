use Rattle.join_nest.specs.Seen.{seen}
use Rattle.join_nest.proofs.RaisedPlaces.{Raised}
use Rattle.join_nest.proofs.exchange.joined_places.Given as goal

abbrev pub invariant-loop-other : goal.invariant-loop-other
invariant-loop-other g l = Raised g.K.Ord.cmp g.J.Exact.view g.J.Exact.joining l.entries l.others (seen g.J.Exact.view l.made.items) l.from l.other-index
