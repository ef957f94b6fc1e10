use Rattle.std.proofs.Common.{◌≡◌, map, take}
use Rattle.mpx_eval.specs.Found.{waiting_view}
use Rattle.mpx_waiting.specs.ToldLines.{place_of}
use Rattle.mpx_waiting.proofs.places.places_of.Given as goal

abbrev pub invariant-loop-waiting : goal.invariant-loop-waiting
invariant-loop-waiting l = l.places.items ≡ map (place_of l.text) (map waiting_view (take l.waiting-index l.found))
