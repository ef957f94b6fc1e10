use Rattle.std.proofs.Common.{◌≡◌, ◌++◌, drop}
use Rattle.std.specs.List.{flat_map}
use Rattle.mpx_explain.specs.RunEnds.{standing_text}
use Rattle.mpx_explain.proofs.end_lines.push_places.Given as goal

abbrev pub invariant-loop-place : goal.invariant-loop-place
invariant-loop-place l = l.told.items ++ flat_map (standing_text l.text l.what) (drop l.place-index l.places) ≡ l.fn.told.items ++ flat_map (standing_text l.text l.what) l.places
