use Rattle.std.proofs.Common.{◌≡◌, ◌++◌, drop, map}
use Rattle.std.specs.List.{flat_map}
use Rattle.mpx_explain.specs.RunEnds.{earlier_text, earlier_view}
use Rattle.mpx_explain.proofs.end_lines.push_lines.Given as goal

abbrev pub invariant-loop-one : goal.invariant-loop-one
invariant-loop-one l = l.told.items ++ flat_map (earlier_text l.text l.places) (map (earlier_view l.text) (drop l.one-index l.earlier)) ≡ l.fn.told.items ++ flat_map (earlier_text l.text l.places) (map (earlier_view l.text) l.earlier)
