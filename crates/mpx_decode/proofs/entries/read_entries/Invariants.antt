use Rattle.std.proofs.Common.{◌≡◌, true, IsTrue}
use Rattle.std.specs.FinMap.{is_sorted}
use Rattle.join_nest.specs.Seen.{seen}
use Rattle.mpx_format.specs.Rising.{entry, first_may}
use Rattle.mpx_decode.proofs.Loop.{ReadSoFar}
use Rattle.mpx_decode.proofs.entries.read_entries.Given as goal

abbrev pub invariant-loop : goal.invariant-loop
invariant-loop g l = record {
  read : ReadSoFar (entry g.K.Ord.cmp l.least g.K.WireKey.format (g.J.WireValue.format l.version) g.J.WireValue.says) l.count l.counter (seen g.J.WireValue.seen l.entries.items) l.rest l.bytes;
  rising : IsTrue (is_sorted g.K.Ord.cmp l.entries.items);
  first : first_may g.K.Ord.cmp l.least l.entries.items ≡ true;
}
