use Rattle.std.proofs.Common.{◌≡◌, length}
use Rattle.std.specs.List.{All}
use Rattle.mpx_decode.proofs.Loop.{ReadSoFar}
use Rattle.mpx_decode.proofs.lists.read_list.Given as goal

abbrev pub invariant-loop : goal.invariant-loop
invariant-loop g l = record {
  read : ReadSoFar (g.F.Repeated.format l.field) l.count l.counter l.values.items l.rest l.bytes;
  within : All (g.F.Repeated.Within l.field) l.values.items;
  len : length l.values.items ≡ l.counter;
}
