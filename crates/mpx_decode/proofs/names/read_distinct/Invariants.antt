use Rattle.std.proofs.Common.{◌≡◌, ◌<◌, length}
use Rattle.std.specs.List.{All}
use Rattle.mpx_post.proofs.Seen.{Seen}
use Rattle.mpx_format.specs.Fields.{member}
use Rattle.mpx_decode.proofs.Loop.{ReadSoFar}
use Rattle.mpx_decode.proofs.names.read_distinct.Given as goal

abbrev pub invariant-loop : goal.invariant-loop
invariant-loop l = record {
  read : ReadSoFar member l.count l.counter l.members.items l.rest l.bytes;
  seen : Seen l.read l.members.items;
  below : All (λ p. p < 64) l.members.items;
  len : length l.members.items ≡ l.counter;
}
