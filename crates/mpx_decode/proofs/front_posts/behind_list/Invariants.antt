use Rattle.std.proofs.Common.{length, take}
use Rattle.mpx_format.specs.Posts.{count}
use Rattle.mpx_decode.proofs.Loop.{ReadSoFar}
use Rattle.mpx_decode.proofs.front_posts.behind_list.Given as goal

abbrev pub invariant-loop-i : goal.invariant-loop-i
invariant-loop-i l = record {
  read : ReadSoFar (λ before. count) (length l.list) l.i (take l.i l.list) l.rest l.bytes;
}
