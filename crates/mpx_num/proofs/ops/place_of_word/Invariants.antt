use Rattle.std.proofs.Common.{◌≡◌, map, drop}
use Rattle.mpx_num.specs.OwnWords.{place_of_word}
use Rattle.mpx_num.proofs.ops.place_of_word.Given as goal

abbrev pub invariant-loop-i : goal.invariant-loop-i
invariant-loop-i g l =
    place_of_word l.i (map (λ b. (goal.OwnOp-dyn g (b.vtable, b.value)).word_bytes b.value) (drop l.i l.list)) l.word
    ≡ place_of_word 0 (map (λ b. (goal.OwnOp-dyn g (b.vtable, b.value)).word_bytes b.value) l.list) l.word
