use Rattle.std.proofs.Common.{◌≡◌, ◌++◌, length}
use Rattle.std.specs.Vec.Iter.{into_iter_items, into_iter_len}
use Rattle.mpx_program.proofs.process.in_order.Given as goal

abbrev pub invariant-loop-word : goal.invariant-loop-word
invariant-loop-word l = (l.words.items ++ into_iter_items l.word-iterator ≡ into_iter_items l.fn.args) × (into_iter_len l.word-iterator ≡ length (into_iter_items l.word-iterator))
