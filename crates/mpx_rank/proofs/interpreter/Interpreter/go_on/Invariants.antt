use Rattle.std.proofs.Common.{map}
use Rattle.mpx_num.specs.Own.{operation_of}
use Rattle.mpx_rank.specs.Moves.{Ran, left_of}
use Rattle.mpx_rank.specs.Shown.{rank_of}
use Rattle.mpx_rank.proofs.interpreter.Interpreter.go_on.Given as goal

abbrev pub invariant-loop-moved : goal.invariant-loop-moved
invariant-loop-moved g l = Ran (g.C.Carrier.terms (map (λ b. let o = goal.OwnOp-dyn g (b.vtable, b.value) in operation_of (o.word_bytes b.value) (o.fits_type b.value) (o.combination b.value)) l.ops.list.items)) (rank_of g.C.Carrier.place l.fn.self) l.fn.carrier (rank_of g.C.Carrier.place l.self) l.carrier l.moved

abbrev pub decreases-loop-moved : goal.decreases-loop-moved
decreases-loop-moved g l = left_of (rank_of g.C.Carrier.place l.self)
