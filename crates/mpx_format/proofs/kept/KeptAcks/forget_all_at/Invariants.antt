use Rattle.std.proofs.Common.{map, take}
use Rattle.mpx_format.proofs.PiecesAt.{Forgotten}
use Rattle.mpx_format.proofs.kept.KeptAcks.forget_all_at.Given as goal

-- the rows at the places so far have changed
abbrev pub invariant-loop-change : goal.invariant-loop-change
invariant-loop-change l = Forgotten l.fn.self.pieces.items l.self.pieces.items (map (λ c. c.0) (take l.change-index l.changes))
