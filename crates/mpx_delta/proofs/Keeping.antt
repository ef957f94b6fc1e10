-- What is kept of acknowledgements, where a board says the same.
use Rattle.std.proofs.Common.{◌≡◌, List, sym, subst}
use Rattle.mpx_board.specs.declared.board.Board.{Board}
use Rattle.mpx_board.specs.Looks.{look, parts_of}
use Rattle.mpx_board.proofs.Order.{same_look}
use Rattle.mpx_format.specs.Kept.{AreKept}
use Rattle.mpx_format.specs.declared.kept.KeptAcks.{KeptAcks}

-- boards that look the same say the same
pub still_kept : (kept : List KeptAcks) (a b : Board) → look b ≡ look a → AreKept kept (parts_of a).1 → AreKept kept (parts_of b).1
still_kept kept a b same h = subst (λ v. AreKept kept v.1) (same_look (parts_of a) (parts_of b) a.tidy b.tidy (sym same)) h
