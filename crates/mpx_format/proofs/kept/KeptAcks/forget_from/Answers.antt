use Rattle.std.proofs.Common.{◌≡◌, ℕ, ◌+◌, ◌*◌, ◌/◌, ◌≤◌, arith}
use Rattle.mpx_format.proofs.Pieces.{first_kept}
use Rattle.mpx_format.proofs.kept.KeptAcks.forget_from.Goals as goal

pub returns : goal.returns
returns c rows new same h =
    let far : 8 * (c.args.at / 8) ≤ c.args.at = omega arith in
    rw c.truncate.ensures.items (first_kept (c.args.at / 8) c.args.at c.args.self.now.pieces.items rows new far same h)
