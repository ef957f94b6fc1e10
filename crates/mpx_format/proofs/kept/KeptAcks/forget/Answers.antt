use Rattle.std.proofs.Common.{◌≡◌, ℕ, ◌+◌, ◌*◌, ◌/◌, ◌%◌, ◌<◌, ◌≤◌, length, List, [], set, ap, sym, subst, ◌∙◌, arith}
use Rattle.mpx_format.specs.Kept.{ArePieces, Row}
use Rattle.mpx_format.proofs.Pieces.{forgotten, none_there}
use Rattle.mpx_format.proofs.kept.KeptAcks.forget.Goals as goal

pub returns-then-place-len : goal.returns-then-place-len
returns-then-place-len c rows row h =
    let at : 8 * (c.args.at / 8) + c.args.at % 8 ≡ c.args.at = omega arith in
    let lt : c.args.at % 8 < 8 = omega arith in
    rw c.clear.ensures (subst (λ i. ArePieces (set c.args.self.now.pieces.items (c.args.at / 8) []) (set rows i row)) at (forgotten (c.args.at / 8) (c.args.at % 8) c.args.self.now.pieces.items rows row lt h))

pub returns-else-place-len : goal.returns-else-place-len
returns-else-place-len c rows row h =
    let le : length c.args.self.now.pieces.items ≤ c.args.at / 8 = omega arith in
    let at : 8 * (c.args.at / 8) + c.args.at % 8 ≡ c.args.at = omega arith in
    let lt : c.args.at % 8 < 8 = omega arith in
    let same = none_there (c.args.at / 8) c.args.self.now.pieces.items le in
    subst (λ ps. ArePieces ps (set rows c.args.at row)) same
    (subst (λ i. ArePieces (set c.args.self.now.pieces.items (c.args.at / 8) []) (set rows i row)) at (forgotten (c.args.at / 8) (c.args.at % 8) c.args.self.now.pieces.items rows row lt h))
