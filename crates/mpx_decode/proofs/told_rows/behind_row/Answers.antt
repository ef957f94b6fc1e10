use Rattle.std.proofs.Common.{◌<◌, ◌∙◌, arith}
use Rattle.mpx_decode.proofs.ToldRows.{told_row}
use Rattle.mpx_decode.proofs.told_rows.behind_row.Goals as goal

pub returns : goal.returns
returns c =
    let small : c.in_ok-process.process < 64 = omega (arith, c.if-process-number.false, c.number.ensures.below) in
    told_row c.args.rows.now c.requires.rising c.args.at c.requires.within c.index-rows-at.result c.index-rows-at.is c.in_ok-process.process c.in_ok-process.number (c.if-process-number.false ∙ c.number.ensures.number) small (omega (arith, c.if-number-eq0.false)) (omega arith)
    c.args.bytes.now c.in_ok-process.after.now c.in_ok-process.ensures
