use Rattle.std.proofs.Common.{◌<◌, ◌++◌, length, arith}
use Rattle.mpx_board.specs.Views.{view_of_numbers}
use Rattle.mpx_decode.proofs.ToldRows.{told_entry}
use Rattle.mpx_decode.proofs.told_rows.behind_told.Goals as goal

pub returns-clause-told : goal.returns-clause-told
returns-clause-told c more stands =
    let es = c.args.entries.now in
    let lt : c.args.at < length es = omega arith in
    told_entry view_of_numbers es c.requires.rising c.args.at lt c.index-entries-at.result c.index-entries-at.is (c.args.bytes.now ++ more) (c.in_ok-rest.rest.now ++ more) (c.in_ok-after.after.now ++ more) (c.in_ok-rest.ensures more) stands (c.in_ok-after.ensures more)
