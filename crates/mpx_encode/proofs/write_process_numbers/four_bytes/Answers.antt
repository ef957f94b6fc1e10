use Rattle.std.proofs.Common.{arith}
use Rattle.mpx_encode.proofs.Fours.{four_rows}
use Rattle.mpx_encode.proofs.write_process_numbers.four_bytes.Goals as goal

pub returns : goal.returns
returns c = rw (c.row_bytes-a.ensures, c.row_bytes-b.ensures, c.row_bytes-c.ensures, c.row_bytes-d.ensures) (four_rows c.args.rows.now c.index-rows-0.result c.index-rows-1.result c.index-rows-2.result c.index-rows-3.result (omega arith))
