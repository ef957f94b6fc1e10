use Rattle.mpx_board.specs.Looks.{parts_of}
use Rattle.mpx_format.specs.declared.versions.Version.TheVariants.{Two}
use Rattle.mpx_format.proofs.Decoded.{one_each}
use Rattle.mpx_wire.proofs.Reading.{read_back, spelled_length, spelled_short}
use Rattle.mpx_wire.proofs.laws.boards_are_read_back.Goals as goal

pub returns : goal.returns
returns c = record {
  read = read_back;
  written = λ board bytes again first second. one_each Two again bytes (parts_of board) second first;
  short = λ board bytes s. spelled_short bytes (parts_of board) s;
  length = λ board bytes s. spelled_length bytes (parts_of board) s;
}
