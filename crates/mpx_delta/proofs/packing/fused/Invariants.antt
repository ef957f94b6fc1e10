use Rattle.mpx_delta.specs.Pieces.{NoNeighboursFit, SayTogether}
use Rattle.mpx_delta.proofs.packing.fused.Given as goal

-- what is put together of the boards so far
abbrev pub invariant-loop-board : goal.invariant-loop-board
invariant-loop-board l = record {
  says : SayTogether l.limit l.yielded l.made.items;
  few : NoNeighboursFit l.limit l.made.items;
}
