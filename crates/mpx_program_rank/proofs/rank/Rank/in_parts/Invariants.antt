use Rattle.std.proofs.Common.{◌≡◌, ◌-◌, ◌≤◌, []}
use Rattle.mpx_call.proofs.Cuts.{SoFar}
use Rattle.mpx_program_rank.specs.Lengths.{MakesPart, blocks_given, most_of, part_line}
use Rattle.mpx_program_rank.proofs.Parts.{lists_of}
use Rattle.mpx_program_rank.proofs.rank.Rank.in_parts.Given as goal

-- the first items of each block are given in parts
abbrev pub invariant-loop-first : goal.invariant-loop-first
invariant-loop-first g l = record {
  same : l.self.desk.ghost_name ≡ l.initial.self.desk.ghost_name;
  world : l.self.world ≡ l.initial.self.world;
  turns : l.self.turns ≡ l.initial.self.turns;
  within : l.first ≤ l.fn.count;
  parts : SoFar (MakesPart (λ host. g.H.Host.goes_by host []) g.H.Host.node g.H.Host.turned g.H.Host.turn_refused l.fn.comm.name (λ count part. part_line l.fn.call g.T.Item.ty count (g.T.Item.numbers part)) g.T.Item.numbers l.initial.self.turns)
      (most_of l.fn.call l.fn.comm.size) (blocks_given l.fn.call l.fn.comm.rank l.fn.comm.size) l.fn.count l.first l.fn.items (lists_of l.parts.items) l.initial.self.desk.now l.self.desk.now;
}

abbrev pub decreases-loop-first : goal.decreases-loop-first
decreases-loop-first g l = l.fn.count - l.first
