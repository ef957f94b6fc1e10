use Rattle.std.proofs.Common.{◌≡◌, ◌-◌, ◌++◌}
use Rattle.mpx_call.specs.Parts.{cut}
use Rattle.mpx_call.proofs.cutting.cut.Given as goal

-- what is cut, and then what is cut of the rest, is what is cut of all
abbrev pub invariant-loop : goal.invariant-loop
invariant-loop g l = l.part.items ++ cut (l.fn.blocks - l.counter) l.fn.count l.fn.first l.fn.each l.rest ≡ cut l.fn.blocks l.fn.count l.fn.first l.fn.each l.fn.items
