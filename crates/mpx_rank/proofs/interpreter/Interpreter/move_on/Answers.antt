use Rattle.std.proofs.Common.{ap, sym, ◌∙◌}
use Rattle.std.specs.Option.{option_map}
use Rattle.mpx_rank.specs.Shown.{wait_of}
use Rattle.mpx_rank.proofs.interpreter.Interpreter.move_on.Goals as goal

pub do_next-requires-clause-may : goal.do_next-requires-clause-may
do_next-requires-clause-may g c = λ posting rest waits todo. c.requires posting rest (ap (option_map (wait_of g.C.Carrier.place)) (sym c.take.ensures.value ∙ c.in-None.is)) todo
