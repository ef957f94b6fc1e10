use Rattle.std.proofs.Common.{ℕ, inr, subst, take}
use Rattle.std.specs.Io.KnownBytes.{Appends}
use Rattle.mpx_program.proofs.Ending.{first_part}
use Rattle.mpx_program.proofs.process.say_where_typed.Goals as goal

pub returns-then-is_terminal : goal.returns-then-is_terminal
returns-then-is_terminal g c = inr (subst (λ text. (n : ℕ) × Appends (g.E.Write.contents c.args.err.now) (g.E.Write.contents c.write_bytes.new.writer) (take n text)) c.as_bytes.ensures.value (first_part _ _ _ c.write_bytes.result c.write_bytes.ensures.whole c.write_bytes.ensures.first))
