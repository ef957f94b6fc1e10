use Rattle.std.proofs.Common.{◌≡◌, ◌++◌, drop}
use Rattle.mpx_waiting.specs.ToldLines.{members_text, rows_text}
use Rattle.mpx_waiting.proofs.members.push_members.Given as goal

abbrev pub invariant-loop-member : goal.invariant-loop-member
invariant-loop-member l = l.told.items ++ rows_text l.places l.first l.last (drop l.member-index l.more) ≡ l.fn.told.items ++ members_text l.places l.members
