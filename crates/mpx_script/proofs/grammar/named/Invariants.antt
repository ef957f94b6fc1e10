use Rattle.std.proofs.Common.{◌≡◌, map, drop}
use Rattle.mpx_statement.specs.Lookups.{named}
use Rattle.mpx_script.proofs.grammar.named.Given as goal

abbrev pub invariant-loop-name : goal.invariant-loop-name
invariant-loop-name g l = named (map (λ entry. (entry.0.now, entry.1)) (drop l.name-index l.table)) l.word ≡ named (map (λ entry. (entry.0.now, entry.1)) l.table) l.word
