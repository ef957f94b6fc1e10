use Rattle.std.proofs.Common.{◌≡◌, codes, bytes_eq, false, ap, ◌∙◌, rules}
use Rattle.std.specs.List.{filter_map, list_any}
use Rattle.mpx_statement.specs.Statements.{target_of}
use Rattle.mpx_script.proofs.rank_statements.RankStatements.has_communicator.Goals as goal

pub returns-else-eq : goal.returns-else-eq
returns-else-eq c =
    let other : bytes_eq c.args.word.now (codes "world") ≡ false = search rules in
    rw other (c.contains.ensures ∙ c.self.invariant.targets_are c.args.word.now ∙ ap (λ s. list_any (bytes_eq c.args.word.now) (filter_map target_of s)) c.self.view_is)
