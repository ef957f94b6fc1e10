use Rattle.std.proofs.Common.{rules}
use Rattle.mpx_script.proofs.Names.{names_more}
use Rattle.mpx_script.proofs.rank_statements.add_name.Goals as goal

pub returns-clause-added : goal.returns-clause-added
returns-clause-added c = λ words are. names_more c.args.names.now c.insert.new.self c.in_ok-name.name c.args.word.now words (search rules) (search rules) are
