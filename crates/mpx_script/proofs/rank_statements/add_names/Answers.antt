use Rattle.std.proofs.Common.{rules}
use Rattle.std.proofs.lemmas.Result.{on_ok_weaker}
use Rattle.mpx_script.proofs.Names.{communicator_added, nothing_added, request_added}
use Rattle.mpx_script.proofs.rank_statements.add_names.Goals as goal

pub returns-in-Some-default-clause-added : goal.returns-in-Some-default-clause-added
returns-in-Some-default-clause-added c = on_ok_weaker c.add_name.result (λ more statements are. communicator_added c.args.communicators.now c.add_name.new.names c.args.requests.now statements c.args.statement.now c.in-Some-default.word.now (search rules) more are) c.add_name.ensures.added

pub returns-in-None-Some-clause-added : goal.returns-in-None-Some-clause-added
returns-in-None-Some-clause-added c = on_ok_weaker c.add_name-in-None-Some.result (λ more statements are. request_added c.args.communicators.now c.args.requests.now c.add_name-in-None-Some.new.names statements c.args.statement.now c.in-None-Some.word.now (search rules) (search rules) more are) c.add_name-in-None-Some.ensures.added

pub returns-in-None-None-clause-added : goal.returns-in-None-None-clause-added
returns-in-None-None-clause-added c = λ statements are. nothing_added c.args.communicators.now c.args.requests.now statements c.args.statement.now (search rules) (search rules) are
