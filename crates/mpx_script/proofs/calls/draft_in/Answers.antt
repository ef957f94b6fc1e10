use Rattle.std.proofs.Common.{rules}
use Rattle.mpx_script.proofs.Accepted.{refusal_of_fields, refusal_of_lists, draft_accepted}
use Rattle.mpx_script.proofs.calls.draft_in.Goals as goal

pub returns-in-Err-clause-refused : goal.returns-in-Err-clause-refused
returns-in-Err-clause-refused g c = refusal_of_fields c.args.kind c.args.new.now c.args.call.now c.in-Some.colour (search rules) c.in-Some-number_at.key (search rules) c.in-Err.e (search rules)

pub returns-in-Ok-new_parts-clause-accepted : goal.returns-in-Ok-new_parts-clause-accepted
returns-in-Ok-new_parts-clause-accepted g c = draft_accepted c.args.kind c.args.new.now c.args.call.now c.in-Some.colour (search rules) c.in-Some-number_at.key (search rules) (search rules) (search rules)

pub returns-in-Err-new_parts-clause-refused : goal.returns-in-Err-new_parts-clause-refused
returns-in-Err-new_parts-clause-refused g c = refusal_of_lists c.args.kind c.args.new.now c.args.call.now c.in-Some.colour (search rules) c.in-Some-number_at.key (search rules) (search rules) c.in-Err-new_parts.e (search rules)
