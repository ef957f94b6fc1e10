use Rattle.mpx_words.proofs.Commands.{has_rule_made, stays_local_made}
use Rattle.mpx_words.proofs.program.with_flag.Goals as goal

pub returns : goal.returns
returns c = record {
  shape = λ s is. has_rule_made c.args.made c.with_option.result _ s _ is c.flag.ensures.local c.flag.ensures.rule c.with_option.ensures;
  local = λ is. stays_local_made c.args.made c.with_option.result _ is c.flag.ensures.local c.with_option.ensures;
}
