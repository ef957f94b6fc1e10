use Rattle.std.proofs.lemmas.Result.{IfOk-weaker}
use Rattle.mpx_words.proofs.Commands.{has_rule, has_rule_made, stays_local, stays_local_made}
use Rattle.mpx_words.proofs.program.plain.Goals as goal

pub returns : goal.returns
returns c =
    let one = IfOk-weaker c.arg-strict.result _ _ (λ d h. has_rule _ _ h c.flag.ensures.local c.bare.ensures.shape c.flag.ensures.rule) c.arg-strict.ensures in
    let first = IfOk-weaker c.arg-strict.result _ _ (λ d h. stays_local h c.flag.ensures.local c.bare.ensures.local) c.arg-strict.ensures in
    record {
      shape = has_rule_made c.arg-strict.result c.with_option.result _ _ _ one c.flag-2.ensures.local c.flag-2.ensures.rule c.with_option.ensures;
      local = stays_local_made c.arg-strict.result c.with_option.result _ first c.flag-2.ensures.local c.with_option.ensures;
    }
