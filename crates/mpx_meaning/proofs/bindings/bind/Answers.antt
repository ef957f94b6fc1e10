use Rattle.std.proofs.Common.{ap, sym, ◌∙◌}
use Rattle.std.specs.Option.{option_copied}
use Rattle.mpx_meaning.specs.Standing.{binds, looked_up}
use Rattle.mpx_meaning.proofs.Standing.{binds_new, none_there}
use Rattle.mpx_meaning.proofs.bindings.bind.Goals as goal

pub returns-clause-bound : goal.returns-clause-bound
returns-clause-bound g c = λ word.
    c.in_ok-insert.ensures.updates.0 word
    ∙ binds_new (looked_up c.args.bound.now) c.in_ok-copy.field-0 c.in-Some.word.now word c.args.to c.in_ok-copy.ensures (none_there _ (sym c.contains_key.ensures ∙ c.if-contains_key.false))
    ∙ ap (λ t. binds t c.args.to (looked_up c.args.bound.now) word) (sym (ap option_copied c.in-Some.is))
