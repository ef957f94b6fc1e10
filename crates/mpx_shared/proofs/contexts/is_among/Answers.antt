use Rattle.std.proofs.Common.{◌∙◌, Some, length, refl, sym, ap}
use Rattle.std.proofs.lemmas.Option.{slice_get_read}
use Rattle.mpx_world.proofs.Lists.{names_same}
use Rattle.mpx_shared.proofs.contexts.is_among.Goals as goal

pub returns-then-same : goal.returns-then-same
returns-then-same c = λ is.
    let there = slice_get_read c.args.contexts.now (length c.args.contexts.now) c.loop-context.context-index c.context-item.result refl c.loop-context-test.true c.context-item.is in
    (c.loop-context.context-index, there ∙ ap Some (names_same c.context-item.result c.args.name.now (sym c.same.ensures ∙ c.if-same.true)))
