use Rattle.std.proofs.Common.{◌∙◌}
use Rattle.mpx_num.proofs.OwnTables.{place_named-of}
use Rattle.mpx_num.proofs.ops.Ops.place_named.Goals as goal

pub returns : goal.returns
returns g c = c.place_of_word.ensures ∙ place_named-of _ _ _ _ _ c.args.word.now c.deref.ensures.value
