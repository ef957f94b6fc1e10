use Rattle.std.proofs.Common.{◌∙◌}
use Rattle.join_nest.proofs.Places.{set_is_put, insert_is_put, holds}
use Rattle.join_nest.proofs.prepared.put_one.Goals as goal

pub returns-in-Ok-clause-put : goal.returns-in-Ok-clause-put
returns-in-Ok-clause-put g c =
    let there = rw c.deref.ensures.value at c.in-Ok.ensures.found in
    set_is_put g.met.K.Ord.total g.met.K.Key.exact_order c.args.key c.args.value c.args.entries.now.items c.in-Ok.at (holds _ c.requires.entries) there

pub returns-in-Ok-insert-clause-put : goal.returns-in-Ok-insert-clause-put
returns-in-Ok-insert-clause-put g c =
    let gap = rw c.deref.ensures.value at c.in-Err.ensures.absent in
    c.in-Ok-insert.ensures.items ∙ insert_is_put g.met.K.Ord.total c.args.key c.args.value c.args.entries.now.items _ gap
