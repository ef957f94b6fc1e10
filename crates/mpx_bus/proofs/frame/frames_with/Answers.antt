use Rattle.std.proofs.Common.{rules, ◌++◌, ◌∷◌, [], ap, sym, ◌∙◌}
use Rattle.std.proofs.lemmas.List.{map-id}
use Rattle.std.proofs.lemmas.Iterator.Adapters.{YieldsList-from_vec}
use Rattle.std.proofs.lemmas.Iterator.Consumers.{YieldsList-end}
use Rattle.mpx_bus.proofs.frame.frames_with.Goals as goal

pub loop-bytes-preserved : goal.loop-bytes-preserved
loop-bytes-preserved c =
    c.in_ok-push.ensures.items
    ∙ ap (λ l. l ++ c.in_ok-from_rope.field-0 ∷ []) c.loop-bytes.invariant
    ∙ ap (λ bytes. c.loop-bytes.yielded ++ bytes ∷ []) c.in_ok-from_rope.ensures

pub returns : goal.returns
returns c =
    let end = YieldsList-end (YieldsList-from_vec c.args.lists.items (search rules) (search rules)) c.loop-bytes.yielded c.loop-bytes.bytes-iterator c.loop-bytes.yielded_by c.next.result c.next.new.self c.in-None.is c.next.ensures.steps in
    c.loop-bytes.invariant ∙ sym (map-id c.loop-bytes.yielded) ∙ end.0
