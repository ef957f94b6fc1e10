-- The whole, or its pieces put together.
use Rattle.std.proofs.lemmas.Result.{IfOk-weaker}
use Rattle.mpx_delta.proofs.Joining.{one_join, says_then, whole_facts, whole_fits, whole_join}
use Rattle.mpx_delta.proofs.packing.parts.Goals as goal

pub returns-then-frame_len-limit-clause-join : goal.returns-then-frame_len-limit-clause-join
returns-then-frame_len-limit-clause-join c = rw (c.in_ok-push.ensures.items, c.new-whole.ensures.items) (one_join c.args.board.now c.in_ok-copy.field-0 c.in_ok-copy.ensures)

pub returns-clause-facts : goal.returns-clause-facts
returns-clause-facts c = IfOk-weaker c.fused.result _ _ (λ made says. whole_facts c.args.board.now c.args.limit c.in_ok-pieces.pieces.items made.items c.in_ok-pieces.ensures (says_then c.args.limit c.in_ok-pieces.pieces.items c.in_ok-packed.packed.items made.items c.in_ok-packed.ensures says)) c.fused.ensures.says

pub returns-clause-fit : goal.returns-clause-fit
returns-clause-fit c = IfOk-weaker c.fused.result _ _ (λ made says. whole_fits c.args.board.now c.args.limit c.in_ok-pieces.pieces.items made.items c.in_ok-pieces.ensures (says_then c.args.limit c.in_ok-pieces.pieces.items c.in_ok-packed.packed.items made.items c.in_ok-packed.ensures says) c.requires.least) c.fused.ensures.says

pub returns-clause-join : goal.returns-clause-join
returns-clause-join c = IfOk-weaker c.fused.result _ _ (λ made says. whole_join c.args.board.now c.args.limit c.in_ok-pieces.pieces.items made.items c.in_ok-pieces.ensures (says_then c.args.limit c.in_ok-pieces.pieces.items c.in_ok-packed.packed.items made.items c.in_ok-packed.ensures says)) c.fused.ensures.says
