-- One board more, and all of them.
use Rattle.std.proofs.Common.{[], ◌∷◌, ◌++◌}
use Rattle.mpx_delta.proofs.Joining.{says_before, says_then}
use Rattle.mpx_delta.proofs.packing.fused.Goals as goal

pub loop-board-preserved : goal.loop-board-preserved
loop-board-preserved c =
    let before = c.loop-board.invariant in
    record {
      says = says_then c.args.limit (c.loop-board.yielded ++ c.in-Some.board ∷ []) (c.loop-board.made.items ++ c.in-Some.board ∷ []) c.fuse.new.made.items (says_before c.args.limit c.loop-board.yielded c.loop-board.made.items (c.in-Some.board ∷ []) before.says) c.in_ok-fuse.ensures.says;
      few = c.in_ok-fuse.ensures.few before.few;
    }
