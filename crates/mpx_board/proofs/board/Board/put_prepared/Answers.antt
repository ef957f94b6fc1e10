use Rattle.std.proofs.Common.{◌∙◌, ap}
use Rattle.mpx_board.specs.Contexts.{look_of}
use Rattle.mpx_board.specs.Tidy.{is_tidy}
use Rattle.mpx_board.specs.Views.{view_of_all_acks, view_of_entries}
use Rattle.mpx_board.proofs.Preparing.{ready_parts}
use Rattle.mpx_board.proofs.board.Board.put_prepared.Goals as goal

pub returns : goal.returns
returns c new ready =
    let parts = ready_parts c.args.prepared c.args.self.now new (view_of_entries c.put_contexts.new.contexts, view_of_all_acks c.put_acks.new.acks) ready c.put_contexts.ensures c.put_acks.ensures in
    ap look_of parts ∙ ready.shows

pub invariant_of-self : goal.invariant_of-self
invariant_of-self c =
    let ready = c.requires.1 in
    let parts = ready_parts c.args.prepared c.args.self.now c.requires.0 (view_of_entries c.put_contexts.new.contexts, view_of_all_acks c.put_acks.new.acks) ready c.put_contexts.ensures c.put_acks.ensures in
    record { tidy = ap is_tidy parts ∙ ready.tidy }
