use Rattle.std.proofs.Common.{◌<◌, ◌∙◌, refl, subst, length, arith}
use Rattle.std.specs.Prelude.{Ok, Err}
use Rattle.std.specs.Vec.{with_item}
use Rattle.std.proofs.lemmas.Option.{slice_get_read}
use Rattle.mpx_world.specs.declared.processes.Processes.{Processes}
use Rattle.mpx_node.specs.Nodes.{Opens}
use Rattle.mpx_node.specs.Shown.{node_of}
use Rattle.mpx_world.proofs.Showing.{writes_at, read_same, gather_done, gather_refused}
use Rattle.mpx_world.proofs.processes.Processes.gather.Goals as goal

pub returns-in-Ok : goal.returns-in-Ok
returns-in-Ok c =
    let nodes = c.args.self.now.nodes.items in
    let lt : c.from-at.result < length nodes = omega (arith, c.if-at-len.false, c.len.ensures, c.args.self.now.nodes.ok.0) in
    let at = slice_get_read nodes (length nodes) c.from-at.result c.index_mut.result.now refl lt c.index_mut.ensures.value in
    let after : Processes = record { nodes = with_item c.args.self.now.nodes c.from-at.result c.open_gathering.new.self; parts = c.args.self.now.parts } in
    let writes = writes_at c.args.self.now after c.args.proc c.from-at.result c.index_mut.result.now c.open_gathering.new.self (c.from-at.ensures ∙ c.number.ensures.number) at refl refl in
    gather_done c.args.self.now after c.args.proc c.index_mut.result.now c.open_gathering.new.self writes c.args.parent.now c.args.tag c.args.ranks.now c.in-Ok.name
    (subst (λ r. Opens c.args.parent.now r (Ok c.in-Ok.name) (node_of c.index_mut.result.now) (node_of c.open_gathering.new.self)) (read_same (node_of c.index_mut.result.now) c.args.parent.now c.args.tag c.as_slice.result.now c.args.ranks.now c.ranges.tag c.as_slice.ensures) c.in-Ok.ensures)

pub returns-else-is_want_of_memory : goal.returns-else-is_want_of_memory
returns-else-is_want_of_memory c =
    let nodes = c.args.self.now.nodes.items in
    let lt : c.from-at.result < length nodes = omega (arith, c.if-at-len.false, c.len.ensures, c.args.self.now.nodes.ok.0) in
    let at = slice_get_read nodes (length nodes) c.from-at.result c.index_mut.result.now refl lt c.index_mut.ensures.value in
    let after : Processes = record { nodes = with_item c.args.self.now.nodes c.from-at.result c.open_gathering.new.self; parts = c.args.self.now.parts } in
    let writes = writes_at c.args.self.now after c.args.proc c.from-at.result c.index_mut.result.now c.open_gathering.new.self (c.from-at.ensures ∙ c.number.ensures.number) at refl refl in
    gather_refused c.args.self.now after c.args.proc c.index_mut.result.now c.open_gathering.new.self writes c.args.parent.now c.args.tag c.args.ranks.now c.in-Err.refusal (λ wants. cc (c.is_want_of_memory.ensures.1 wants, c.if-is_want_of_memory.false))
    (subst (λ r. Opens c.args.parent.now r (Err c.in-Err.refusal) (node_of c.index_mut.result.now) (node_of c.open_gathering.new.self)) (read_same (node_of c.index_mut.result.now) c.args.parent.now c.args.tag c.as_slice.result.now c.args.ranks.now c.ranges.tag c.as_slice.ensures) c.in-Err.ensures)
