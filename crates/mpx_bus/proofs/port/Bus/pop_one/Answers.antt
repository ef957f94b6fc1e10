use Rattle.std.proofs.Common.{ℕ, List, [], ◌∷◌, ◌++◌, inr, sym, ap, ◌∙◌, subst}
use Rattle.crossbeam_queue.specs.Passes.{view}
use Rattle.mpx_board.specs.Parts.{PartsView}
use Rattle.mpx_format.specs.Decoding.{IsSpelled}
use Rattle.mpx_node.specs.Nodes.{NodeView, StopsTaking, learn}
use Rattle.mpx_node.specs.Shown.{node_of}
use Rattle.mpx_bus.specs.declared.act.Act.{Act}
use Rattle.mpx_bus.specs.declared.act.Act.TheVariants as A
use Rattle.mpx_bus.specs.Acts.{part_of}
use Rattle.mpx_bus.specs.Rule.{IsPlanned}
use Rattle.mpx_bus.specs.Ports.{PortView, node_in}
use Rattle.mpx_bus.proofs.Moves.{pops}
use Rattle.mpx_bus.proofs.Ports.{port_took, port_stopped, kept_popped, kept_later}
use Rattle.mpx_bus.proofs.port.Bus.pop_one.Goals as goal

pub pop_to-requires-clause-rule : goal.pop_to-requires-clause-rule
pop_to-requires-clause-rule g c =
    let i = c.port.invariant.2 in
    pops _ _ _ i.stands i.ahead (subst (λ (b : PortView). IsPlanned b.setup b.me b.journal) (sym c.port.view_is) c.requires.plan)

pub take_rope-requires : goal.take_rope-requires
take_rope-requires g c = record { spelled = subst (λ (b : List ℕ). (parts : PartsView) × IsSpelled b parts) (sym c.lent.ensures) c.in-Some.ensures.rule.2 }

pub invariant_of-port-in-Ok : goal.invariant_of-port-in-Ok
invariant_of-port-in-Ok g c =
    let i = c.port.invariant in
    let r = c.in-Some.ensures.rule in
    let kept = kept_popped (view c.port.inside.pass) (view c.pop_to.new.pass) (view c.port.inside.line) (view c.popped.new.line) c.in-Some.frame c.port.inside.kept.items r.0 c.popped.ensures.noted i.3 in (
      c.in-Some.ensures.queue.2 ∙ i.0,
      (c.took.ensures.same.0 ∙ c.popped.ensures.same.0 ∙ i.1.0, c.took.ensures.same.2 ∙ c.popped.ensures.same.2 ∙ i.1.1),
      port_took (node_of c.port.inside.node) (node_of c.take_rope.new.self) (view c.port.inside.pass) (view c.pop_to.new.pass) (view c.port.inside.line) (view c.popped.new.line) (view c.took.new.line) c.in-Some.frame i.2 r.0 r.1 c.popped.ensures.noted
          (c.in-Ok.ensures.ok ∙ ap (λ (b : List ℕ). learn (part_of b) (node_of c.port.inside.node)) c.lent.ensures) c.took.ensures.noted,
      kept_later _ _ (view c.popped.new.line) (view c.took.new.line) (A.Took c.in-Some.frame ∷ []) c.port.inside.kept.items c.took.ensures.noted kept,
    )

pub invariant_of-port-in-Err : goal.invariant_of-port-in-Err
invariant_of-port-in-Err g c =
    let i = c.port.invariant in
    let r = c.in-Some.ensures.rule in
    let kept = kept_popped (view c.port.inside.pass) (view c.pop_to.new.pass) (view c.port.inside.line) (view c.popped.new.line) c.in-Some.frame c.port.inside.kept.items r.0 c.popped.ensures.noted i.3 in
    let stops = subst (λ (b : List ℕ). StopsTaking (part_of b) (node_of c.port.inside.node) (node_of c.take_rope.new.self)) c.lent.ensures c.in-Err.ensures.err in (
      c.in-Some.ensures.queue.2 ∙ i.0,
      (c.stopped.ensures.same.0 ∙ c.popped.ensures.same.0 ∙ i.1.0, c.stopped.ensures.same.2 ∙ c.popped.ensures.same.2 ∙ i.1.1),
      port_stopped (node_of c.port.inside.node) (node_of c.take_rope.new.self) (view c.port.inside.pass) (view c.pop_to.new.pass) (view c.port.inside.line) (view c.popped.new.line) (view c.stopped.new.line) c.in-Some.frame c.board.result.now i.2 r.0 r.1 c.popped.ensures.noted
          stops c.board.ensures c.stopped.ensures.noted,
      kept_later _ _ (view c.popped.new.line) (view c.stopped.new.line) (A.StoppedTaking c.in-Some.frame c.board.result.now ∷ []) c.port.inside.kept.items c.stopped.ensures.noted kept,
    )

pub returns-in-Err-clause-answer : goal.returns-in-Err-clause-answer
returns-in-Err-clause-answer g c =
    let i = c.port.invariant in
    let r = c.in-Some.ensures.rule in
    let frame = c.in-Some.frame in
    let stops = subst (λ (b : List ℕ). StopsTaking (part_of b) (node_of c.port.inside.node) (node_of c.take_rope.new.self)) c.lent.ensures c.in-Err.ensures.err in
    let now = port_stopped (node_of c.port.inside.node) (node_of c.take_rope.new.self) (view c.port.inside.pass) (view c.pop_to.new.pass) (view c.port.inside.line) (view c.popped.new.line) (view c.stopped.new.line) frame c.board.result.now i.2 r.0 r.1 c.popped.ensures.noted
    stops c.board.ensures c.stopped.ensures.noted in
    inr (record {
      left = c.board.result.now;
      journal = c.stopped.ensures.noted ∙ ap (λ (j : List Act). j ++ A.StoppedTaking frame c.board.result.now ∷ []) (c.popped.ensures.noted ∙ ap (λ (b : PortView). b.journal ++ A.Popped frame ∷ []) c.port.view_is);
      board = subst (λ (x : NodeView × NodeView). StopsTaking (part_of frame) x.0 x.1) (λ k. ((i.2.node_is ∙ ap node_in c.port.view_is) k, now.node_is k)) stops;
    })
