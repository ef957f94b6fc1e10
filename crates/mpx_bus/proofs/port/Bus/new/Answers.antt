use Rattle.std.proofs.Common.{◌≡◌, ◌+◌, sym, ap, ◌∙◌, subst}
use Rattle.crossbeam_queue.specs.Passes.{view}
use Rattle.mpx_node.specs.Nodes.{start_node}
use Rattle.mpx_bus.specs.declared.act.View.{View}
use Rattle.mpx_bus.specs.Views.{maker_of, opened, seat_of}
use Rattle.mpx_bus.specs.Ports.{port_view, IsFleet}
use Rattle.mpx_bus.proofs.Makes.{begins, seats_as, fleet_more}
use Rattle.mpx_bus.proofs.Ports.{new_port, none_kept}
use Rattle.mpx_bus.proofs.port.Bus.new.Goals as goal

pub ruled-requires-clause-rule : goal.ruled-requires-clause-rule
ruled-requires-clause-rule g c = begins

pub another-pass-requires-clause-rule : goal.another-pass-requires-clause-rule
another-pass-requires-clause-rule g c = seats_as _ _ _ _ c.loop-me.invariant.1

pub loop-me-preserved : goal.loop-me-preserved
loop-me-preserved g c =
    let i = c.loop-me.invariant in
    let a = c.another-pass.ensures in
    let setup = g.N.Named.setup in
    let seat : view c.another-pass.result ≡ opened setup c.loop-me.me = a.rule.1 ∙ ap (λ (u : View). opened u.setup u.made) i.1 in (
      (a.queue.0.0 ∙ i.0.0, a.queue.0.2 ∙ i.0.1),
      a.rule.0 ∙ ap (λ (u : View). maker_of u.setup (u.made + 1)) i.1,
      subst (IsFleet setup c.in_ok-queue.queue.table.shared.table_id (c.loop-me.me + 1)) (sym c.in_ok-push.ensures.items)
          (fleet_more setup c.in_ok-queue.queue.table.shared.table_id c.loop-me.me c.loop-me.ports.items (port_view (view c.another-pass.result) (view c.in_ok-empty.line) c.new-kept.result.items c.another-pass.result.table_id c.another-pass.result.id) i.2
          (record {
            me_is = ap (λ (u : View). (seat_of u).me) seat;
            journal_is = c.in_ok-empty.ensures.1;
            published_is = ap (λ (u : View). (seat_of u).journal) seat;
            kept_is = c.new-kept.ensures.items;
            setup_is = ap (λ (u : View). u.setup) seat;
            table_is = a.queue.1.0;
          })),
    )

pub invariant_of-push : goal.invariant_of-push
invariant_of-push g c =
    let a = c.another-pass.ensures in
    let setup = g.N.Named.setup in (
      a.queue.1.1,
      c.in_ok-empty.ensures.0,
      new_port setup c.loop-me.me _ _ _ (c.in_ok-node.ensures ∙ (λ i. start_node (c.new.ensures i) (sym c.requires.setup.0 i) (sym c.requires.setup.1 i))) (a.rule.1 ∙ ap (λ (u : View). opened u.setup u.made) c.loop-me.invariant.1) c.in_ok-empty.ensures.1,
      none_kept _ _ _ c.new-kept.result.items c.new-kept.ensures.items,
    )
