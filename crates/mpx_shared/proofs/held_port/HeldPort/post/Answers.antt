use Rattle.std.proofs.Common.{◌+◌, ◌∙◌, Err, Ok, refl, sym, ap, subst, arith, rules}
use Rattle.mpx_node.specs.Nodes.{NodeView, Posts, checked_on, posted_on}
use Rattle.mpx_node.specs.Shown.{node_of}
use Rattle.mpx_bus.specs.declared.act.Setup.{Setup}
use Rattle.mpx_bus.specs.Ports.{PortView, node_in}
use Rattle.mpx_shared.specs.LawfulPorts.{with_context}
use Rattle.mpx_shared.proofs.LawfulPorts.{checks_by, lawful_of, held_me, held_posts, posts_as, refused_then, stays}
use Rattle.mpx_shared.proofs.held_port.HeldPort.post.Goals as goal

pub ticket_for-requires : goal.ticket_for-requires
ticket_for-requires g c = c.self.invariant.0 ∙ sym (held_me c.self.inside.port c.self.invariant.1 c.node.ensures.stood) ∙ ap (λ (n : NodeView). n.me) (sym c.node.ensures.node)

pub post_counted-requires-clause-list : goal.post_counted-requires-clause-list
post_counted-requires-clause-list g c = c.requires.list ∙ ap (λ (s : Setup). s.operations) (sym c.self.invariant.1.setup_is)

pub invariant_of-self-2 : goal.invariant_of-self-2
invariant_of-self-2 g c = (
  c.self.invariant.0,
  held_posts c.args.share.now.amount c.args.name.now c.args.draft c.in_ok-ticket.ticket.post c.in-Ok.context c.self.inside.port c.post_counted.new.port c.post_counted.new.book.total c.add_context.new.contexts.items c.self.invariant.1 c.node.ensures.stood
      (c.audit.ensures.whole c.requires.whole.0) (c.in_ok-_call.ensures.counted.0 ∙ ap (λ n. n + 1) c.audit.ensures.total) c.requires.next
      (checks_by _ _ _ (node_in c.self.inside.port) c.args.name.now c.args.draft c.in_ok-ticket.ticket.post c.requires.list c.node.ensures.node c.in_ok-ticket.ensures.ok.1.1) c.in-Ok.ensures.new c.in-Ok.ensures.listed
      (c.add_context.ensures ∙ ap (λ contexts. with_context contexts c.in-Ok.context) c.in-Ok.ensures.kept) c.in_ok-_call.ensures.port.same c.in_ok-_call.ensures.ok,
)

pub returns-clause-then : goal.returns-clause-then
returns-clause-then g c =
    let checks = checks_by _ _ _ (node_in c.self.inside.port) c.args.name.now c.args.draft c.in_ok-ticket.ticket.post c.requires.list c.node.ensures.node c.in_ok-ticket.ensures.ok.1.1 in
    let list = ap (λ (s : Setup). s.operations) c.self.invariant.1.setup_is in
    let node = subst (λ o. Posts c.args.name.now (checked_on o (node_in c.self.inside.port) c.args.name.now c.args.draft) (Ok c.in_ok-_call._call) (node_in c.self.inside.port) (node_in c.post_counted.new.port)) list c.in_ok-_call.ensures.node in
    let same = c.audit.ensures.whole c.requires.whole.0 in
    let counted = c.self.invariant.1.counted in
    record {
      before = c.self.inside.port;
      after = c.post_counted.new.port;
      lawful_before = lawful_of c.self.inside.port c.self.invariant.1 c.node.ensures.stood;
      lawful_after = lawful_of c.post_counted.new.port (invariant_of-self-2 g c).1 c.node-node.ensures.stood;
      gone_on = c.self.invariant.1.gone_on;
      counted = omega (arith, counted, same);
      posts = posts_as c.args.name.now _ c.in_ok-ticket.ticket.post _ c.in_ok-ticket.ticket.call _ _ checks node (c.in_ok-ticket.ensures.ok.1.0 ∙ ap (λ (n : NodeView). posted_on n c.args.name.now) c.node.ensures.node);
      ticket = (c.in_ok-ticket.ensures.ok.0, checks);
      goes = c.in_ok-_call.ensures.port;
      acts = c.in_ok-_call.ensures.ok;
      kept = c.in_ok-_call.ensures.kept;
    }

pub returns-in_err-ticket-clause-then : goal.returns-in_err-ticket-clause-then
returns-in_err-ticket-clause-then g c =
    refused_then _ c.args.share.now.amount c.self.inside.port (node_of c.node.result.now) c.args.name.now c.args.draft _ c.from_residual.result c.self.invariant.1 c.node.ensures.stood
    (c.audit.ensures.whole c.requires.whole.0) c.node.ensures.node c.requires.list c.in_err-ticket.ensures.err (search rules)

pub returns-in_err-_call-clause-then : goal.returns-in_err-_call-clause-then
returns-in_err-_call-clause-then g c =
    refused_then _ c.args.share.now.amount c.self.inside.port (node_in c.self.inside.port) c.args.name.now c.args.draft c.in_err-_call.field-0.0 c.from_residual-in_err-_call.result c.self.invariant.1 c.node.ensures.stood
    (c.audit.ensures.whole c.requires.whole.0) refl (ap (λ (s : Setup). s.operations) c.self.invariant.1.setup_is)
    (subst (λ (b : PortView). Posts c.args.name.now (checked_on c.self.inside.port.setup.operations (node_in c.self.inside.port) c.args.name.now c.args.draft) (Err c.in_err-_call.field-0.0) (node_in c.self.inside.port) (node_in b)) c.in_err-_call.ensures.err c.in_err-_call.ensures.node)
    (search rules)

pub returns-in_default-clause-port : goal.returns-in_default-clause-port
returns-in_default-clause-port g c = stays c.self.inside.port c.args.self.now.0 (search rules)
