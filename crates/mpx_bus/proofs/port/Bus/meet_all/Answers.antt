use Rattle.std.proofs.Common.{◌≡◌, ◌<◌, ℕ, zero, suc, List, [], ◌∷◌, ◌++◌, Some, length, map, slice_get, arith, rules, sym, ap, ◌∙◌, subst}
use Rattle.std.proofs.lemmas.Iterator.Adapters.{YieldsList-from_vec}
use Rattle.std.proofs.lemmas.Iterator.Consumers.{YieldsList-end, YieldsList-turn}
use Rattle.std.proofs.lemmas.List.{map-id, map_push}
use lib.ListN.{get_or}
use Rattle.crossbeam_queue.specs.Passes.{view}
use Rattle.mpx_node.specs.Shown.{node_of}
use Rattle.mpx_bus.proofs.Meets.{learns}
use Rattle.mpx_bus.proofs.Meetings.{IsMeeting, all_met, meeting_begins, meeting_more, meeting_stands, setups_of}
use Rattle.mpx_bus.proofs.port.Bus.meet_all.Goals as goal

-- what is read at a place stands there
got : {A : Type 0} (xs : List A) (i : ℕ) (x : A) → i < length xs → x ≡ get_or xs i x → slice_get xs i ≡ Some x
got [] i x l e = absurd (omega (arith, l))
got (y ∷ xs) zero x l e = ap Some (sym e)
got (y ∷ xs) (suc i) x l e = got xs i x (omega (arith, l)) e

pub take_in-requires-clause-table : goal.take_in-requires-clause-table
take_in-requires-clause-table g c =
    let turn = YieldsList-turn (YieldsList-from_vec c.args.others.items (search rules) (search rules)) c.loop-port.yielded c.loop-port.port-iterator c.loop-port.yielded_by c.next.result c.next.new.self c.in-Some.port c.in-Some.is c.next.ensures.steps in
    c.requires.tables (length c.loop-port.yielded) c.in-Some.port (got c.args.others.items (length c.loop-port.yielded) c.in-Some.port turn.0 turn.1)

pub take_in-requires-clause-stands : goal.take_in-requires-clause-stands
take_in-requires-clause-stands g c = meeting_stands _ _ _ _ c.loop-port.invariant.1

pub loop-port-init : goal.loop-port-init
loop-port-init g c =
    let setup = g.N.Named.setup in
    let node = c.taken_in-node.result.0 in
    let nodes : map node_of c.push.new.self.items ≡ node_of node ∷ [] = ap (map node_of) (c.in_ok-push.ensures.items ∙ ap (λ l. l ++ node ∷ []) c.new-nodes.ensures.items) in (
      (c.taken_in-node.ensures.table ∙ c.requires.first.0, c.taken_in-node.ensures.place),
      subst (λ ns. IsMeeting setup (view c.taken_in-node.result.1) ns (c.args.first ∷ [])) (sym nodes)
          (meeting_begins setup (view c.taken_in-node.result.1) (node_of node) c.args.first c.requires.first.1 c.taken_in-node.ensures.stands c.taken_in-node.ensures.node c.taken_in-node.ensures.ahead),
    )

pub loop-port-preserved : goal.loop-port-preserved
loop-port-preserved g c =
    let setup = g.N.Named.setup in
    let i = c.loop-port.invariant in
    let same = c.take_in.ensures.queue in
    let node = c.take_in.result in
    let nodes : map node_of c.push-in-loop-port.new.self.items ≡ map node_of c.loop-port.nodes.items ++ node_of node ∷ [] = ap (map node_of) c.in_ok-push-2.ensures.items ∙ map_push node_of c.loop-port.nodes.items node in (
      (same.0 ∙ i.0.0, same.2 ∙ i.0.1),
      subst (λ ns. IsMeeting setup (view c.take_in.new.all) ns (c.args.first ∷ c.loop-port.yielded ++ c.in-Some.port ∷ [])) (sym nodes)
          (meeting_more setup (view c.loop-port.all) (view c.take_in.new.all) (map node_of c.loop-port.nodes.items) (c.args.first ∷ c.loop-port.yielded) (node_of node) c.in-Some.port i.1 c.take_in.ensures.stands c.take_in.ensures.node c.take_in.ensures.ahead),
    )

pub learn_as-requires-clause-rule : goal.learn_as-requires-clause-rule
learn_as-requires-clause-rule g c = learns _ _ (ap (λ u. u.named) c.loop-port.invariant.1.stands)

pub returns-clause-history : goal.returns-clause-history
returns-clause-history g c =
    let setup = g.N.Named.setup in
    let all = view c.loop-port.all in
    let nodes = map node_of c.loop-port.nodes.items in
    let end = YieldsList-end (YieldsList-from_vec c.args.others.items (search rules) (search rules)) c.loop-port.yielded c.loop-port.port-iterator c.loop-port.yielded_by c.next.result c.next.new.self c.in-None.is c.next.ensures.steps in
    let whole : c.loop-port.yielded ≡ c.args.others.items = sym (map-id c.loop-port.yielded) ∙ end.0 in
    let meeting : IsMeeting setup all nodes (c.args.first ∷ c.args.others.items) = subst (λ ps. IsMeeting setup all nodes (c.args.first ∷ ps)) whole c.loop-port.invariant.1 in
    all_met setup all nodes (c.args.first ∷ c.args.others.items) meeting (setups_of setup c.args.first c.args.others.items c.requires.first.1 c.requires.setups) c.learn_as.ensures.rule.1
