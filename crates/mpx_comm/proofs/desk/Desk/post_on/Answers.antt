use Rattle.std.proofs.Common.{◌≡◌, ◌++◌, [], ◌∷◌, List, sym, ap, ◌∙◌, refl, subst}
use Rattle.indexmap.specs.IndexSet.{insert_key}
use Rattle.mpx_request.specs.declared.request.Request.{Request}
use Rattle.mpx_request.specs.Requests.{same_request}
use Rattle.mpx_comm.specs.Calls.{ArePosted}
use Rattle.mpx_comm.proofs.Posting.{ok_holds, post_done, posted_exactly, posts_keep}
use Rattle.mpx_node.specs.Nodes.{checked_on}
use Rattle.mpx_comm.proofs.desk.Desk.post_on.Goals as goal

pub invariant_of-self-2 : goal.invariant_of-self-2
invariant_of-self-2 g c =
    let is : c.new.result ≡ record { name = c.args.name.now; call = c.in_ok-call.call } = c.new.ensures ∙ (λ i. record { name = c.in-Ok.ensures.names.1 i; call = c.in_ok-call.call }) in
    let keys : c.insert.new.self.keys ≡ insert_key same_request c.args.self.now.requests.keys c.new.result = ok_holds c.insert.result (c.insert.ensures.succeeds c.in-Ok.ensures.room) c.insert.ensures.keys ∙ ap (λ (rs : List Request). insert_key same_request rs c.new.result) c.room_and_names.ensures.keys in
    record { posted = (post_done _ (g.H.Host.node c.args.self.now.host) (g.H.Host.node c.post.new.self) c.args.name.now c.in_ok-call.call c.args.draft c.args.self.now.requests.keys c.insert.new.self.keys c.new.result (g.met.H.Host.bounded c.args.self.now.host c.args.name.now) c.args.self.now.posted c.in_ok-call.ensures.posts is keys).1 }

pub returns-clause-asks : goal.returns-clause-asks
returns-clause-asks g c =
    let is : c.new.result ≡ record { name = c.args.name.now; call = c.in_ok-call.call } = c.new.ensures ∙ (λ i. record { name = c.in-Ok.ensures.names.1 i; call = c.in_ok-call.call }) in
    let same : c.new-2.result ≡ c.new.result = c.new-2.ensures ∙ (λ i. record { name = c.in-Ok.ensures.names.0 i; call = c.in_ok-call.call }) ∙ sym is in
    let keys : c.insert.new.self.keys ≡ insert_key same_request c.args.self.now.requests.keys c.new.result = ok_holds c.insert.result (c.insert.ensures.succeeds c.in-Ok.ensures.room) c.insert.ensures.keys ∙ ap (λ (rs : List Request). insert_key same_request rs c.new.result) c.room_and_names.ensures.keys in
    let done = post_done _ (g.H.Host.node c.args.self.now.host) (g.H.Host.node c.post.new.self) c.args.name.now c.in_ok-call.call c.args.draft c.args.self.now.requests.keys c.insert.new.self.keys c.new.result (g.met.H.Host.bounded c.args.self.now.host c.args.name.now) c.args.self.now.posted c.in_ok-call.ensures.posts is keys in (
      same ∙ done.0.0,
      done.0.1,
      done.0.2 ∙ ap (λ (r : Request). c.args.self.now.requests.keys ++ r ∷ []) (sym same),
      posted_exactly _ (g.H.Host.node c.args.self.now.host) (g.H.Host.node c.post.new.self) c.args.name.now c.in_ok-call.call c.args.draft c.in_ok-call.ensures.posts,
    )

pub returns-in_default-clause-asks : goal.returns-in_default-clause-asks
returns-in_default-clause-asks g c = (c.refusal_or_memory.ensures (checked_on _ (g.H.Host.node c.args.self.now.host) c.args.name.now c.args.draft) c.refusal-refusal.ensures, refl, c.room_and_names.ensures.keys)

pub returns-in_default-clause-no_turn : goal.returns-in_default-clause-no_turn
returns-in_default-clause-no_turn g c = g.met.H.Host.turns_none c.args.self.now.host

-- the open requests are as they were, and stay posted
pub invariant_of-self-in-Break-1 : goal.invariant_of-self-in-Break-1
invariant_of-self-in-Break-1 g c = record {
  posted = subst (ArePosted (g.H.Host.node c.post.new.self)) (sym c.room_and_names.ensures.keys)
      (posts_keep c.args.name.now (checked_on _ (g.H.Host.node c.args.self.now.host) c.args.name.now c.args.draft) c.post.result (g.H.Host.node c.args.self.now.host) (g.H.Host.node c.post.new.self) c.args.self.now.requests.keys c.post.ensures.posts c.args.self.now.posted);
}

pub returns-in_err-call-clause-no_turn : goal.returns-in_err-call-clause-no_turn
returns-in_err-call-clause-no_turn g c = c.post.ensures.no_turn

pub returns-clause-no_turn : goal.returns-clause-no_turn
returns-clause-no_turn g c = c.post.ensures.no_turn
