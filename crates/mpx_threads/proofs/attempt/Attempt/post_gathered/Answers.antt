use Rattle.std.proofs.Common.{◌≡◌, ◌+◌, of_z, rules, subst, sym, to_z}
use Rattle.std.specs.Prelude.{Err, Ok}
use Rattle.std.proofs.lemmas.Int.{to_z-of_z}
use mir.Syntax.{w128}
use Rattle.mpx_shared.specs.LawfulPorts.{IsNext}
use Rattle.mpx_shared.specs.Tickets.{OpensThen}
use Rattle.mpx_post.specs.declared.draft.PostError.TheVariants.{NotMember}
use Rattle.mpx_statement.specs.Statements.{draft_of}
use Rattle.mpx_rank.specs.Carriers.{placed}
use Rattle.mpx_threads.specs.ToldCalls.{PostsAs, on_context, place_of}
use Rattle.mpx_threads.proofs.Posting.{comes_below, gathering_refused, next_below}
use Rattle.mpx_threads.proofs.attempt.Attempt.post_gathered.Goals as goal

pub post_on-requires-clause-next : goal.post_on-requires-clause-next
post_on-requires-clause-next g c =
    let d = g.L.PortLock in
    let tag : to_z w128 (of_z w128 c.args.tag.now) ≡ c.args.tag.now = search (rules, to_z-of_z) in
    subst (λ n. IsNext d.setup d.me (d.before + n) c.in-Ok.name (draft_of c.args.self.now.posting.now)) (sym c.in-Ok.ensures.amount)
    (next_below d.table d.setup d.me c.requires.can.1.1 (d.before + c.args.poster.now.share.amount) c.args.parent.now c.args.tag.now c.args.ranks.now (draft_of c.args.self.now.posting.now) c.in-Ok.name (subst (λ z. OpensThen d.table d.setup d.me d.opening (d.before + c.args.poster.now.share.amount) c.args.parent.now z c.args.ranks.now (Ok c.in-Ok.name)) tag c.in-Ok.ensures.then) c.requires.next)

pub returns-in-Ok : goal.returns-in-Ok
returns-in-Ok g c =
    let d = g.L.PortLock in
    let tag : to_z w128 (of_z w128 c.args.tag.now) ≡ c.args.tag.now = search (rules, to_z-of_z) in
    comes_below d.table d.setup d.me c.requires.can.1.1 (d.before + c.args.poster.now.share.amount) c.args.parent.now c.args.tag.now c.args.ranks.now (draft_of c.args.self.now.posting.now) c.in-Ok.name (subst (λ z. OpensThen d.table d.setup d.me d.opening (d.before + c.args.poster.now.share.amount) c.args.parent.now z c.args.ranks.now (Ok c.in-Ok.name)) tag c.in-Ok.ensures.then) (placed place_of c.post_on.result) c.args.poster.now.share.amount c.post_on.new.poster.share.amount
    (subst (λ n. PostsAs d.setup d.me d.before c.in-Ok.name (on_context d.setup.operations d.me c.args.self.now.posting.now c.in-Ok.name) c.post_on.result n c.post_on.new.poster.share.amount) c.in-Ok.ensures.amount c.post_on.ensures)

pub returns-else-is_no_member : goal.returns-else-is_no_member
returns-else-is_no_member g c =
    let d = g.L.PortLock in
    let tag : to_z w128 (of_z w128 c.args.tag.now) ≡ c.args.tag.now = search (rules, to_z-of_z) in
    let other : c.in-Err.refusal ≡ NotMember → ⊥ = λ e. let yes = c.is_no_member.ensures.1 e in let shut = c.if-is_no_member.false in cc in
    gathering_refused d.table d.setup d.me c.requires.can.1.1 (d.before + c.args.poster.now.share.amount) c.args.parent.now c.args.tag.now c.args.ranks.now (draft_of c.args.self.now.posting.now) c.in-Err.refusal other (subst (λ z. OpensThen d.table d.setup d.me d.opening (d.before + c.args.poster.now.share.amount) c.args.parent.now z c.args.ranks.now (Err c.in-Err.refusal)) tag c.in-Err.ensures.then) c.args.poster.now.share.amount c.open_gathering.new.poster.share.amount c.in-Err.ensures.amount
