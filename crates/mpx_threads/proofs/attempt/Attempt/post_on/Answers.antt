use Rattle.std.proofs.Common.{◌≡◌, ◌+◌, subst}
use Rattle.std.specs.Prelude.{Ok, Err}
use Rattle.mpx_post.specs.declared.draft.PostError.TheVariants.{NotMember}
use Rattle.mpx_statement.specs.Statements.{draft_of}
use Rattle.mpx_shared.specs.Tickets.{PostsThen}
use Rattle.mpx_threads.proofs.Posting.{posted_so, refused_so}
use Rattle.mpx_threads.proofs.attempt.Attempt.post_on.Goals as goal

pub returns-in-Ok-post : goal.returns-in-Ok-post
returns-in-Ok-post g c = λ birth born.
    let d = g.L.PortLock in
    let count = d.before + c.args.poster.now.share.amount in
    let then = subst (λ x. PostsThen d.table d.setup d.me d.opening count c.args.name.now x (Ok c.in-Ok-post.ticket)) c.in-Ok.ensures c.in-Ok-post.ensures.then in
    posted_so d.table d.setup d.me c.requires.can.1.1 count c.args.name.now (draft_of c.args.self.now.posting.now) birth born c.in-Ok-post.ticket then c.args.poster.now.share.amount c.post.new.poster.share.amount c.in-Ok-post.ensures.ok

pub returns-else-is_no_member : goal.returns-else-is_no_member
returns-else-is_no_member g c = λ birth born.
    let d = g.L.PortLock in
    let count = d.before + c.args.poster.now.share.amount in
    let then = subst (λ x. PostsThen d.table d.setup d.me d.opening count c.args.name.now x (Err c.in-Err.refusal)) c.in-Ok.ensures c.in-Err.ensures.then in
    let other : c.in-Err.refusal ≡ NotMember → ⊥ = λ e. let yes = c.is_no_member.ensures.1 e in let shut = c.if-is_no_member.false in cc in
    refused_so d.table d.setup d.me c.requires.can.1.1 count c.args.name.now (draft_of c.args.self.now.posting.now) birth born c.in-Err.refusal other then c.args.poster.now.share.amount c.post.new.poster.share.amount c.in-Err.ensures.err
