use Rattle.mpx_comm.proofs.Posting.{asked_kept, called, called_given_up, called_in_vain, called_without_memory}
use Rattle.mpx_comm.proofs.desk.Desk.call_on.Goals as goal

pub returns-in-Ok-wait : goal.returns-in-Ok-wait
returns-in-Ok-wait g c = called _ g.H.Host.node g.H.Host.turned g.H.Host.turn_refused c.args.name.now c.args.draft c.args.self.now.host c.post_on.new.self.host c.wait.new.self.host c.args.self.now.requests.keys c.post_on.new.self.requests.keys c.wait.new.self.requests.keys c.args.turns
    c.in-Ok.request c.in-Ok.ensures.asks c.post_on.ensures.no_turn c.wait.ensures.later c.in-Ok-wait.finished c.in-Ok-wait.ensures.waits

pub returns-in-Err-StillWaiting : goal.returns-in-Err-StillWaiting
returns-in-Err-StillWaiting g c = called_in_vain _ g.H.Host.node g.H.Host.turned g.H.Host.turn_refused c.args.name.now c.args.draft c.args.self.now.host c.post_on.new.self.host c.wait.new.self.host c.args.self.now.requests.keys c.post_on.new.self.requests.keys c.wait.new.self.requests.keys c.args.turns
    c.in-Ok.request c.in-Ok.ensures.asks c.post_on.ensures.no_turn c.wait.ensures.later c.in-Err-StillWaiting.request (rw c.in-Err-StillWaiting.field-0-is at c.in-Err-StillWaiting.ensures.waits)

pub returns-in-Err-OutOfMemory : goal.returns-in-Err-OutOfMemory
returns-in-Err-OutOfMemory g c = called_without_memory _ g.H.Host.node g.H.Host.turned g.H.Host.turn_refused c.args.name.now c.args.draft c.args.self.now.host c.post_on.new.self.host c.wait.new.self.host c.args.self.now.requests.keys c.post_on.new.self.requests.keys c.wait.new.self.requests.keys c.args.turns
    c.in-Ok.request c.in-Ok.ensures.asks c.post_on.ensures.no_turn c.wait.ensures.later c.in-Err-OutOfMemory.request (rw c.in-Err-OutOfMemory.field-0-is at c.in-Err-OutOfMemory.ensures.waits)

pub returns-in-Err-GaveUp : goal.returns-in-Err-GaveUp
returns-in-Err-GaveUp g c = called_given_up _ g.H.Host.node g.H.Host.turned g.H.Host.turn_refused c.args.name.now c.args.draft c.args.self.now.host c.post_on.new.self.host c.wait.new.self.host c.args.self.now.requests.keys c.post_on.new.self.requests.keys c.wait.new.self.requests.keys c.args.turns
    c.in-Ok.request c.in-Ok.ensures.asks c.post_on.ensures.no_turn c.wait.ensures.later c.in-Err-GaveUp.request c.in-Err-GaveUp.rank (rw c.in-Err-GaveUp.field-0-is at c.in-Err-GaveUp.ensures.waits)

pub unreachable-requires : goal.unreachable-requires
unreachable-requires g c =
    let kept = asked_kept _ (g.H.Host.node c.args.self.now.host) (g.H.Host.node c.post_on.new.self.host) c.args.name.now c.args.draft c.in-Ok.request c.args.self.now.requests.keys c.post_on.new.self.requests.keys (g.met.H.Host.bounded c.args.self.now.host c.args.name.now) c.in-Ok.ensures.asks in
    let waits = rw c.in-Err-LetGo.field-0-is at c.in-Err-LetGo.ensures.waits in
    cc (waits.1, kept)
