use Rattle.std.proofs.Common.{◌≡◌, ◌<◌, ◌∙◌, [], List, Some, ap, get_or, map, subst, sym, ℕ}
use Rattle.std.specs.Prelude.{IfOk}
use Rattle.mpx_num.specs.declared.own.Operation.{Operation}
use Rattle.mpx_num.specs.Own.{operation_of}
use Rattle.mpx_birth.specs.Births.{of_members, upto}
use Rattle.mpx_rank.specs.Moves.{GoesOn, bound_first}
use Rattle.mpx_rank.specs.Places.{end_of_rank}
use Rattle.mpx_rank.specs.Shown.{rank_of}
use Rattle.mpx_meaning.specs.Ends.{end_view}
use Rattle.mpx_threads.specs.ToldCalls.{place_of, thread_terms}
use Rattle.mpx_threads.specs.Work.{HasCome}
use Rattle.mpx_threads.proofs.Coming.{has_come, may_go, stands_first}
use Rattle.mpx_threads.proofs.Plans.{statements_at}
use Rattle.mpx_threads.proofs.carry.carry_out.Goals as goal

pub go_on-moved-requires : goal.go_on-moved-requires
go_on-moved-requires g c =
    let d = g.L.PortLock in
    let script = c.args.script.now in
    let r = rank_of place_of c.in-Ok-new.rank in
    let first = c.in-Ok-new.ensures in
    let bound = λ (word : List ℕ). first.bound word ∙ λ i. bound_first (Some (c.world-in-Ok.ensures i, (c.in-Ok.ensures ∙ ap (λ n. of_members (upto n)) c.ranks.ensures.ranks) i)) word in
    let todo = first.todo ∙ c.statements.ensures ∙ ap (λ n. get_or script.statements n []) (c.number.ensures.number ∙ c.requires.me.0) ∙ statements_at script.statements d.me in
    may_go script c.requires.plan.0 d.setup c.requires.plan.1 d.me d.before ((d.all ≡ g.L.Ledger.parts) × (0 < g.L.Ledger.parts)) _ c.requires.list c.requires.ledger c.requires.new.0 r (first.me ∙ c.requires.me.0)
    (stands_first script d.me r bound first.requests todo first.waits first.lines first.origins) c.new-desk.result (ap (λ v. v.1) c.new-desk.ensures ∙ c.requires.new.1)

pub returns-in-Ok-end : goal.returns-in-Ok-end
returns-in-Ok-end g c =
    let d = g.L.PortLock in
    let script = c.args.script.now in
    let r = rank_of place_of c.in-Ok-new.rank in
    let first = c.in-Ok-new.ensures in
    let bound = λ (word : List ℕ). first.bound word ∙ λ i. bound_first (Some (c.world-in-Ok.ensures i, (c.in-Ok.ensures ∙ ap (λ n. of_members (upto n)) c.ranks.ensures.ranks) i)) word in
    let todo = first.todo ∙ c.statements.ensures ∙ ap (λ n. get_or script.statements n []) (c.number.ensures.number ∙ c.requires.me.0) ∙ statements_at script.statements d.me in
    let went = rank_of place_of c.go_on-moved.new.self in
    let left = c.go_on-moved.new.carrier in
    let end = end_view c.in-Ok-end.end in
    let ends = subst (λ o. IfOk o (λ end. end_view end ≡ end_of_rank went)) c.in-Ok-end.is c.into_end-end.ensures in
    let ops : List Operation = map (λ b. let o = goal.OwnOp-dyn g (b.vtable, b.value) in operation_of (o.word_bytes b.value) (o.fits_type b.value) (o.combination b.value)) c.args.ops.now.list.items in
    let terms = thread_terms ops d.setup d.me d.before ((d.all ≡ g.L.Ledger.parts) × (0 < g.L.Ledger.parts)) in
    let goes = subst (λ o. IfOk o (GoesOn terms r c.new-desk.result went left)) c.in-Ok-moved.is c.go_on-moved.ensures.goes in
    let come : HasCome script d.setup d.me left.1 end =
    has_come script c.requires.plan.0 d.setup c.requires.plan.1 d.me d.before ((d.all ≡ g.L.Ledger.parts) × (0 < g.L.Ledger.parts)) ops c.requires.list c.requires.ledger c.requires.new.0 r (first.me ∙ c.requires.me.0)
    (stands_first script d.me r bound first.requests todo first.waits first.lines first.origins) c.new-desk.result (ap (λ v. v.1) c.new-desk.ensures ∙ c.requires.new.1)
    went left c.in-Ok-moved.field-0 goes end ends in
    subst (λ p. HasCome script d.setup p c.into_poster-poster.result.share.amount end) (sym c.requires.me.0)
    (subst (λ n. HasCome script d.setup d.me n end) (sym c.into_poster-poster.ensures) come)
