use Rattle.std.proofs.Common.{◌+◌, ◌++◌, List, map, ap, refl, sym, ◌∙◌, subst, length}
use Rattle.mpx_num.specs.declared.own.Operation.{Operation}
use Rattle.mpx_num.specs.Own.{operation_of}
use Rattle.mpx_meaning.specs.Ranks.{origins_of}
use Rattle.mpx_meaning.specs.Standing.{awaited}
use Rattle.mpx_rank.specs.Moves.{Move, RankView, passes, passes_not}
use Rattle.mpx_rank.specs.Shown.{rank_of}
use Rattle.mpx_rank.proofs.interpreter.Interpreter.wait_next.Goals as goal

pub returns-then-not-branch : goal.returns-then-not-branch
returns-then-not-branch g c =
    let was = c.in_ok-are_done.ensures.not_done c.if-not-branch.true in
    (refl, passes_not c.args.words.now c.args.rest.now c.requires.waits c.requires.todo was.after was.not_done was.before)

pub returns : goal.returns
returns g c =
    let ops : List Operation = map (λ b. let o = goal.OwnOp-dyn g (b.vtable, b.value) in operation_of (o.word_bytes b.value) (o.fits_type b.value) (o.combination b.value)) c.args.ops.now.list.items in
    let terms = g.C.Carrier.terms ops in
    let old = rank_of g.C.Carrier.place c.args.self.now in
    let origins = c.in_ok-push_origins.ensures ∙ ap (λ w. old.origins ++ origins_of (awaited w + length old.todo) (length c.args.words.now)) (sym c.requires.waits) in
    subst (λ (r : RankView g.row.C-Communicator.Denot). Move terms old c.args.carrier.now r c.close_all.new.carrier)
    (λ i. record { me = old.me; bound = old.bound; requests = λ word. sym (c.in_ok-close_all.ensures.requests word) i; todo = c.args.rest.now; waits = sym c.requires.waits i; lines = sym c.in_ok-close_all.ensures.lines i; origins = sym origins i })
    (passes c.args.words.now c.args.rest.now c.requires.waits c.requires.todo c.in_ok-are_done.ensures.hears (c.in_ok-are_done.ensures.done c.if-not-branch.false) c.in_ok-close_all.ensures.hears)
