use Rattle.std.proofs.Common.{◌+◌, ◌++◌, ap, sym, ◌∙◌, length}
use Rattle.mpx_meaning.specs.Ranks.{origins_of}
use Rattle.mpx_meaning.specs.Standing.{awaited}
use Rattle.mpx_rank.specs.Shown.{rank_of}
use Rattle.mpx_rank.proofs.Moving.{asks_there}
use Rattle.mpx_rank.proofs.interpreter.Interpreter.ask_next.Goals as goal

pub returns : goal.returns
returns g c =
    let old = rank_of g.C.Carrier.place c.args.self.now in
    let origins = c.in_ok-push_origins.ensures ∙ ap (λ w. old.origins ++ origins_of (awaited w + length old.todo) 1) (sym c.requires.waits) in
    asks_there (g.C.Carrier.terms _) old c.args.carrier.now c.answer.new.carrier _ c.args.question.now c.args.rest.now c.in_ok-line.line c.requires.waits c.requires.todo c.in_ok-line.ensures.line
    (λ i. record { me = old.me; bound = old.bound; requests = old.requests; todo = c.args.rest.now; waits = sym c.requires.waits i; lines = sym c.in_ok-push.ensures.items i; origins = sym origins i })
    c.in_ok-line.ensures.same
