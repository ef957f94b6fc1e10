use Rattle.std.proofs.Common.{◌≡◌, ◌+◌, ◌++◌, ℕ, List, None, ap, sym, ◌∙◌, length}
use Rattle.mpx_statement.specs.Statements.{bound_to}
use Rattle.mpx_meaning.specs.Ranks.{origins_of}
use Rattle.mpx_meaning.specs.Standing.{awaited, binds, looked_up}
use Rattle.mpx_rank.specs.Shown.{rank_of}
use Rattle.mpx_rank.proofs.interpreter.Interpreter.be_refused.Goals as goal

pub returns-clause-line : goal.returns-clause-line
returns-clause-line g c =
    let old = rank_of g.C.Carrier.place c.args.self.now in
    let bound : (word : List ℕ) → looked_up c.bind.new.bound word ≡ binds (bound_to c.args.posting.now) None old.bound word = λ word. c.in_ok-bind.ensures.bound word ∙ ap (λ o. binds o None old.bound word) c.words_of.ensures.target in
    let origins = c.in_ok-push_origins.ensures ∙ ap (λ w. old.origins ++ origins_of (awaited w + length old.todo) 1) (sym c.requires) in
    λ i. record { me = old.me; bound = λ word. bound word i; requests = old.requests; todo = c.args.rest.now; waits = c.requires i; lines = c.in_ok-push.ensures.items i; origins = origins i }
