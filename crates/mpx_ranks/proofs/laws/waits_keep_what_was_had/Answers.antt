use Rattle.mpx_ranks.proofs.Keeping.{had_calls, had_waits_and_forgets}
use Rattle.mpx_ranks.proofs.laws.waits_keep_what_was_had.Goals as goal

pub returns-clause-given : goal.returns-clause-given
returns-clause-given g c a b request turns finished before after w = g.met.H.Host.had_now b request.name request.call finished w.0

pub returns-clause-let_go : goal.returns-clause-let_go
returns-clause-let_go g c a b request turns finished before after (waited, waits, since, lets) =
    g.met.H.Host.had_later waited b 0 request.name request.call finished lets.1 (g.met.H.Host.had_now waited request.name request.call finished waits.0)

pub returns-clause-waits : goal.returns-clause-waits
returns-clause-waits g c a b request turns answer before after w name call finished =
    had_waits_and_forgets g.H.Host.node g.H.Host.turned g.H.Host.turn_refused (λ h. g.H.Host.has_had h name call finished)
    (λ x y n t. g.met.H.Host.had_later x y n name call finished t) (λ x y why t. g.met.H.Host.had_refused x y why name call finished t) request turns answer a b before after w

pub returns-clause-calls : goal.returns-clause-calls
returns-clause-calls g c ops a b on draft turns answer before after w name call finished =
    had_calls g.H.Host.node g.H.Host.turned g.H.Host.turn_refused (λ h. g.H.Host.has_had h name call finished)
    (λ x y n t. g.met.H.Host.had_later x y n name call finished t) (λ x y why t. g.met.H.Host.had_refused x y why name call finished t) ops on draft turns answer a b before after w
