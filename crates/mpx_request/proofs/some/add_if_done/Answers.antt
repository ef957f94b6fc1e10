use Rattle.std.proofs.Common.{◌≡◌, ◌++◌, [], ◌∷◌, Some, inl, ap, ◌∙◌}
use Rattle.mpx_request.specs.Requests.{result_of}
use Rattle.mpx_request.proofs.some.add_if_done.Goals as goal

pub returns-in_ok-push-in-Some-clause-added : goal.returns-in_ok-push-in-Some-clause-added
returns-in_ok-push-in-Some-clause-added g c =
    let stored : result_of (g.H.Host.node c.look.new.host) c.args.request.now ≡ Some c.in-Some.finished = rw c.in-Some.is at c.in_ok-look.ensures.found in
    let both : c.in_ok-both-in-Some.both ≡ (c.args.request.now, c.in-Some.finished) = λ i. (c.in_ok-both-in-Some.ensures.0 i, c.in_ok-both-in-Some.ensures.1 i) in
    inl (c.in-Some.finished, stored, c.in_ok-push-in-Some.ensures.items ∙ ap (λ b. c.args.done.now.items ++ b ∷ []) both)
