use Rattle.std.proofs.Common.{◌≡◌, ◌==◌, ◌∙◌, sym, rules, tests}
use Rattle.std.proofs.lemmas.Iterator.{YieldsList-from_slice}
use Rattle.std.proofs.lemmas.Iterator.Search.{position_from_yields_List}
use Rattle.mpx_birth.specs.Births.{rank_in}
use Rattle.mpx_birth.proofs.birth.Birth.rank_of.Goals as goal

pub returns-in_err-place : goal.returns-in_err-place
returns-in_err-place c =
    let found : c.position.result ≡ rank_in c.args.process c.args.self.now.members = position_from_yields_List (λ q. q == c.args.process) _ _ c.position.result c.position.ensures.ran (YieldsList-from_slice _ cc) (λ x b q k. search (rules, tests)) in
    c.from_residual.ensures ∙ sym c.in_err-place.was ∙ found

pub returns : goal.returns
returns c =
    let found : c.position.result ≡ rank_in c.args.process c.args.self.now.members = position_from_yields_List (λ q. q == c.args.process) _ _ c.position.result c.position.ensures.ran (YieldsList-from_slice _ cc) (λ x b q k. search (rules, tests)) in
    sym c.in_ok-place.was ∙ found
