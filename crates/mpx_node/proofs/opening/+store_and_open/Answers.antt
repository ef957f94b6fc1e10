use Rattle.std.proofs.Common.{◌∙◌, sym}
use Rattle.mpx_node.proofs.Openings.{open_before, closed_again}
use Rattle.mpx_node.proofs.opening.+store_and_open.Goals as goal

pub returns-then-new-clause-err : goal.returns-then-new-clause-err
returns-then-new-clause-err t c =
    closed_again c.args.opened.now c.store_and_open-2.new.opened c.in-Some.field-0-0.now.0 (λ q. c.in-Err.ensures.err q ∙ c.in_ok-new.ensures.ok q) c.remove.new.self (sym c.if-new.true ∙ c.in_ok-new.ensures.new) c.remove.ensures.updates

pub returns-else-new-clause-err : goal.returns-else-new-clause-err
returns-else-new-clause-err t c q =
    c.in-Err.ensures.err q ∙ open_before c.args.opened.now c.open.new.opened c.in-Some.field-0-0.now.0 c.in_ok-new.ensures.ok (sym c.if-new.false ∙ c.in_ok-new.ensures.new) q
