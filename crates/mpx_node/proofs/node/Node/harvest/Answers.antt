use Rattle.std.proofs.Common.{◌≡◌, ◌∙◌, refl, sym, ap, Some, true, length, arith}
use Rattle.std.specs.Prelude.{nat_lt}
use Rattle.std.specs.Option.{option_map}
use Rattle.std.proofs.lemmas.Bool.Decides.{nat_tests}
use Rattle.mpx_node.specs.Opened.{opened_of}
use Rattle.mpx_node.specs.Shown.{node_of}
use Rattle.mpx_node.proofs.Stepping.{harvests_next, harvests_not}
use Rattle.mpx_node.proofs.node.Node.harvest.Goals as goal

pub returns-in_ok-add_result-in-Some-2 : goal.returns-in_ok-add_result-in-Some-2
returns-in_ok-add_result-in-Some-2 g c =
    let name = c.args.name.now in
    let old = node_of c.args.self.now in
    let o = c.in-Some.opened.now in
    let here : old.opened name ≡ Some (opened_of o) = ap (option_map opened_of) (sym c.in-Some.ensures) in
    let less : nat_lt (length (opened_of o).results) o.posted ≡ true = grind (arith, nat_tests, c.front-call.ensures, c.if-call-opened.false) in
    harvests_next _ name old _ (opened_of o) here c.in-Some-2.finished c.front-call.result c.front-call.ensures less (sym c.in_ok-finished.ensures ∙ c.in-Some-2.is) c.in_ok-add_result-in-Some-2.ensures.ok

pub returns-then-not-has_result : goal.returns-then-not-has_result
returns-then-not-has_result g c =
    let name = c.args.name.now in
    let old = node_of c.args.self.now in
    let o = c.in-Some.opened.now in
    let here : old.opened name ≡ Some (opened_of o) = ap (option_map opened_of) (sym c.in-Some.ensures) in
    harvests_not _ name old _ (opened_of o) here c.front-call.result c.front-call.ensures (sym c.has_result.ensures ∙ c.if-not-has_result.true) refl
