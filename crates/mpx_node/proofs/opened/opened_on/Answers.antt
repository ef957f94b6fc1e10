use Rattle.std.proofs.Common.{ap, sym, ◌∙◌}
use Rattle.std.specs.BTreeMap.{get}
use Rattle.std.proofs.lemmas.Map.Views.{tells_apart}
use Rattle.mpx_name.specs.Order.{name_cmp, name_exact}
use Rattle.mpx_node.proofs.opened.opened_on.Goals as goal

pub returns-then-eq : goal.returns-then-eq
returns-then-eq c =
    sym c.in-Some.ensures.value
    ∙ ap (get name_cmp c.args.opened.now) (tells_apart name_exact c.in-Some.last.now c.args.name.now (sym c.eq.ensures ∙ c.if-eq.true))

pub returns-then-eq-2 : goal.returns-then-eq-2
returns-then-eq-2 c =
    sym c.in-Some-first_key_value.ensures.value
    ∙ ap (get name_cmp c.args.opened.now) (tells_apart name_exact c.in-Some-first_key_value.first.now c.args.name.now (sym c.eq-in-Some-first_key_value.ensures ∙ c.if-eq-2.true))
