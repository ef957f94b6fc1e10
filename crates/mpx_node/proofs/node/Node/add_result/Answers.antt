use Rattle.std.proofs.Common.{◌≡◌, ◌∙◌, ◌==◌, true, List, [], ◌∷◌, length, refl, sym, subst, eqb-true, arith}
use Rattle.std.specs.Prelude.{OnOk}
use Rattle.mpx_name.specs.Name.{Name}
use Rattle.mpx_birth.specs.Births.{BirthView}
use Rattle.mpx_node.specs.Nodes.{add_result}
use Rattle.mpx_node.specs.Shown.{node_of}
use Rattle.mpx_node.proofs.node.Node.add_result.Goals as goal

pub returns-clause-ok : goal.returns-clause-ok
returns-clause-ok g c =
    subst (λ (xs : List (Name × BirthView)). OnOk c.add_made_result.result (node_of c.add_made_result.new.self ≡ add_result c.args.name.now c.args.finished xs (node_of c.args.self.now))) (c.as_slice-2.ensures.value ∙ c.in-Ok.ensures) c.add_made_result.ensures.ok

no_items : {A : Type 0} (xs : List A) → true ≡ (length xs == 0) → xs ≡ []
no_items [] e = refl
no_items (x ∷ xs) e = let none : length (x ∷ xs) ≡ 0 = eqb-true _ _ (sym e) in absurd (omega (arith, none))

pub returns-then-is_empty-clause-ok : goal.returns-then-is_empty-clause-ok
returns-then-is_empty-clause-ok g c =
    let none : c.in-Ok.made.items ≡ [] = sym c.as_slice.ensures.value ∙ no_items c.as_slice.result.now (sym c.if-is_empty.true ∙ c.is_empty.ensures) in
    subst (λ (xs : List (Name × BirthView)). OnOk c.add_plain_result.result (node_of c.add_plain_result.new.self ≡ add_result c.args.name.now c.args.finished xs (node_of c.args.self.now))) (sym none ∙ c.in-Ok.ensures) c.add_plain_result.ensures.ok
