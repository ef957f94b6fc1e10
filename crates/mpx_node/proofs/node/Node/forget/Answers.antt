use Rattle.std.proofs.Common.{◌≡◌, ◌∙◌, None, sym, ap, rules}
use Rattle.std.specs.BTreeMap.{BTreeMap}
use Rattle.std.specs.Option.{option_map}
use Rattle.mpx_name.specs.Name.{Name}
use Rattle.mpx_node.specs.declared.opened.Opened.{Opened}
use Rattle.mpx_node.specs.Opened.{lets_go, opened_by, opened_of}
use Rattle.mpx_node.specs.Shown.{node_of}
use Rattle.mpx_node.proofs.Forgotten.{forgets_nothing}
use Rattle.mpx_node.proofs.Stepping.{Contexts, does}
use Rattle.mpx_node.proofs.node.Node.forget.Goals as goal

pub returns-in_default : goal.returns-in_default
returns-in_default c =
    let old = node_of c.args.self.now in
    let same : c.get_mut.follows.lender-at-none ≡ c.args.self.now.opened = search rules in
    let none : old.opened c.args.name.now ≡ None = sym (ap (option_map opened_of) c.in_default.ensures.value) in
    ap (λ (m : BTreeMap Name Opened). record old { opened = opened_by m }) same ∙ forgets_nothing c.args.name.now c.args.below old none

pub returns : goal.returns
returns c =
    let old = node_of c.args.self.now in
    let o = c.in-Some.opened.now in
    let w = c.let_go.new.self in
    ap (λ (x : Contexts). record old { opened = x }) (does c.args.self.now.opened (c.get_mut.follows.lender w) c.args.name.now o w c.in-Some.ensures.value (c.get_mut.follows.holds w) (lets_go c.args.below) c.let_go.ensures)
