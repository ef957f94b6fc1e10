-- What the desk harvests.
use Rattle.std.proofs.Common.{◌≡◌, ℕ, zero, suc, List, Option, Some, None, refl, sym, ap, ◌∙◌, subst}
use Rattle.mpx_name.specs.Name.{Name}
use Rattle.mpx_num.specs.declared.own.Operation.{Operation}
use Rattle.mpx_value.specs.declared.outcomes.Outcome.{Outcome}
use Rattle.mpx_node.specs.declared.finished.Finished.{Finished}
use Rattle.mpx_node.specs.Harvests.{harvested}
use Rattle.mpx_node.specs.Nodes.{NodeView, result_on}
use Rattle.mpx_sim.specs.Carrying.{Harvests, harvests_none, harvests_then, outcome_in}
use Rattle.mpx_sim.proofs.Running.{keeps_next}

found : (o : Option Finished) (outcome : Outcome) → outcome_in o ≡ Some outcome → (f : Finished) × (o ≡ Some f)
found None outcome e = cc e
found (Some f) outcome e = (f, refl)

-- so many calls on a context are harvested, one after the other
harvests_all : (ops : List Operation) (name : Name) (n : ℕ) (old : NodeView) → Harvests ops old (harvested ops n name old)
harvests_all ops name zero old = harvests_none ops old
harvests_all ops name (suc n) old =
    let mid = harvested ops n name old in
    let one = keeps_next ops name mid in
    harvests_then ops old mid (harvested ops (suc n) name old) (harvests_all ops name n old) (
      one.0,
      λ m k outcome e.
          let f = found (result_on mid m k) outcome e in
          ap outcome_in (one.1 m k f.0 f.1 ∙ sym f.1) ∙ e,
    )

-- the same of a node that they leave
pub harvests_to : (ops : List Operation) (name : Name) (n : ℕ) (old new : NodeView) → new ≡ harvested ops n name old → Harvests ops old new
harvests_to ops name n old new e = subst (Harvests ops old) (sym e) (harvests_all ops name n old)
