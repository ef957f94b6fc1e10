-- What is kept of a run where nothing changes, or one thing after the other does.
use Rattle.std.specs.Prelude.{◌≡◌, List}
use Rattle.std.proofs.Common.{ap, set, sym, subst, ◌∙◌}
use Rattle.mpx_num.specs.declared.own.Operation.{Operation}
use Rattle.mpx_node.specs.Nodes.{NodeView}
use Rattle.mpx_post.proofs.Lists.{set_has, set_same, set_twice}
use Rattle.mpx_sim.specs.Running.{IsUnderWay, KeepsNode, ProcessView}
use Rattle.mpx_sim.specs.Turns.{Phase}

pub keeps_node_itself : (phase : Phase) (ops : List Operation) (old new : NodeView) → new ≡ old → KeepsNode phase ops old new
keeps_node_itself phase ops old new e r t script ranks size begun processes frames p at run =
    subst (λ rs. IsUnderWay ops script ranks size begun phase rs frames) (sym (set_same processes p (record { rank = r; node = old; sender = t }) at) ∙ ap (λ n. set processes p (record { rank = r; node = n; sender = t })) (sym e)) run

pub keeps_node_then : (phase : Phase) (ops : List Operation) (a b c : NodeView) → KeepsNode phase ops a b → KeepsNode phase ops b c → KeepsNode phase ops a c
keeps_node_then phase ops a b c f g r t script ranks size begun processes frames p at run =
    let mid : ProcessView = record { rank = r; node = b; sender = t } in
    subst (λ rs. IsUnderWay ops script ranks size begun phase rs frames) (set_twice processes p mid (record { rank = r; node = c; sender = t }))
    (g r t script ranks size begun (set processes p mid) frames p (set_has processes p (record { rank = r; node = a; sender = t }) mid at) (f r t script ranks size begun processes frames p at run))
