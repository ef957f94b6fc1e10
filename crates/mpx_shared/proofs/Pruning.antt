-- What a pruning to the floor does.
use Rattle.std.proofs.Common.{◌≡◌, ℕ, [], ◌∷◌, ◌++◌, None, Option, Some, Result, Ok, Err, refl, sym, ap, ◌∙◌, subst}
use Rattle.std.specs.Prelude.{OnOk, OnErr}
use Rattle.mpx_name.specs.Name.{Name}
use Rattle.mpx_board.specs.Boards.{Look}
use Rattle.mpx_board.specs.Changes.{pruned_on}
use Rattle.mpx_board.specs.declared.errors.PruneError.{PruneError}
use Rattle.mpx_node.specs.Nodes.{NodeView, learn_some, prune_part}
use Rattle.mpx_node.specs.Settling.{DropsAll, HasDropped, IsToDrop, KillsFreed, with_prune}
use Rattle.mpx_node.proofs.Dropped.{drops_floor, drops_none, floor_is_pruned}
use Rattle.mpx_world.specs.Worlds.{ProcessView, drops, takes}
use Rattle.mpx_bus.specs.declared.act.Act.TheVariants as A
use Rattle.mpx_bus.specs.Acts.{at_start}
use Rattle.mpx_bus.specs.Ports.{PortView, PortGoesOn, IsSamePort, node_in, process_in}
use Rattle.mpx_bus.proofs.Journals.{after-append}
use Rattle.mpx_shared.specs.Gossip.{Prunes}
use Rattle.mpx_shared.proofs.LawfulPorts.{made_same}
use Rattle.mpx_shared.proofs.Gossiping.{nothing_done, prunes_one}

-- where nothing is to be dropped
pub prunes_none : (name : Name) (a : PortView) → HasDropped name (node_in a) → Prunes name a a
prunes_none name a all =
    let d = drops_none name (node_in a) all in
    record { does = nothing_done a a refl; drops = d.0; kills = d.1; none = λ same. refl }

node_taken : (part : Option Look) (v : ProcessView) → (takes part v).node ≡ learn_some part v.node
node_taken None v = refl
node_taken (Some part) v = refl

-- the node is left that a prune to the floor leaves
pruned_node : (name : Name) (floor : ℕ) (a b : PortView) → IsSamePort a b → pruned_on (node_in a).board name floor ≡ Ok tt → b.journal ≡ a.journal ++ A.Pruned name floor ∷ [] → node_in b ≡ with_prune (Some floor) name (node_in a)
pruned_node name floor a b same good grows =
    let v = process_in a in
    let is : process_in b ≡ drops name floor (Ok tt) v =
    made_same a b same (a.journal ++ A.Pruned name floor ∷ []) grows ∙ after-append a.setup.operations a.journal (A.Pruned name floor ∷ []) (at_start a.setup a.me)
    ∙ ap (λ r. drops name floor r v) good in
    ap (λ (u : ProcessView). u.node) is ∙ node_taken (prune_part v.node name floor) v

-- a prune to the number that is to be dropped
pub prunes_floor : (name : Name) (floor : ℕ) (r : Result (Unit {0}) PruneError) (a b : PortView) → IsToDrop name (node_in a) (Some floor) → r ≡ pruned_on (node_in a).board name floor
    → PortGoesOn a b → b.kept ≡ a.kept → OnOk r (b.journal ≡ a.journal ++ A.Pruned name floor ∷ []) → OnErr r (b ≡ a) → Prunes name a b
prunes_floor name floor r a b asked answer goes kept ok err =
    let there = floor_is_pruned (node_in a).board name floor asked.0 in
    let grows : b.journal ≡ a.journal ++ A.Pruned name floor ∷ [] = subst (λ x. OnOk x (b.journal ≡ a.journal ++ A.Pruned name floor ∷ [])) (answer ∙ there) ok in
    let is = pruned_node name floor a b goes.same there grows in
    let d = drops_floor name (node_in a) floor asked.0 in
    record {
      does = prunes_one name floor r a b goes kept ok err;
      drops = subst (DropsAll name (node_in a)) (sym is) d.0;
      kills = subst (KillsFreed name (node_in a)) (sym is) d.1;
      none = λ all. absurd (asked.1 all);
    }
