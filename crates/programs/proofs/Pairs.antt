-- Two nodes of one's own stay a network.
use Rattle.std.proofs.Common.{◌≡◌, zero, suc, List, [], ◌∷◌, ◌++◌, set, refl, sym, ◌∙◌}
use Rattle.std.specs.Prelude.{Result, OnOk, OnErr}
use Rattle.std.proofs.lemmas.Option.{same_Some}
use Rattle.mpx_num.specs.declared.own.Operation.{Operation}
use Rattle.join_core.specs.declared.memory.OutOfMemory.{OutOfMemory}
use Rattle.mpx_board.specs.Boards.{Look}
use Rattle.mpx_node.specs.declared.node.Node.{Node}
use Rattle.mpx_node.specs.Nodes.{NodeView, StopsTaking, learn, start_node}
use Rattle.mpx_node.specs.Shown.{node_of}
use Rattle.mpx_world.specs.Networks.{AreNew, IsNodeStep, network_of}
use Rattle.mpx_world.proofs.Going.{all_nodes_agree, begins, fewer_sent, further, part_given, take_step, unchanged_step}
use Rattle.programs.specs.Nodes.{AreOne, Carries, StayOne, network_with, two}

-- a board that is sent and taken, whatever the take answered
pub carried : (from old new : NodeView) (part : Look) (result : Result (Unit {0}) OutOfMemory) → part ≡ from.board → OnOk result (new ≡ learn part old) → OnErr result (StopsTaking part old new) → Carries from old new
carried from old new part result is ok err n s p q first second =
    let sent = part_given from part is n s p first in
    let taken = take_step old new part result ok err (network_of sent) sent.network q second zero refl in
    let both = further n n.nodes (set n.nodes q new) (part ∷ n.parts) (part ∷ n.parts) sent taken in
    fewer_sent n (set n.nodes q new) (part ∷ n.parts) n.parts (λ i x e. (suc i, e)) both

pub not_carried : (from old : NodeView) → Carries from old old
not_carried from old n s p q first second = unchanged_step n.operations old old refl n s refl q second

-- a step of one of the two
pub left_steps : (ops : List Operation) (left right new : Node) → IsNodeStep ops (node_of left) (node_of new) → StayOne ops left right new right
left_steps ops left right new step hs s = step (network_with ops hs left right) s refl 0 refl

pub right_steps : (ops : List Operation) (left right new : Node) → IsNodeStep ops (node_of right) (node_of new) → StayOne ops left right left new
right_steps ops left right new step hs s = step (network_with ops hs left right) s refl 1 refl

pub left_takes : (ops : List Operation) (left right new : Node) → Carries (node_of right) (node_of left) (node_of new) → StayOne ops left right new right
left_takes ops left right new carries hs s = carries (network_with ops hs left right) s 1 0 refl refl

pub right_takes : (ops : List Operation) (left right new : Node) → Carries (node_of left) (node_of right) (node_of new) → StayOne ops left right left new
right_takes ops left right new carries hs s = carries (network_with ops hs left right) s 0 1 refl refl

pub stay_then : (ops : List Operation) (a b c d e f : Node) → StayOne ops a b c d → StayOne ops c d e f → StayOne ops a b e f
stay_then ops a b c d e f first second hs s =
    let on = first hs s in
    further (network_with ops hs a b) (two c d) (two e f) [] [] on (second (hs ++ on.later) on.network)

two_new : (left right : NodeView) → left ≡ start_node 0 2 2 → right ≡ start_node 1 2 2 → AreNew 2 2 (left ∷ right ∷ [])
two_new left right first second zero node e = sym (same_Some left node e) ∙ first
two_new left right first second (suc zero) node e = sym (same_Some right node e) ∙ second
two_new left right first second (suc (suc p)) node e = cc e

-- new nodes that stayed a network
pub are_one : (ops : List Operation) (a b left right : Node) → node_of a ≡ start_node 0 2 2 → node_of b ≡ start_node 1 2 2 → StayOne ops a b left right → AreOne ops left right
are_one ops a b left right first second stay =
    let on = stay [] (begins ops 2 2 (two a b) (two_new (node_of a) (node_of b) first second)) in
    record { happenings = on.later; network = on.network; agree = all_nodes_agree (network_of on) on.network }
