-- What a port does in a turn posts nothing, and takes nothing back.
use Rattle.std.proofs.Common.{◌≡◌, ◌≢◌, ℕ, List, [], ◌∷◌, ◌++◌, Option, Some, None, Result, Ok, Err, refl, sym, ap, ◌∙◌, subst, ⊎_elim, append_assoc, inl, inr}
use Rattle.std.specs.Prelude.{◌||◌, IfOk, OnErr, OnOk, false, is_err, true}
use Rattle.std.proofs.lemmas.List.{append-nil}
use Rattle.join_core.specs.declared.memory.OutOfMemory.{OutOfMemory}
use Rattle.mpx_board.specs.Boards.{Look}
use Rattle.mpx_board.specs.Changes.{pruned_on}
use Rattle.mpx_board.specs.declared.errors.PruneError.{PruneError}
use Rattle.mpx_bus.proofs.Journals.{after-append}
use Rattle.mpx_bus.specs.Acts.{act_on, after, at_start, node_at, process_at}
use Rattle.mpx_bus.specs.Answers.{FoundNone, PopsOne, PushesLast, PushesNext, Stopped}
use Rattle.mpx_bus.specs.declared.act.Act.{Act}
use Rattle.mpx_bus.specs.declared.act.Act.TheVariants as A
use Rattle.mpx_bus.specs.declared.port.Pop.{Pop}
use Rattle.mpx_bus.specs.declared.port.Pop.TheVariants as O
use Rattle.mpx_bus.specs.declared.port.Push.{Push}
use Rattle.mpx_bus.specs.declared.port.Push.TheVariants as P
use Rattle.mpx_bus.specs.Ports.{HasListed, IsSamePort, PortView, node_in}
use Rattle.mpx_request.proofs.Steps.{later_learns, later_more, later_none}
use Rattle.mpx_name.specs.Name.{Name}
use Rattle.mpx_ranks.specs.Members.{HasHeard, Prunes, PushesAnother, Turns, wanted_memory}
use Rattle.mpx_node.specs.Nodes.{NodeView}
use Rattle.mpx_num.specs.declared.own.Operation.{Operation}
use Rattle.mpx_world.specs.Worlds.{ProcessView, drops, takes}

-- neither a post, nor a harvest, nor a gathering, and no result is let go
abbrev IsQuiet : Act → Type 0
IsQuiet (A.Posted name draft) = ⊥
IsQuiet (A.Harvested name) = ⊥
IsQuiet (A.Gathered parent tag ranks) = ⊥
IsQuiet (A.Pruned name n) = Unit {0}
IsQuiet (A.Forgot name below) = ⊥
IsQuiet (A.Took bytes) = Unit {0}
IsQuiet (A.StoppedTaking bytes left) = Unit {0}
IsQuiet (A.Acknowledged board) = Unit {0}
IsQuiet (A.Pushed bytes) = Unit {0}
IsQuiet (A.Popped bytes) = Unit {0}

abbrev AreQuiet : List Act → Type 0
AreQuiet [] = Unit {0}
AreQuiet (a ∷ more) = IsQuiet a × AreQuiet more

pub heard_none : (node : NodeView) → HasHeard node node
heard_none node = (later_none node, refl)

pub heard_more : (a b c : NodeView) → HasHeard a b → HasHeard b c → HasHeard a c
heard_more a b c x y = (later_more a b c x.0 y.0, y.1 ∙ x.1)

takes_quiet : (o : Option Look) (v : ProcessView) → HasHeard v.node (takes o v).node
takes_quiet None v = heard_none v.node
takes_quiet (Some part) v = (later_learns part v.node, refl)

drops_quiet : (ops : List Operation) (r : Result (Unit {0}) PruneError) (name : Name) (n : ℕ) (v : ProcessView) → HasHeard v.node (drops name n r v).node
drops_quiet ops (Ok u) name n v = takes_quiet _ v
drops_quiet ops (Err e) name n v = heard_none v.node

heard_act : (ops : List Operation) (a : Act) (v : ProcessView) → IsQuiet a → HasHeard v.node (act_on ops a v).node
heard_act ops (A.Posted name draft) v q = absurd q
heard_act ops (A.Harvested name) v q = absurd q
heard_act ops (A.Gathered parent tag ranks) v q = absurd q
heard_act ops (A.Pruned name n) v q = drops_quiet ops (pruned_on v.node.board name n) name n v
heard_act ops (A.Forgot name below) v q = absurd q
heard_act ops (A.Took bytes) v q = (later_learns _ v.node, refl)
heard_act ops (A.StoppedTaking bytes left) v q = (later_learns _ v.node, refl)
heard_act ops (A.Acknowledged board) v q = (later_learns _ v.node, refl)
heard_act ops (A.Pushed bytes) v q = heard_none v.node
heard_act ops (A.Popped bytes) v q = heard_none v.node

heard_after : (ops : List Operation) (acts : List Act) (v : ProcessView) → AreQuiet acts → HasHeard v.node (after ops acts v).node
heard_after ops [] v q = heard_none v.node
heard_after ops (a ∷ acts) v q = heard_more v.node (act_on ops a v).node (after ops acts (act_on ops a v)).node (heard_act ops a v q.0) (heard_after ops acts (act_on ops a v) q.1)

-- a port that goes on so
pub heard_quiet : (a b : PortView) (more : List Act) → IsSamePort a b → b.journal ≡ a.journal ++ more → AreQuiet more → HasHeard (node_in a) (node_in b)
heard_quiet a b more same is quiet =
    let then : node_in b ≡ (after a.setup.operations more (process_at a.setup a.me a.journal)).node = (λ i. node_at (same.setup i) (same.me i) (is i)) ∙ ap (λ (v : ProcessView). v.node) (after-append a.setup.operations a.journal more (at_start a.setup a.me)) in
    subst (HasHeard (node_in a)) (sym then) (heard_after a.setup.operations more (process_at a.setup a.me a.journal) quiet)

-- WHAT THE BUS ANSWERS

pub heard_itself : (a b : PortView) → b ≡ a → HasHeard (node_in a) (node_in b)
heard_itself a b e = subst (HasHeard (node_in a)) (sym (ap node_in e)) (heard_none (node_in a))

pub two : (a : List Act) (x y : Act) (b : List Act) → b ≡ (a ++ x ∷ []) ++ y ∷ [] → b ≡ a ++ x ∷ y ∷ []
two [] x y b e = e
two (z ∷ a) x y b e = e ∙ ap (λ l. z ∷ l) (two a x y ((a ++ x ∷ []) ++ y ∷ []) refl)

pub heard_pop : (pop : Pop) (a b : PortView) → IsSamePort a b → PopsOne pop a b → HasHeard (node_in a) (node_in b)
heard_pop (O.Took frame) a b same p = heard_quiet a b (A.Popped frame ∷ A.Took frame ∷ []) same (two a.journal (A.Popped frame) (A.Took frame) b.journal p) (tt, (tt, tt))
heard_pop O.Empty a b same p = heard_itself a b p
heard_pop (O.OutOfMemory frame) a b same p =
    ⊎_elim
    (λ (e : b.journal ≡ a.journal ++ A.Popped frame ∷ []). heard_quiet a b (A.Popped frame ∷ []) same e (tt, tt))
    (λ (e : Stopped frame a b). heard_quiet a b (A.Popped frame ∷ A.StoppedTaking frame e.left ∷ []) same (two a.journal (A.Popped frame) (A.StoppedTaking frame e.left) b.journal e.journal) (tt, (tt, tt)))
    p

still : (a : Act) → IsQuiet a → (k : List Act) → AreQuiet k → AreQuiet (k ++ a ∷ [])
still a q [] r = (q, tt)
still a q (x ∷ k) r = (r.0, still a q k r.1)

-- from a list of its own to the push of its next frame
last_push : (push : Push) (bytes : List ℕ) (a listed b : PortView) → IsSamePort a b → (more : List Act) → AreQuiet more → listed.journal ≡ a.journal ++ more → PushesLast bytes push listed b → HasHeard (node_in a) (node_in b)
last_push P.Pushed bytes a listed b same more quiet is p =
    heard_quiet a b (more ++ A.Pushed bytes ∷ []) same (p ∙ ap (λ l. l ++ A.Pushed bytes ∷ []) is ∙ append_assoc a.journal more (A.Pushed bytes ∷ [])) (still (A.Pushed bytes) tt more quiet)
last_push (P.Full frame) bytes a listed b same more quiet is p = heard_quiet a b more same (p.1.0 ∙ is) quiet

heard_next : (limit : ℕ) (push : Push) (a b : PortView) → IsSamePort a b → PushesNext limit push a b → HasHeard (node_in a) (node_in b)
heard_next limit push a b same p =
    ⊎_elim
    (λ (e : (a.kept ≢ []) × (p.listed ≡ a)). last_push push p.bytes a p.listed b same [] tt (ap (λ (x : PortView). x.journal) e.1 ∙ sym (append-nil a.journal)) p.pushes)
    (λ (e : (a.kept ≡ []) × HasListed limit a p.listed). last_push push p.bytes a p.listed b same (A.Acknowledged e.1.said ∷ []) (tt, tt) e.1.journal p.pushes)
    p.lists

pub heard_push : (limit : ℕ) (r : Result Push OutOfMemory) (a b : PortView) → IsSamePort a b → IfOk r (λ push. PushesNext limit push a b) → OnErr r (b ≡ a) → HasHeard (node_in a) (node_in b)
heard_push limit (Ok push) a b same next err = heard_next limit push a b same next
heard_push limit (Err e) a b same next err = heard_itself a b err

pub heard_prune : (r : Result (Unit {0}) PruneError) (name : Name) (n : ℕ) (a b : PortView) → IsSamePort a b → OnOk r (b.journal ≡ a.journal ++ A.Pruned name n ∷ []) → OnErr r (b ≡ a) → HasHeard (node_in a) (node_in b)
heard_prune (Ok u) name n a b same ok err = heard_quiet a b (A.Pruned name n ∷ []) same ok (tt, tt)
heard_prune (Err e) name n a b same ok err = heard_itself a b err

-- WHAT A TURN DOES

pub turn_of : {A : Type 0} (r : Result A OutOfMemory) (pop : Pop) (prune : Result (Unit {0}) OutOfMemory) (push : Result Push OutOfMemory) (a popped pruned b : PortView) → is_err r ≡ (wanted_memory pop || (is_err prune || is_err push)) → PopsOne pop a popped → FoundNone pop popped → popped.kept ≡ a.kept → Prunes prune popped pruned → PushesAnother push pruned b
    → OnOk r (Turns false a b) × OnErr r (Turns true a b)
turn_of (Ok u) pop prune push a popped pruned b told pops found keeps prunes pushes =
    (record { pop = pop; popped = popped; pops = pops; found = found; keeps = keeps; pruned = pruned; prune = prune; prunes = prunes; push = push; pushes = pushes; told = told }, tt)
turn_of (Err e) pop prune push a popped pruned b told pops found keeps prunes pushes =
    (tt, record { pop = pop; popped = popped; pops = pops; found = found; keeps = keeps; pruned = pruned; prune = prune; prunes = prunes; push = push; pushes = pushes; told = told })

pub pushes_or_not : (r : Result Push OutOfMemory) (a b : PortView) → IfOk r (λ push. PushesNext 1048576 push a b) → OnErr r (b ≡ a) → OnErr r (a.kept ≡ []) → PushesAnother r a b
pushes_or_not (Ok push) a b next same none = next
pushes_or_not (Err e) a b next same none = (same, none)
