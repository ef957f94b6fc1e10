-- What the answers of a bus say of its ports.
use Rattle.std.proofs.Common.{◌≡◌, ℕ, List, [], ◌∷◌, ◌++◌, sym, ap, ◌∙◌, subst, ⊎_elim, inl, inr}
use Rattle.mpx_bus.specs.declared.act.Act.{Act}
use Rattle.mpx_bus.specs.declared.act.Act.TheVariants as A
use Rattle.mpx_bus.specs.declared.port.Push.{Push}
use Rattle.mpx_bus.specs.declared.port.Push.TheVariants as P
use Rattle.mpx_bus.specs.declared.port.Pop.{Pop}
use Rattle.mpx_bus.specs.declared.port.Pop.TheVariants as O
use Rattle.mpx_node.specs.Nodes.{learn}
use Rattle.mpx_world.specs.Worlds.{ProcessView}
use Rattle.mpx_bus.specs.Acts.{part_of, node_at, DidIn}
use Rattle.mpx_bus.specs.Ports.{PortView, CanPush, IsSamePort, PortGoesOn, node_in}
use Rattle.mpx_bus.proofs.Journals.{did_before, did_last}
use Rattle.mpx_bus.proofs.Moves.{pop_same}
use Rattle.mpx_bus.proofs.Ports.{node_more}
use Rattle.mpx_bus.specs.Answers.{PushesOne, PushesLast, PushesNext, PassesOn, PopsOne, Stopped, Wants, TakesIn}
use Rattle.mpx_bus.proofs.Goes.{goes_on, goes_itself, two_acts}

pub goes_push : (bytes : List ℕ) (push : Push) (a b : PortView) → IsSamePort a b → PushesOne bytes push a b → PortGoesOn a b
goes_push bytes P.Pushed a b same p = goes_on a b (A.Pushed bytes ∷ []) same p (tt, tt)
goes_push bytes (P.Full frame) a b same p = goes_itself a b p.1

goes_want : (bytes : List ℕ) (a b : PortView) → IsSamePort a b → Wants bytes a b → PortGoesOn a b
goes_want bytes a b same w =
    ⊎_elim
    (λ (e : b.journal ≡ a.journal ++ A.Popped bytes ∷ []). goes_on a b (A.Popped bytes ∷ []) same e (tt, tt))
    (λ (e : Stopped bytes a b). goes_on a b (A.Popped bytes ∷ A.StoppedTaking bytes e.left ∷ []) same (two_acts a.journal b.journal (A.Popped bytes) (A.StoppedTaking bytes e.left) e.journal) (tt, (tt, tt)))
    w

pub goes_pop : (pop : Pop) (a b : PortView) → IsSamePort a b → PopsOne pop a b → PortGoesOn a b
goes_pop (O.Took frame) a b same p = goes_on a b (A.Popped frame ∷ A.Took frame ∷ []) same (two_acts a.journal b.journal (A.Popped frame) (A.Took frame) p) (tt, (tt, tt))
goes_pop O.Empty a b same p = goes_itself a b p
goes_pop (O.OutOfMemory frame) a b same p = goes_want frame a b same p

-- the nodes of one port, by its journals
nodes_by : (a b : PortView) (journal : List Act) → IsSamePort a b → b.journal ≡ journal → node_in b ≡ node_at a.setup a.me journal
nodes_by a b journal same is = λ i. node_at (same.setup i) (same.me i) (is i)

popped_node : (a b : PortView) (bytes : List ℕ) → IsSamePort a b → b.journal ≡ a.journal ++ A.Popped bytes ∷ [] → node_in b ≡ node_in a
popped_node a b bytes same is = nodes_by a b (a.journal ++ A.Popped bytes ∷ []) same is ∙ ap (λ (v : ProcessView). v.node) (pop_same a.setup a.me a.journal bytes)

took_node : (a b : PortView) (bytes : List ℕ) → IsSamePort a b → b.journal ≡ (a.journal ++ A.Popped bytes ∷ []) ++ A.Took bytes ∷ [] → node_in b ≡ learn (part_of bytes) (node_in a)
took_node a b bytes same is =
    nodes_by a b ((a.journal ++ A.Popped bytes ∷ []) ++ A.Took bytes ∷ []) same is
    ∙ node_more a.setup a.me (a.journal ++ A.Popped bytes ∷ []) (A.Took bytes)
    ∙ ap (λ (v : ProcessView). learn (part_of bytes) v.node) (pop_same a.setup a.me a.journal bytes)

pub takes_in : (pop : Pop) (a b : PortView) → IsSamePort a b → PopsOne pop a b → TakesIn pop (node_in a) (node_in b)
takes_in (O.Took frame) a b same p = took_node a b frame same p
takes_in O.Empty a b same p = ap node_in p
takes_in (O.OutOfMemory frame) a b same p =
    ⊎_elim (λ (e : b.journal ≡ a.journal ++ A.Popped frame ∷ []). inl (popped_node a b frame same e)) (λ (e : Stopped frame a b). inr e.board) p

-- a push of a frame that was kept
pub last_of_one : (bytes : List ℕ) (push : Push) (a : PortView) (kept : List (List ℕ)) (b : PortView) → CanPush a bytes → PushesOne bytes push (record a { kept = kept }) b → PushesLast bytes push a b
last_of_one bytes P.Pushed a kept b may p = p
last_of_one bytes (P.Full frame) a kept b may p = (p.0, (ap (λ (x : PortView). x.journal) p.1, subst (λ (x : PortView). CanPush x frame) (sym p.1) (subst (CanPush a) (sym p.0) may)))

-- a frame that comes back may be pushed on
pub full_can_push : {limit : ℕ} (push : Push) (frame : List ℕ) (a b : PortView) → push ≡ P.Full frame → PushesNext limit push a b → CanPush b frame
full_can_push push frame a b is n = (subst (λ q. PushesLast n.bytes q n.listed b) is n.pushes).1.1

-- so may one that was popped
after_popped : (frame : List ℕ) (more : List Act) (a b : PortView) → b.journal ≡ (a.journal ++ A.Popped frame ∷ []) ++ more → CanPush b frame
after_popped frame more a b e = inr (subst (λ j. DidIn j (A.Popped frame)) (sym e) (did_before (a.journal ++ A.Popped frame ∷ []) more (A.Popped frame) (did_last a.journal (A.Popped frame))))

pub passes_on : (pop : Pop) (a b : PortView) → PopsOne pop a b → PassesOn pop b
passes_on (O.Took frame) a b p = after_popped frame (A.Took frame ∷ []) a b p
passes_on O.Empty a b p = tt
passes_on (O.OutOfMemory frame) a b p =
    ⊎_elim
    (λ (e : b.journal ≡ a.journal ++ A.Popped frame ∷ []). inr (subst (λ j. DidIn j (A.Popped frame)) (sym e) (did_last a.journal (A.Popped frame))))
    (λ (e : Stopped frame a b). after_popped frame (A.StoppedTaking frame e.left ∷ []) a b e.journal)
    p
