-- Networks go on by the steps of their nodes, and what is so of their worlds.
use Rattle.std.proofs.Common.{◌≡◌, ℕ, zero, suc, Bool, true, false, cond, ◌==◌, List, [], ◌∷◌, ◌++◌, length, map, set, Option, Some, None, refl, sym, ap, ◌∙◌, inl, inr, subst, arith, append-nil, append_assoc}
use Rattle.std.specs.Prelude.{◌⊎◌, ℤ, All, slice_get, is_some, Result, Ok, Err, OnOk, OnErr}
use Rattle.std.proofs.lemmas.Option.{same_Some}
use Rattle.join_core.specs.declared.memory.OutOfMemory.{OutOfMemory}
use Rattle.mpx_name.specs.Name.{Name}
use Rattle.mpx_num.specs.declared.own.Operation.{Operation}
use Rattle.mpx_post.specs.Posts.{Given}
use Rattle.mpx_post.specs.Gatherings.{GatheringView}
use Rattle.mpx_post.specs.declared.draft.Draft.{Draft}
use Rattle.mpx_post.specs.declared.draft.PostError.{PostError}
use Rattle.mpx_board.specs.declared.board.Board.{Board}
use Rattle.mpx_board.specs.declared.errors.PruneError.{PruneError}
use Rattle.mpx_board.specs.Boards.{Look, IsBetween, IsGone, gone, Has}
use Rattle.mpx_board.specs.Changes.{pruned_on}
use Rattle.mpx_board.specs.Looks.{look}
use Rattle.mpx_delta.specs.Facts.{OnlyFactsOf}
use Rattle.mpx_delta.specs.Digests.{HasUpTo}
use Rattle.mpx_node.specs.declared.finished.Finished.{Finished}
use Rattle.mpx_node.specs.declared.node.Harvest.{Harvest}
use Rattle.mpx_node.specs.declared.node.Harvest.TheVariants as H
use Rattle.mpx_node.specs.Deltas.{SaysWhatItHas}
use Rattle.mpx_node.specs.Harvests.{Harvests, HarvestsOpened, harvested, with_next}
use Rattle.mpx_node.specs.Nodes.{NodeView, Opens, Posts as MakesPost, StopsTaking, acknowledge, add_result, checked_on, gathers_on, learn, learn_some, next_result, open_gathering_node, with_post, prune_part, result_on}
use Rattle.mpx_node.specs.Forgetting.{forgets}
use Rattle.mpx_world.specs.Worlds.{ProcessView, WorldView, MayLeave, MayPost, makes, made_next, stores, opens_gathering, drops, takes, learns, harvests, gathers, prunes, acknowledges, Happening, Posts, Harvests as HappensHarvest, Gathers, Prunes, Sends, Takes, TakesPartly, Acknowledges, Forgets, lets_results_go, at_process, happens, MayHappen, MayGoOn, start, world_by}
use Rattle.mpx_world.specs.Forgetting.{HasForgotten, IsHeldOrGone}
use Rattle.mpx_world.specs.Soundness.{AgreeAcross, BoardsAgree}
use Rattle.mpx_world.specs.Networks.{EachAgrees, AreAmong, AreKept, AreNew, DeadStaysOn, NodeGives, NetworkGoesOn, HasPruned, IsNetwork, IsNodeStep, IsTake, Network, NodesAgree, network_of, new_network, world_in}
use Rattle.mpx_world.proofs.Lists.{cond_cases, itself, same_number, slice_get-push}
use Rattle.mpx_world.proofs.Kept.{taken_node}
use Rattle.mpx_world.proofs.Later.{Later, later_goes_on}
use Rattle.mpx_world.proofs.Drafted.{checked_may}
use Rattle.mpx_world.proofs.Reached.{agree_across, all_agree, dead_stays, own_seen}
use Rattle.mpx_world.proofs.Covering.{digest_had}
use Rattle.mpx_post.proofs.Lists.{set_cases, slice_get-append}
use Rattle.mpx_world.proofs.Whole.{IsWell, goes_on-append, may_append, held_by, well_by, later_by}

-- WHAT HAPPENS NEXT

-- the nodes are those of the world's processes
abbrev AreOf : WorldView → List NodeView → Type 0
AreOf w nodes = (p : ℕ) (node : NodeView) → slice_get nodes p ≡ Some node → node ≡ (w.each p).node

pub well : (n : Network) → IsNetwork n → IsWell (world_in n)
well n s = well_by n.operations n.ranks n.size n.happenings s.may

-- nothing has happened
by_nothing : (n : Network) (nodes : List NodeView) (parts : List Look) → IsNetwork n → AreOf (world_in n) nodes → AreAmong parts (world_in n).parts → NetworkGoesOn n nodes parts
by_nothing n nodes parts s each sent =
    let same : n.happenings ≡ n.happenings ++ [] = sym (append-nil n.happenings) in
    record {
      later = [];
      network = record {
        may = subst (MayGoOn (start n.operations n.ranks n.size)) same s.may;
        each = subst (λ hs. AreOf (world_by n.operations n.ranks n.size hs) nodes) same each;
        sent = subst (λ hs. AreAmong parts (world_by n.operations n.ranks n.size hs).parts) same sent;
      };
    }

-- this has happened
by_happening : (n : Network) (h : Happening) (nodes : List NodeView) (parts : List Look) → IsNetwork n → MayHappen (world_in n) h → AreOf (happens (world_in n) h) nodes → AreAmong parts (happens (world_in n) h).parts → NetworkGoesOn n nodes parts
by_happening n h nodes parts s m each sent =
    let is : happens (world_in n) h ≡ world_by n.operations n.ranks n.size (n.happenings ++ h ∷ []) = sym (goes_on-append n.happenings (h ∷ []) (start n.operations n.ranks n.size)) in
    record {
      later = h ∷ [];
      network = record {
        may = may_append n.happenings (h ∷ []) (start n.operations n.ranks n.size) s.may (m, tt);
        each = subst (λ w. AreOf w nodes) is each;
        sent = subst (λ (w : WorldView). AreAmong parts w.parts) is sent;
      };
    }

pub further : (n : Network) (middle nodes : List NodeView) (sent parts : List Look) (first : NetworkGoesOn n middle sent) → NetworkGoesOn (network_of first) nodes parts → NetworkGoesOn n nodes parts
further n middle nodes sent parts first next = record {
  later = first.later ++ next.later;
  network = subst (λ hs. IsNetwork (record n { happenings = hs; nodes = nodes; parts = parts })) (append_assoc n.happenings first.later next.later) next.network;
}

pub fewer_sent : (n : Network) (nodes : List NodeView) (parts fewer : List Look) → AreAmong fewer parts → NetworkGoesOn n nodes parts → NetworkGoesOn n nodes fewer
fewer_sent n nodes parts fewer among on = record {
  later = on.later;
  network = record {
    may = on.network.may;
    each = on.network.each;
    sent = λ i part e. let there = among i part e in on.network.sent there.0 part there.1;
  };
}

pub begins : (ops : List Operation) (ranks size : ℕ) (nodes : List NodeView) → AreNew ranks size nodes → IsNetwork (new_network ops ranks size nodes)
begins ops ranks size nodes new = record { may = tt; each = new; sent = λ i part e. cc e }

-- its world has its operations
operations_in : (n : Network) → (world_in n).operations ≡ n.operations
operations_in n = sym (later_goes_on n.happenings (start n.operations n.ranks n.size)).operations

-- ONE NODE CHANGES

pub unchanged_step : (ops : List Operation) (old new : NodeView) → new ≡ old → IsNodeStep ops old new
unchanged_step ops old new is n s with_ops p at =
    let w = world_in n in
    by_nothing n (set n.nodes p new) n.parts s
    (λ q node e. set_cases n.nodes p q new node (λ v. v ≡ (w.each q).node) e (λ same. is ∙ s.each p old at ∙ ap (λ i. (w.each i).node) (sym same)) (λ there other. s.each q node there))
    s.sent

-- where its process makes this step
by_step : (n : Network) (p : ℕ) (old new : NodeView) (step : ProcessView → ProcessView) (h : Happening) → IsNetwork n → slice_get n.nodes p ≡ Some old → MayHappen (world_in n) h → happens (world_in n) h ≡ at_process p step (world_in n) → new ≡ (step ((world_in n).each p)).node → NetworkGoesOn n (set n.nodes p new) n.parts
by_step n p old new step h s at m is new_is =
    let w = world_in n in
    let each : AreOf (at_process p step w) (set n.nodes p new) = λ q node e.
    set_cases n.nodes p q new node (λ v. v ≡ (cond (q == p) (step (w.each q)) (w.each q)).node) e
    (λ same. new_is ∙ sym (ap (λ (b : Bool). (cond b (step (w.each q)) (w.each q)).node) (ap (λ i. i == p) same ∙ itself p) ∙ ap (λ i. (step (w.each i)).node) same))
    (λ there other. cond_cases (λ (v : ProcessView). node ≡ v.node) (q == p) (step (w.each q)) (w.each q) (λ t. absurd (other (same_number q p t))) (λ t. s.each q node there)) in
    by_happening n h (set n.nodes p new) n.parts s m (subst (λ u. AreOf u (set n.nodes p new)) (sym is) each) (subst (λ (u : WorldView). AreAmong n.parts u.parts) (sym is) s.sent)

-- CALLS OF A NODE

post_cases : (name : Name) (r : Result Given PostError) (result : Result ℕ PostError) (old new : NodeView) → MakesPost name r result old new → (new ≡ old) ⊎ ((given : Given) × (r ≡ Ok given) × (new ≡ with_post name given old))
post_cases name (Err refusal) result old new h = inl h.1
post_cases name (Ok given) (Ok call) old new h = inr (given, refl, h.1)
post_cases name (Ok given) (Err e) old new h = inl h.1

pub post_step : (ops : List Operation) (old new : NodeView) (name : Name) (draft : Draft) (result : Result ℕ PostError) → MakesPost name (checked_on ops old name draft) result old new → IsNodeStep ops old new
post_step ops old new name draft result h n s with_ops p at = elim (post_cases name (checked_on ops old name draft) result old new h) [
  | inl same ↦ unchanged_step ops old new same n s with_ops p at
  | inr made ↦ let here = s.each p old at in
      by_step n p old new (makes name made.0) (Posts p name made.0) s at (subst (λ (v : NodeView). MayPost (v.opened name)) here (checked_may ops old name draft made.0 made.1)) refl
      (made.2 ∙ ap (with_post name made.0) here)
]

opened_cases : (ops : List Operation) (name : Name) (next : Option Finished) (result : Result Harvest OutOfMemory) (old new : NodeView) → HarvestsOpened ops name next result old new → (new ≡ old) ⊎ ((finished : Finished) × (next ≡ Some finished) × (new ≡ add_result name finished (made_next ops name old) old))
opened_cases ops name (Some finished) (Ok (H.Done call)) old new h = inr (finished, refl, h.1)
opened_cases ops name (Some finished) (Ok H.NotYet) old new h = absurd h
opened_cases ops name (Some finished) (Ok H.NotOpened) old new h = absurd h
opened_cases ops name (Some finished) (Err e) old new h = inl h
opened_cases ops name None (Ok (H.Done call)) old new h = absurd h
opened_cases ops name None (Ok H.NotYet) old new h = inl h
opened_cases ops name None (Ok H.NotOpened) old new h = absurd h
opened_cases ops name None (Err e) old new h = absurd h

harvest_cases : (ops : List Operation) (is_opened : Bool) (name : Name) (next : Option Finished) (result : Result Harvest OutOfMemory) (old new : NodeView) → Harvests ops is_opened name next result old new → (new ≡ old) ⊎ ((finished : Finished) × (next ≡ Some finished) × (new ≡ add_result name finished (made_next ops name old) old))
harvest_cases ops false name next result old new h = inl h.1
harvest_cases ops true name next result old new h = opened_cases ops name next result old new h

next_step : (ops : List Operation) (old new : NodeView) (name : Name) → (new ≡ old) ⊎ ((finished : Finished) × (next_result ops old name ≡ Some finished) × (new ≡ add_result name finished (made_next ops name old) old)) → IsNodeStep ops old new
next_step ops old new name h n s with_ops p at = elim h [
  | inl same ↦ unchanged_step ops old new same n s with_ops p at
  | inr made ↦ by_step n p old new (harvests (world_in n).operations name) (HappensHarvest p name) s at tt refl (let v = (world_in n).each p in let here = s.each p old at in let same = operations_in n ∙ with_ops in
      made.2 ∙ ap (λ o. add_result name made.0 (made_next o name old) old) (sym same) ∙ ap (λ x. add_result name made.0 (made_next (world_in n).operations name x) x) here ∙ ap (λ o. (stores (world_in n).operations name o v).node) (sym (ap (λ x. next_result (world_in n).operations x name) (sym here) ∙ ap (λ o. next_result o old name) same ∙ made.1)))
]

pub harvest_step : (ops : List Operation) (old new : NodeView) (name : Name) (result : Result Harvest OutOfMemory) → Harvests ops (is_some (old.opened name)) name (next_result ops old name) result old new → IsNodeStep ops old new
harvest_step ops old new name result h = next_step ops old new name (harvest_cases ops (is_some (old.opened name)) name (next_result ops old name) result old new h)

-- one step after the other
set_there : (nodes : List NodeView) (p : ℕ) (new old : NodeView) → slice_get nodes p ≡ Some old → slice_get (set nodes p new) p ≡ Some new
set_there [] p new old at = cc at
set_there (x ∷ nodes) zero new old at = refl
set_there (x ∷ nodes) (suc p) new old at = set_there nodes p new old at

set_twice : (nodes : List NodeView) (p : ℕ) (first second : NodeView) → set (set nodes p first) p second ≡ set nodes p second
set_twice [] zero first second = refl
set_twice [] (suc p) first second = refl
set_twice (x ∷ nodes) zero first second = refl
set_twice (x ∷ nodes) (suc p) first second = ap (λ xs. x ∷ xs) (set_twice nodes p first second)

steps_then : (ops : List Operation) (old middle new : NodeView) → IsNodeStep ops old middle → IsNodeStep ops middle new → IsNodeStep ops old new
steps_then ops old middle new first second n s with_ops p at =
    let one = first n s with_ops p at in
    let two = second (network_of one) one.network with_ops p (set_there n.nodes p middle old at) in
    subst (λ nodes. NetworkGoesOn n nodes n.parts) (set_twice n.nodes p middle new) (further n (set n.nodes p middle) (set (set n.nodes p middle) p new) n.parts n.parts one two)

with_next_cases : (ops : List Operation) (name : Name) (next : Option Finished) (old new : NodeView) → new ≡ with_next ops next name old → (new ≡ old) ⊎ ((finished : Finished) × (next ≡ Some finished) × (new ≡ add_result name finished (made_next ops name old) old))
with_next_cases ops name None old new e = inl e
with_next_cases ops name (Some finished) old new e = inr (finished, refl, e)

pub harvested_step : (ops : List Operation) (old new : NodeView) (name : Name) (times : ℕ) → new ≡ harvested ops times name old → IsNodeStep ops old new
harvested_step ops old new name zero e = unchanged_step ops old new e
harvested_step ops old new name (suc n) e =
    let middle = harvested ops n name old in
    steps_then ops old middle new (harvested_step ops old middle name n refl) (next_step ops middle new name (with_next_cases ops name (next_result ops middle name) middle new e))

gather_cases : (parent : Name) (r : Result GatheringView PostError) (result : Result Name PostError) (old new : NodeView) → Opens parent r result old new → (new ≡ old) ⊎ ((g : GatheringView) × (r ≡ Ok g) × (new ≡ open_gathering_node parent g old))
gather_cases parent (Err refusal) result old new h = inl h.1
gather_cases parent (Ok g) (Ok name) old new h = inr (g, refl, h.1)
gather_cases parent (Ok g) (Err e) old new h = inl h.1

pub gather_step : (ops : List Operation) (old new : NodeView) (parent : Name) (tag : ℤ) (ranks : List ℤ) (result : Result Name PostError) → Opens parent (gathers_on old parent tag ranks) result old new → IsNodeStep ops old new
gather_step ops old new parent tag ranks result h n s with_ops p at = elim (gather_cases parent (gathers_on old parent tag ranks) result old new h) [
  | inl same ↦ unchanged_step ops old new same n s with_ops p at
  | inr made ↦ by_step n p old new (gathers parent tag ranks) (Gathers p parent tag ranks) s at tt refl (let v = (world_in n).each p in let here = s.each p old at in
      made.2 ∙ ap (open_gathering_node parent made.0) here ∙ ap (λ r. (opens_gathering parent r v).node) (sym (ap (λ x. gathers_on x parent tag ranks) (sym here) ∙ made.1)))
]

pub prune_step : (ops : List Operation) (old new : NodeView) (name : Name) (m : ℕ) (result : Result (Unit {0}) PruneError) → HasPruned name m result old new → IsNodeStep ops old new
prune_step ops old new name m (Ok u) h n s with_ops p at =
    let v = (world_in n).each p in
    let here = s.each p old at in
    by_step n p old new (prunes name m) (Prunes p name m) s at tt refl (h.1 ∙ ap (λ x. learn_some (prune_part x name m) x) here ∙ sym (taken_node (prune_part v.node name m) v) ∙ ap (λ r. (drops name m r v).node) (h.0 ∙ ap (λ (x : NodeView). pruned_on x.board name m) here))
prune_step ops old new name m (Err refusal) h n s with_ops p at = unchanged_step ops old new h.2 n s with_ops p at

pub take_step : (old new : NodeView) (part : Look) (result : Result (Unit {0}) OutOfMemory) → OnOk result (new ≡ learn part old) → OnErr result (StopsTaking part old new) → IsTake part old new
take_step old new part (Ok u) ok err n s p at place sent =
    let v = (world_in n).each p in
    let here = s.each p old at in
    let there = s.sent place part sent in
    by_step n p old new (takes (slice_get (world_in n).parts there.0)) (Takes p there.0) s at tt refl (ok ∙ ap (learn part) here ∙ ap (λ o. (takes o v).node) (sym there.1))
take_step old new part (Err e) ok err n s p at place sent =
    let v = (world_in n).each p in
    let here = s.each p old at in
    let there = s.sent place part sent in
    let may : MayLeave v.node.board (slice_get (world_in n).parts there.0) new.board = subst (λ o. MayLeave v.node.board o new.board) (sym there.1) (subst (λ (x : NodeView). IsBetween x.board part new.board) here err.1) in
    by_step n p old new (learns new.board) (TakesPartly p there.0 new.board) s at may refl (err.0 ∙ sym (ap (λ b. record old { board = b }) err.1.joined) ∙ ap (learn new.board) here)

pub forget_step : (ops : List Operation) (old new : NodeView) (name : Name) (below : ℕ) → new ≡ forgets name below old → IsNodeStep ops old new
forget_step ops old new name below h n s with_ops p at = by_step n p old new (lets_results_go name below) (Forgets p name below) s at tt refl (h ∙ ap (forgets name below) (s.each p old at))

pub deltas_step : (ops : List Operation) (old new : NodeView) → SaysWhatItHas old new → IsNodeStep ops old new
deltas_step ops old new says n s with_ops p at =
    let here = s.each p old at in
    let may : MayHappen (world_in n) (Acknowledges p says.numbers) = subst (λ (x : NodeView). (name : Name) (m : ℕ) → HasUpTo x.board name m (says.numbers name m)) here (digest_had says.numbers old.board says.digest) in
    by_step n p old new (acknowledges says.numbers) (Acknowledges p says.numbers) s at may refl (says.learnt ∙ ap (acknowledge says.numbers) here)

-- PARTS THAT ARE GIVEN

-- a part with facts of the node's board alone
gives : (n : Network) (p : ℕ) (node : NodeView) (part : Look) → IsNetwork n → slice_get n.nodes p ≡ Some node → OnlyFactsOf part node.board → NetworkGoesOn n n.nodes (part ∷ n.parts)
gives n p node part s at facts =
    let w = world_in n in
    let may : MayHappen w (Sends p part) = λ f has. inl (own_seen w p (w.each p) f ((well n s).holds.processes p) (subst (λ (x : NodeView). Has x.board f) (s.each p node at) (facts f has))) in
    by_happening n (Sends p part) n.nodes (part ∷ n.parts) s may s.each more where
      more : AreAmong (part ∷ n.parts) ((world_in n).parts ++ part ∷ [])
      more zero x e = (length (world_in n).parts, slice_get-push (world_in n).parts part ∙ e)
      more (suc i) x e = let there = s.sent i x e in (there.0, slice_get-append (world_in n).parts (part ∷ []) there.0 x there.1)

-- several
gives_all : (made : List Board) (n : Network) (p : ℕ) (node : NodeView) → IsNetwork n → slice_get n.nodes p ≡ Some node → ((i : ℕ) (b : Board) → slice_get made i ≡ Some b → OnlyFactsOf (look b) node.board) → NetworkGoesOn n n.nodes (map look made ++ n.parts)
gives_all [] n p node s at facts = by_nothing n n.nodes n.parts s s.each s.sent
gives_all (b ∷ made) n p node s at facts =
    let first = gives_all made n p node s at (λ i. facts (suc i)) in
    further n n.nodes n.nodes (map look made ++ n.parts) (look b ∷ (map look made ++ n.parts)) first (gives (network_of first) p node (look b) first.network at (facts zero b refl))

all_facts : (board : Look) (made : List Board) → All (λ b. OnlyFactsOf (look b) board) made → (i : ℕ) (b : Board) → slice_get made i ≡ Some b → OnlyFactsOf (look b) board
all_facts board [] all i b e = cc e
all_facts board (x ∷ made) all zero b e = subst (λ y. OnlyFactsOf (look y) board) (same_Some x b e) (all zero x (omega arith))
all_facts board (x ∷ made) all (suc i) b e = all_facts board made (λ k d lt. all (suc k) d (omega (arith, lt))) i b e

pub part_given : (node : NodeView) (part : Look) → part ≡ node.board → NodeGives node (part ∷ [])
part_given node part is n s p at = gives n p node part s at (λ f has. subst (λ b. Has b f) is has)

pub parts_given : (node : NodeView) (made : List Board) → All (λ part. OnlyFactsOf (look part) node.board) made → NodeGives node (map look made)
parts_given node made all n s p at = gives_all made n p node s at (all_facts node.board made all)

-- AGREEMENT

pub later_on : (n : Network) (nodes : List NodeView) (parts : List Look) (on : NetworkGoesOn n nodes parts) → Later (world_in n) (world_in (network_of on))
later_on n nodes parts on = later_by n.operations n.ranks n.size n.happenings on.later

-- a result is still held, or was let go since
pub held_on : (n : Network) (nodes : List NodeView) (parts : List Look) (on : NetworkGoesOn n nodes parts) (p : ℕ) (name : Name) (k : ℕ) (r : Finished) → result_on ((world_in n).each p).node name k ≡ Some r
    → (result_on ((world_in (network_of on)).each p).node name k ≡ Some r) ⊎ HasForgotten (Forgets p name) on.later k
held_on n nodes parts on p name k r e = held_by n.operations n.ranks n.size n.happenings on.later p name k r e

pub across : (n : Network) (nodes : List NodeView) (parts : List Look) → IsNetwork n → (on : NetworkGoesOn n nodes parts) → (p q : ℕ) → AgreeAcross (world_in n) (world_in (network_of on)) p q
across n nodes parts s on = agree_across (world_in n) (world_in (network_of on)) (later_on n nodes parts on) (well n s).holds (well (network_of on) on.network).holds

-- in the words of the nodes
nodes_agree : (old new : WorldView) (p q : ℕ) (a b : NodeView) → a ≡ (old.each p).node → b ≡ (new.each q).node → AgreeAcross old new p q → NodesAgree old p q a b
nodes_agree old new p q a b first second x = record {
  boards = subst (λ (v : NodeView). BoardsAgree v.board b.board) (sym first) (subst (λ (v : NodeView). BoardsAgree (old.each p).node.board v.board) (sym second) x.boards);
  results = λ name k r s er es. x.results name k r s (subst (λ v. result_on v name k ≡ Some r) first er) (subst (λ v. result_on v name k ≡ Some s) second es);
}

pub all_nodes_agree : (n : Network) → IsNetwork n → EachAgrees (world_in n) n.nodes n.nodes
all_nodes_agree n s p q a b ea eb = nodes_agree (world_in n) (world_in n) p q a b (s.each p a ea) (s.each q b eb) (all_agree (world_in n) (well n s).holds p q)

pub later_nodes_agree : (n : Network) (nodes : List NodeView) (parts : List Look) → IsNetwork n → NetworkGoesOn n nodes parts → EachAgrees (world_in n) n.nodes nodes
later_nodes_agree n nodes parts s on p q a b ea eb = nodes_agree (world_in n) (world_in (network_of on)) p q a b (s.each p a ea) (on.network.each q b eb) (across n nodes parts s on p q)

pub results_kept : (n : Network) (nodes : List NodeView) (parts : List Look) → IsNetwork n → NetworkGoesOn n nodes parts → AreKept n.nodes nodes
results_kept n nodes parts s on p a b ea eb name k r er =
    subst (λ v. IsHeldOrGone v name k r) (sym (on.network.each p b eb))
    (((later_on n nodes parts on).kept p).results_kept name k r (subst (λ v. result_on v name k ≡ Some r) (s.each p a ea) er))

pub dead_stays_on : (n : Network) (nodes : List NodeView) (parts : List Look) → IsNetwork n → NetworkGoesOn n nodes parts → DeadStaysOn n.nodes nodes
dead_stays_on n nodes parts s on p a b ea eb name dead =
    let old = world_in n in
    let new = world_in (network_of on) in
    let now = dead_stays old new (later_on n nodes parts on) (well (network_of on) on.network).holds p name (subst (λ (v : NodeView). IsGone v.board name) (s.each p a ea) dead) in
    subst (λ (v : NodeView). v.board.contexts name ≡ gone) (sym (on.network.each p b eb)) now
