-- A port stays a port.
use Rattle.std.proofs.Common.{◌≡◌, ◌≢◌, ◌⊎◌, ℕ, zero, suc, ◌≤◌, ◌==◌, max, cond, Bool, true, false, List, [], ◌∷◌, ◌++◌, length, map, Some, None, Option, Result, Ok, Err, All, refl, sym, ap, ◌∙◌, subst, ⊎_elim, inl, inr, arith}
use Rattle.std.specs.Prelude.{ℤ, is_some, slice_get}
use Rattle.std.proofs.lemmas.Bool.{cases_eq, cases_lt}
use mathlib.Core.List.{IsPrefix}
use Rattle.std.proofs.lemmas.List.Elements.{All-head, All-tail}
use Rattle.join_core.specs.Flat.{known, unknown, flat_leq}
use Rattle.mpx_name.specs.Name.{Name}
use Rattle.mpx_num.specs.declared.own.Operation.{Operation}
use Rattle.mpx_birth.specs.Births.{BirthView, same_birth, of_members, upto}
use Rattle.mpx_post.specs.Posts.{Given}
use Rattle.mpx_post.specs.Gatherings.{GatheringView}
use Rattle.mpx_post.specs.declared.draft.Draft.{Draft}
use Rattle.mpx_post.specs.declared.draft.PostError.{PostError}
use Rattle.mpx_board.specs.declared.acks.Raised.{Raised}
use Rattle.mpx_board.specs.declared.board.Board.{Board}
use Rattle.mpx_board.specs.declared.errors.PruneError.{PruneError}
use Rattle.mpx_board.specs.Boards.{Look, Numbers, Born, Has, Stands, IsBetween, empty, nothing, join, join_contexts, join_all, own_acks}
use Rattle.mpx_board.specs.Changes.{pruned_on}
use Rattle.mpx_board.specs.Contexts.{look_of}
use Rattle.mpx_board.specs.Looks.{look, parts_of}
use Rattle.mpx_board.specs.Parts.{PartsView}
use Rattle.mpx_format.specs.Decoding.{IsSpelled}
use Rattle.mpx_format.specs.declared.versions.Version.TheVariants.{Two}
use Rattle.mpx_delta.specs.Facts.{OnlyFactsOf}
use Rattle.mpx_delta.specs.Digests.{HasUpTo}
use Rattle.mpx_node.specs.declared.finished.Finished.{Finished}
use Rattle.mpx_node.specs.declared.node.Harvest.TheVariants as H
use Rattle.mpx_node.specs.Forgetting.{forgets}
use Rattle.mpx_node.specs.Harvests.{Harvests}
use Rattle.mpx_node.specs.Deltas.{LacksOn, SaysWhatItHas, lacking_on}
use Rattle.mpx_node.specs.Nodes.{NodeView, Posts, Opens, StopsTaking, checked_on, next_result, gathers_on, start_node, learn, learn_some, prune_part}
use Rattle.mpx_world.specs.Drafted.{makes_checked}
use Rattle.mpx_world.specs.Worlds.{ProcessView, stores, opens_gathering, drops, takes, in_board}
use Rattle.mpx_world.proofs.Lists.{itself, same_number, name_itself, slice_get-push, take-all, join_all-push}
use Rattle.mpx_world.proofs.Kept.{taken_node}
use Rattle.mpx_world.proofs.Covering.{digest_had}
use Rattle.mpx_world.proofs.Whole.{well_by}
use Rattle.mpx_bus.specs.declared.act.Act.{Act}
use Rattle.mpx_bus.specs.declared.act.Act.TheVariants as A
use Rattle.mpx_bus.specs.declared.act.Setup.{Setup}
use Rattle.mpx_bus.specs.declared.act.View.{View}
use Rattle.mpx_bus.specs.Acts.{part_of, said_on, act_on, after, at_start, process_at, node_at, DidIn, SaysNoMore, IsAhead, IsLocal, MayPush}
use Rattle.mpx_bus.specs.Views.{opened, seat_of, after_push, after_pop}
use Rattle.mpx_bus.specs.Rule.{IsPlanned, IsSent, Stood, planned_posts, world_of}
use Rattle.mpx_bus.specs.Frames.{AreSpelled}
use Rattle.mpx_bus.specs.Ports.{AreDeltas, IsPort, MayPushAll}
use Rattle.mpx_bus.proofs.Journals.{after-append, ahead_itself, ahead_more, did_last, one_of, onward, popped_before}
use Rattle.mpx_bus.proofs.Keeping.{board_after}
use Rattle.mpx_bus.proofs.Moves.{push_same, pop_same}
use Rattle.mpx_bus.proofs.Seen.{may_push_later}
use Rattle.mpx_bus.proofs.Spelled.{spelled_facts, spelled_fit, spelled_parts}
use Rattle.mpx_post.proofs.Lists.{slice_get-append}

-- A BOARD IS THE JOIN OF WHAT WAS LEARNED

abbrev IsJoined : ProcessView → Type 0
IsJoined v = v.node.board ≡ join_all v.learned

grown : (v : ProcessView) (part : Look) → IsJoined v → join v.node.board part ≡ join_all (v.learned ++ part ∷ [])
grown v part e = ap (λ b. join b part) e ∙ sym (join_all-push v.learned part)

joined_makes : (name : Name) (r : Result Given PostError) (v : ProcessView) → IsJoined v → IsJoined (makes_checked name r v)
joined_makes name (Ok given) v e = grown v _ e
joined_makes name (Err refusal) v e = e

joined_stores : (ops : List Operation) (name : Name) (r : Option Finished) (v : ProcessView) → IsJoined v → IsJoined (stores ops name r v)
joined_stores ops name None v e = e
joined_stores ops name (Some finished) v e = grown v _ e

joined_opens : (parent : Name) (r : Result GatheringView PostError) (v : ProcessView) → IsJoined v → IsJoined (opens_gathering parent r v)
joined_opens parent (Ok g) v e = grown v _ e
joined_opens parent (Err refusal) v e = e

joined_takes : (part : Option Look) (v : ProcessView) → IsJoined v → IsJoined (takes part v)
joined_takes None v e = e
joined_takes (Some part) v e = grown v part e

joined_drops : (name : Name) (n : ℕ) (r : Result (Unit {0}) PruneError) (v : ProcessView) → IsJoined v → IsJoined (drops name n r v)
joined_drops name n (Ok u) v e = joined_takes (prune_part v.node name n) v e
joined_drops name n (Err refusal) v e = e

joined_act : (ops : List Operation) (a : Act) (v : ProcessView) → IsJoined v → IsJoined (act_on ops a v)
joined_act ops (A.Posted name draft) v e = joined_makes name (checked_on ops v.node name draft) v e
joined_act ops (A.Harvested name) v e = joined_stores ops name (next_result ops v.node name) v e
joined_act ops (A.Gathered parent tag ranks) v e = joined_opens parent (gathers_on v.node parent tag ranks) v e
joined_act ops (A.Pruned name n) v e = joined_drops name n (pruned_on v.node.board name n) v e
joined_act ops (A.Forgot name below) v e = e
joined_act ops (A.Took bytes) v e = grown v (part_of bytes) e
joined_act ops (A.StoppedTaking bytes left) v e = grown v (look left) e
joined_act ops (A.Acknowledged board) v e = grown v (own_acks v.node.me (said_on board v)) e
joined_act ops (A.Pushed bytes) v e = e
joined_act ops (A.Popped bytes) v e = e

joined_after : (ops : List Operation) (acts : List Act) (v : ProcessView) → IsJoined v → IsJoined (after ops acts v)
joined_after ops [] v e = e
joined_after ops (a ∷ acts) v e = joined_after ops acts (act_on ops a v) (joined_act ops a v e)

joined_at : (setup : Setup) (p : ℕ) (acts : List Act) → IsJoined (process_at setup p acts)
joined_at setup p acts = joined_after setup.operations acts (at_start setup p) ((well_by setup.operations setup.ranks setup.size [] tt).holds.processes p).joined

-- a process may send a part that has only facts of its board
pub sends_part : (setup : Setup) (p : ℕ) (journal : List Act) (bytes : List ℕ) (view : PartsView) → IsSpelled bytes view → OnlyFactsOf (look_of view) (node_at setup p journal).board → MayPush setup p journal bytes
sends_part setup p journal bytes view spells only =
    let v : ProcessView = process_at setup p journal in
    inl (record {
      view = view;
      spells = spells;
      seen = λ f has. in_board (length v.learned) (subst (λ b. Has b f) (joined_at setup p journal ∙ sym (ap join_all (take-all v.learned))) (only f has));
    })

-- A PROCESS KEEPS THE BIRTH OF THE WORLD

abbrev opening_birth : Setup → BirthView
opening_birth setup = of_members (upto setup.ranks)

born_at : (setup : Setup) (p : ℕ) (acts : List Act) → Stands (node_at setup p acts).board (Born [] (known (opening_birth setup)))
born_at setup p acts = board_after setup.operations acts (at_start setup p) (Born [] (known (opening_birth setup))) ((λ e. cc e), ap (λ b. (cond b (record nothing { birth = known (opening_birth setup) }) nothing).birth) (name_itself []))

-- so a list of deltas isn't empty
pub deltas_some : (setup : Setup) (p : ℕ) (acts : List Act) (frames : List (List ℕ)) → join_all (map part_of frames) ≡ lacking_on (node_at setup p acts) → frames ≡ [] → ⊥
deltas_some setup p acts frames joined none =
    let nothing_told : empty ≡ lacking_on (node_at setup p acts) = sym (ap (λ xs. join_all (map part_of xs)) none) ∙ joined in
    let unborn : unknown ≡ ((node_at setup p acts).board.contexts []).birth = ap (λ (b : Look). (b.contexts []).birth) nothing_told in
    let alive : false ≡ ((node_at setup p acts).board.contexts []).dead = ap (λ (b : Look). (b.contexts []).dead) nothing_told in
    ⊎_elim
    (λ (dead : ((node_at setup p acts).board.contexts []).dead ≡ true). let f : false ≡ true = alive ∙ dead in absurd (cc f))
    (λ (told : flat_leq same_birth (known (opening_birth setup)) ((node_at setup p acts).board.contexts []).birth ≡ true). let f : false ≡ true = subst (λ x. flat_leq same_birth (known (opening_birth setup)) x ≡ true) (sym unborn) told in absurd (cc f))
    (born_at setup p acts)

-- STEPS ON THE QUEUE

pub port_pushed : (node : NodeView) (v w : View) (journal new : List Act) (bytes : List ℕ) → IsPort node v journal → w ≡ after_push journal bytes v → Stood v.setup (seat_of v).me (seat_of w).journal → new ≡ journal ++ A.Pushed bytes ∷ [] → IsPort node w new
port_pushed node v w journal new bytes p is stood grows =
    subst (λ (y : View × List Act). IsPort node y.0 y.1) (λ i. (sym is i, sym grows i)) (record {
      stands = refl;
      ahead = ahead_itself v.setup (seat_of v).me (journal ++ A.Pushed bytes ∷ []);
      node_is = p.node_is ∙ ap (λ (x : ProcessView). x.node) (sym (push_same v.setup (seat_of v).me journal bytes));
      stood = subst (λ (u : View). Stood v.setup (seat_of v).me (seat_of u).journal) is stood;
    })

pub port_popped : (node : NodeView) (v w : View) (journal new : List Act) (bytes : List ℕ) → IsPort node v journal → w ≡ after_pop journal bytes v → Stood v.setup (seat_of v).me (seat_of w).journal → new ≡ journal ++ A.Popped bytes ∷ [] → IsPort node w new
port_popped node v w journal new bytes p is stood grows =
    subst (λ (y : View × List Act). IsPort node y.0 y.1) (λ i. (sym is i, sym grows i)) (record {
      stands = refl;
      ahead = ahead_itself v.setup (seat_of v).me (journal ++ A.Popped bytes ∷ []);
      node_is = p.node_is ∙ ap (λ (x : ProcessView). x.node) (sym (pop_same v.setup (seat_of v).me journal bytes));
      stood = subst (λ (u : View). Stood v.setup (seat_of v).me (seat_of u).journal) is stood;
    })

-- the frames that a port keeps may still be pushed
pub kept_later : (setup : Setup) (p : ℕ) (journal new more : List Act) (frames : List (List ℕ)) → new ≡ journal ++ more → MayPushAll setup p journal frames → MayPushAll setup p new frames
kept_later setup p journal new more frames grows all = record { each = λ k bytes e. subst (λ j. MayPush setup p j bytes) (sym grows) (may_push_later setup p journal more bytes (all.each k bytes e)) }

-- and by the view that a step leaves
pub kept_pushed : (v w : View) (journal new : List Act) (bytes : List ℕ) (frames : List (List ℕ)) → w ≡ after_push journal bytes v → new ≡ journal ++ A.Pushed bytes ∷ [] → MayPushAll v.setup (seat_of v).me journal frames → MayPushAll w.setup (seat_of w).me new frames
kept_pushed v w journal new bytes frames is grows all =
    subst (λ (u : View). MayPushAll u.setup (seat_of u).me new frames) (sym is) (kept_later v.setup (seat_of v).me journal new (A.Pushed bytes ∷ []) frames grows all)

pub kept_popped : (v w : View) (journal new : List Act) (bytes : List ℕ) (frames : List (List ℕ)) → w ≡ after_pop journal bytes v → new ≡ journal ++ A.Popped bytes ∷ [] → MayPushAll v.setup (seat_of v).me journal frames → MayPushAll w.setup (seat_of w).me new frames
kept_popped v w journal new bytes frames is grows all =
    subst (λ (u : View). MayPushAll u.setup (seat_of u).me new frames) (sym is) (kept_later v.setup (seat_of v).me journal new (A.Popped bytes ∷ []) frames grows all)

-- LOCAL EVENTS

pub node_more : (setup : Setup) (p : ℕ) (journal : List Act) (a : Act) → node_at setup p (journal ++ a ∷ []) ≡ (act_on setup.operations a (process_at setup p journal)).node
node_more setup p journal a = ap (λ (x : ProcessView). x.node) (after-append setup.operations journal (a ∷ []) (at_start setup p))

pub port_local : (node now : NodeView) (v : View) (journal new : List Act) (a : Act) → IsPort node v journal → IsLocal (seat_of v).journal (process_at v.setup (seat_of v).me journal) a → now ≡ (act_on v.setup.operations a (process_at v.setup (seat_of v).me journal)).node → new ≡ journal ++ a ∷ [] → IsPort now v new
port_local node now v journal new a p is does grows =
    subst (λ (j : List Act). IsPort now v j) (sym grows) (record {
      stands = p.stands;
      ahead = ahead_more v.setup (seat_of v).me (seat_of v).journal journal a p.ahead is;
      node_is = does ∙ sym (node_more v.setup (seat_of v).me journal a);
      stood = p.stood;
    })

-- the frame was popped just now
did_pop : (v w : View) (journal : List Act) (bytes : List ℕ) → w ≡ after_pop journal bytes v → DidIn (seat_of w).journal (A.Popped bytes)
did_pop v w journal bytes is = subst (λ (u : View). DidIn (seat_of u).journal (A.Popped bytes)) (sym is) (did_last journal (A.Popped bytes))

-- a node that joined the part of a frame that was popped
pub port_took : (node now : NodeView) (v w : View) (journal j1 new : List Act) (bytes : List ℕ) → IsPort node v journal → w ≡ after_pop journal bytes v → Stood v.setup (seat_of v).me (seat_of w).journal → j1 ≡ journal ++ A.Popped bytes ∷ []
    → now ≡ learn (part_of bytes) node → new ≡ j1 ++ A.Took bytes ∷ [] → IsPort now w new
port_took node now v w journal j1 new bytes p is stood grows does grows' =
    let q : IsPort node w j1 = port_popped node v w journal j1 bytes p is stood grows in
    port_local node now w j1 new (A.Took bytes) q (did_pop v w journal bytes is) (does ∙ ap (learn (part_of bytes)) q.node_is) grows'

-- what a refused take leaves is learned
stopped_learns : (part left : Look) (node now : NodeView) → StopsTaking part node now → left ≡ now.board → now ≡ learn left node
stopped_learns part left node now s is =
    s.0 ∙ (λ i. record node { board = (sym s.1.joined ∙ ap (join node.board) (sym is)) i })

pub port_stopped : (node now : NodeView) (v w : View) (journal j1 new : List Act) (bytes : List ℕ) (left : Board) → IsPort node v journal → w ≡ after_pop journal bytes v → Stood v.setup (seat_of v).me (seat_of w).journal → j1 ≡ journal ++ A.Popped bytes ∷ []
    → StopsTaking (part_of bytes) node now → look left ≡ now.board → new ≡ j1 ++ A.StoppedTaking bytes left ∷ [] → IsPort now w new
port_stopped node now v w journal j1 new bytes left p is stood grows stops left_is grows' =
    let q : IsPort node w j1 = port_popped node v w journal j1 bytes p is stood grows in
    let between : IsBetween (process_at w.setup (seat_of w).me j1).node.board (part_of bytes) (look left) =
    subst (λ (x : Look × Look). IsBetween x.0 (part_of bytes) x.1) (λ i. ((ap (λ (n : NodeView). n.board) q.node_is) i, sym left_is i)) stops.1 in
    port_local node now w j1 new (A.StoppedTaking bytes left) q (did_pop v w journal bytes is, between)
    (stopped_learns (part_of bytes) (look left) node now stops left_is ∙ ap (learn (look left)) q.node_is) grows'

-- a process that has done nothing stands at the start
pub new_stood : (setup : Setup) (me : ℕ) → Stood setup me []
new_stood setup me = record { happenings = []; may = tt; stands = refl; sent = λ bytes d. absurd (nothing_done bytes d.at d.did); planned = λ planned p. (planned_posts setup p, refl) } where
  nothing_done : (bytes : List ℕ) (k : ℕ) → slice_get [] k ≡ Some (A.Popped bytes) → ⊥
  nothing_done bytes k e = cc

-- a process stands as its journal says that goes on by local events from what it published
pub stood_ahead : (setup : Setup) (p : ℕ) (published journal : List Act) → Stood setup p published → IsAhead setup p published journal → IsPlanned setup p journal → Stood setup p journal
stood_ahead setup p published journal s ahead plan =
    let o = onward setup s.happenings p published journal s.may s.stands ahead s.sent in
    record {
      happenings = o.all;
      may = o.may;
      stands = o.here;
      sent = λ bytes d. subst (λ ps. IsSent ps bytes) (sym o.parts_are) (s.sent bytes (popped_before published journal bytes ahead d));
      planned = λ planned q. ⊎_elim
          (λ (e : q ≡ p). subst (λ r. IsPrefix ((world_of setup o.all).each r).made (planned_posts setup r)) (sym e) (subst (λ (v : ProcessView). IsPrefix (v.made) (planned_posts setup p)) (sym o.here) (plan planned)))
          (λ (ne : q ≢ p). subst (λ (v : ProcessView). IsPrefix (v.made) (planned_posts setup q)) (sym (o.others q ne)) (s.planned planned q))
          (cases_eq q p);
    }

-- so a port does that keeps its plan
pub port_stood : (node : NodeView) (v : View) (journal : List Act) → IsPort node v journal → IsPlanned v.setup (seat_of v).me journal → Stood v.setup (seat_of v).me journal
port_stood node v journal p plan = stood_ahead v.setup (seat_of v).me (seat_of v).journal journal p.stood p.ahead plan

-- a new port
pub new_port : (setup : Setup) (me : ℕ) (node : NodeView) (v : View) (journal : List Act) → node ≡ start_node me setup.ranks setup.size → v ≡ opened setup me → journal ≡ [] → IsPort node v journal
new_port setup me node v journal is here none =
    subst (λ (y : View × List Act). IsPort node y.0 y.1) (λ i. (sym here i, sym none i)) (record {
      stands = refl;
      ahead = ahead_itself setup me [];
      node_is = is;
      stood = new_stood setup me;
    })

makes_node : (name : Name) (r : Result Given PostError) (call : ℕ) (v : ProcessView) (now : NodeView) → Posts name r (Ok call) v.node now → now ≡ (makes_checked name r v).node
makes_node name (Ok given) call v now p = p.1
makes_node name (Err refusal) call v now p = absurd (cc)

-- a post of the node is a post of the process
pub post_does : (ops : List Operation) (name : Name) (draft : Draft) (call : ℕ) (v : ProcessView) (node now : NodeView) → node ≡ v.node → Posts name (checked_on ops node name draft) (Ok call) node now → now ≡ (act_on ops (A.Posted name draft) v).node
post_does ops name draft call v node now is p = makes_node name (checked_on ops v.node name draft) call v now (subst (λ (n : NodeView). Posts name (checked_on ops n name draft) (Ok call) n now) is p)

-- a harvest of the node is one of the process
harvests_node : (ops : List Operation) (b : Bool) (name : Name) (o : Option Finished) (call : ℕ) (v : ProcessView) (now : NodeView) → Harvests ops b name o (Ok (H.Done call)) v.node now → now ≡ (stores ops name o v).node
harvests_node ops false name o call v now p = absurd (cc)
harvests_node ops true name None call v now p = absurd p
harvests_node ops true name (Some finished) call v now p = p.1

pub harvest_does : (ops : List Operation) (name : Name) (call : ℕ) (v : ProcessView) (node now : NodeView) → node ≡ v.node → Harvests ops (is_some (node.opened name)) name (next_result ops node name) (Ok (H.Done call)) node now → now ≡ (act_on ops (A.Harvested name) v).node
harvest_does ops name call v node now is p =
    harvests_node ops (is_some (v.node.opened name)) name (next_result ops v.node name) call v now (subst (λ (n : NodeView). Harvests ops (is_some (n.opened name)) name (next_result ops n name) (Ok (H.Done call)) n now) is p)

opens_node : (parent : Name) (r : Result GatheringView PostError) (name : Name) (v : ProcessView) (now : NodeView) → Opens parent r (Ok name) v.node now → now ≡ (opens_gathering parent r v).node
opens_node parent (Ok g) name v now p = p.1
opens_node parent (Err refusal) name v now p = absurd (cc)

-- an opening of a gathering is one of the process
pub gather_does : (ops : List Operation) (parent : Name) (tag : ℤ) (ranks : List ℤ) (name : Name) (v : ProcessView) (node now : NodeView) → node ≡ v.node → Opens parent (gathers_on node parent tag ranks) (Ok name) node now → now ≡ (act_on ops (A.Gathered parent tag ranks) v).node
gather_does ops parent tag ranks name v node now is p = opens_node parent (gathers_on v.node parent tag ranks) name v now (subst (λ (n : NodeView). Opens parent (gathers_on n parent tag ranks) (Ok name) n now) is p)

opens_same : (parent : Name) (r : Result GatheringView PostError) (e : PostError) (old now : NodeView) → Opens parent r (Err e) old now → now ≡ old
opens_same parent (Ok g) e old now p = p.1
opens_same parent (Err refusal) e old now p = p.1

pub gather_same : (parent : Name) (tag : ℤ) (ranks : List ℤ) (e : PostError) (node now : NodeView) → Opens parent (gathers_on node parent tag ranks) (Err e) node now → now ≡ node
gather_same parent tag ranks e node now p = opens_same parent (gathers_on node parent tag ranks) e node now p

-- a pruning is one of the process
pub prune_does : (ops : List Operation) (name : Name) (n : ℕ) (u : Unit {0}) (v : ProcessView) (node now : NodeView) → node ≡ v.node → Ok u ≡ pruned_on node.board name n → now ≡ learn_some (prune_part node name n) node → now ≡ (act_on ops (A.Pruned name n) v).node
prune_does ops name n u v node now is answer does =
    does ∙ ap (λ (x : NodeView). learn_some (prune_part x name n) x) is ∙ sym (taken_node (prune_part v.node name n) v) ∙ ap (λ r. (drops name n r v).node) (answer ∙ ap (λ (x : NodeView). pruned_on x.board name n) is)

-- WHAT A PROCESS SAYS THAT IT HAS

said_numbers : (me : ℕ) (old : Look) (numbers : Numbers) (name : Name) (m : ℕ) → (join old (own_acks me numbers)).acks me name m ≡ max (old.acks me name m) (numbers name m)
said_numbers me old numbers name m = ap (λ b. max (old.acks me name m) (cond b (numbers name m) 0)) (itself me)

max_cases : (a x : ℕ) → (max a x ≡ x) ⊎ (max a x ≤ a)
max_cases a x = ⊎_elim (λ l. inl (omega (arith, l))) (λ l. inr (omega (arith, l))) (cases_lt a x)

-- to say it twice is to say it once
said_twice : (me : ℕ) (old : Look) (numbers : Numbers) → join old (own_acks me ((join old (own_acks me numbers)).acks me)) ≡ join old (own_acks me numbers)
said_twice me old numbers i = record { contexts = λ name. join_contexts (old.contexts name) nothing; acks = λ q name m. by q name m (q == me) refl i } where
  by : (q : ℕ) (name : Name) (m : ℕ) (b : Bool) → (q == me) ≡ b → max (old.acks q name m) (cond b ((join old (own_acks me numbers)).acks me name m) 0) ≡ max (old.acks q name m) (cond b (numbers name m) 0)
  by q name m true t =
      let same : q ≡ me = same_number q me t in
      ap (max (old.acks q name m)) (said_numbers me old numbers name m) ∙ ap (λ r. max (old.acks q name m) (max (old.acks r name m) (numbers name m))) (sym same) ∙ omega arith
  by q name m false t = refl

-- a node that says what it has, as it then stands on this board
pub says_does : (ops : List Operation) (board : Board) (v : ProcessView) (node now : NodeView) → node ≡ v.node → SaysWhatItHas node now → look board ≡ now.board → now ≡ (act_on ops (A.Acknowledged board) v).node
says_does ops board v node now is says on =
    let there : look board ≡ join node.board (own_acks node.me says.numbers) = on ∙ ap (λ (n : NodeView). n.board) says.learnt in
    let said : (look board).acks node.me ≡ (join node.board (own_acks node.me says.numbers)).acks node.me = ap (λ (b : Look). b.acks node.me) there in
    let same : join node.board (own_acks node.me ((look board).acks node.me)) ≡ join node.board (own_acks node.me says.numbers) = ap (λ n. join node.board (own_acks node.me n)) said ∙ said_twice node.me node.board says.numbers in
    says.learnt ∙ (λ i. record node { board = sym same i }) ∙ ap (λ (n : NodeView). learn (own_acks n.me ((look board).acks n.me)) n) is

pub says_no_more : (board : Board) (v : ProcessView) (node now : NodeView) → node ≡ v.node → SaysWhatItHas node now → look board ≡ now.board → SaysNoMore board v
says_no_more board v node now is says on = subst NoMore is no_more where
  NoMore : NodeView → Type 0
  NoMore n = (name : Name) (m : ℕ) → HasUpTo n.board name m ((look board).acks n.me name m) ⊎ ((look board).acks n.me name m ≤ n.board.acks n.me name m)

  no_more : NoMore node
  no_more name m =
      let there : look board ≡ join node.board (own_acks node.me says.numbers) = on ∙ ap (λ (n : NodeView). n.board) says.learnt in
      let is_max : (look board).acks node.me name m ≡ max (node.board.acks node.me name m) (says.numbers name m) = ap (λ (b : Look). b.acks node.me name m) there ∙ said_numbers node.me node.board says.numbers name m in
      ⊎_elim
      (λ (e : max (node.board.acks node.me name m) (says.numbers name m) ≡ says.numbers name m). inl (subst (HasUpTo node.board name m) (sym (is_max ∙ e)) (digest_had says.numbers node.board says.digest name m)))
      (λ (le : max (node.board.acks node.me name m) (says.numbers name m) ≤ node.board.acks node.me name m). inr (subst (λ k. k ≤ node.board.acks node.me name m) (sym is_max) le))
      (max_cases (node.board.acks node.me name m) (says.numbers name m))

pub port_said : (node now : NodeView) (v : View) (journal new : List Act) (board : Board) → IsPort node v journal → SaysWhatItHas node now → look board ≡ now.board → new ≡ journal ++ A.Acknowledged board ∷ [] → IsPort now v new
port_said node now v journal new board p says on grows =
    let x : ProcessView = process_at v.setup (seat_of v).me journal in
    port_local node now v journal new (A.Acknowledged board) p (says_no_more board x node now p.node_is says on) (says_does v.setup.operations board x node now p.node_is says on) grows

-- FRAMES OF A LIST

pub none_kept : (setup : Setup) (p : ℕ) (journal : List Act) (frames : List (List ℕ)) → frames ≡ [] → MayPushAll setup p journal frames
none_kept setup p journal frames none = record { each = λ k bytes e. absurd (nothing_kept k bytes (subst (λ xs. slice_get xs k ≡ Some bytes) none e)) } where
  nothing_kept : (k : ℕ) (bytes : List ℕ) → slice_get [] k ≡ Some bytes → ⊥
  nothing_kept k bytes e = cc

-- without the last
pub fewer_kept : (setup : Setup) (p : ℕ) (journal : List Act) (all left : List (List ℕ)) (bytes : List ℕ) → all ≡ left ++ bytes ∷ [] → MayPushAll setup p journal all → MayPushAll setup p journal left
fewer_kept setup p journal all left bytes is m = record { each = λ k b e. m.each k b (ap (λ xs. slice_get xs k) is ∙ slice_get-append left (bytes ∷ []) k b e) }

pub last_kept : (setup : Setup) (p : ℕ) (journal : List Act) (all left : List (List ℕ)) (bytes : List ℕ) → all ≡ left ++ bytes ∷ [] → MayPushAll setup p journal all → MayPush setup p journal bytes
last_kept setup p journal all left bytes is m = m.each (length left) bytes (ap (λ xs. slice_get xs (length left)) is ∙ slice_get-push left bytes)

spelled_may : (setup : Setup) (p : ℕ) (journal : List Act) (frames : List (List ℕ)) (boards : List Board) → AreSpelled frames boards → All (λ board. OnlyFactsOf (look board) (node_at setup p journal).board) boards
    → (k : ℕ) (bytes : List ℕ) → slice_get frames k ≡ Some bytes → MayPush setup p journal bytes
spelled_may setup p journal [] boards s all k bytes e = absurd (cc)
spelled_may setup p journal (x ∷ frames) [] s all k bytes e = absurd s
spelled_may setup p journal (x ∷ frames) (board ∷ boards) s all zero bytes e =
    subst (MayPush setup p journal) (one_of x bytes 0 e) (sends_part setup p journal x (parts_of board) (Two, s.0) (All-head (λ b. OnlyFactsOf (look b) (node_at setup p journal).board) board boards all))
spelled_may setup p journal (x ∷ frames) (board ∷ boards) s all (suc k) bytes e =
    spelled_may setup p journal frames boards s.1 (All-tail (λ b. OnlyFactsOf (look b) (node_at setup p journal).board) board boards all) k bytes e

pub new_kept : (setup : Setup) (p : ℕ) (journal : List Act) (limit : ℕ) (old : NodeView) (said : Raised) (frames : List (List ℕ)) (boards : List Board) (made : LacksOn limit old said boards) → made.after ≡ node_at setup p journal → AreSpelled frames boards → MayPushAll setup p journal frames
new_kept setup p journal limit old said frames boards made is s = record { each = spelled_may setup p journal frames boards s (subst (λ (n : NodeView). All (λ board. OnlyFactsOf (look board) n.board) boards) is made.facts) }

pub new_deltas : (limit : ℕ) (old : NodeView) (said : Raised) (frames : List (List ℕ)) (boards : List Board) (made : LacksOn limit old said boards) → AreSpelled frames boards → AreDeltas limit old made.after frames
new_deltas limit old said frames boards made s = record {
  says = made.own;
  fit = spelled_fit limit frames boards s made.fit;
  facts = spelled_facts made.after.board frames boards s made.facts;
  join = ap join_all (spelled_parts frames boards s) ∙ made.join;
}

-- WHERE NOTHING IS DONE

pub port_same : (node now : NodeView) (v : View) (journal new : List Act) → IsPort node v journal → now ≡ node → new ≡ journal → IsPort now v new
port_same node now v journal new p is same = subst (λ (y : NodeView × List Act). IsPort y.0 v y.1) (λ i. (sym is i, sym same i)) p

pub post_same : (name : Name) (r : Result Given PostError) (e : PostError) (old now : NodeView) → Posts name r (Err e) old now → now ≡ old
post_same name (Ok given) e old now p = p.1
post_same name (Err refusal) e old now p = p.1

-- results that are let go
pub forget_does : (ops : List Operation) (name : Name) (below : ℕ) (v : ProcessView) (node now : NodeView) → node ≡ v.node → now ≡ forgets name below node → now ≡ (act_on ops (A.Forgot name below) v).node
forget_does ops name below v node now is does = does ∙ ap (forgets name below) is
