-- A process's board tells how many calls it has harvested, or that their context is dead.
use Rattle.std.proofs.Common.{◌≡◌, ℕ, ◌+◌, ◌≤◌, ◌⊎◌, ◌==◌, cond, Bool, true, false, List, [], ◌∷◌, length, Some, None, Option, Result, Ok, Err, inl, inr, refl, sym, ap, ◌∙◌, subst, arith, length-append}
use Rattle.mpx_name.specs.Name.{Name, same_name}
use Rattle.mpx_num.specs.declared.own.Operation.{Operation}
use Rattle.mpx_post.specs.Posts.{Given}
use Rattle.mpx_birth.specs.Births.{BirthView}
use Rattle.mpx_post.specs.Gatherings.{GatheringView}
use Rattle.mpx_post.specs.declared.draft.PostError.{PostError}
use Rattle.mpx_board.specs.declared.errors.PruneError.{PruneError}
use Rattle.mpx_board.specs.Boards.{Context, Look, empty, nothing, join, own_acks}
use Rattle.mpx_board.specs.Looks.{look}
use Rattle.mpx_board.specs.Changes.{pruned_on}
use Rattle.mpx_board.proofs.Facts.{IsContextUnder, IsUnder, fold_above_each, under_first, under_second}
use Rattle.mpx_node.specs.declared.finished.Finished.{Finished}
use Rattle.mpx_node.specs.Deltas.{front_fact}
use Rattle.mpx_node.specs.Nodes.{NodeView, fresh, results_by, results_on, front_on, births_of, harvest_part, checked_on, next_result, gathers_on, gathering_name, gathering_fact, learn, prune_part}
use Rattle.std.specs.Prelude.{nat_lt, ◌&&◌}
use Rattle.mpx_node.proofs.Forgotten.{front_forgotten}
use Rattle.mpx_world.specs.Drafted.{makes_checked}
use Rattle.mpx_world.specs.Worlds.{ProcessView, made_next, stores, opens_gathering, drops, takes, learns, post_fact}
use Rattle.mpx_world.proofs.Lists.{itself, name_itself}
use Rattle.mpx_world.proofs.Kept.{results_posted, results_stored, results_opened, results_added}
use Rattle.mpx_bus.specs.declared.act.Act.{Act}
use Rattle.mpx_bus.specs.declared.act.Act.TheVariants as A
use Rattle.mpx_bus.specs.declared.act.Setup.{Setup}
use Rattle.mpx_bus.specs.Acts.{part_of, said_on, act_on, after, at_start, node_at}
use Rattle.mpx_bus.specs.Finished.{TellsFronts}

-- so many calls of the process are told of the context, or it is dead
abbrev IsFront : Context → (process count : ℕ) → Type 0
IsFront c q k = (c.dead ≡ true) ⊎ (k ≤ c.fronts q)

front_under : (x y : Context) (q k : ℕ) → IsContextUnder x y → IsFront x q k → IsFront y q k
front_under x y q k (inl dead) h = inl dead
front_under x y q k (inr u) (inl dead) = let no : true ≡ false = sym dead ∙ u.alive in cc
front_under x y q k (inr u) (inr l) = let more = u.fronts q in inr (omega (arith, l, more))

-- a board above tells as much
front_above : (a b : Look) (name : Name) (q k : ℕ) → IsUnder a b → IsFront (a.contexts name) q k → IsFront (b.contexts name) q k
front_above a b name q k u h = front_under (a.contexts name) (b.contexts name) q k (u.contexts name) h

abbrev Tells : ProcessView → Type 0
Tells v = TellsFronts v.node

tells_learns : (part : Look) (v : ProcessView) → Tells v → Tells (learns part v)
tells_learns part v t name = front_above v.node.board (join v.node.board part) name v.node.me (front_on v.node name) (under_first v.node.board part) (t name)

tells_makes : (name : Name) (r : Result Given PostError) (v : ProcessView) → Tells v → Tells (makes_checked name r v)
tells_makes name (Ok given) v t n =
    subst (λ xs. IsFront ((join v.node.board (post_fact name given v.node)).contexts n) v.node.me (length xs)) (sym (results_posted name n given v.node))
    (tells_learns (post_fact name given v.node) v t n)
tells_makes name (Err refusal) v t n = t n

tells_opens : (parent : Name) (r : Result GatheringView PostError) (v : ProcessView) → Tells v → Tells (opens_gathering parent r v)
tells_opens parent (Ok g) v t n =
    subst (λ xs. IsFront ((join v.node.board (gathering_fact parent g)).contexts n) v.node.me (length xs)) (sym (results_opened (λ m. same_name m (gathering_name parent g)) (learn (gathering_fact parent g) v.node) n))
    (tells_learns (gathering_fact parent g) v t n)
tells_opens parent (Err refusal) v t n = t n

tells_takes : (part : Option Look) (v : ProcessView) → Tells v → Tells (takes part v)
tells_takes None v t = t
tells_takes (Some part) v t = tells_learns part v t

tells_drops : (name : Name) (n : ℕ) (r : Result (Unit {0}) PruneError) (v : ProcessView) → Tells v → Tells (drops name n r v)
tells_drops name n (Ok u) v t = tells_takes (prune_part v.node name n) v t
tells_drops name n (Err refusal) v t = t

-- A HARVEST

front_there : (name : Name) (node : NodeView) → ((front_fact name node).contexts name).fronts node.me ≡ front_on node name + 1
front_there name node =
    ap (λ b. (cond b (record nothing { fronts = λ q. cond (q == node.me) (front_on node name + 1) 0 }) nothing).fronts node.me) (name_itself name)
    ∙ ap (λ b. cond b (front_on node name + 1) 0) (itself node.me)

as_many : (n m : ℕ) → m ≡ n → n ≤ m
as_many n m e = omega (arith, e)

harvest_tells : (name : Name) (made : List (Name × BirthView)) (node : NodeView) → IsFront ((harvest_part name made node).contexts name) node.me (front_on node name + 1)
harvest_tells name made node =
    front_above (front_fact name node) (harvest_part name made node) name node.me (front_on node name + 1)
    (fold_above_each (front_fact name node ∷ births_of made) empty 0 (front_fact name node) refl)
    (inr (as_many (front_on node name + 1) (((front_fact name node).contexts name).fronts node.me) (front_there name node)))

tells_stores : (ops : List Operation) (name : Name) (r : Option Finished) (v : ProcessView) → Tells v → Tells (stores ops name r v)
tells_stores ops name None v t n = t n
tells_stores ops name (Some finished) v t n =
    let made : List (Name × BirthView) = made_next ops name v.node in
    let part : Look = harvest_part name made v.node in
    let joined : Look = join v.node.board part in
    subst (λ xs. IsFront (joined.contexts n) v.node.me (length xs)) (sym (results_added name finished made v.node n))
    (results_stored name n finished v.node (λ xs. IsFront (joined.contexts n) v.node.me (length xs))
    (λ same. subst (λ k. IsFront (joined.contexts n) v.node.me k) (sym (length-append (results_on v.node n) (Some finished ∷ [])))
    (subst (λ m. IsFront (joined.contexts m) v.node.me (front_on v.node m + 1)) (sym same)
    (front_above part joined name v.node.me (front_on v.node name + 1) (under_second v.node.board part) (harvest_tells name made v.node))))
    (tells_learns part v t n))

-- ALL ACTS

tells_act : (ops : List Operation) (a : Act) (v : ProcessView) → Tells v → Tells (act_on ops a v)
tells_act ops (A.Posted name draft) v t = tells_makes name (checked_on ops v.node name draft) v t
tells_act ops (A.Harvested name) v t = tells_stores ops name (next_result ops v.node name) v t
tells_act ops (A.Gathered parent tag ranks) v t = tells_opens parent (gathers_on v.node parent tag ranks) v t
tells_act ops (A.Pruned name n) v t = tells_drops name n (pruned_on v.node.board name n) v t
tells_act ops (A.Forgot name below) v t = λ n. subst (λ k. IsFront (v.node.board.contexts n) v.node.me k) (sym (front_forgotten name below v.node n)) (t n)
tells_act ops (A.Took bytes) v t = tells_learns (part_of bytes) v t
tells_act ops (A.StoppedTaking bytes left) v t = tells_learns (look left) v t
tells_act ops (A.Acknowledged board) v t = tells_learns (own_acks v.node.me (said_on board v)) v t
tells_act ops (A.Pushed bytes) v t = t
tells_act ops (A.Popped bytes) v t = t

tells_after : (ops : List Operation) (acts : List Act) (v : ProcessView) → Tells v → Tells (after ops acts v)
tells_after ops [] v t = t
tells_after ops (a ∷ acts) v t = tells_after ops acts (act_on ops a v) (tells_act ops a v t)

none_harvested : (b : Bool) (k : ℕ) → length (results_by (cond b (Some fresh) None)) ≤ k
none_harvested true k = omega arith
none_harvested false k = omega arith

pub tells_at : (setup : Setup) (p : ℕ) (acts : List Act) → TellsFronts (node_at setup p acts)
tells_at setup p acts = tells_after setup.operations acts (at_start setup p) (λ name. inr (none_harvested (same_name name [] && nat_lt p setup.ranks) (((at_start setup p).node.board.contexts name).fronts p)))
