-- A process that lets nothing go has all results that it harvested.
use Rattle.std.proofs.Common.{ℕ, ◌==◌, Bool, true, false, cond, List, [], Option, Some, None, sym, subst, arith}
use Rattle.std.specs.Prelude.{nat_lt, slice_get, ◌&&◌, Result, Ok, Err}
use Rattle.mpx_post.specs.Gatherings.{GatheringView}
use Rattle.mpx_post.specs.Posts.{Given}
use Rattle.mpx_post.specs.declared.draft.PostError.{PostError}
use Rattle.mpx_board.specs.declared.errors.PruneError.{PruneError}
use Rattle.mpx_board.specs.Boards.{Look}
use Rattle.mpx_board.specs.Changes.{pruned_on}
use Rattle.mpx_name.specs.Name.{Name, same_name}
use Rattle.mpx_num.specs.declared.own.Operation.{Operation}
use Rattle.mpx_node.specs.declared.finished.Finished.{Finished}
use Rattle.mpx_node.specs.Nodes.{NodeView, fresh, gathering_fact, gathering_name, gathers_on, learn, next_result, prune_part, results_by, results_on}
use Rattle.mpx_node.proofs.Gone.{AllThere, all_push}
use Rattle.mpx_world.specs.Worlds.{ProcessView, WorldView, Happening, Posts, Harvests, Gathers, Prunes, Sends, Takes, TakesPartly, Acknowledges, Forgets, acknowledges, drops, gathers, happens, harvests, learns, made_next, makes, opens_gathering, prunes, start_process, stores, takes}
use Rattle.mpx_world.specs.Forgetting.{LetsNothingGo}
use Rattle.mpx_world.proofs.Kept.{results_added, results_opened, results_posted, results_stored}
use Rattle.mpx_world.proofs.Lists.{at_cases}

abbrev pub HasAll : NodeView → Type 0
HasAll node = (name : Name) → AllThere (results_on node name)

pub all_makes : (name : Name) (given : Given) (v : ProcessView) → HasAll v.node → HasAll (makes name given v).node
all_makes name given v h n = subst AllThere (sym (results_posted name n given v.node)) (h n)

pub all_stores : (ops : List Operation) (name : Name) (o : Option Finished) (v : ProcessView) → HasAll v.node → HasAll (stores ops name o v).node
all_stores ops name None v h = h
all_stores ops name (Some finished) v h = λ n. subst AllThere (sym (results_added name finished (made_next ops name v.node) v.node n))
    (results_stored name n finished v.node AllThere (λ same. all_push (results_on v.node n) finished (h n)) (h n))

pub all_opens : (parent : Name) (r : Result GatheringView PostError) (v : ProcessView) → HasAll v.node → HasAll (opens_gathering parent r v).node
all_opens parent (Err refusal) v h = h
all_opens parent (Ok g) v h = λ n. subst AllThere (sym (results_opened (λ m. same_name m (gathering_name parent g)) (learn (gathering_fact parent g) v.node) n)) (h n)

pub all_takes : (o : Option Look) (v : ProcessView) → HasAll v.node → HasAll (takes o v).node
all_takes None v h = h
all_takes (Some part) v h = h

pub all_drops : (name : Name) (n : ℕ) (r : Result (Unit {0}) PruneError) (v : ProcessView) → HasAll v.node → HasAll (drops name n r v).node
all_drops name n (Ok u) v h = all_takes (prune_part v.node name n) v h
all_drops name n (Err refusal) v h = h

all_at : (w : WorldView) (p : ℕ) (step : ProcessView → ProcessView) → ((q : ℕ) → HasAll (w.each q).node) → HasAll (step (w.each p)).node → (q : ℕ) → HasAll (cond (q == p) (step (w.each q)) (w.each q)).node
all_at w p step h s = at_cases p step w.each (λ q v. HasAll v.node) s h

pub all_happens : (w : WorldView) (h : Happening) → LetsNothingGo h → ((q : ℕ) → HasAll (w.each q).node) → (q : ℕ) → HasAll ((happens w h).each q).node
all_happens w (Posts p name given) none a = all_at w p (makes name given) a (all_makes name given (w.each p) (a p))
all_happens w (Harvests p name) none a = all_at w p (harvests w.operations name) a (all_stores w.operations name (next_result w.operations (w.each p).node name) (w.each p) (a p))
all_happens w (Gathers p parent tag ranks) none a = all_at w p (gathers parent tag ranks) a (all_opens parent (gathers_on (w.each p).node parent tag ranks) (w.each p) (a p))
all_happens w (Prunes p name n) none a = all_at w p (prunes name n) a (all_drops name n (pruned_on (w.each p).node.board name n) (w.each p) (a p))
all_happens w (Sends p part) none a = a
all_happens w (Takes p place) none a = all_at w p (takes (slice_get w.parts place)) a (all_takes (slice_get w.parts place) (w.each p) (a p))
all_happens w (TakesPartly p place left) none a = all_at w p (learns left) a (a p)
all_happens w (Acknowledges p numbers) none a = all_at w p (acknowledges numbers) a (a p)
all_happens w (Forgets p name below) none a = absurd none

none_there : (b : Bool) → AllThere (results_by (cond b (Some fresh) None))
none_there true k l = absurd (omega (arith, l))
none_there false k l = absurd (omega (arith, l))

pub all_start : (ranks size p : ℕ) → HasAll (start_process ranks size p).node
all_start ranks size p name = none_there (same_name name [] && nat_lt p ranks)
