-- The steps of a node that aren't harvests, and what stays over them.
use Rattle.std.proofs.Common.{◌≡◌, ◌<◌, ℕ, zero, suc, true, Bool, List, Option, Some, None, refl, sym, ap, ◌∙◌, subst}
use Rattle.std.specs.Prelude.{◌||◌, Result, Ok, Err, OnOk, OnErr}
use Rattle.join_core.specs.declared.memory.OutOfMemory.{OutOfMemory}
use Rattle.mpx_num.specs.declared.own.Operation.{Operation}
use Rattle.mpx_node.specs.declared.finished.Finished.{Finished}
use Rattle.mpx_node.specs.Harvests.{harvested, with_next}
use Rattle.mpx_node.specs.Settling.{Drops, HarvestsAll, WantsResult, with_prune}
use Rattle.join_core.specs.laws.Cases.{answer}
use Rattle.join_core.specs.Flat.{known, flat_join, flat_leq}
use Rattle.mpx_post.specs.Posts.{Given}
use Rattle.mpx_post.specs.Gatherings.{GatheringView}
use Rattle.mpx_post.specs.declared.draft.PostError.{PostError}
use Rattle.mpx_post.specs.Equality.{same_given}
use Rattle.mpx_name.specs.Name.{Name, same_name}
use Rattle.mpx_board.specs.Boards.{Context, Look, join_contexts}
use Rattle.mpx_node.specs.Deltas.{SaysWhatItHas}
use Rattle.mpx_node.specs.Nodes.{own_acks, NodeView, children_on, front_on, learn, learn_some, next_result, prune_part, StopsTaking, Opens, gathering_fact, gathering_name, open_gathering_node}
use Rattle.mpx_request.specs.Later.{IsHeld, Later}
use Rattle.mpx_board.proofs.Facts.{posts_bound}
use Rattle.mpx_request.proofs.Steps.{held_either, held_live, later_done, later_learns, later_more, later_none, later_opens, later_same}

-- a gathering that is opened or not
pub later_gathers : (parent : Name) (r : Result GatheringView PostError) (result : Result Name PostError) (old new : NodeView) → Opens parent r result old new → Later old new
later_gathers parent (Err e) result old new h = later_same old new h.1
later_gathers parent (Ok g) (Ok name) old new h =
    let told : NodeView = learn (gathering_fact parent g) old in
    subst (Later old) (sym h.1) (later_more old told (open_gathering_node parent g old) (later_learns (gathering_fact parent g) old) (later_opens (λ n. same_name n (gathering_name parent g)) told))
later_gathers parent (Ok g) (Err e) old new h = later_same old new h.1

-- what a refused take leaves is as if just that had come
pub later_stops : (part : Look) (old new : NodeView) → StopsTaking part old new → Later old new
later_stops part old new s = subst (Later old) (sym (s.0 ∙ ap (λ b. let n : NodeView = record old { board = b } in n) (sym s.1.joined))) (later_learns new.board old)

-- what is told is held
pub held_added : (c d : Context) (k p : ℕ) (given : Given) → d.posts k p ≡ known given → IsHeld (join_contexts c d) k p given
held_added c d k p given e =
    held_either c d k p given
    (λ n. held_live c d k p given (λ l. subst (λ v. flat_leq same_given v (flat_join same_given (c.posts k p) (d.posts k p)) ≡ true) e (posts_bound.above_second (c.posts k p) (d.posts k p))))
    (answer (c.dead || d.dead))

-- a part is taken, or its take stops on the way
pub later_takes : {E : Type 0} (r : Result (Unit {0}) E) (part : Look) (old new : NodeView) → OnOk r (new ≡ learn part old) → OnErr r (StopsTaking part old new) → Later old new
later_takes (Ok u) part old new ok err = subst (Later old) (sym ok) (later_learns part old)
later_takes (Err e) part old new ok err = later_stops part old new err

-- what it has posted, stored and opened is as it was
pub opened_takes : {E : Type 0} (r : Result (Unit {0}) E) (part : Look) (old new : NodeView) → OnOk r (new ≡ learn part old) → OnErr r (StopsTaking part old new) → new.opened ≡ old.opened
opened_takes (Ok u) part old new ok err = ap (λ (n : NodeView). n.opened) ok
opened_takes (Err e) part old new ok err = ap (λ (n : NodeView). n.opened) err.0

-- it says what it has, or that is refused
pub later_says : {T E : Type 0} (r : Result T E) (old new : NodeView) → OnOk r (SaysWhatItHas old new) → OnErr r (new ≡ old) → Later old new
later_says (Ok x) old new ok err = subst (Later old) (sym ok.learnt) (later_learns (own_acks old.me ok.numbers) old)
later_says (Err e) old new ok err = later_same old new err

-- a board comes to it, or none
later_learns_some : (part : Option Look) (old : NodeView) → Later old (learn_some part old)
later_learns_some None old = later_none old
later_learns_some (Some part) old = later_learns part old

-- it drops what all members have harvested, or says that the context is dead; or that is refused
pub later_prunes : {E : Type 0} (r : Result (Unit {0}) E) (part : Option Look) (old new : NodeView) → OnOk r (new ≡ learn_some part old) → OnErr r (new ≡ old) → Later old new
later_prunes (Ok u) part old new ok err = subst (Later old) (sym ok) (later_learns_some part old)
later_prunes (Err e) part old new ok err = later_same old new err

-- so many harvests of a context, one after the other
later_next : (ops : List Operation) (name : Name) (old : NodeView) (next : Option Finished) → next_result ops old name ≡ next → Later old (with_next ops next name old)
later_next ops name old None is = later_none old
later_next ops name old (Some finished) is = later_done ops old name finished is (children_on ops old.board name (front_on old name))

later_harvested : (ops : List Operation) (name : Name) (n : ℕ) (old : NodeView) → Later old (harvested ops n name old)
later_harvested ops name zero old = later_none old
later_harvested ops name (suc n) old =
    let mid : NodeView = harvested ops n name old in
    later_more old mid (harvested ops (suc n) name old) (later_harvested ops name n old) (later_next ops name mid (next_result ops mid name) refl)

-- all that can be had is harvested, or memory is wanting on the way
pub later_harvests_all : (ops : List Operation) (name : Name) (r : Result (Unit {0}) OutOfMemory) (old new : NodeView) → OnOk r (HarvestsAll ops name old new) → OnErr r (WantsResult ops name old new) → Later old new
later_harvests_all ops name (Ok u) old new ok err = subst (Later old) (sym ok.does) (later_harvested ops name ok.times old)
later_harvests_all ops name (Err e) old new ok err = subst (Later old) (sym err.does) (later_harvested ops name err.times old)

-- a call is harvested for, as far as can be
pub later_harvests_to : {A E : Type 0} (ops : List Operation) (name : Name) (m : ℕ) (r : Result A E) (old new : NodeView) → OnOk r (new ≡ harvested ops m name old) → OnErr r ((n : ℕ) × (n < m) × (new ≡ harvested ops n name old)) → Later old new
later_harvests_to ops name m (Ok x) old new ok err = subst (Later old) (sym ok) (later_harvested ops name m old)
later_harvests_to ops name m (Err e) old new ok err = subst (Later old) (sym err.2) (later_harvested ops name err.0 old)

-- what every member has harvested is dropped, if there is any
later_pruned : (name : Name) (number : Option ℕ) (old : NodeView) → Later old (with_prune number name old)
later_pruned name None old = later_none old
later_pruned name (Some number) old = later_learns_some (prune_part old name number) old

pub later_drops : (name : Name) (answer : Bool) (old new : NodeView) → Drops name answer old new → Later old new
later_drops name answer old new drops = subst (Later old) (sym drops.does) (later_pruned name drops.number old)
