-- What is refused changes nothing, and what isn't is a happening.
use Rattle.std.proofs.Common.{◌≡◌, ℕ, Bool, true, false, cond, List, Option, Some, None, refl, sym, ap, ◌∙◌}
use Rattle.std.specs.Prelude.{slice_get, nat_lt, is_some, IsTrue, Result, Ok, Err}
use Rattle.mpx_name.specs.Name.{Name}
use Rattle.mpx_num.specs.declared.own.Operation.{Operation}
use Rattle.mpx_post.specs.Gatherings.{GatheringView}
use Rattle.mpx_post.specs.Drafts.{given_by}
use Rattle.mpx_post.specs.Posts.{Given}
use Rattle.mpx_post.specs.declared.draft.PostError.{PostError}
use Rattle.mpx_board.specs.declared.errors.PruneError.{PruneError}
use Rattle.mpx_board.specs.Boards.{Look}
use Rattle.mpx_board.specs.Changes.{pruned_on}
use Rattle.mpx_node.specs.declared.finished.Finished.{Finished}
use Rattle.mpx_node.specs.Nodes.{OpenedView, posted_on, front_on, checked_on, next_of, gathers_on}
use Rattle.mpx_world.specs.declared.events.Event.{Event}
use Rattle.mpx_world.specs.declared.events.Event.TheVariants as E
use Rattle.mpx_world.specs.declared.events.Reply.TheVariants as R
use Rattle.mpx_world.specs.Worlds.{ProcessView, WorldView, makes, stores, opens_gathering, drops, takes, harvests, gathers, prunes, at_process, happens}
use Rattle.mpx_world.specs.Drafted.{makes_checked, posts}
use Rattle.mpx_world.specs.Events.{process_of, happening_of, does, reply_to_post, reply_to_harvest, reply_to_gather, reply_to_prune, reply_to_take, reply_of, reply, is_refusal, IsSame}
use Rattle.mpx_node.proofs.Drafted.{accepted}
use Rattle.mpx_world.proofs.Drafted.{at_itself, at_same}

post_same : (call : ℕ) (name : Name) (r : Result Given PostError) (v : ProcessView) → IsTrue (is_refusal (reply_to_post call r)) → makes_checked name r v ≡ v
post_same call name (Ok given) v t = cc t
post_same call name (Err refusal) v t = refl

next_same : (ops : List Operation) (front : ℕ) (name : Name) (next : Option Finished) (v : ProcessView) → IsTrue (is_refusal (reply_to_harvest true front next)) → stores ops name next v ≡ v
next_same ops front name None v t = refl
next_same ops front name (Some finished) v t = cc t

harvest_same : (ops : List Operation) (front : ℕ) (name : Name) (x : Option OpenedView) (board : Look) (me : ℕ) (v : ProcessView) → IsTrue (is_refusal (reply_to_harvest (is_some x) front (next_of ops x board name me))) → stores ops name (next_of ops x board name me) v ≡ v
harvest_same ops front name None board me v t = refl
harvest_same ops front name (Some o) board me v t = next_same ops front name (next_of ops (Some o) board name me) v t

gather_same : (parent : Name) (r : Result GatheringView PostError) (v : ProcessView) → IsTrue (is_refusal (reply_to_gather parent r)) → opens_gathering parent r v ≡ v
gather_same parent (Ok g) v t = cc t
gather_same parent (Err refusal) v t = refl

prune_same : (name : Name) (n : ℕ) (r : Result (Unit {0}) PruneError) (v : ProcessView) → IsTrue (is_refusal (reply_to_prune r)) → drops name n r v ≡ v
prune_same name n (Ok u) v t = cc t
prune_same name n (Err refusal) v t = refl

take_same : (o : Option Look) (v : ProcessView) → IsTrue (is_refusal (reply_to_take o)) → takes o v ≡ v
take_same None v t = refl
take_same (Some part) v t = cc t

-- what an event does, refused or not
abbrev pub changes : WorldView → Event → WorldView
changes w (E.Post p name draft) = at_process p (posts w.operations name draft) w
changes w (E.Harvest p name) = happens w (happening_of w (E.Harvest p name))
changes w (E.Gather p parent tag ranks) = happens w (happening_of w (E.Gather p parent tag ranks))
changes w (E.Prune p name n) = happens w (happening_of w (E.Prune p name n))
changes w (E.Send p cut) = happens w (happening_of w (E.Send p cut))
changes w (E.Take p place) = happens w (happening_of w (E.Take p place))
changes w (E.Forget p name below) = happens w (happening_of w (E.Forget p name below))

-- where it is refused, nothing
there_same : (w : WorldView) (e : Event) → IsTrue (is_refusal (reply_of w e)) → changes w e ≡ w
there_same w (E.Post p name draft) t = at_itself w p (posts w.operations name draft) (post_same (posted_on (w.each p).node name) name (checked_on w.operations (w.each p).node name draft) (w.each p) t)
there_same w (E.Harvest p name) t = at_itself w p (harvests w.operations name) (harvest_same w.operations (front_on (w.each p).node name) name ((w.each p).node.opened name) (w.each p).node.board (w.each p).node.me (w.each p) t)
there_same w (E.Gather p parent tag ranks) t = at_itself w p (gathers parent tag ranks) (gather_same parent (gathers_on (w.each p).node parent tag ranks) (w.each p) t)
there_same w (E.Prune p name n) t = at_itself w p (prunes name n) (prune_same name n (pruned_on (w.each p).node.board name n) (w.each p) t)
there_same w (E.Send p cut) t = cc t
there_same w (E.Take p place) t = at_itself w p (takes (slice_get w.parts place)) (take_same (slice_get w.parts place) (w.each p) t)
there_same w (E.Forget p name below) t = cc t

-- where it isn't, what it is
accepted_is : (w : WorldView) (e : Event) → is_refusal (reply_of w e) ≡ false → happens w (happening_of w e) ≡ changes w e
accepted_is w (E.Post p name draft) f = at_same w p (makes name (given_by draft)) (posts w.operations name draft) (by_check (checked_on w.operations (w.each p).node name draft) refl f) where
  by_check : (r : Result Given PostError) → checked_on w.operations (w.each p).node name draft ≡ r → is_refusal (reply_to_post (posted_on (w.each p).node name) r) ≡ false → makes name (given_by draft) (w.each p) ≡ makes_checked name r (w.each p)
  by_check (Ok given) e g = ap (λ x. makes name x (w.each p)) (sym (accepted w.operations (w.each p).node name draft given e).gives)
  by_check (Err refusal) e g = cc g
accepted_is w (E.Harvest p name) f = refl
accepted_is w (E.Gather p parent tag ranks) f = refl
accepted_is w (E.Prune p name n) f = refl
accepted_is w (E.Send p cut) f = refl
accepted_is w (E.Take p place) f = refl
accepted_is w (E.Forget p name below) f = refl

-- so much does an event of a process that is there
pub does_there : (w : WorldView) (e : Event) → nat_lt (process_of e) w.size ≡ true → does w e ≡ changes w e
does_there w e t = ap (λ b. cond (is_refusal (cond b (reply_of w e) R.NoSuchProcess)) w (happens w (happening_of w e))) t ∙ by_answer (is_refusal (reply_of w e)) refl where
  by_answer : (b : Bool) → is_refusal (reply_of w e) ≡ b → cond b w (happens w (happening_of w e)) ≡ changes w e
  by_answer true f = sym (there_same w e f)
  by_answer false f = accepted_is w e f

-- a refused event changes nothing
pub refused_same : (w : WorldView) (e : Event) → IsTrue (is_refusal (reply w e)) → IsSame w (does w e)
refused_same w e t =
    let same : does w e ≡ w = ap (λ b. cond b w (happens w (happening_of w e))) t in
    record { each = λ p. ap (λ (v : WorldView). v.each p) same; parts = ap (λ (v : WorldView). v.parts) same }
