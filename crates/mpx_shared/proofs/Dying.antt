-- Contexts that are listed until they are dead, and stay dead.
use Rattle.std.proofs.Common.{◌≡◌, ◌⊎◌, ℕ, zero, suc, Bool, true, false, cond, List, [], ◌∷◌, Option, None, Some, Result, Ok, Err, slice_get, inl, inr, ap, ◌∙◌}
use Rattle.std.specs.Prelude.{◌||◌, filter, not}
use Rattle.std.proofs.lemmas.Option.{same_Some}
use Rattle.join_core.specs.laws.Cases.{TestAnswer, yes, no, answer}
use Rattle.mpx_name.specs.Name.{Name}
use Rattle.mpx_num.specs.declared.own.Operation.{Operation}
use Rattle.mpx_post.specs.Posts.{Given}
use Rattle.mpx_post.specs.Gatherings.{GatheringView}
use Rattle.mpx_post.specs.declared.draft.PostError.{PostError}
use Rattle.mpx_board.specs.declared.errors.PruneError.{PruneError}
use Rattle.mpx_board.specs.Boards.{IsGone, Look, gone, join, join_live, own_acks}
use Rattle.mpx_board.specs.Changes.{pruned_on}
use Rattle.mpx_board.specs.Looks.{look}
use Rattle.mpx_node.specs.declared.finished.Finished.{Finished}
use Rattle.mpx_node.specs.Nodes.{checked_on, gathering_fact, gathers_on, harvest_part, next_result, prune_part}
use Rattle.mpx_world.specs.Drafted.{makes_checked}
use Rattle.mpx_world.specs.Worlds.{ProcessView, drops, made_next, opens_gathering, post_fact, stores, takes}
use Rattle.mpx_bus.specs.declared.act.Act.{Act}
use Rattle.mpx_bus.specs.declared.act.Act.TheVariants as A
use Rattle.mpx_bus.specs.Acts.{act_on, after, part_of, said_on}
use Rattle.mpx_shared.specs.LawfulPorts.{IsListedContext, living}

-- LISTS

-- what passes a test stays in the list of what does
passed : {A : Type 0} (p : A → Bool) (xs : List A) (i : ℕ) (x : A) → slice_get xs i ≡ Some x → p x ≡ true → (j : ℕ) × (slice_get (filter p xs) j ≡ Some x)
passed p [] i x e t = cc e
passed p (y ∷ xs) zero x e t = (0, ap (λ b. slice_get (cond b (y ∷ filter p xs) (filter p xs)) 0) (ap p (same_Some y x e) ∙ t) ∙ e)
passed {A} p (y ∷ xs) (suc i) x e t = behind (p y) (passed p xs i x e t) where
  behind : (b : Bool) → (j : ℕ) × (slice_get (filter p xs) j ≡ Some x) → (j : ℕ) × (slice_get (cond b (y ∷ filter p xs) (filter p xs)) j ≡ Some x)
  behind true r = (suc r.0, r.1)
  behind false r = r

-- only contexts that are dead leave
pub listed_living : (board : Look) (names : List Name) (name : Name) → IsListedContext name names → IsListedContext name (living board names) ⊎ IsGone board name
listed_living board names name (inl world) = inl (inl world)
listed_living board names name (inr found) = by_dead (answer (board.contexts name).dead) where
  by_dead : TestAnswer (board.contexts name).dead → IsListedContext name (living board names) ⊎ IsGone board name
  by_dead (yes dead) = inr dead
  by_dead (no alive) = inl (inr (passed (λ n. not (board.contexts n).dead) names found.0 name found.1 (ap not alive)))

-- WHAT IS DEAD STAYS SO

gone_joined : (a b : Look) (name : Name) → IsGone a name → IsGone (join a b) name
gone_joined a b name e = ap (λ d. (cond (d || (b.contexts name).dead) gone (join_live (a.contexts name) (b.contexts name))).dead) e

gone_makes : (name : Name) (r : Result Given PostError) (v : ProcessView) (n : Name) → IsGone v.node.board n → IsGone (makes_checked name r v).node.board n
gone_makes name (Ok given) v n e = gone_joined v.node.board (post_fact name given v.node) n e
gone_makes name (Err refusal) v n e = e

gone_stores : (ops : List Operation) (name : Name) (r : Option Finished) (v : ProcessView) (n : Name) → IsGone v.node.board n → IsGone (stores ops name r v).node.board n
gone_stores ops name None v n e = e
gone_stores ops name (Some finished) v n e = gone_joined v.node.board (harvest_part name (made_next ops name v.node) v.node) n e

gone_opens : (parent : Name) (r : Result GatheringView PostError) (v : ProcessView) (n : Name) → IsGone v.node.board n → IsGone (opens_gathering parent r v).node.board n
gone_opens parent (Ok g) v n e = gone_joined v.node.board (gathering_fact parent g) n e
gone_opens parent (Err refusal) v n e = e

gone_takes : (part : Option Look) (v : ProcessView) (n : Name) → IsGone v.node.board n → IsGone (takes part v).node.board n
gone_takes None v n e = e
gone_takes (Some part) v n e = gone_joined v.node.board part n e

gone_drops : (name : Name) (number : ℕ) (r : Result (Unit {0}) PruneError) (v : ProcessView) (n : Name) → IsGone v.node.board n → IsGone (drops name number r v).node.board n
gone_drops name number (Ok u) v n e = gone_takes (prune_part v.node name number) v n e
gone_drops name number (Err refusal) v n e = e

gone_act : (ops : List Operation) (a : Act) (v : ProcessView) (n : Name) → IsGone v.node.board n → IsGone (act_on ops a v).node.board n
gone_act ops (A.Posted name draft) v n e = gone_makes name (checked_on ops v.node name draft) v n e
gone_act ops (A.Harvested name) v n e = gone_stores ops name (next_result ops v.node name) v n e
gone_act ops (A.Gathered parent tag ranks) v n e = gone_opens parent (gathers_on v.node parent tag ranks) v n e
gone_act ops (A.Pruned name number) v n e = gone_drops name number (pruned_on v.node.board name number) v n e
gone_act ops (A.Forgot name below) v n e = e
gone_act ops (A.Took bytes) v n e = gone_joined v.node.board (part_of bytes) n e
gone_act ops (A.StoppedTaking bytes left) v n e = gone_joined v.node.board (look left) n e
gone_act ops (A.Acknowledged board) v n e = gone_joined v.node.board (own_acks v.node.me (said_on board v)) n e
gone_act ops (A.Pushed bytes) v n e = e
gone_act ops (A.Popped bytes) v n e = e

pub gone_after : (ops : List Operation) (acts : List Act) (v : ProcessView) (n : Name) → IsGone v.node.board n → IsGone (after ops acts v).node.board n
gone_after ops [] v n e = e
gone_after ops (a ∷ acts) v n e = gone_after ops acts (act_on ops a v) n (gone_act ops a v n e)
