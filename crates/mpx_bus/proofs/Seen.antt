-- What a process has seen stays seen, and what it may push may be pushed later.
use Rattle.std.proofs.Common.{◌≡◌, ℕ, zero, suc, List, [], ◌∷◌, ◌++◌, take, Some, None, Option, Result, Ok, Err, refl, sym, ap, ◌∙◌, subst, inl, inr, ⊎_elim}
use Rattle.std.specs.Prelude.{slice_get}
use Rattle.std.proofs.lemmas.List.{append-nil}
use Rattle.mpx_name.specs.Name.{Name}
use Rattle.mpx_num.specs.declared.own.Operation.{Operation}
use Rattle.mpx_post.specs.Posts.{Given}
use Rattle.mpx_post.specs.Gatherings.{GatheringView}
use Rattle.mpx_post.specs.declared.draft.PostError.{PostError}
use Rattle.mpx_board.specs.declared.errors.PruneError.{PruneError}
use Rattle.mpx_board.specs.Boards.{Look, Fact, Has, own_acks, join_all}
use Rattle.mpx_board.specs.Looks.{look}
use Rattle.mpx_board.specs.Changes.{pruned_on}
use Rattle.mpx_node.specs.declared.finished.Finished.{Finished}
use Rattle.mpx_node.specs.Nodes.{harvest_part, gathering_fact, checked_on, next_result, gathers_on, prune_part}
use Rattle.mpx_world.specs.Drafted.{makes_checked}
use Rattle.mpx_world.specs.Worlds.{ProcessView, made_next, stores, opens_gathering, drops, takes, post_fact, IsSeen, in_board, in_part}
use Rattle.mpx_post.proofs.Lists.{slice_get-append}
use Rattle.mpx_bus.specs.declared.act.Act.{Act}
use Rattle.mpx_bus.specs.declared.act.Act.TheVariants as A
use Rattle.mpx_bus.specs.declared.act.Setup.{Setup}
use Rattle.mpx_bus.specs.Acts.{part_of, said_on, act_on, after, at_start, process_at, DidIn, MaySendFrame, MayPush}
use Rattle.mpx_bus.proofs.Journals.{after-append, did_before}

-- what it learned grows at the end
record Grows (v u : ProcessView) : Type 0 where
  more : List Look
  is : u.learned ≡ v.learned ++ more

no_growth : (v : ProcessView) → Grows v v
no_growth v = record { more = []; is = sym (append-nil v.learned) }

grows_makes : (name : Name) (r : Result Given PostError) (v : ProcessView) → Grows v (makes_checked name r v)
grows_makes name (Ok given) v = record { more = post_fact name given v.node ∷ []; is = refl }
grows_makes name (Err refusal) v = no_growth v

grows_stores : (ops : List Operation) (name : Name) (r : Option Finished) (v : ProcessView) → Grows v (stores ops name r v)
grows_stores ops name None v = no_growth v
grows_stores ops name (Some finished) v = record { more = harvest_part name (made_next ops name v.node) v.node ∷ []; is = refl }

grows_opens : (parent : Name) (r : Result GatheringView PostError) (v : ProcessView) → Grows v (opens_gathering parent r v)
grows_opens parent (Ok g) v = record { more = gathering_fact parent g ∷ []; is = refl }
grows_opens parent (Err refusal) v = no_growth v

grows_takes : (part : Option Look) (v : ProcessView) → Grows v (takes part v)
grows_takes None v = no_growth v
grows_takes (Some part) v = record { more = part ∷ []; is = refl }

grows_drops : (name : Name) (n : ℕ) (r : Result (Unit {0}) PruneError) (v : ProcessView) → Grows v (drops name n r v)
grows_drops name n (Ok u) v = grows_takes (prune_part v.node name n) v
grows_drops name n (Err refusal) v = no_growth v

grows_act : (ops : List Operation) (a : Act) (v : ProcessView) → Grows v (act_on ops a v)
grows_act ops (A.Posted name draft) v = grows_makes name (checked_on ops v.node name draft) v
grows_act ops (A.Harvested name) v = grows_stores ops name (next_result ops v.node name) v
grows_act ops (A.Gathered parent tag ranks) v = grows_opens parent (gathers_on v.node parent tag ranks) v
grows_act ops (A.Pruned name n) v = grows_drops name n (pruned_on v.node.board name n) v
grows_act ops (A.Forgot name below) v = record { more = []; is = sym (append-nil v.learned) }
grows_act ops (A.Took bytes) v = record { more = part_of bytes ∷ []; is = refl }
grows_act ops (A.StoppedTaking bytes left) v = record { more = look left ∷ []; is = refl }
grows_act ops (A.Acknowledged board) v = record { more = own_acks v.node.me (said_on board v) ∷ []; is = refl }
grows_act ops (A.Pushed bytes) v = no_growth v
grows_act ops (A.Popped bytes) v = no_growth v

-- what begins a list begins a longer one
begins_longer : {A : Type 0} (i : ℕ) (xs ys : List A) → (j : ℕ) × (take j (xs ++ ys) ≡ take i xs)
begins_longer zero xs ys = (zero, refl)
begins_longer (suc i) [] ys = (zero, refl)
begins_longer (suc i) (x ∷ xs) ys = let t = begins_longer i xs ys in (suc t.0, ap (λ zs. x ∷ zs) t.1)

seen_longer : (v u : ProcessView) (g : Grows v u) (f : Fact) → IsSeen v f → IsSeen u f
seen_longer v u g f (in_board i has) = let t = begins_longer i v.learned g.more in in_board t.0 (subst (λ xs. Has (join_all xs) f) (sym t.1 ∙ ap (take t.0) (sym g.is)) has)
seen_longer v u g f (in_part i part at has) = in_part i part (ap (λ xs. slice_get xs i) g.is ∙ slice_get-append v.learned g.more i part at) has

seen_after : (ops : List Operation) (acts : List Act) (v : ProcessView) (f : Fact) → IsSeen v f → IsSeen (after ops acts v) f
seen_after ops [] v f seen = seen
seen_after ops (a ∷ acts) v f seen = seen_after ops acts (act_on ops a v) f (seen_longer v (act_on ops a v) (grows_act ops a v) f seen)

pub may_push_later : (setup : Setup) (p : ℕ) (journal more : List Act) (bytes : List ℕ) → MayPush setup p journal bytes → MayPush setup p (journal ++ more) bytes
may_push_later setup p journal more bytes may =
    ⊎_elim
    (λ (m : MaySendFrame setup p journal bytes). inl (record {
      view = m.view;
      spells = m.spells;
      seen = λ f has. subst (λ (v : ProcessView). IsSeen v f) (sym (after-append setup.operations journal more (at_start setup p))) (seen_after setup.operations more (process_at setup p journal) f (m.seen f has));
    }))
    (λ (d : DidIn journal (A.Popped bytes)). inr (did_before journal more (A.Popped bytes) d))
    may
