-- Each result that a process has had is a value in the world of the end.
use Rattle.std.proofs.Common.{◌≡◌, ◌&&◌, ℕ, Bool, true, false, cond, List, [], ◌∷◌, ◌++◌, length, Option, Some, None, Result, Ok, Err, refl, sym, ap, ◌∙◌, subst, append_assoc}
use Rattle.std.specs.Prelude.{nat_lt, slice_get}
use Rattle.std.proofs.lemmas.Option.{same_Some}
use Rattle.mpx_birth.specs.Births.{BirthView}
use Rattle.mpx_board.specs.Boards.{Look, join, join_all, own_acks}
use Rattle.mpx_board.specs.Changes.{pruned_on}
use Rattle.mpx_board.specs.declared.errors.PruneError.{PruneError}
use Rattle.mpx_board.specs.Looks.{look}
use Rattle.mpx_bus.proofs.Journals.{after-append}
use Rattle.mpx_bus.specs.Acts.{act_on, after, at_start, part_of, process_at, said_on, start_of}
use Rattle.mpx_bus.specs.declared.act.Act.{Act}
use Rattle.mpx_bus.specs.declared.act.Act.TheVariants as A
use Rattle.mpx_bus.specs.declared.act.Setup.{Setup}
use Rattle.mpx_bus.specs.Rule.{world_of}
use Rattle.mpx_name.specs.Name.{Name, same_name}
use Rattle.mpx_node.proofs.Forgotten.{result_before}
use Rattle.mpx_node.proofs.Gone.{stored_push}
use Rattle.mpx_node.specs.declared.finished.Finished.{Finished}
use Rattle.mpx_node.specs.Nodes.{OpenedView, checked_on, fresh, front_on, gathering_fact, gathering_name, gathers_on, harvest_part, learn, next_of, next_result, prune_part, result_of, result_on, results_by, results_on}
use Rattle.mpx_node.specs.Stored.{stored_at}
use Rattle.mpx_num.specs.declared.own.Operation.{Operation}
use Rattle.mpx_post.specs.declared.draft.PostError.{PostError}
use Rattle.mpx_post.specs.Gatherings.{GatheringView}
use Rattle.mpx_post.specs.Posts.{Given}
use Rattle.mpx_ranks.specs.Had.{HadBy}
use Rattle.mpx_value.specs.Histories.{row_of, value_for}
use Rattle.mpx_world.proofs.Drafted.{kept_checked}
use Rattle.mpx_world.proofs.Kept.{kept_drops, kept_learns, kept_opens, kept_stores, results_added, results_opened, results_posted, results_stored}
use Rattle.mpx_world.proofs.Later.{later_goes_on}
use Rattle.mpx_world.proofs.Lists.{join_all-push}
use Rattle.mpx_world.proofs.Steps.{holds_start, value_of}
use Rattle.mpx_world.proofs.Truth.{LookSo, all_so}
use Rattle.mpx_world.proofs.Whole.{well_by}
use Rattle.mpx_world.specs.Drafted.{makes_checked}
use Rattle.mpx_world.specs.Soundness.{IsValue, OfOneRow}
use Rattle.mpx_world.specs.Worlds.{Happening, MayGoOn, ProcessView, WorldView, drops, history, learns, lets_results_go, made_next, opens_gathering, post_fact, stores, takes}

-- its board is the join of all that it learned, and its results are values in the world, whichever moment of the process that is
record Fits (w : WorldView) (p : ℕ) (v : ProcessView) : Type 0 where
  me_is : v.node.me ≡ p
  joined : v.node.board ≡ join_all v.learned
  values : (name : Name) (k : ℕ) (r : Finished) → result_on v.node name k ≡ Some r → IsValue w p name k r

-- all that it learned is so
abbrev AreSo : WorldView → ProcessView → Type 0
AreSo w v = (i : ℕ) (b : Look) → slice_get v.learned i ≡ Some b → LookSo w b

-- WHAT IT LEARNED STAYS

learned_act : (ops : List Operation) (a : Act) (v : ProcessView) (i : ℕ) (b : Look) → slice_get v.learned i ≡ Some b → slice_get (act_on ops a v).learned i ≡ Some b
learned_act ops (A.Posted name draft) v i b e = (kept_checked name (checked_on ops v.node name draft) v).learned_kept i b e
learned_act ops (A.Harvested name) v i b e = (kept_stores ops name (next_result ops v.node name) v).learned_kept i b e
learned_act ops (A.Gathered parent tag ranks) v i b e = (kept_opens parent (gathers_on v.node parent tag ranks) v).learned_kept i b e
learned_act ops (A.Pruned name n) v i b e = (kept_drops name n (pruned_on v.node.board name n) v).learned_kept i b e
learned_act ops (A.Forgot name below) v i b e = e
learned_act ops (A.Took bytes) v i b e = (kept_learns (part_of bytes) v).learned_kept i b e
learned_act ops (A.StoppedTaking bytes left) v i b e = (kept_learns (look left) v).learned_kept i b e
learned_act ops (A.Acknowledged board) v i b e = (kept_learns (own_acks v.node.me (said_on board v)) v).learned_kept i b e
learned_act ops (A.Pushed bytes) v i b e = e
learned_act ops (A.Popped bytes) v i b e = e

learned_after : (ops : List Operation) (acts : List Act) (v : ProcessView) (i : ℕ) (b : Look) → slice_get v.learned i ≡ Some b → slice_get (after ops acts v).learned i ≡ Some b
learned_after ops [] v i b e = e
learned_after ops (a ∷ acts) v i b e = learned_after ops acts (act_on ops a v) i b (learned_act ops a v i b e)

-- ONE ACT

fits_learns : (w : WorldView) (p : ℕ) (part : Look) (v : ProcessView) → Fits w p v → Fits w p (learns part v)
fits_learns w p part v f = record { me_is = f.me_is; joined = ap (λ b. join b part) f.joined ∙ sym (join_all-push v.learned part); values = f.values }

fits_makes : (w : WorldView) (p : ℕ) (name : Name) (r : Result Given PostError) (v : ProcessView) → Fits w p v → Fits w p (makes_checked name r v)
fits_makes w p name (Ok given) v f = record {
  me_is = f.me_is;
  joined = ap (λ b. join b (post_fact name given v.node)) f.joined ∙ sym (join_all-push v.learned (post_fact name given v.node));
  values = λ n k r e. f.values n k r (subst (λ xs. stored_at xs k ≡ Some r) (results_posted name n given v.node) e);
}
fits_makes w p name (Err refusal) v f = f

passed : (b : Bool) (o : Option Finished) (x : Finished) → cond b o None ≡ Some x → o ≡ Some x
passed true o x e = e
passed false o x e = cc e

next_there : (ops : List Operation) (o : Option OpenedView) (board : Look) (name : Name) (me : ℕ) (r : Finished) → next_of ops o board name me ≡ Some r → result_of ops board name me (length (results_by o)) ≡ Some r
next_there ops None board name me r e = cc e
next_there ops (Some o) board name me r e = passed (nat_lt (length o.results) o.posted) _ r e

fits_stores : (w : WorldView) (p : ℕ) (name : Name) (o : Option Finished) (v : ProcessView) → next_result w.operations v.node name ≡ o → AreSo w v → Fits w p v → Fits w p (stores w.operations name o v)
fits_stores w p name None v e so f = f
fits_stores w p name (Some finished) v e so f =
    let made : List (Name × BirthView) = made_next w.operations name v.node in
    let part : Look = harvest_part name made v.node in
    let board : LookSo w v.node.board = subst (LookSo w) (sym f.joined) (all_so w v.learned so) in
    let there = next_there w.operations (v.node.opened name) v.node.board name v.node.me finished e in
    let value : IsValue w p name (front_on v.node name) finished = subst (λ q. IsValue w q name (front_on v.node name) finished) f.me_is (value_of w v.node.board name v.node.me (front_on v.node name) finished board there) in
    record {
      me_is = f.me_is;
      joined = ap (λ b. join b part) f.joined ∙ sym (join_all-push v.learned part);
      values = λ n j r h. results_stored name n finished v.node (λ xs. stored_at xs j ≡ Some r → IsValue w p n j r)
          (λ same s. stored_push (λ x i. IsValue w p n i x) (results_on v.node n) finished j r s (λ old. f.values n j r old) (λ is last.
          subst (λ x. IsValue w p n j x) is (subst (λ i. IsValue w p n i finished) (sym last) (subst (λ m. IsValue w p m (front_on v.node m) finished) (sym same) value))))
          (λ s. f.values n j r s) (subst (λ xs. stored_at xs j ≡ Some r) (results_added name finished made v.node n) h);
    }

fits_opens : (w : WorldView) (p : ℕ) (parent : Name) (r : Result GatheringView PostError) (v : ProcessView) → Fits w p v → Fits w p (opens_gathering parent r v)
fits_opens w p parent (Ok g) v f =
    let same = results_opened (λ n. same_name n (gathering_name parent g)) (learn (gathering_fact parent g) v.node) in
    record {
      me_is = f.me_is;
      joined = ap (λ b. join b (gathering_fact parent g)) f.joined ∙ sym (join_all-push v.learned (gathering_fact parent g));
      values = λ n k r e. f.values n k r (subst (λ xs. stored_at xs k ≡ Some r) (same n) e);
    }
fits_opens w p parent (Err refusal) v f = f

fits_takes : (w : WorldView) (p : ℕ) (part : Option Look) (v : ProcessView) → Fits w p v → Fits w p (takes part v)
fits_takes w p None v f = f
fits_takes w p (Some part) v f = fits_learns w p part v f

fits_drops : (w : WorldView) (p : ℕ) (name : Name) (n : ℕ) (r : Result (Unit {0}) PruneError) (v : ProcessView) → Fits w p v → Fits w p (drops name n r v)
fits_drops w p name n (Ok u) v f = fits_takes w p (prune_part v.node name n) v f
fits_drops w p name n (Err refusal) v f = f

fits_lets : (w : WorldView) (p : ℕ) (name : Name) (below : ℕ) (v : ProcessView) → Fits w p v → Fits w p (lets_results_go name below v)
fits_lets w p name below v f = record { me_is = f.me_is; joined = f.joined; values = λ n k r e. f.values n k r (result_before name below v.node n k r e) }

fits_act : (w : WorldView) (p : ℕ) (a : Act) (v : ProcessView) → AreSo w v → Fits w p v → Fits w p (act_on w.operations a v)
fits_act w p (A.Posted name draft) v so f = fits_makes w p name (checked_on w.operations v.node name draft) v f
fits_act w p (A.Harvested name) v so f = fits_stores w p name (next_result w.operations v.node name) v refl so f
fits_act w p (A.Gathered parent tag ranks) v so f = fits_opens w p parent (gathers_on v.node parent tag ranks) v f
fits_act w p (A.Pruned name n) v so f = fits_drops w p name n (pruned_on v.node.board name n) v f
fits_act w p (A.Forgot name below) v so f = fits_lets w p name below v f
fits_act w p (A.Took bytes) v so f = fits_learns w p (part_of bytes) v f
fits_act w p (A.StoppedTaking bytes left) v so f = fits_learns w p (look left) v f
fits_act w p (A.Acknowledged board) v so f = fits_learns w p (own_acks v.node.me (said_on board v)) v f
fits_act w p (A.Pushed bytes) v so f = f
fits_act w p (A.Popped bytes) v so f = f

-- ALL ACTS

fits_after : (w : WorldView) (p : ℕ) (acts : List Act) (v : ProcessView) → AreSo w (after w.operations acts v) → Fits w p v → Fits w p (after w.operations acts v)
fits_after w p [] v so f = f
fits_after w p (a ∷ acts) v so f = fits_after w p acts (act_on w.operations a v) so (fits_act w p a v (λ i b e. so i b (learned_after w.operations (a ∷ acts) v i b e)) f)

none_yet : (b : Bool) (k : ℕ) (r : Finished) → stored_at (results_by (cond b (Some fresh) None)) k ≡ Some r → ⊥
none_yet true k r e = cc e
none_yet false k r e = cc e

fits_start : (w : WorldView) (setup : Setup) (p : ℕ) → Fits w p (at_start setup p)
fits_start w setup p =
    let first = (holds_start setup.operations setup.ranks setup.size).processes p in
    record { me_is = first.me_is; joined = first.joined; values = λ name k r e. absurd (none_yet (same_name name [] && nat_lt p setup.ranks) k r e) }

-- whatever it has done since, and let go
pub had_value : (setup : Setup) (hs : List Happening) → MayGoOn (start_of setup) hs → (p : ℕ) (did since : List Act) → (world_of setup hs).each p ≡ process_at setup p (did ++ since)
    → (name : Name) (call : ℕ) (finished : Finished) → HadBy setup p did name call finished → IsValue (world_of setup hs) p name call finished
had_value setup hs may p did since here name call finished had =
    let w : WorldView = world_of setup hs in
    let now : ProcessView = process_at setup p had.early in
    let ops : w.operations ≡ setup.operations = sym (later_goes_on hs (start_of setup)).operations in
    let all : process_at setup p (did ++ since) ≡ after setup.operations (had.late ++ since) now =
    ap (process_at setup p) (ap (λ l. l ++ since) had.whole ∙ append_assoc had.early had.late since) ∙ after-append setup.operations had.early (had.late ++ since) (at_start setup p) in
    let so : AreSo w (after setup.operations (had.late ++ since) now) = subst (AreSo w) (here ∙ all) ((well_by setup.operations setup.ranks setup.size hs may).holds.processes p).learned_so in
    let early : AreSo w now = λ i b e. so i b (learned_after setup.operations (had.late ++ since) now i b e) in
    let fits : Fits w p (after w.operations had.early (at_start setup p)) =
    fits_after w p had.early (at_start setup p) (subst (λ o. AreSo w (after o had.early (at_start setup p))) (sym ops) early) (fits_start w setup p) in
    let there : Fits w p now = subst (λ o. Fits w p (after o had.early (at_start setup p))) ops fits in
    there.values name call finished had.has

-- two values of one call are of one row
pub values_of_one_row : (w : WorldView) (p q : ℕ) (name : Name) (call : ℕ) (x y : Finished) → IsValue w p name call x → IsValue w q name call y → OfOneRow w p q name call x y
values_of_one_row w p q name call x y v u =
    let births_are : v.birth ≡ u.birth = same_Some v.birth u.birth (sym v.born ∙ u.born) in
    let rows_are : v.row ≡ u.row = same_Some v.row u.row (sym v.whole ∙ ap (λ b. row_of (history w) name b call) births_are ∙ u.whole) in
    record {
      birth = v.birth;
      row = v.row;
      born = v.born;
      whole = v.whole;
      first = v.outcome;
      second = (λ i. value_for w.operations (births_are i) q (rows_are i) name call) ∙ u.outcome;
    }
