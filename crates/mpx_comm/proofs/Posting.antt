-- Posts, and the open requests.
use Rattle.std.proofs.Common.{◌≡◌, ℕ, zero, suc, ◌+◌, ◌<◌, ◌≤◌, ◌==◌, ◌&&◌, Bool, true, false, cond, List, [], ◌∷◌, ◌++◌, length, Option, Some, None, ◌⊎◌, inl, inr, refl, sym, ap, ◌∙◌, subst, arith}
use Rattle.std.specs.Prelude.{Vec, Result, Ok, Err, IsOk, IfOk, slice_get, remove}
use Rattle.std.specs.Option.{option_map, unwrap_or}
use Rattle.std.specs.List.{list_any}
use Rattle.std.specs.declared.alloc.Global.{Global}
use Rattle.std.specs.declared.alloc.AllocFailed.{AllocFailed}
use Rattle.std.specs.Set.{remove_key}
use Rattle.indexmap.specs.IndexSet.{insert_key}
use Rattle.std.proofs.lemmas.Bool.Decides.{Decides-eqb}
use Rattle.mpx_name.specs.Order.{name_equality}
use Rattle.mpx_post.specs.Posts.{Given}
use Rattle.mpx_birth.specs.Births.{BirthView}
use Rattle.mpx_post.specs.declared.draft.Draft.{Draft}
use Rattle.mpx_post.specs.declared.draft.PostError.{PostError}
use Rattle.mpx_post.specs.declared.draft.PostError.TheVariants as R
use Rattle.mpx_post.specs.Drafts.{at, given_by, refusal_of}
use Rattle.join_core.specs.Flat.{known, unknown}
use Rattle.mpx_name.specs.Name.{Name, same_name}
use Rattle.mpx_num.specs.declared.own.Operation.{Operation}
use Rattle.mpx_board.specs.Boards.{Look, Held, only, nothing, told}
use Rattle.mpx_node.proofs.Drafted.{accepted}
use Rattle.mpx_node.proofs.Gone.{stored_within}
use Rattle.mpx_node.specs.Stored.{stored_at}
use Rattle.mpx_node.specs.Nodes.{NodeView, OpenedView, posted_on, posted_by, Posts, with_post, posts_more, checked_on, checked_by, results_on, results_by, front_on}
use Rattle.mpx_request.specs.declared.request.Request.{Request}
use Rattle.mpx_request.specs.Requests.{same_request, close, close_all, AreKept, has_let_go, result_of, AwaitsOne, GivesUpOne, Waits, TestsAll}
use Rattle.mpx_comm.specs.Calls.{ArePosted, HasPosted, next_call, IsRefusal, Asks, PostsAnd, Calls}
use Rattle.mpx_request.specs.declared.answers.Tested.{Tested}
use Rattle.mpx_request.specs.declared.answers.Tested.TheVariants.{Done, NotYet, LetGo}
use Rattle.mpx_request.specs.declared.answers.WaitError.TheVariants as W
use Rattle.mpx_request.specs.declared.answers.TurnError.{TurnError}
use Rattle.mpx_request.specs.declared.answers.TurnError.TheVariants as T
use Rattle.mpx_comm.specs.declared.answers.CallError.{CallError}
use Rattle.mpx_comm.specs.declared.answers.CallError.TheVariants as C
use Rattle.mpx_request.specs.Later.{Later, is_empty, is_let_go, result_at, IsPending, IsOwn}
use Rattle.join_core.specs.laws.Cases.{first_true, second_true, TestAnswer, yes, no, answer}
use Rattle.mpx_comm.specs.Keeps.{NodeHolds}
use Rattle.mpx_request.proofs.Steps.{ahead_kept, get_either, held_joined, there_kept}
use Rattle.mpx_comm.proofs.Steps.{held_added}
use Rattle.mpx_node.specs.declared.finished.Finished.{Finished}
use Rattle.std.proofs.lemmas.Option.{same_Some}

pub ok_holds : {A E P : Type 0} (r : Result A E) → IsOk r → IfOk r (λ a. P) → P
ok_holds (Ok a) h p = p
ok_holds (Err e) h p = cc h

-- SAME REQUESTS

pub same_sound : (p q : Request) → same_request p q ≡ true → p ≡ q
same_sound p q e =
    let name : p.name ≡ q.name = name_equality.sound p.name q.name (first_true (same_name p.name q.name) (p.call == q.call) e) in
    let call : p.call ≡ q.call = (Decides-eqb p.call q.call).0 (second_true (same_name p.name q.name) (p.call == q.call) e) in
    λ i. record { name = name i; call = call i }

-- CLOSING

one_removed : {A : Type 0} (t : A → Bool) (y : A) (ys : List A) (x : A) → ((k : ℕ) → slice_get (remove_key t ys) k ≡ Some x → (j : ℕ) × (slice_get ys j ≡ Some x)) → (b : Bool) (k : ℕ) → slice_get (cond b ys (y ∷ remove_key t ys)) k ≡ Some x → (j : ℕ) × (slice_get (y ∷ ys) j ≡ Some x)
one_removed t y ys x rest true k f = (suc k, f)
one_removed t y ys x rest false zero f = (zero, f)
one_removed t y ys x rest false (suc k) f = let place = rest k f in (suc place.0, place.1)

from_removed : {A : Type 0} (t : A → Bool) (xs : List A) (i : ℕ) (x : A) → slice_get (remove_key t xs) i ≡ Some x → (j : ℕ) × (slice_get xs j ≡ Some x)
from_removed t [] i x e = cc e
from_removed t (y ∷ ys) i x e = one_removed t y ys x (λ k f. from_removed t ys k x f) (t y) i e

pub posted_closed : (node : NodeView) (rs : List Request) (request : Request) → ArePosted node rs → ArePosted node (close rs request)
posted_closed node rs request all i r e = let place = from_removed (same_request request) rs i r e in all place.0 r place.1

pub posted_all_closed : (node : NodeView) (qs rs : List Request) → ArePosted node rs → ArePosted node (close_all rs qs)
posted_all_closed node [] rs all = all
posted_all_closed node (q ∷ qs) rs all = posted_all_closed node qs (close rs q) (posted_closed node rs q all)

-- without the one at a place
from_place : {A : Type 0} (xs : List A) (i k : ℕ) (x : A) → slice_get (remove xs i) k ≡ Some x → (j : ℕ) × (slice_get xs j ≡ Some x)
from_place [] zero k x e = cc e
from_place [] (suc i) k x e = cc e
from_place (y ∷ ys) zero k x e = (suc k, e)
from_place (y ∷ ys) (suc i) zero x e = (zero, e)
from_place (y ∷ ys) (suc i) (suc k) x e = let place = from_place ys i k x e in (suc place.0, place.1)

pub posted_removed : (node : NodeView) (rs : List Request) (i : ℕ) → ArePosted node rs → ArePosted node (remove rs i)
posted_removed node rs i all k r e = let place = from_place rs i k r e in all place.0 r place.1

pub posted_later : (old new : NodeView) (rs : List Request) → Later old new → ArePosted old rs → ArePosted new rs
posted_later old new rs later all i r e = (subst (λ n. r.call < n) (sym (later.posted r.name)) (all i r e).0, later.let_go r.name r.call ∙ (all i r e).1)

-- the results of these aren't let go
pub kept_posted : (node : NodeView) (rs : List Request) → ArePosted node rs → AreKept node rs
kept_posted node rs all i r e = (all i r e).1

-- a test of many leaves those posted that stay open
pub posted_tested : (requests : List Request) (result : Result (Tested (Vec Finished Global) (Vec Request Global)) (AllocFailed (Vec Request Global))) (node : NodeView) (before after : List Request) → TestsAll requests result node before after → ArePosted node before → ArePosted node after
posted_tested requests (Ok (Done all)) node before after tests posted = subst (ArePosted node) (sym tests.1) (posted_all_closed node requests before posted)
posted_tested requests (Ok (NotYet back)) node before after tests posted = subst (ArePosted node) (sym tests.3) posted
posted_tested requests (Ok (LetGo back)) node before after tests posted = subst (ArePosted node) (sym tests.2) posted
posted_tested requests (Err refused) node before after tests posted = subst (ArePosted node) (sym tests.3) posted

-- A POST

one_other : (node : NodeView) (q r : Request) (rs : List Request) → ArePosted node (r ∷ rs) → q.call ≡ posted_on node q.name → list_any (same_request q) rs ≡ false → TestAnswer (same_request q r) → list_any (same_request q) (r ∷ rs) ≡ false
one_other node q r rs all last rest (yes t) =
    let same : q ≡ r = same_sound q r t in
    let less : q.call < posted_on node q.name = subst (λ (x : Request). x.call < posted_on node x.name) (sym same) (all 0 r refl).0 in
    absurd (omega (arith, less, last))
one_other node q r rs all last rest (no f) = rw f rest

none_same : (node : NodeView) (q : Request) (rs : List Request) → ArePosted node rs → q.call ≡ posted_on node q.name → list_any (same_request q) rs ≡ false
none_same node q [] all last = refl
none_same node q (r ∷ rs) all last = one_other node q r rs all last (none_same node q rs (λ i x e. all (suc i) x e) last) (answer (same_request q r))

-- a new request goes last
pub goes_last : (node : NodeView) (q : Request) (rs after : List Request) → ArePosted node rs → q.call ≡ posted_on node q.name → after ≡ insert_key same_request rs q → after ≡ rs ++ q ∷ []
goes_last node q rs after all last e = e ∙ ap (λ b. cond b rs (rs ++ q ∷ [])) (none_same node q rs all last)

-- what a post that was made says
pub record IsMade (name : Name) (call : ℕ) (old new : NodeView) (r : Result Given PostError) : Type 0 where
  pub given : Given
  pub checked : r ≡ Ok given
  pub last : call ≡ posted_on old name
  pub made : new ≡ with_post name given old

pub is_made : (name : Name) (call : ℕ) (old new : NodeView) (r : Result Given PostError) → Posts name r (Ok call) old new → IsMade name call old new r
is_made name call old new (Err e) h = cc (h.0)
is_made name call old new (Ok given) h = record { given = given; checked = refl; last = h.0; made = h.1 }

no_fewer : (given : Given) (b : Bool) (o : Option OpenedView) → posted_by o ≤ posted_by (cond b (option_map (posts_more given) o) o)
no_fewer given true None = omega arith
no_fewer given true (Some o) = omega arith
no_fewer given false o = omega arith

results_stay : (given : Given) (b : Bool) (o : Option OpenedView) → results_by (cond b (option_map (posts_more given) o) o) ≡ results_by o
results_stay given true None = refl
results_stay given true (Some o) = refl
results_stay given false o = refl

-- it lets no result go
pub let_go_posted : (name : Name) (given : Given) (old : NodeView) (n : Name) (call : ℕ) → is_let_go (with_post name given old) n call ≡ is_let_go old n call
let_go_posted name given old n call = ap (λ rs. is_empty (slice_get rs call)) (results_stay given (same_name n name) (old.opened n))

-- whatever a post comes to, what was posted before it is
pub posts_keep : (name : Name) (r : Result Given PostError) (result : Result ℕ PostError) (old new : NodeView) (rs : List Request) → Posts name r result old new → ArePosted old rs → ArePosted new rs
posts_keep name (Err x) result old new rs h all = subst (λ n. ArePosted n rs) (sym h.1) all
posts_keep name (Ok given) (Err e) old new rs h all = subst (λ n. ArePosted n rs) (sym h.1) all
posts_keep name (Ok given) (Ok call) old new rs h all = λ i r e. (
  subst (λ x. r.call < posted_on x r.name) (sym h.1) (let m = no_fewer given (same_name r.name name) (old.opened r.name) in omega (arith, (all i r e).0, m)),
  ap (λ x. has_let_go x r) h.1 ∙ let_go_posted name given old r.name r.call ∙ (all i r e).1,
)

one_more : (ops : List Operation) (o : Option OpenedView) (birth : Option BirthView) (me : ℕ) (name : Name) (draft : Draft) (given : Given) → checked_by ops o birth me name draft ≡ Ok given → posted_by (option_map (posts_more given) o) ≡ posted_by o + 1
one_more ops None birth me name draft given e = cc e
one_more ops (Some o) birth me name draft given e = refl

pub posted_added : (ops : List Operation) (old new : NodeView) (draft : Draft) (rs after : List Request) (q : Request) → front_on old q.name ≤ posted_on old q.name → ArePosted old rs → IsMade q.name q.call old new (checked_on ops old q.name draft) → after ≡ rs ++ q ∷ [] → ArePosted new after
posted_added ops old new draft rs after q bounded all made e i r f = by_place (get_either rs q i r (ap (λ xs. slice_get xs i) (sym e) ∙ f)) where
  grown : (n : Name) → posted_on old n ≤ posted_on new n
  grown n = subst (λ x. posted_on old n ≤ posted_on x n) (sym made.made) (no_fewer made.given (same_name n q.name) (old.opened n))

  next : posted_on new q.name ≡ posted_on old q.name + 1
  next = ap (λ x. posted_on x q.name) made.made
      ∙ ap (λ b. posted_by (cond b (option_map (posts_more made.given) (old.opened q.name)) (old.opened q.name))) (name_equality.reflexive q.name)
      ∙ one_more ops (old.opened q.name) (told (old.board.contexts q.name).birth) old.me q.name draft made.given made.checked

  let_go_still : (r : Request) → has_let_go new r ≡ has_let_go old r
  let_go_still r = ap (λ x. has_let_go x r) made.made ∙ let_go_posted q.name made.given old r.name r.call

  new_kept : has_let_go new q ≡ false
  new_kept = let_go_still q ∙ ahead_kept old q.name q.call (omega (arith, bounded, made.last))

  by_place : (slice_get rs i ≡ Some r) ⊎ ((i ≡ length rs) × (q ≡ r)) → (r.call < posted_on new r.name) × (has_let_go new r ≡ false)
  by_place (inl there) = (omega (arith, (all i r there).0, grown r.name), let_go_still r ∙ (all i r there).1)
  by_place (inr last) = subst (λ (x : Request). (x.call < posted_on new x.name) × (has_let_go new x ≡ false)) last.1 (omega (arith, next, made.last), new_kept)

module _ (old : NodeView) (name : Name) (given : Given) where
  abbrev posting : NodeView
  posting = with_post name given old

  abbrev fact : Look
  fact = only (Held name (posted_on old name) old.me (known given))

  told_here : (fact.contexts name).posts (posted_on old name) old.me ≡ known given
  told_here = ap (λ b. (cond b (record nothing { posts = λ j q. cond ((j == posted_on old name) && (q == old.me)) (known given) unknown }) nothing).posts (posted_on old name) old.me) (name_equality.reflexive name)
      ∙ (λ i. cond ((Decides-eqb (posted_on old name) (posted_on old name)).1 refl i && (Decides-eqb old.me old.me).1 refl i) (known given) unknown)

  kept_by : (n : Name) (call : ℕ) (g : Given) → IsOwn old n call g → IsOwn posting n call g
  kept_by n call g o = record {
    held = held_joined (old.board.contexts n) (fact.contexts n) call old.me g o.held;
    mine = λ f e. o.mine f (ap (λ rs. stored_at rs call) (sym (results_stay given (same_name n name) (old.opened n))) ∙ e);
  }

  own_by : front_on old name ≤ posted_on old name → IsOwn posting name (posted_on old name) given
  own_by bounded = record {
    held = held_added (old.board.contexts name) (fact.contexts name) (posted_on old name) old.me given told_here;
    mine = λ f e.
        let there : stored_at (results_on old name) (posted_on old name) ≡ Some f = ap (λ rs. stored_at rs (posted_on old name)) (sym (results_stay given (same_name name name) (old.opened name))) ∙ e in
        let less : posted_on old name < length (results_on old name) = stored_within (results_on old name) (posted_on old name) f there in
        absurd (omega (arith, less, bounded));
  }

  pub has_posted : (ops : List Operation) (draft : Draft) → front_on old name ≤ posted_on old name → checked_on ops old name draft ≡ Ok given → HasPosted ops name draft old posting
  has_posted ops draft bounded e =
      let is : given ≡ given_by draft = (accepted ops old name draft given e).gives in
      record {
        accepted = e ∙ ap Ok is;
        own = subst (λ g. IsOwn posting name (posted_on old name) g) is (own_by bounded);
        posted = λ n. ap (λ g. posted_on (with_post name g old) n) is;
        stored = λ n k f h. ap (λ rs. stored_at rs k) (results_stay given (same_name n name) (old.opened n)) ∙ h;
        let_go = λ n k. let_go_posted name given old n k;
        kept = kept_by;
      }

-- HELD, OR LET GO

pub holds_posted : (old : NodeView) (name : Name) (given : Given) → NodeHolds old (with_post name given old)
holds_posted old name given = record {
  stored = λ n k f e. inl (ap (λ rs. stored_at rs k) (results_stay given (same_name n name) (old.opened n)) ∙ e);
  gone = λ n k g. let_go_posted name given old n k ∙ g;
  own = kept_by old name given;
}

pub stored_then : (between now : NodeView) → NodeHolds between now → (n : Name) (k : ℕ) (f : Finished) → (result_at between n k ≡ Some f) ⊎ (is_let_go between n k ≡ true) → (result_at now n k ≡ Some f) ⊎ (is_let_go now n k ≡ true)
stored_then between now y n k f (inl e) = y.stored n k f e
stored_then between now y n k f (inr g) = inr (y.gone n k g)

-- what is there is what was there
pub same_or_gone : (now : NodeView) (name : Name) (call : ℕ) (f g : Finished) → (result_at now name call ≡ Some f) ⊎ (is_let_go now name call ≡ true) → result_at now name call ≡ Some g → g ≡ f
same_or_gone now name call f g (inl e) there = same_Some g f (sym there ∙ e)
same_or_gone now name call f g (inr gone) there = let kept : false ≡ is_let_go now name call = there_kept now name call g (sym there) in cc (kept, gone)

-- what was posted stays so
pub posted_then : (ops : List Operation) (name : Name) (draft : Draft) (old mid last : NodeView) → HasPosted ops name draft old mid → Later mid last → HasPosted ops name draft old last
posted_then ops name draft old mid last h later = record {
  accepted = h.accepted;
  own = later.own name (posted_on old name) (given_by draft) h.own;
  posted = λ n. later.posted n ∙ h.posted n;
  stored = λ n k f e. later.stored n k f (h.stored n k f e);
  let_go = λ n k. later.let_go n k ∙ h.let_go n k;
  kept = λ n k g o. later.own n k g (h.kept n k g o);
}

-- a post and what stays of it: its request is the last, and each open one is posted
pub post_done : (ops : List Operation) (old new : NodeView) (name : Name) (call : ℕ) (draft : Draft) (rs after : List Request) (q : Request) → front_on old name ≤ posted_on old name → ArePosted old rs → Posts name (checked_on ops old name draft) (Ok call) old new → q ≡ record { name = name; call = call } → after ≡ insert_key same_request rs q → ((q ≡ next_call old name) × HasPosted ops name draft old new × (after ≡ rs ++ q ∷ [])) × ArePosted new after
post_done ops old new name call draft rs after q bounded all posts is keys =
    let at : IsMade name call old new (checked_on ops old name draft) = is_made name call old new (checked_on ops old name draft) posts in
    let here : Posts q.name (checked_on ops old q.name draft) (Ok q.call) old new = subst (λ (x : Request). Posts x.name (checked_on ops old x.name draft) (Ok x.call) old new) (sym is) posts in
    let made : IsMade q.name q.call old new (checked_on ops old q.name draft) = is_made q.name q.call old new (checked_on ops old q.name draft) here in
    let last : after ≡ rs ++ q ∷ [] = goes_last old q rs after all made.last keys in
    let within : front_on old q.name ≤ posted_on old q.name = subst (λ (x : Request). front_on old x.name ≤ posted_on old x.name) (sym is) bounded in
    ((is ∙ (λ i. record { name = name; call = at.last i }), subst (HasPosted ops name draft old) (sym at.made) (has_posted old name at.given ops draft bounded at.checked), last), posted_added ops old new draft rs after q within all made last)

-- it is posted as it was drafted, and nothing else changes
pub posted_exactly : (ops : List Operation) (old new : NodeView) (name : Name) (call : ℕ) (draft : Draft) → Posts name (checked_on ops old name draft) (Ok call) old new → new ≡ with_post name (given_by draft) old
posted_exactly ops old new name call draft posts =
    let at : IsMade name call old new (checked_on ops old name draft) = is_made name call old new (checked_on ops old name draft) posts in
    at.made ∙ ap (λ given. with_post name given old) (accepted ops old name draft at.given at.checked).gives

-- REFUSALS

-- what is refused is told so
pub is_refused : (r : Result Given PostError) (e : PostError) → Some e ≡ refusal_of r → IsRefusal r e
is_refused (Ok given) e h = cc h
is_refused (Err x) e h = inl (ap Err (sym (same_Some e x h)))

-- the refusal, or want of memory where there is none
pub refused_or : (o : Option PostError) (r : Result Given PostError) → o ≡ refusal_of r → IsRefusal r (unwrap_or o R.OutOfMemory)
refused_or (Some e) r h = is_refused r e h
refused_or None (Ok given) h = inr (refl, refl)
refused_or None (Err x) h = cc h

-- BLOCKING CALLS

-- what was asked for just now wasn't let go
pub asked_kept : (ops : List Operation) (old new : NodeView) (name : Name) (draft : Draft) (q : Request) (before after : List Request) → front_on old name ≤ posted_on old name → Asks ops name draft (Ok q) old new before after → has_let_go new q ≡ false
asked_kept ops old new name draft q before after bounded asks =
    ap (λ (x : NodeView). has_let_go x q) asks.3 ∙ ap (λ (r : Request). has_let_go (with_post name (given_by draft) old) r) asks.0
    ∙ let_go_posted name (given_by draft) old name (posted_on old name) ∙ ahead_kept old name (posted_on old name) bounded

module _ {H : Type 0} (ops : List Operation) (node : H → NodeView) (turned : H → ℕ → H → Type 0) (refused : H → TurnError → H → Type 0) (name : Name) (draft : Draft) (old mid new : H) (before between after : List Request) (turns : ℕ) (q : Request) (asks : Asks ops name draft (Ok q) (node old) (node mid) before between) (still : turned old 0 mid) (later : Later (node mid) (node new)) where
  -- the post, and then a wait
  posts_and : (waits : H → Type 0) → waits mid → PostsAnd node turned name draft old waits
  posts_and waits since = (mid, still, asks.3, since)

  pub called : (f : Finished) → Waits node turned refused q turns (Ok f) mid new between after → Calls ops node turned refused name draft turns (Ok f) old new before after
  called f waits =
      let posted : HasPosted ops name draft (node old) (node new) = posted_then ops name draft (node old) (node mid) (node new) asks.1 later in
      let stored : result_of (node new) (next_call (node old) name) ≡ Some f = ap (result_of (node new)) (sym asks.0) ∙ waits.0 in
      let awaited : AwaitsOne node turned (next_call (node old) name) mid waits.1.0 new = subst (λ (r : Request). AwaitsOne node turned r mid waits.1.0 new) asks.0 waits.1.2 in
      (posted, stored, posted.own.mine f stored, (waits.1.0, waits.1.1, posts_and (λ h. AwaitsOne node turned (next_call (node old) name) h waits.1.0 new) awaited), waits.2 ∙ ap (λ rs. close rs q) asks.2 ∙ ap (λ r. close (before ++ r ∷ []) r) asks.0)

  pub called_in_vain : (back : Request) → Waits node turned refused q turns (Err (W.StillWaiting back)) mid new between after → Calls ops node turned refused name draft turns (Err (C.StillWaiting back)) old new before after
  called_in_vain back waits =
      let awaited : AwaitsOne node turned back mid turns new = subst (λ (r : Request). AwaitsOne node turned r mid turns new) (sym waits.0) waits.2 in
      (waits.0 ∙ asks.0, posted_then ops name draft (node old) (node mid) (node new) asks.1 later, subst (λ (r : Request). IsPending (node new) r.name r.call) (sym waits.0) waits.1, posts_and (λ h. AwaitsOne node turned back h turns new) awaited, waits.3 ∙ asks.2 ∙ ap (λ r. before ++ r ∷ []) (sym waits.0))

  -- such a wait is given up for this reason
  given_up : (why : TurnError) (back : Request) → (back ≡ q) × GivesUpOne node turned refused q why turns mid new × (after ≡ between)
      → (back ≡ next_call (node old) name) × HasPosted ops name draft (node old) (node new) × PostsAnd node turned name draft old (λ posted. GivesUpOne node turned refused back why turns posted new) × (after ≡ before ++ back ∷ [])
  given_up why back waits =
      let gave_up : GivesUpOne node turned refused back why turns mid new = subst (λ (r : Request). GivesUpOne node turned refused r why turns mid new) (sym waits.0) waits.1 in
      (waits.0 ∙ asks.0, posted_then ops name draft (node old) (node mid) (node new) asks.1 later, posts_and (λ h. GivesUpOne node turned refused back why turns h new) gave_up, waits.2 ∙ asks.2 ∙ ap (λ r. before ++ r ∷ []) (sym waits.0))

  pub called_without_memory : (back : Request) → Waits node turned refused q turns (Err (W.OutOfMemory back)) mid new between after → Calls ops node turned refused name draft turns (Err (C.OutOfMemory back)) old new before after
  called_without_memory back waits = given_up T.OutOfMemory back waits

  pub called_given_up : (back : Request) (rank : ℕ) → Waits node turned refused q turns (Err (W.GaveUp back rank)) mid new between after → Calls ops node turned refused name draft turns (Err (C.GaveUp back rank)) old new before after
  called_given_up back rank waits = given_up (T.GaveUp rank) back waits

-- DRAFTS THAT ARE ROWS

-- what is asked by a draft is asked by the row that it is
pub asks_by_row : (ops : List Operation) (name : Name) (draft row : Draft) (result : Result Request PostError) (old new : NodeView) (between before after : List Request) → draft ≡ row → between ≡ before → Asks ops name draft result old new between after → Asks ops name row result old new before after
asks_by_row ops name draft row result old new between before after is same asks =
    subst (λ rs. Asks ops name row result old new rs after) same (subst (λ d. Asks ops name d result old new between after) is asks)

-- so is what is called
pub calls_by_row : {H : Type 0} (ops : List Operation) (node : H → NodeView) (turned : H → ℕ → H → Type 0) (refused : H → TurnError → H → Type 0) (name : Name) (draft row : Draft) (turns : ℕ) (result : Result Finished CallError) (old new : H) (between before after : List Request) → draft ≡ row → between ≡ before → Calls ops node turned refused name draft turns result old new between after → Calls ops node turned refused name row turns result old new before after
calls_by_row ops node turned refused name draft row turns result old new between before after is same calls =
    subst (λ rs. Calls ops node turned refused name row turns result old new rs after) same (subst (λ d. Calls ops node turned refused name d turns result old new between after) is calls)
