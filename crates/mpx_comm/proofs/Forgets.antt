-- What a desk lets go, and what it keeps.
use Rattle.std.proofs.Common.{◌≡◌, ℕ, zero, suc, ◌<◌, ◌≤◌, Bool, true, false, cond, List, [], ◌∷◌, ◌++◌, length, Option, Some, None, ◌⊎◌, inl, inr, refl, sym, ap, ◌∙◌, subst, arith, is_some}
use Rattle.std.specs.Prelude.{slice_get, nat_lt}
use Rattle.std.specs.Option.{option_flatten, option_map}
use Rattle.mpx_name.specs.Name.{Name, same_name}
use Rattle.mpx_name.specs.Order.{name_equality}
use Rattle.mpx_board.specs.Boards.{Look}
use Rattle.mpx_node.specs.declared.finished.Finished.{Finished}
use Rattle.mpx_node.specs.Forgetting.{forgets}
use Rattle.mpx_node.specs.Nodes.{NodeView, OpenedView, front_on, has_next, next_of, posted_on, result_of, results_by, results_on}
use Rattle.mpx_node.specs.Opened.{lets_go}
use Rattle.mpx_node.specs.Stored.{count_gone, let_go}
use Rattle.mpx_node.proofs.Forgotten.{posted_forgotten, result_before, result_or_forgotten}
use Rattle.mpx_node.proofs.Gone.{length_lets}
use Rattle.mpx_request.specs.declared.request.Request.{Request}
use Rattle.mpx_comm.specs.Forgetting.{AreUntouched, IsLeastCall}
use Rattle.mpx_request.specs.Later.{is_empty, is_let_go, result_at, IsOwn}
use Rattle.mpx_post.specs.Posts.{Given}
use Rattle.mpx_comm.specs.Calls.{ArePosted}
use Rattle.mpx_request.proofs.Steps.{get_either}

-- THE LEAST CALL

-- what stands in a list does so in a longer one
there_still : (rs qs : List Request) (i : ℕ) (r : Request) → slice_get rs i ≡ Some r → slice_get (rs ++ qs) i ≡ Some r
there_still [] qs i r e = cc e
there_still (x ∷ rs) qs zero r e = e
there_still (x ∷ rs) qs (suc i) r e = there_still rs qs i r e

last_there : (rs : List Request) (r : Request) → slice_get (rs ++ r ∷ []) (length rs) ≡ Some r
last_there [] r = refl
last_there (x ∷ rs) r = last_there rs r

-- one request more, for a lesser call of the context
pub least_less : (most : ℕ) (name : Name) (rs : List Request) (least : ℕ) (r : Request) → IsLeastCall most name rs least → r.name ≡ name → r.call < least → IsLeastCall most name (rs ++ r ∷ []) r.call
least_less most name rs least r h same less = record { within = (let l = h.within in omega (arith, l, less)); low = λ i q e n. by_place q n (get_either rs r i q e); met = inr (length rs, r, last_there rs r, same, refl) } where
  by_place : {i : ℕ} (q : Request) → q.name ≡ name → (slice_get rs i ≡ Some q) ⊎ ((i ≡ length rs) × (r ≡ q)) → r.call ≤ q.call
  by_place {i} q n (inl there) = let l = h.low i q there n in omega (arith, l, less)
  by_place q n (inr last) = subst (λ (x : Request). r.call ≤ x.call) last.1 (omega arith)

-- one request more, for no lesser call of the context
pub least_same : (most : ℕ) (name : Name) (rs : List Request) (least : ℕ) (r : Request) → IsLeastCall most name rs least → (r.name ≡ name → least ≤ r.call) → IsLeastCall most name (rs ++ r ∷ []) least
least_same most name rs least r h above = record { within = h.within; low = λ i q e n. by_place q n (get_either rs r i q e); met = met h.met } where
  by_place : {i : ℕ} (q : Request) → q.name ≡ name → (slice_get rs i ≡ Some q) ⊎ ((i ≡ length rs) × (r ≡ q)) → least ≤ q.call
  by_place {i} q n (inl there) = h.low i q there n
  by_place q n (inr last) = subst (λ (x : Request). x.name ≡ name → least ≤ x.call) last.1 above n

  met : (least ≡ most) ⊎ ((i : ℕ) × (q : Request) × (slice_get rs i ≡ Some q) × (q.name ≡ name) × (least ≡ q.call)) → (least ≡ most) ⊎ ((i : ℕ) × (q : Request) × (slice_get (rs ++ r ∷ []) i ≡ Some q) × (q.name ≡ name) × (least ≡ q.call))
  met (inl e) = inl e
  met (inr (i, q, e, n, call)) = inr (i, q, there_still rs (r ∷ []) i q e, n, call)

pub least_at : (m most : ℕ) (name : Name) (qs rs : List Request) (least : ℕ) → m ≡ most → qs ≡ rs → IsLeastCall m name qs least → IsLeastCall most name rs least
least_at m most name qs rs least same equal h = subst (λ xs. IsLeastCall most name xs least) equal (subst (λ n. IsLeastCall n name qs least) same h)

-- WHAT STAYS

-- from this place on nothing is let go
place_stays : (below : ℕ) (xs : List (Option Finished)) (k : ℕ) → below ≤ k → slice_get (let_go below xs) k ≡ slice_get xs k
place_stays zero xs k l = refl
place_stays (suc n) [] k l = refl
place_stays (suc n) (o ∷ []) k l = refl
place_stays (suc n) (o ∷ p ∷ xs) zero l = absurd (omega (arith, l))
place_stays (suc n) (o ∷ p ∷ xs) (suc k) l = place_stays n (p ∷ xs) k (omega (arith, l))

-- what is counted as gone is gone
counted_in : (xs : List (Option Finished)) (k : ℕ) → k < count_gone xs → is_empty (slice_get xs k) ≡ true
counted_in [] k l = absurd (omega (arith, l))
counted_in (None ∷ xs) zero l = refl
counted_in (None ∷ xs) (suc k) l = counted_in xs k (omega (arith, l))
counted_in (Some x ∷ xs) k l = absurd (omega (arith, l))

-- what is gone stays so
empty_lets : (below : ℕ) (xs : List (Option Finished)) (k : ℕ) → is_empty (slice_get xs k) ≡ true → is_empty (slice_get (let_go below xs) k) ≡ true
empty_lets zero xs k e = e
empty_lets (suc n) [] k e = e
empty_lets (suc n) (o ∷ []) k e = e
empty_lets (suc n) (o ∷ p ∷ xs) zero e = refl
empty_lets (suc n) (o ∷ p ∷ xs) (suc k) e = empty_lets n (p ∷ xs) k e

module _ (below : ℕ) where
  gone_by : (b : Bool) (o : Option OpenedView) (k : ℕ) → is_empty (slice_get (results_by o) k) ≡ true → is_empty (slice_get (results_by (cond b (option_map (lets_go below) o) o)) k) ≡ true
  gone_by true None k e = e
  gone_by true (Some o) k e = empty_lets below o.results k e
  gone_by false o k e = e

  place_by : (b : Bool) (o : Option OpenedView) (k : ℕ) → (b ≡ true → below ≤ k) → slice_get (results_by (cond b (option_map (lets_go below) o) o)) k ≡ slice_get (results_by o) k
  place_by true None k l = refl
  place_by true (Some o) k l = place_stays below o.results k (l refl)
  place_by false o k l = refl

  next_by : (b : Bool) (o : Option OpenedView) (board : Look) (name : Name) (me : ℕ) → is_some (next_of [] (cond b (option_map (lets_go below) o) o) board name me) ≡ is_some (next_of [] o board name me)
  next_by true None board name me = refl
  next_by true (Some o) board name me = ap (λ n. is_some (cond (nat_lt n o.posted) (result_of [] board name me n) None)) (length_lets below o.results)
  next_by false o board name me = refl

module _ (name : Name) (below : ℕ) (node : NodeView) where
  pub place_kept : (n : Name) (k : ℕ) → (same_name n name ≡ true → below ≤ k) → slice_get (results_on (forgets name below node) n) k ≡ slice_get (results_on node n) k
  place_kept n k l = place_by below (same_name n name) (node.opened n) k l

  next_kept : (n : Name) → has_next (forgets name below node) n ≡ has_next node n
  next_kept n = next_by below (same_name n name) (node.opened n) node.board n node.me

  pub stored_forgets : (n : Name) (k : ℕ) (f : Finished) → result_at node n k ≡ Some f → (result_at (forgets name below node) n k ≡ Some f) ⊎ (is_let_go (forgets name below node) n k ≡ true)
  stored_forgets n k f e = elim (result_or_forgotten name below node n k f e) [
    | inl there ↦ inl there
    | inr gone ↦ inr (counted_in (results_on (forgets name below node) n) k gone.2)
  ]

  pub gone_forgets : (n : Name) (k : ℕ) → is_let_go node n k ≡ true → is_let_go (forgets name below node) n k ≡ true
  gone_forgets n k g = gone_by below (same_name n name) (node.opened n) k g

  -- what is there of the own posts stays
  pub own_kept : (n : Name) (k : ℕ) (given : Given) → IsOwn node n k given → IsOwn (forgets name below node) n k given
  own_kept n k given o = record { held = o.held; mine = λ f e. o.mine f (result_before name below node n k f e) }

-- what open requests are for stays
module _ (name : Name) (rs : List Request) (node new : NodeView) (below : ℕ) (least : IsLeastCall (front_on node name) name rs below) (is : new ≡ forgets name below node) where
  place : (i : ℕ) (r : Request) → slice_get rs i ≡ Some r → slice_get (results_on new r.name) r.call ≡ slice_get (results_on node r.name) r.call
  place i r e = ap (λ x. slice_get (results_on x r.name) r.call) is ∙ place_kept name below node r.name r.call (λ same. least.low i r e (name_equality.sound r.name name same))

  pub untouched : AreUntouched node new rs
  untouched i r e = (ap option_flatten (place i r e), ap (λ x. has_next x r.name) is ∙ next_kept name below node r.name)

  pub posted_forgets : ArePosted node rs → ArePosted new rs
  posted_forgets all i r e = (
    subst (λ n. r.call < n) (sym (ap (λ x. posted_on x r.name) is ∙ posted_forgotten name below node r.name)) (all i r e).0,
    ap is_empty (place i r e) ∙ (all i r e).1,
  )
