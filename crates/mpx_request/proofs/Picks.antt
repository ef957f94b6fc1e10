-- The requests that are done, and those that aren't.
use Rattle.std.proofs.Common.{◌≡◌, ◌≢◌, ℕ, zero, suc, List, [], ◌∷◌, ◌++◌, Some, inl, inr, refl, sym, ap, subst, arith}
use Rattle.std.specs.Prelude.{slice_get}
use Rattle.std.proofs.lemmas.Option.{same_Some}
use Rattle.mpx_num.specs.declared.own.Operation.{Operation}
use Rattle.mpx_node.specs.declared.finished.Finished.{Finished}
use Rattle.mpx_node.specs.Nodes.{NodeView, results_on}
use Rattle.mpx_node.proofs.Gone.{stored_within}
use Rattle.mpx_request.specs.declared.request.Request.{Request}
use Rattle.mpx_request.specs.Any.{AddsIfDone, PicksDone}
use Rattle.mpx_request.specs.Harvested.{ComesByHarvests, WasPending}
use Rattle.mpx_request.specs.Requests.{result_of}
use Rattle.mpx_request.proofs.Harvesting.{harvested_then, pending_now, still_pending}
use Rattle.mpx_request.proofs.Steps.{later_more}

-- what was picked is so after further harvests
pub picks_later : (ops : List Operation) (a b c : NodeView) (rs : List Request) (done : List (Request × Finished)) → PicksDone ops a b rs done → ComesByHarvests ops b c → PicksDone ops a c rs done
picks_later ops a b c [] done p more = p
picks_later ops a b c (r ∷ rs) done (inl (f, rest, stored, is, others)) more = inl (f, rest, more.later.stored r.name r.call f stored, is, picks_later ops a b c rs rest others more)
picks_later ops a b c (r ∷ rs) done (inr (pending, others)) more = inr (still_pending ops a b c r.name r.call pending more, picks_later ops a b c rs done others more)

-- one more is done
pub picks_one : (ops : List Operation) (a b : NodeView) (rs : List Request) (done : List (Request × Finished)) (r : Request) (f : Finished) → PicksDone ops a b rs done → result_of b r ≡ Some f → PicksDone ops a b (rs ++ r ∷ []) (done ++ (r, f) ∷ [])
picks_one ops a b [] done r f p stored = inl (f, [], stored, ap (λ d. d ++ (r, f) ∷ []) p, refl)
picks_one ops a b (q ∷ rs) done r f (inl (g, rest, at, is, others)) stored = inl (g, rest ++ (r, f) ∷ [], at, ap (λ d. d ++ (r, f) ∷ []) is, picks_one ops a b rs rest r f others stored)
picks_one ops a b (q ∷ rs) done r f (inr (pending, others)) stored = inr (pending, picks_one ops a b rs done r f others stored)

-- one more isn't
pub picks_not : (ops : List Operation) (a b : NodeView) (rs : List Request) (done : List (Request × Finished)) (r : Request) → PicksDone ops a b rs done → WasPending ops a b r.name r.call → PicksDone ops a b (rs ++ r ∷ []) done
picks_not ops a b [] done r p pending = inr (pending, p)
picks_not ops a b (q ∷ rs) done r (inl (g, rest, at, is, others)) pending = inl (g, rest, at, is, picks_not ops a b rs rest r others pending)
picks_not ops a b (q ∷ rs) done r (inr (was, others)) pending = inr (was, picks_not ops a b rs done r others pending)

-- one more is looked at
pub picks_more : (ops : List Operation) (a b c : NodeView) (rs qs : List Request) (done new : List (Request × Finished)) (r : Request) → PicksDone ops a b rs done → ComesByHarvests ops b c → ComesByHarvests ops a c → AddsIfDone c r done new → qs ≡ rs ++ r ∷ [] → PicksDone ops a c qs new
picks_more ops a b c rs qs done new r p more all (inl (f, stored, is)) here =
    subst (λ x. PicksDone ops a c x new) (sym here) (subst (λ d. PicksDone ops a c (rs ++ r ∷ []) d) (sym is) (picks_one ops a c rs done r f (picks_later ops a b c rs done p more) stored))
picks_more ops a b c rs qs done new r p more all (inr (pending, is)) here =
    subst (λ x. PicksDone ops a c x new) (sym here) (subst (λ d. PicksDone ops a c (rs ++ r ∷ []) d) (sym is) (picks_not ops a c rs done r (picks_later ops a b c rs done p more) (pending_now ops a c r.name r.call all pending)))

-- seen from before
pub picks_since : (ops : List Operation) (a b c : NodeView) (rs : List Request) (done : List (Request × Finished)) → ComesByHarvests ops a b → PicksDone ops b c rs done → PicksDone ops a c rs done
picks_since ops a b c [] done since p = p
picks_since ops a b c (r ∷ rs) done since (inl (f, rest, stored, is, others)) = inl (f, rest, stored, is, picks_since ops a b c rs rest since others)
picks_since ops a b c (r ∷ rs) done since (inr (w, others)) = inr (
  record {
    moment = w.moment;
    after = record { later = later_more a b w.moment since.later w.after.later; harvests = harvested_then ops a b w.moment since.harvests w.after.harvests };
    before = w.before;
    pending = w.pending;
  },
  picks_since ops a b c rs done since others,
)

is_one : (d : Request × Finished) (rest done : List (Request × Finished)) → done ≡ d ∷ rest → done ≢ []
is_one d rest done is none = cc (is, none)

-- where one was done before, one is picked
pub picks_any : (ops : List Operation) (b c : NodeView) (rs : List Request) (done : List (Request × Finished)) (place : ℕ) (r : Request) (f : Finished) → slice_get rs place ≡ Some r → result_of b r ≡ Some f → PicksDone ops b c rs done → done ≢ []
picks_any ops b c [] done place r f at stored p = cc at
picks_any ops b c (q ∷ rs) done place r f at stored (inl (g, rest, found, is, others)) = is_one (q, g) rest done is
picks_any ops b c (q ∷ rs) done zero r f at stored (inr (w, others)) =
    let same : q ≡ r = same_Some q r at in
    let later : result_of w.moment q ≡ Some f = subst (λ (x : Request). result_of w.moment x ≡ Some f) (sym same) (w.after.later.stored r.name r.call f stored) in
    let harvested = stored_within (results_on w.moment q.name) q.call f later in
    absurd (omega (arith, harvested, w.pending.ahead))
picks_any ops b c (q ∷ rs) done (suc place) r f at stored (inr (w, others)) = picks_any ops b c rs done place r f at stored others
