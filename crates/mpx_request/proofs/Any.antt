-- Looking at the open requests between turns.
use Rattle.std.proofs.Common.{◌≡◌, ℕ, suc, ◌+◌, ◌-◌, ◌<◌, ◌≤◌, ◌≢◌, List, [], map, Some, inr, sym, ◌∙◌, subst, arith}
use Rattle.std.specs.Prelude.{Ok, remove, slice_get}
use Rattle.std.proofs.lemmas.Option.{same_Some}
use Rattle.mpx_num.specs.declared.own.Operation.{Operation}
use Rattle.mpx_node.specs.declared.finished.Finished.{Finished}
use Rattle.mpx_node.specs.Nodes.{NodeView}
use Rattle.mpx_request.specs.declared.request.Request.{Request}
use Rattle.mpx_request.specs.declared.answers.TurnError.{TurnError}
use Rattle.mpx_request.specs.Any.{AwaitsAny, ClosesDone, FindsAny, GivesUpAny, LooksAt, LooksInVain, LooksLast, PicksDone}
use Rattle.mpx_request.specs.Harvested.{ComesByHarvests}
use Rattle.mpx_request.specs.Later.{Later}
use Rattle.mpx_request.specs.Requests.{OneIsAtHand, TestsAny, close_all, result_of}
use Rattle.mpx_request.proofs.Steps.{later_none, later_more}
use Rattle.mpx_request.proofs.Harvesting.{harvested_then}
use Rattle.mpx_request.proofs.Picks.{picks_any, picks_since}
use Rattle.mpx_request.proofs.Turns.{and_none}

module _ {H : Type 0} (ops : List Operation) (node : H → NodeView) (turned : H → ℕ → H → Type 0) (more : (a b c : H) (m n : ℕ) → turned a m b → turned b n c → turned a (m + n) c) (requests : List Request) where
  -- no look yet
  pub any_none : (h : H) (turns : ℕ) → turned h 0 h → AwaitsAny ops node turned requests h (turns - turns) h
  any_none h turns none =
      let same : 0 ≡ turns - turns = omega arith in
      subst (λ n. AwaitsAny ops node turned requests h n h) same (none, (none, later_none (node h)))

  -- one more look in vain, and a turn
  pub any_turn : (a b c d : H) (turns left : ℕ) → left ≤ turns → 0 < left → AwaitsAny ops node turned requests a (turns - left) b → LooksInVain ops node turned requests b c → turned c 1 d → Later (node c) (node d) → AwaitsAny ops node turned requests a (turns - (left - 1)) d
  any_turn a b c d turns left l some w vain turn since =
      let same : suc (turns - left) ≡ turns - (left - 1) = omega (arith, l, some) in
      let one : (turns - left) + 1 ≡ suc (turns - left) = omega arith in
      let seen : turned a (turns - left) c = and_none turned more a b c (turns - left) w.0 vain.0.0.0 in
      subst (λ n. AwaitsAny ops node turned requests a n d) same (subst (λ n. turned a n d) one (more a c d (turns - left) 1 seen turn), (b, c, w.1, vain, (turn, since)))

  -- the last look, which comes to this
  pub any_last : (comes_to : (old new : NodeView) → Type 0) (a b c : H) (turns left : ℕ) → AwaitsAny ops node turned requests a (turns - left) b → LooksAt ops node turned b c → comes_to (node b) (node c) → LooksLast ops node turned requests turns comes_to a c
  any_last comes_to a b c turns left w look here = (turns - left, b, omega arith, w, look, here)

  -- the last look, which finds one
  pub any_found : (place : ℕ) (f : Finished) (a b c : H) (turns left : ℕ) → AwaitsAny ops node turned requests a (turns - left) b → LooksAt ops node turned b c × FindsAny ops (node b) (node c) requests place f
      → LooksLast ops node turned requests turns (λ looked now. FindsAny ops looked now requests place f) a c
  any_found place f a b c turns left w ends = any_last (λ looked now. FindsAny ops looked now requests place f) a b c turns left w ends.0 ends.1

  -- no turn is left
  pub any_end : (a b c : H) (turns left : ℕ) → left ≡ 0 → AwaitsAny ops node turned requests a (turns - left) b → LooksInVain ops node turned requests b c → (look : H) × AwaitsAny ops node turned requests a turns look × LooksInVain ops node turned requests look c
  any_end a b c turns left end w vain =
      let same : turns - left ≡ turns = omega (arith, end) in
      (b, subst (λ n. AwaitsAny ops node turned requests a n b) same w, vain)

  -- a turn is refused
  pub any_refused : (refused : H → TurnError → H → Type 0) (why : TurnError) (a b c d : H) (turns left : ℕ) → left ≤ turns → 0 < left → AwaitsAny ops node turned requests a (turns - left) b → LooksInVain ops node turned requests b c → refused c why d → GivesUpAny ops node turned refused requests why turns a d
  any_refused refused why a b c d turns left l some w vain refuses =
      let few : turns - left < turns = omega (arith, l, some) in
      inr (turns - left, b, c, few, w, vain, refuses)

  -- so many turns in all
  pub last_turned : (place : ℕ) (f : Finished) (turns : ℕ) (a b : H) → LooksLast ops node turned requests turns (λ looked now. FindsAny ops looked now requests place f) a b → (n : ℕ) × turned a n b
  last_turned place f turns a b (n, look, l, w, looks, here) = (n, and_none turned more a look b n w.0 looks.0.0)

  -- WHAT WAS FOUND

  -- the one that was found is closed
  pub closes_any : (turns : ℕ) (a b : H) (place : ℕ) (request : Request) (f : Finished) (after : List Request) → slice_get requests place ≡ Some request → after ≡ remove requests place
      → LooksLast ops node turned requests turns (λ looked now. FindsAny ops looked now requests place f) a b → LooksLast ops node turned requests turns (λ looked now. TestsAny ops (Ok (Some (request, f))) looked now requests after) a b
  closes_any turns a b place request f after at is (n, look, l, w, looks, (were, (r, here, stored))) =
      (n, look, l, w, looks, (place, at, were, subst (λ (x : Request). result_of (node b) x ≡ Some f) (same_Some r request (sym here ∙ at)) stored, is))

  -- those that were picked are closed
  pub closes_done : (turns : ℕ) (a b : H) (done : List (Request × Finished)) (after : List Request) → after ≡ close_all requests (map (λ (d : Request × Finished). d.0) done)
      → LooksLast ops node turned requests turns (λ looked now. PicksDone ops looked now requests done) a b → LooksLast ops node turned requests turns (λ looked now. ClosesDone ops done looked now requests after) a b
  closes_done turns a b done after is (n, look, l, w, looks, picks) = (n, look, l, w, looks, (picks, is))

  -- a look more, at one that goes on
  looks_on : (a b c : H) → LooksAt ops node turned a b → LooksAt ops node turned b c → LooksAt ops node turned a c
  looks_on a b c x y = ((and_none turned more a b c 0 x.0.0 y.0.0, later_more (node a) (node b) (node c) x.0.1 y.0.1), harvested_then ops (node a) (node b) (node c) x.1 y.1)

  -- where one was found, some are picked
  pub some_last : (turns : ℕ) (a b c : H) (place : ℕ) (f : Finished) (done : List (Request × Finished)) → LooksLast ops node turned requests turns (λ looked now. FindsAny ops looked now requests place f) a b → LooksAt ops node turned b c
      → PicksDone ops (node b) (node c) requests done → (done ≢ []) × LooksLast ops node turned requests turns (λ looked now. PicksDone ops looked now requests done) a c
  some_last turns a b c place f done (n, look, l, w, looks, (were, (r, here, stored))) on picks =
      let since : ComesByHarvests ops (node look) (node b) = record { later = looks.0.1; harvests = looks.1 } in
      (picks_any ops (node b) (node c) requests done place r f here stored picks, (n, look, l, w, looks_on look b c looks on, picks_since ops (node look) (node b) (node c) requests done since picks))

  -- memory was wanting as they were picked
  pub some_wanting : (place : ℕ) (f : Finished) (turns : ℕ) (a b c : H) → LooksLast ops node turned requests turns (λ looked now. FindsAny ops looked now requests place f) a b → LooksAt ops node turned b c → OneIsAtHand (node c) requests → LooksLast ops node turned requests turns (λ looked now. OneIsAtHand now requests) a c
  some_wanting place f turns a b c (n, look, l, w, looks, came) on here = (n, look, l, w, looks_on look b c looks on, here)
