-- Of many requests.
use Rattle.std.proofs.Common.{◌≡◌, ℕ, zero, suc, ◌+◌, Bool, true, false, List, [], ◌∷◌, ◌++◌, Some, refl, sym, ap, ◌∙◌, subst, arith}
use Rattle.std.specs.Prelude.{◌||◌, slice_get, map, drop, nat_lt}
use Rattle.std.specs.List.{list_any}
use Rattle.std.proofs.lemmas.Bool.Decides.{nat_tests}
use Rattle.mpx_num.specs.declared.own.Operation.{Operation}
use Rattle.mpx_node.specs.Nodes.{NodeView}
use Rattle.mpx_request.specs.declared.request.Request.{Request}
use Rattle.mpx_request.specs.Requests.{AreKept, has_let_go, result_of, AreResults, WerePending}
use Rattle.mpx_request.specs.Later.{Later, IsPending}
use Rattle.mpx_request.specs.Harvested.{ComesByHarvests, WasPending}
use Rattle.join_core.specs.laws.Cases.{TestAnswer, yes, no, answer}
use Rattle.mpx_request.proofs.Harvesting.{still_pending, pending_now}
use Rattle.mpx_node.specs.declared.finished.Finished.{Finished}
use Rattle.std.proofs.lemmas.Option.{same_Some}
use Rattle.std.proofs.lemmas.List.{map-append}

-- KEPT

pub kept_later : (old new : NodeView) (rs : List Request) → Later old new → AreKept old rs → AreKept new rs
kept_later old new rs later kept i r e = later.let_go r.name r.call ∙ kept i r e

first_false : (a b : Bool) → (a || b) ≡ false → a ≡ false
first_false true b e = e
first_false false b e = refl

second_false : (a b : Bool) → (a || b) ≡ false → b ≡ false
second_false true b e = cc e
second_false false b e = e

pub kept_tested : (node : NodeView) (rs : List Request) → list_any (has_let_go node) rs ≡ false → AreKept node rs
kept_tested node [] e i r at = cc at
kept_tested node (q ∷ rs) e zero r at = subst (λ (x : Request). has_let_go node x ≡ false) (same_Some q r at) (first_false (has_let_go node q) (list_any (has_let_go node) rs) e)
kept_tested node (q ∷ rs) e (suc i) r at = kept_tested node rs (second_false (has_let_go node q) (list_any (has_let_go node) rs) e) i r at

-- RESULTS

-- a list's head and tail
heads : {A : Type 0} (x y : A) (xs ys : List A) → (x ∷ xs) ≡ (y ∷ ys) → x ≡ y
heads x y xs ys e = same_Some x y (ap (λ zs. slice_get zs 0) e)

tails : {A : Type 0} (x y : A) (xs ys : List A) → (x ∷ xs) ≡ (y ∷ ys) → xs ≡ ys
tails x y xs ys e = ap (drop 1) e

-- results that are stored stay
pub results_later : (old new : NodeView) (rs : List Request) (fs : List Finished) → Later old new → AreResults old rs fs → AreResults new rs fs
results_later old new [] fs later e = e
results_later old new (r ∷ rs) [] later e = cc e
results_later old new (r ∷ rs) (f ∷ fs) later e =
    let first : result_of new r ≡ Some f = later.stored r.name r.call f (heads (result_of old r) (Some f) (map (result_of old) rs) (map Some fs) e) in
    let rest : map (result_of new) rs ≡ map Some fs = results_later old new rs fs later (tails (result_of old r) (Some f) (map (result_of old) rs) (map Some fs) e) in
    λ i. first i ∷ rest i

-- one more result
pub results_more : (node : NodeView) (rs qs : List Request) (fs gs : List Finished) (f : Finished) (r : Request) → AreResults node rs fs → result_of node r ≡ Some f → qs ≡ rs ++ r ∷ [] → gs ≡ fs ++ f ∷ [] → AreResults node qs gs
results_more node rs qs fs gs f r e s q g =
    ap (map (result_of node)) q ∙ map-append (result_of node) rs (r ∷ []) ∙ (λ i. e i ++ s i ∷ []) ∙ sym (map-append Some fs (f ∷ [])) ∙ ap (map Some) (sym g)

pub were_later : (ops : List Operation) (a b c : NodeView) (n : ℕ) (rs : List Request) → WerePending ops a b n rs → ComesByHarvests ops b c → WerePending ops a c n rs
were_later ops a b c n rs w more i r l e = still_pending ops a b c r.name r.call (w i r l e) more

-- one more was pending
pub were_more : (ops : List Operation) (a b : NodeView) (n : ℕ) (rs : List Request) (r : Request) → WerePending ops a b n rs → ComesByHarvests ops a b → slice_get rs n ≡ Some r → IsPending b r.name r.call → WerePending ops a b (n + 1) rs
were_more ops a b n rs r w since at pending i q l e = by_place (answer (nat_lt i n)) where
  by_place : TestAnswer (nat_lt i n) → WasPending ops a b q.name q.call
  by_place (yes t) = w i q (grind (arith, nat_tests)) e
  by_place (no f) =
      let place : i ≡ n = grind (arith, nat_tests) in
      let same : r ≡ q = same_Some r q (sym at ∙ ap (slice_get rs) (sym place) ∙ e) in
      pending_now ops a b q.name q.call since (subst (λ (x : Request). IsPending b x.name x.call) same pending)
