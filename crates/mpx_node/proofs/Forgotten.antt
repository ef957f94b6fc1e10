-- What a process keeps that lets results go.
use Rattle.std.proofs.Common.{◌≡◌, ℕ, zero, suc, ◌-◌, ◌<◌, ◌≤◌, Bool, true, false, cond, List, [], length, Option, Some, None, refl, sym, ap, ◌∙◌, inl, inr, subst}
use Rattle.std.specs.Prelude.{◌⊎◌, is_some}
use Rattle.std.specs.Option.{option_map}
use Rattle.mpx_name.specs.Name.{Name, same_name}
use Rattle.mpx_name.specs.Order.{name_equality}
use Rattle.mpx_node.specs.declared.finished.Finished.{Finished}
use Rattle.mpx_node.specs.Nodes.{NodeView, OpenedView, freed_by, freed_on, front_on, posted_by, posted_on, result_on, results_by, results_on}
use Rattle.mpx_node.specs.Stored.{count_gone, let_go, stored_at}
use Rattle.mpx_node.specs.Forgetting.{forgets, forgotten_on}
use Rattle.mpx_node.specs.Opened.{lets_go}
use Rattle.mpx_node.proofs.Gone.{gone_lets, last_stays, length_lets, stays_from, stored_before, stored_or_gone}

let_go_none : {A : Type 0} (below : ℕ) → let_go {A = A} below [] ≡ []
let_go_none zero = refl
let_go_none (suc n) = refl

module _ (below : ℕ) where
  results_by_test : (b : Bool) (x : Option OpenedView) → results_by (cond b (option_map (lets_go below) x) x) ≡ cond b (let_go below (results_by x)) (results_by x)
  results_by_test true None = sym (let_go_none below)
  results_by_test true (Some o) = refl
  results_by_test false x = refl

  posted_by_test : (b : Bool) (x : Option OpenedView) → posted_by (cond b (option_map (lets_go below) x) x) ≡ posted_by x
  posted_by_test true None = refl
  posted_by_test true (Some o) = refl
  posted_by_test false x = refl

  freed_by_test : (b : Bool) (x : Option OpenedView) → freed_by (cond b (option_map (lets_go below) x) x) ≡ freed_by x
  freed_by_test true None = refl
  freed_by_test true (Some o) = refl
  freed_by_test false x = refl

  opened_by_test : (b : Bool) (x : Option OpenedView) → is_some (cond b (option_map (lets_go below) x) x) ≡ is_some x
  opened_by_test true None = refl
  opened_by_test true (Some o) = refl
  opened_by_test false x = refl

  length_by_test : (b : Bool) (xs : List (Option Finished)) → length (cond b (let_go below xs) xs) ≡ length xs
  length_by_test true xs = length_lets below xs
  length_by_test false xs = refl

  before_by_test : (b : Bool) (xs : List (Option Finished)) (k : ℕ) (x : Finished) → stored_at (cond b (let_go below xs) xs) k ≡ Some x → stored_at xs k ≡ Some x
  before_by_test true xs k x e = stored_before below xs k x e
  before_by_test false xs k x e = e

  gone_by_test : (b : Bool) (xs : List (Option Finished)) (k : ℕ) → k < count_gone xs → k < count_gone (cond b (let_go below xs) xs)
  gone_by_test true xs k l = gone_lets below xs k l
  gone_by_test false xs k l = l

  last_by_test : (b : Bool) (xs : List (Option Finished)) → stored_at (cond b (let_go below xs) xs) (length (cond b (let_go below xs) xs) - 1) ≡ stored_at xs (length xs - 1)
  last_by_test true xs = last_stays below xs
  last_by_test false xs = refl

  from_by_test : (b : Bool) (xs : List (Option Finished)) (k : ℕ) → below ≤ k → stored_at (cond b (let_go below xs) xs) k ≡ stored_at xs k
  from_by_test true xs k l = stays_from below xs k l
  from_by_test false xs k l = refl

  or_gone_by_test : (b : Bool) (xs : List (Option Finished)) (k : ℕ) (x : Finished) → stored_at xs k ≡ Some x → (stored_at (cond b (let_go below xs) xs) k ≡ Some x) ⊎ ((b ≡ true) × (k < below) × (k < count_gone (cond b (let_go below xs) xs)))
  or_gone_by_test true xs k x e = elim (stored_or_gone below xs k x e) [
    | inl there ↦ inl there
    | inr gone ↦ inr (refl, gone.0, gone.1)
  ]
  or_gone_by_test false xs k x e = inl e

module _ (name : Name) (below : ℕ) (node : NodeView) where
  results_forgotten : (n : Name) → results_on (forgets name below node) n ≡ cond (same_name n name) (let_go below (results_on node n)) (results_on node n)
  results_forgotten n = results_by_test below (same_name n name) (node.opened n)

  pub posted_forgotten : (n : Name) → posted_on (forgets name below node) n ≡ posted_on node n
  posted_forgotten n = posted_by_test below (same_name n name) (node.opened n)

  pub freed_forgotten : (n : Name) → freed_on (forgets name below node) n ≡ freed_on node n
  freed_forgotten n = freed_by_test below (same_name n name) (node.opened n)

  pub front_forgotten : (n : Name) → front_on (forgets name below node) n ≡ front_on node n
  front_forgotten n = ap length (results_forgotten n) ∙ length_by_test below (same_name n name) (results_on node n)

  pub opened_forgotten : (n : Name) → is_some ((forgets name below node).opened n) ≡ is_some (node.opened n)
  opened_forgotten n = opened_by_test below (same_name n name) (node.opened n)

  -- what is still there was there
  pub result_before : (n : Name) (k : ℕ) (x : Finished) → result_on (forgets name below node) n k ≡ Some x → result_on node n k ≡ Some x
  result_before n k x e = before_by_test below (same_name n name) (results_on node n) k x (subst (λ xs. stored_at xs k ≡ Some x) (results_forgotten n) e)

  -- what was let go stays so
  pub still_forgotten : (n : Name) (k : ℕ) → k < forgotten_on node n → k < forgotten_on (forgets name below node) n
  still_forgotten n k l = subst (λ xs. k < count_gone xs) (sym (results_forgotten n)) (gone_by_test below (same_name n name) (results_on node n) k l)

  -- what was there is there, or was let go on just this context, below this call
  pub result_or_forgotten : (n : Name) (k : ℕ) (x : Finished) → result_on node n k ≡ Some x
      → (result_on (forgets name below node) n k ≡ Some x) ⊎ ((same_name n name ≡ true) × (k < below) × (k < forgotten_on (forgets name below node) n))
  result_or_forgotten n k x e =
      subst (λ xs. (stored_at xs k ≡ Some x) ⊎ ((same_name n name ≡ true) × (k < below) × (k < count_gone xs))) (sym (results_forgotten n)) (or_gone_by_test below (same_name n name) (results_on node n) k x e)

  -- the newest result stays
  pub newest_forgotten : (n : Name) → result_on (forgets name below node) n (front_on (forgets name below node) n - 1) ≡ result_on node n (front_on node n - 1)
  newest_forgotten n = ap (λ xs. stored_at xs (length xs - 1)) (results_forgotten n) ∙ last_by_test below (same_name n name) (results_on node n)

  -- and each from this call on
  pub rest_forgotten : (n : Name) (k : ℕ) → below ≤ k → result_on (forgets name below node) n k ≡ result_on node n k
  rest_forgotten n k l = ap (λ xs. stored_at xs k) (results_forgotten n) ∙ from_by_test below (same_name n name) (results_on node n) k l

  pub nothing_elsewhere : (n : Name) → same_name n name ≡ false → (forgets name below node).opened n ≡ node.opened n
  nothing_elsewhere n other = ap (λ b. cond b (option_map (lets_go below) (node.opened n)) (node.opened n)) other

  -- on a context that isn't opened nothing is let go
  pub forgets_nothing : node.opened name ≡ None → node ≡ forgets name below node
  forgets_nothing none i = record node { opened = λ n. at n (same_name n name) refl i } where
    at : (n : Name) (b : Bool) → same_name n name ≡ b → node.opened n ≡ cond b (option_map (lets_go below) (node.opened n)) (node.opened n)
    at n true t =
        let here : node.opened n ≡ None = ap node.opened (name_equality.sound n name t) ∙ none in
        here ∙ sym (ap (option_map (lets_go below)) here)
    at n false t = refl
