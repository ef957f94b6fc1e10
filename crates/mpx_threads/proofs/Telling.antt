-- What a rank was told of its calls, as one more is told.
use Rattle.std.proofs.Common.{◌≡◌, ℕ, zero, suc, ◌==◌, take, Bool, true, false, cond, List, [], ◌∷◌, ◌++◌, Some, None, refl, ap, ◌∙◌, subst, inl, inr}
use Rattle.std.specs.Prelude.{slice_get, ◌||◌, ◌&&◌}
use Rattle.std.proofs.lemmas.Option.{same_Some}
use Rattle.std.proofs.lemmas.Bool.Decides.{Decides-eqb}
use Rattle.mpx_name.specs.Name.{Name, same_name}
use Rattle.mpx_world.proofs.Lists.{name_itself}
use Rattle.mpx_value.specs.Histories.{Answer, Results}
use Rattle.mpx_meaning.proofs.Fronts.{slice_get-parts}
use Rattle.mpx_threads.specs.declared.told.ToldCall.{ToldCall}
use Rattle.mpx_rank.specs.Answered.{answer_of}
use Rattle.mpx_threads.specs.ToldCalls.{AreSo, is_among, is_at, told_of}

-- one more is so
pub so_more : (known : Results) (ts : List ToldCall) (t : ToldCall) → AreSo known ts → known t.name t.call ≡ Some (answer_of t.answered) → AreSo known (ts ++ t ∷ [])
so_more known ts t so e i u f = elim (slice_get-parts ts (t ∷ []) i u f) [ inl old ↦ so i u old | inr new ↦ last new.0 new.1 ] where
  last : (j : ℕ) → slice_get (t ∷ []) j ≡ Some u → known u.name u.call ≡ Some (answer_of u.answered)
  last zero g = subst (λ (v : ToldCall). known v.name v.call ≡ Some (answer_of v.answered)) (same_Some t u g) e
  last (suc j) g = cc g

-- the last of them is among them; and so is each
pub among_parts : (xs ys : List ToldCall) (name : Name) (call : ℕ) → is_among (xs ++ ys) name call ≡ (is_among xs name call || is_among ys name call)
among_parts [] ys name call = refl
among_parts (t ∷ xs) ys name call = by_first (is_at name call t) (among_parts xs ys name call) where
  by_first : (b : Bool) → is_among (xs ++ ys) name call ≡ (is_among xs name call || is_among ys name call) → (b || is_among (xs ++ ys) name call) ≡ ((b || is_among xs name call) || is_among ys name call)
  by_first true rest = refl
  by_first false rest = rest

or_false : (a b : Bool) → a ≡ false → b ≡ false → (a || b) ≡ false
or_false true b e f = cc e
or_false false b e f = f

or_true : (a b : Bool) → b ≡ true → (a || b) ≡ true
or_true true b e = refl
or_true false b e = e

-- what was just added is told
pub told_last : (known : Results) (ts : List ToldCall) (t : ToldCall) (name : Name) (call : ℕ) (answer : Answer) → is_at name call t ≡ true → known name call ≡ Some answer → told_of known (ts ++ t ∷ []) name call ≡ Some answer
told_last known ts t name call answer e f =
    let there : is_among (ts ++ t ∷ []) name call ≡ true = among_parts ts (t ∷ []) name call ∙ or_true (is_among ts name call) (is_at name call t || false) (ap (λ b. b || false) e) in
    ap (λ b. cond b (known name call) None) there ∙ f

-- what is among them is told, and what isn't isn't
pub told_there : (known : Results) (ts : List ToldCall) (name : Name) (call : ℕ) (answer : Answer) → is_among ts name call ≡ true → known name call ≡ Some answer → told_of known ts name call ≡ Some answer
told_there known ts name call answer e f = ap (λ b. cond b (known name call) None) e ∙ f

-- a call is at its own place
pub at_same : (name : Name) (call : ℕ) (t : ToldCall) → t.name ≡ name → t.call ≡ call → is_at name call t ≡ true
at_same name call t e f =
    ap (λ k. (k == call) && same_name t.name name) f
    ∙ ap (λ n. (call == call) && same_name n name) e
    ∙ λ i. (Decides-eqb call call).1 refl i && name_itself name i

at_not_name : (name : Name) (call : ℕ) (t : ToldCall) → same_name t.name name ≡ false → is_at name call t ≡ false
at_not_name name call t e = by_call (t.call == call) where
  by_call : (b : Bool) → (b && same_name t.name name) ≡ false
  by_call true = e
  by_call false = refl

pub at_other_name : (name : Name) (call : ℕ) (t : ToldCall) → same_name t.name name ≡ false → is_at name call t ≡ false
at_other_name = at_not_name

pub at_other_call : (name : Name) (call : ℕ) (t : ToldCall) → (t.call ≡ call → ⊥) → is_at name call t ≡ false
at_other_call name call t e = by_call (t.call == call) refl where
  by_call : (b : Bool) → (t.call == call) ≡ b → (b && same_name t.name name) ≡ false
  by_call true f = absurd (e ((Decides-eqb t.call call).0 f))
  by_call false f = refl

-- the one at a place is among them
pub among_at : (ts : List ToldCall) (i : ℕ) (t : ToldCall) (name : Name) (call : ℕ) → slice_get ts i ≡ Some t → is_at name call t ≡ true → is_among ts name call ≡ true
among_at [] i t name call e f = cc e
among_at (u ∷ ts) zero t name call e f = ap (λ (v : ToldCall). is_at name call v || is_among ts name call) (same_Some u t e) ∙ ap (λ b. b || is_among ts name call) f
among_at (u ∷ ts) (suc i) t name call e f = or_true (is_at name call u) (is_among ts name call) (among_at ts i t name call e f)

-- the next one isn't it either
pub among_next : (ts : List ToldCall) (n : ℕ) (t : ToldCall) (name : Name) (call : ℕ) → slice_get ts n ≡ Some t → is_among (take n ts) name call ≡ false → is_at name call t ≡ false → is_among (take (suc n) ts) name call ≡ false
among_next [] n t name call e before f = cc e
among_next (u ∷ ts) zero t name call e before f = or_false (is_at name call u) false (ap (is_at name call) (same_Some u t e) ∙ f) refl
among_next (u ∷ ts) (suc n) t name call e before f = by_first (is_at name call u) before (among_next ts n t name call e) where
  by_first : (b : Bool) → (b || is_among (take n ts) name call) ≡ false → (is_among (take n ts) name call ≡ false → is_at name call t ≡ false → is_among (take (suc n) ts) name call ≡ false) → (b || is_among (take (suc n) ts) name call) ≡ false
  by_first true g rest = cc g
  by_first false g rest = rest g f
