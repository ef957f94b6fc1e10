-- Beginnings of lists, and of the posts of processes.
use Rattle.std.proofs.Common.{◌≡◌, ℕ, zero, suc, List, [], ◌∷◌, ◌++◌, Some, ◌⊎◌, inl, inr, refl, sym, ap, ◌∙◌, subst, append_assoc}
use Rattle.std.specs.Prelude.{slice_get}
use Rattle.mpx_num.specs.declared.own.Operation.{Operation}
use Rattle.mpx_name.specs.Name.{Name}
use Rattle.mpx_value.specs.Histories.{Made, posts_on, Grows}
use Rattle.mpx_value.proofs.Growth.{posts_on-append}
use Rattle.mpx_meaning.specs.Evaluation.{State, history, IsPrefixOf}
use Rattle.mpx_post.proofs.Lists.{slice_get-append}
use Rattle.std.proofs.lemmas.List.{append-nil}

pub prefix_itself : {A : Type 0} (xs : List A) → IsPrefixOf xs xs
prefix_itself xs = ([], append-nil xs)

pub prefix_trans : {A : Type 0} (xs ys zs : List A) → IsPrefixOf xs ys → IsPrefixOf ys zs → IsPrefixOf xs zs
prefix_trans xs ys zs a b = (a.0 ++ b.0, sym (append_assoc xs a.0 b.0) ∙ ap (λ l. l ++ b.0) a.1 ∙ b.1)

-- an element of both is one of the first or one of the second
pub slice_get-parts : {A : Type 0} (xs ys : List A) (k : ℕ) (x : A) → slice_get (xs ++ ys) k ≡ Some x → (slice_get xs k ≡ Some x) ⊎ ((j : ℕ) × (slice_get ys j ≡ Some x))
slice_get-parts [] ys k x e = inr (k, e)
slice_get-parts (y ∷ xs) ys zero x e = inl e
slice_get-parts (y ∷ xs) ys (suc k) x e = slice_get-parts xs ys k x e

-- an element stays where others follow
pub prefix_get : {A : Type 0} (xs ys : List A) → IsPrefixOf xs ys → (k : ℕ) (x : A) → slice_get xs k ≡ Some x → slice_get ys k ≡ Some x
prefix_get xs ys p k x e = subst (λ l. slice_get l k ≡ Some x) p.1 (slice_get-append xs p.0 k x e)

posts_on-begins : (name : Name) (ms more : List Made) → IsPrefixOf ms more → IsPrefixOf (posts_on name ms) (posts_on name more)
posts_on-begins name ms more p = (posts_on name p.0, sym (posts_on-append name ms p.0) ∙ ap (posts_on name) p.1)

-- posts that begin others make no longer history
pub history-grows : (ops : List Operation) (s later : State) → ((p : ℕ) → IsPrefixOf (s p).made (later p).made) → Grows (history ops s) (history ops later)
history-grows ops s later less = record {
  operations = refl;
  post = λ name k p given e. prefix_get (posts_on name (s p).made) (posts_on name (later p).made) (posts_on-begins name (s p).made (later p).made (less p)) k given e;
}
