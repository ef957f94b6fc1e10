-- A name that stands at the front, step by step.
use Rattle.std.proofs.Common.{◌≡◌, ◌≤◌, ℕ, true, List, [], ◌∷◌, get_or, length, reverse, Option, Some, None, Ok, IfSome, refl, ap, sym, ◌∙◌, arith}
use Rattle.std.specs.Prelude.{nat_le}
use Rattle.std.proofs.lemmas.Bool.{le-leb}
use Rattle.mpx_name.specs.Name.{IsName}
use Rattle.mpx_name.specs.declared.steps.Step.{Step}
use Rattle.mpx_format.specs.Format.{byte, many_read}
use Rattle.mpx_format.specs.Fields.{name, step, step_count, steps}

steps_read : (bytes after rest : List ℕ) (n : ℕ) (ss : List Step) → length ss ≤ 8 → byte.read bytes ≡ Ok (n, after) → n ≡ length ss → many_read (λ before. step) (length ss) [] after ≡ Ok (ss, rest) → name.read bytes ≡ Ok (reverse ss, rest)
unfolding name steps step_count
steps_read bytes after rest n ss depth e count read =
    let few : nat_le n 8 ≡ true = le-leb n 8 (omega (arith, depth, count)) in
    let all : many_read (λ before. step) n [] after ≡ Ok (ss, rest) = ap (λ (k : ℕ). many_read (λ before. step) k [] after) count ∙ read in
    rw (e, few, all) refl

one_read : (after rest : List ℕ) (s : Step) → step.read after ≡ Ok (s, rest) → many_read (λ before. step) 1 [] after ≡ Ok (s ∷ [], rest)
unfolding many_read
one_read after rest s e = rw e refl

-- where the steps stand behind their count, the name stands there
pub name_behind : {T : Type 0} (r : Option T) (left : T → List ℕ) (bytes after : List ℕ) (n : ℕ) (ss : List Step) → IsName ss → byte.read bytes ≡ Ok (n, after) → n ≡ length ss
    → IfSome r (λ x. many_read (λ before. step) (length ss) [] after ≡ Ok (ss, left x)) → IfSome r (λ x. name.read bytes ≡ Ok (reverse ss, left x))
name_behind None left bytes after n ss named e count h = h
name_behind (Some x) left bytes after n ss named e count h = steps_read bytes after (left x) n ss named.depth e count h

-- the same of one step
pub step_behind : {T : Type 0} (r : Option T) (left : T → List ℕ) (bytes after : List ℕ) (n : ℕ) (s : Step) → byte.read bytes ≡ Ok (n, after) → n ≡ 1
    → IfSome r (λ x. step.read after ≡ Ok (s, left x)) → IfSome r (λ x. name.read bytes ≡ Ok (s ∷ [], left x))
step_behind None left bytes after n s e one h = h
step_behind (Some x) left bytes after n s e one h = steps_read bytes after (left x) n (s ∷ []) (omega arith) e one (one_read after (left x) s h)

-- one step alone
pub one_alone : (ss : List Step) (s : Step) → length ss ≡ 1 → s ≡ get_or ss 0 s → ss ≡ s ∷ []
one_alone [] s len is = absurd (omega (arith, len))
one_alone (y ∷ z ∷ ss) s len is = absurd (omega (arith, len))
one_alone (y ∷ []) s len is = ap (λ z. z ∷ []) (sym is)
