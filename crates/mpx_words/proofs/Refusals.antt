-- Which kinds a refusal may have.
use Rattle.std.proofs.Common.{◌≡◌, true, List, [], ◌∷◌, inl, inr, refl, ap, ◌∙◌, subst, sym, ◌⊎◌}
use Rattle.clap.specs.Kinds.{HasKind, IsAmong, Kinds, or_else}
use Rattle.clap.specs.Values.{kind_of}
use Rattle.clap.specs.declared.error.kind.ErrorKind.TheVariants as kind
use Rattle.clap.specs.Faults.{fault_of, is_simple_and_free}
use Rattle.clap.specs.Simple.{App}
use Rattle.clap.specs.Walk.{Text}
use Rattle.clap.specs.declared.error.Error.{Error}
use Rattle.mpx_words.specs.Usage.{usage}

-- the first kinds are among the first or the second ones
pub has_first : (first more : Kinds) (e : Error) → HasKind first e → HasKind (or_else first more) e
has_first [] more e (inl h) = inl h
has_first [] more e (inr h) = absurd h
has_first (k ∷ first) more e h = h

-- no option hangs on another one
usage_is_free : is_simple_and_free usage ≡ true
usage_is_free = refl

-- what clap says of a command that is the program's
pub told_of_usage : (a : App) (words : List Text) (e : Error) → a ≡ usage → (is_simple_and_free a ≡ true → HasKind (fault_of a words) e) → HasKind (fault_of usage words) e
told_of_usage a words e is told = subst (λ b. HasKind (fault_of b words) e) is (told (ap is_simple_and_free is ∙ usage_is_free))

-- a refusal of the same kind, or for want of memory
pub keeps_kind : (kinds : Kinds) (e r : Error) → HasKind kinds e → (kind_of r ≡ kind_of e) ⊎ (kind_of r ≡ kind.OutOfMemory) → HasKind kinds r
keeps_kind kinds e r h (inl same) = subst (λ k. (k ≡ kind.OutOfMemory) ⊎ IsAmong k kinds) (sym same) h
keeps_kind kinds e r h (inr memory) = inl memory

-- where clap takes the words a refusal says that they are invalid, or that memory is wanting
pub last_kind : (a : App) (words : List Text) (r : Error) → a ≡ usage → (is_simple_and_free a ≡ true → fault_of a words ≡ []) → (kind_of r ≡ kind.InvalidValue) ⊎ (kind_of r ≡ kind.OutOfMemory)
    → HasKind (or_else (fault_of usage words) (kind.InvalidValue ∷ [])) r
last_kind a words r is none said = subst (λ ks. HasKind (or_else ks (kind.InvalidValue ∷ [])) r) (sym (subst (λ b. fault_of b words ≡ []) is (none (ap is_simple_and_free is ∙ usage_is_free)))) (either said) where
  either : (kind_of r ≡ kind.InvalidValue) ⊎ (kind_of r ≡ kind.OutOfMemory) → HasKind (kind.InvalidValue ∷ []) r
  either (inl same) = inr (inl same)
  either (inr memory) = inl memory
