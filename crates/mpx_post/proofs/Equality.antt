-- What `==` tells.
use Rattle.std.proofs.Common.{◌≡◌, ◌∙◌, ◌&&◌, Bool, Option, Some, None, ℤ, FitsSigned, to_z, of_z, eqb, sym, ap, refl, rules}
use mir.Syntax.{w32}
use Rattle.std.specs.Bool.{Decides}
use Rattle.std.specs.Option.{option_eq}
use Rattle.std.specs.Ordering.{int_eq}
use Rattle.std.proofs.Math.Bool.{and_assoc}
use Rattle.std.proofs.lemmas.Int.{to_z-of_z}
use Rattle.std.proofs.lemmas.Bool.Decides.{same_from_decides, Decides-eqb, Decides-int_eq, Decides-like}
use denote.Enum.Declared.{Declared}
use denote.Enum.Bare.{Bare, sameb, same_true, true_same}
use Rattle.mpx_kind.specs.declared.kinds.Mode.{Mode}
use Rattle.mpx_kind.specs.contracts.kinds.Mode as mode
use Rattle.mpx_kind.specs.declared.kinds.Makes.{Makes}
use Rattle.mpx_kind.specs.contracts.kinds.Makes as makes
use Rattle.mpx_post.specs.Equality.{same_makes, makes_decided, same_mode, same_option, modes_decided}

-- of enums without fields
variants_decided : (D : Declared) → Bare D.parts → (a b : D.D) → Decides (sameb D a b) (a ≡ b)
variants_decided D bare a b = (same_true D bare a b, true_same D a b)

pub modes_test : (a b : Mode) → sameb mode.the_type a b ≡ same_mode a b
modes_test a b = same_from_decides _ _ (variants_decided mode.the_type (search rules) a b) (modes_decided a b)

pub makes_test : (a b : Makes) → sameb makes.the_type a b ≡ same_makes a b
makes_test a b = same_from_decides _ _ (variants_decided makes.the_type (search rules) a b) (makes_decided a b)

-- of options
pub options_test : {A : Type 0} (equal same : A → A → Bool) → ((a b : A) → equal a b ≡ same a b) → (a b : Option A) → option_eq equal a b ≡ same_option same a b
options_test equal same each None None = refl
options_test equal same each None (Some b) = refl
options_test equal same each (Some a) None = refl
options_test equal same each (Some a) (Some b) = each a b

-- of numbers of 32 bits with a sign
pub integers_test : (a b : ℤ) → FitsSigned w32 a → FitsSigned w32 b → eqb (of_z w32 a) (of_z w32 b) ≡ int_eq a b
integers_test a b fits_a fits_b = same_from_decides _ _ (Decides-like _ (λ e. sym (to_z-of_z w32 a fits_a) ∙ ap (to_z w32) e ∙ to_z-of_z w32 b fits_b) (ap (of_z w32)) (Decides-eqb (of_z w32 a) (of_z w32 b))) (Decides-int_eq a b)

-- eight tests in a row are eight tests, each of which may be replaced by one that tells the same
eight_in_a_row : (a b c d e f g h : Bool) → (((((((a && b) && c) && d) && e) && f) && g) && h) ≡ (a && (b && (c && (d && (e && (f && (g && h)))))))
eight_in_a_row a b c d e f g h = simp and_assoc

pub eight_tests : {a b c d e f g h a' b' c' d' e' f' g' h' : Bool} → a ≡ a' → b ≡ b' → c ≡ c' → d ≡ d' → e ≡ e' → f ≡ f' → g ≡ g' → h ≡ h' → (((((((a && b) && c) && d) && e) && f) && g) && h) ≡ (a' && (b' && (c' && (d' && (e' && (f' && (g' && h')))))))
eight_tests {a' = a'} {b' = b'} {c' = c'} {d' = d'} {e' = e'} {f' = f'} {g' = g'} {h' = h'} at bt ct dt et ft gt ht =
    (λ i. (((((((at i && bt i) && ct i) && dt i) && et i) && ft i) && gt i) && ht i)) ∙ eight_in_a_row a' b' c' d' e' f' g' h'
