-- Numbers of the types, spelled as items keep them.
use Rattle.std.proofs.Common.{◌≡◌, ℕ, ℤ, ◌≤ℤ◌, true, List, [], ◌∷◌, ◌++◌, length, Ok, refl, sym, ap, ◌∙◌, append_assoc, arith}
use Rattle.std.specs.List.{All, flat_map}
use Rattle.std.specs.Prelude.{int_le}
use Rattle.std.proofs.lemmas.Bool.{and_from, and_parts}
use Rattle.std.proofs.lemmas.List.Elements.{All-head, All-tail}
use Rattle.std.proofs.lemmas.Int.{ints}
use Rattle.mpx_num.specs.Types.{IsInRange, least, greatest}
use Rattle.mpx_num.specs.Spelling.{bytes_of, number_in}
use Rattle.mpx_num.specs.declared.types.Ty.{Ty}
use Rattle.mpx_num.proofs.Spellings.{spells}
use Rattle.mpx_post.specs.Drafts.{is_of}
use Rattle.mpx_format.specs.Format.{many_read}
use Rattle.mpx_format.specs.Posts.{integer}
use Rattle.mpx_format.proofs.FormatLaws.{Exactly, sized_laws}

is_at_most : (x y : ℤ) → x ≤ℤ y → int_le x y ≡ true
is_at_most x y h = grind (arith, ints, h)

at_most : (x y : ℤ) → int_le x y ≡ true → x ≤ℤ y
at_most x y h = grind (arith, ints, h)

is_in_range : (ty : Ty) (z : ℤ) → IsInRange ty z → is_of ty z ≡ true
is_in_range ty z h = and_from _ _ (is_at_most (least ty) z h.low) (is_at_most z (greatest ty) h.high)

in_range : (ty : Ty) (z : ℤ) → is_of ty z ≡ true → IsInRange ty z
in_range ty z h = let parts = and_parts (int_le (least ty) z) (int_le z (greatest ty)) h in record { low = at_most (least ty) z parts.0; high = at_most z (greatest ty) parts.1 }

pub integer_laws : (ty : Ty) → Exactly (integer ty)
unfolding integer
integer_laws ty = sized_laws (record {
  long = (spells ty).len;
  back = (spells ty).back;
  again = λ z fits. (spells ty).again z (in_range ty z fits);
  passed = λ bytes h. is_in_range ty (number_in ty bytes) ((spells ty).within bytes h);
})

pub integer_fits : (ty : Ty) (z : ℤ) → IsInRange ty z → (integer ty).fits z ≡ true
unfolding integer
integer_fits ty z h = is_in_range ty z h

-- a number in the range of its type is spelled as items keep it
pub integer_is : (ty : Ty) (z : ℤ) → IsInRange ty z → (integer ty).spelling z ≡ bytes_of ty z
unfolding integer
integer_is ty z h = refl

pub integers_are : (ty : Ty) (zs : List ℤ) → All (IsInRange ty) zs → flat_map (integer ty).spelling zs ≡ flat_map (bytes_of ty) zs
unfolding integer
integers_are ty zs h = refl

integer_stands : (ty : Ty) (z : ℤ) (rest : List ℕ) → IsInRange ty z → (integer ty).read (bytes_of ty z ++ rest) ≡ Ok (z, rest)
integer_stands ty z rest h = ap (λ l. (integer ty).read (l ++ rest)) (sym (integer_is ty z h)) ∙ (integer_laws ty).again z rest (integer_fits ty z h)

-- numbers whose bytes stand at the front are read
pub numbers_stand : (ty : Ty) (before nums : List ℤ) (rest : List ℕ) → All (IsInRange ty) nums → many_read (λ before. integer ty) (length nums) before (flat_map (bytes_of ty) nums ++ rest) ≡ Ok (nums, rest)
unfolding many_read
numbers_stand ty before [] rest h = refl
numbers_stand ty before (z ∷ zs) rest h =
    let first : (integer ty).read ((bytes_of ty z ++ flat_map (bytes_of ty) zs) ++ rest) ≡ Ok (z, flat_map (bytes_of ty) zs ++ rest)
    = ap (integer ty).read (append_assoc (bytes_of ty z) (flat_map (bytes_of ty) zs) rest) ∙ integer_stands ty z (flat_map (bytes_of ty) zs ++ rest) (All-head (IsInRange ty) z zs h) in
    rw (first, numbers_stand ty (before ++ z ∷ []) zs rest (All-tail (IsInRange ty) z zs h)) refl
