-- So many numbers of one type: too few bytes for all of them.
use Rattle.std.proofs.Common.{◌≡◌, ℕ, zero, suc, ◌*◌, ◌/◌, ◌<◌, ◌≤◌, true, ℤ, List, [], ◌∷◌, ◌++◌, length, drop, take, Result, Ok, Err, refl, sym, ap, ◌∙◌, arith, inl, inr}
use Rattle.std.proofs.lemmas.Bool.{cases_lt, lt-ltb, le-ltb}
use Rattle.std.proofs.lemmas.List.{length-drop}
use Rattle.std.proofs.Math.Nat.{mul-div_cancel}
use Rattle.mpx_num.specs.Types.{item_len}
use Rattle.mpx_num.specs.Spelling.{are_whole, number_in, number_len}
use Rattle.mpx_num.specs.declared.types.Ty.{Ty}
use Rattle.mpx_num.proofs.Spellings.{spells, whole_from_count}
use Rattle.mpx_format.specs.declared.defects.Defect.TheVariants.{ShortFrame}
use Rattle.mpx_format.specs.declared.defects.ReadError.{ReadError}
use Rattle.mpx_format.specs.declared.defects.ReadError.TheVariants as errors
use Rattle.mpx_format.specs.Format.{Gives, many_read}
use Rattle.mpx_format.specs.Posts.{integer, item_count, items}
use Rattle.mpx_decode.specs.Near.{GivesNear}

integer_short : (ty : Ty) (bytes : List ℕ) → length bytes < number_len ty → (integer ty).read bytes ≡ Err ShortFrame
unfolding integer
integer_short ty bytes lt = rw (lt-ltb (length bytes) (number_len ty) lt) refl

integer_long : (ty : Ty) (bytes : List ℕ) → number_len ty ≤ length bytes → (integer ty).read bytes ≡ Ok (number_in ty (take (number_len ty) bytes), drop (number_len ty) bytes)
unfolding integer
integer_long ty bytes le = rw (le-ltb (length bytes) (number_len ty) le) refl

-- too few bytes for so many numbers are a short frame
pub too_short : (ty : Ty) (count : ℕ) (before : List ℤ) (bytes : List ℕ) → length bytes < count * number_len ty → many_read (λ before. integer ty) count before bytes ≡ Err ShortFrame
unfolding many_read
too_short ty zero before bytes lt = absurd (omega arith)
too_short ty (suc n) before bytes lt = elim (cases_lt (length bytes) (number_len ty)) [
  | inl few ↦ rw (integer_short ty bytes few) refl
  | inr enough ↦
      let rest = drop (number_len ty) bytes in
      let less : length rest < n * number_len ty = omega (arith, length-drop (number_len ty) bytes) in
      rw (integer_long ty bytes enough, too_short ty n (before ++ number_in ty (take (number_len ty) bytes) ∷ []) rest less) refl
]

pub as_many : (ty : Ty) (a b : ℕ) → a * number_len ty ≡ b * number_len ty → a ≡ b
as_many ty a b e = sym (mul-div_cancel a (spells ty).some) ∙ ap (λ n. n / number_len ty) e ∙ mul-div_cancel b (spells ty).some

-- whole items have whole bytes
pub whole_bytes : (ty : Ty) (bytes : List ℕ) (count : ℕ) → count / item_len ty * item_len ty ≡ count → length bytes ≡ count * number_len ty → are_whole ty bytes ≡ true
whole_bytes ty bytes count whole len = whole_from_count ty bytes (count / item_len ty) (len ∙ ap (λ n. n * number_len ty) (sym whole))

-- what is read of so many numbers is what items give behind their count
pub items_given : {T : Type 0} (r : Result T ReadError) (nums : T → List ℤ) (left : T → List ℕ) (ty : Ty) (bytes after : List ℕ) (n : ℕ) → item_count.read bytes ≡ Ok (n, after)
    → Gives (λ x. (nums x, left x)) r (many_read (λ before. integer ty) (n * item_len ty) [] after) → Gives (λ x. (nums x, left x)) r ((items ty).read bytes)
unfolding items
items_given (Ok x) nums left ty bytes after n count given = rw (count, given) refl
items_given (Err errors.OutOfMemory) nums left ty bytes after n count given = tt
items_given (Err (errors.Defect f)) nums left ty bytes after n count given = rw (count, given) refl

-- and of those beyond
pub items_near : {T : Type 0} (r : Result T ReadError) (nums : T → List ℤ) (left : T → List ℕ) (ty : Ty) (bytes after beyond : List ℕ) (n : ℕ) → item_count.read bytes ≡ Ok (n, after)
    → GivesNear beyond (λ x. (nums x, left x)) r (many_read (λ before. integer ty) (n * item_len ty) [] after) → GivesNear beyond (λ x. (nums x, left x)) r ((items ty).read bytes)
items_near (Ok x) nums left ty bytes after beyond n count given = items_given (Ok x) nums left ty bytes after n count given
items_near (Err e) nums left ty bytes after beyond n count given = λ none. items_given (Err e) nums left ty bytes after n count (given none)
