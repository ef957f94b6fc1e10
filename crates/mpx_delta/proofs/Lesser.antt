-- The lesser numbers of two digests, and the least that a board's processes acknowledge.
use Rattle.std.proofs.Common.{arith, ◌≡◌, ℕ, zero, suc, ◌<◌, ◌≤◌, ◌+◌, min, false, true, List, [], ◌∷◌, ◌++◌, map, not, nat_lt, nat_le, Option, Some, None, refl, sym, ap, ◌∙◌}
use Rattle.std.specs.Prelude.{option_and_then}
use Rattle.std.proofs.lemmas.Bool.Decides.{nat_tests}
use Rattle.std.proofs.lemmas.Option.{same_Some}
use Rattle.std.specs.List.{fold}
use Rattle.std.specs.Option.{option_map}
use Rattle.std.specs.Ordering.{nat_cmp}
use Rattle.std.specs.Cmp.{nat_cmp_total}
use Rattle.std.specs.FinMap.{get, get-empty, empty as no_entry, nat_cmp-IsAntisymmetric}
use Rattle.join_core.specs.laws.Cases.{yes, no, answer, second_true}
use Rattle.mpx_name.specs.Name.{Name}
use Rattle.mpx_name.specs.Order.{name_cmp, name_total, name_exact}
use Rattle.mpx_birth.specs.Orders.{upto}
use Rattle.mpx_board.specs.Boards.{Look, minimum}
use Rattle.mpx_board.specs.Contexts.{or_zero, number_acked, ack_in, look_of}
use Rattle.join_core.specs.Max.{max_joining}
use Rattle.join_nest.specs.Optional.{option_leq}
use Rattle.join_nest.specs.laws.Keyed.{leq_gets}
use Rattle.mpx_board.specs.Parts.{OfProcesses, AcksView, PartsView, acks_joining, numbers_joining}
use Rattle.mpx_board.specs.Tidy.{is_bare, has_no_zero, is_tidy_numbers, are_tidy_numbers, is_tidy_acks, are_tidy_acks, are_tidy_entries, is_tidy}
use Rattle.mpx_board.proofs.Entries.{all_empty, bare_gets, entries_get, get_entries}
use Rattle.mpx_digest.specs.Keep.{keep}
use Rattle.mpx_digest.specs.Digest.{number_at, numbers_acked}
use Rattle.mpx_digest.proofs.Kept.{get_keep}
use Rattle.mpx_digest.proofs.Bare.{bare_number, unless_bare_tidy}
use Rattle.mpx_delta.specs.Digests.{common_on}
use Rattle.mpx_delta.specs.Least.{least, least_context, least_number, least_numbers}

lesser : (x y : Option ℕ) → or_zero (option_and_then (λ n. option_map (min n) y) x) ≡ min (or_zero x) (or_zero y)
lesser None y = omega arith
lesser (Some n) None = omega arith
lesser (Some n) (Some m) = refl

zero_right : (n : ℕ) → 0 ≡ min n 0
zero_right n = omega arith

zero_left : (n : ℕ) → 0 ≡ min 0 n
zero_left n = omega arith

lesser_numbers : (m : OfProcesses ℕ) (o : Option (OfProcesses ℕ)) (p : ℕ) → number_at (least_numbers m o) p ≡ min (number_at m p) (number_acked p o)
lesser_numbers m None p = ap or_zero (get-empty nat_cmp p) ∙ zero_right (number_at m p)
lesser_numbers m (Some n) p = ap or_zero (get_keep nat_cmp (least_number n) nat_cmp_total nat_cmp-IsAntisymmetric m p) ∙ lesser (get m p) (get n p)

lesser_context : (others : AcksView) (name : Name) (p : ℕ) (o : Option (OfProcesses ℕ)) → number_acked p (option_and_then (least_context others name) o) ≡ min (number_acked p o) (numbers_acked others name p)
lesser_context others name p None = zero_left (numbers_acked others name p)
lesser_context others name p (Some m) = bare_number (least_numbers m (get others name)) p ∙ lesser_numbers m (get others name) p

pub least_at : (d others : AcksView) (name : Name) (p : ℕ) → numbers_acked (least d others) name p ≡ min (numbers_acked d name p) (numbers_acked others name p)
least_at d others name p = ap (number_acked p) (get_keep name_cmp (least_context others) name_total name_exact d name) ∙ lesser_context others name p (get d name)

-- NUMBERS BELOW OTHERS

number_below : (x y : Option ℕ) → option_leq max_joining x y ≡ true → or_zero x ≤ or_zero y
number_below None y h = omega arith
number_below (Some n) None h = cc
number_below (Some n) (Some m) h = le n m h where
  le : (n m : ℕ) → nat_le n m ≡ true → n ≤ m
  le n m h = grind (arith, nat_tests)

numbers_below : (p : ℕ) (x y : Option (OfProcesses ℕ)) → option_leq numbers_joining x y ≡ true → number_acked p x ≤ number_acked p y
numbers_below p None y h = omega arith
numbers_below p (Some m) None h = cc
numbers_below p (Some m) (Some n) h = number_below (get m p) (get n p) (leq_gets nat_cmp_total max_joining m n h p)

-- these are the least where they are below the others
pub least_below : (d others : AcksView) → acks_joining.leq d others ≡ true → (name : Name) (p : ℕ) → numbers_acked d name p ≡ min (numbers_acked d name p) (numbers_acked others name p)
least_below d others h name p = omega (arith, numbers_below p (get d name) (get others name) (leq_gets name_total numbers_joining d others h name))

-- ACKNOWLEDGEMENTS

acks_at : (v : PartsView) (q : ℕ) (name : Name) (p : ℕ) → ack_in name p (get v.1 q) ≡ (look_of v).acks q name p
unfolding look_of
acks_at v q name p = refl

pub acks_none : (v : PartsView) (q : ℕ) → get v.1 q ≡ None → (name : Name) (p : ℕ) → 0 ≡ (look_of v).acks q name p
acks_none v q none name p = sym (ap (ack_in name p) none) ∙ acks_at v q name p

pub acks_some : (v : PartsView) (q : ℕ) (a : AcksView) → get v.1 q ≡ Some a → (name : Name) (p : ℕ) → numbers_acked a name p ≡ (look_of v).acks q name p
acks_some v q a some name p = sym (ap (ack_in name p) some) ∙ acks_at v q name p

pub no_numbers : (d : AcksView) → d ≡ no_entry → (name : Name) (p : ℕ) → numbers_acked d name p ≡ 0
no_numbers d is name p = ap (λ x. number_acked p (get x name)) is ∙ ap (number_acked p) (get-empty name_cmp name)

-- THE LEAST OF ALL

fold_more : (a n : ℕ) (ns : List ℕ) → fold min a (ns ++ n ∷ []) ≡ min (fold min a ns) n
fold_more a n [] = refl
fold_more a n (m ∷ ns) = fold_more (min a m) n ns

map_more : (f : ℕ → ℕ) (n : ℕ) (ns : List ℕ) → map f (ns ++ n ∷ []) ≡ map f ns ++ f n ∷ []
map_more f n [] = refl
map_more f n (m ∷ ns) = ap (λ l. f m ∷ l) (map_more f n ns)

minimum_more : (ns : List ℕ) (m n : ℕ) → minimum ((m ∷ ns) ++ n ∷ []) ≡ min (minimum (m ∷ ns)) n
minimum_more ns m n = fold_more m n ns

first_of : (f : ℕ → ℕ) (k : ℕ) → (rest : List ℕ) × (map f (upto (suc k)) ≡ f 0 ∷ rest)
first_of f zero = ([], refl)
first_of f (suc k) = let before = first_of f k in (before.0 ++ f (suc k) ∷ [], map_more f (suc k) (upto (suc k)) ∙ ap (λ l. l ++ f (suc k) ∷ []) before.1)

least_more : (f : ℕ → ℕ) (k : ℕ) → minimum (map f (upto (suc k) ++ suc k ∷ [])) ≡ min (minimum (map f (upto (suc k)))) (f (suc k))
least_more f k =
    let before = first_of f k in
    ap minimum (map_more f (suc k) (upto (suc k)) ∙ ap (λ l. l ++ f (suc k) ∷ []) before.1)
    ∙ minimum_more before.0 (f 0) (f (suc k))
    ∙ sym (ap (λ l. min (minimum l) (f (suc k))) before.1)

pub common_more : (n : ℕ) (b : Look) (name : Name) (p : ℕ) → 0 < n → common_on (n + 1) b name p ≡ min (common_on n b name p) (b.acks n name p)
common_more zero b name p lt = absurd (omega (arith, lt))
common_more (suc k) b name p lt = ap (λ m. common_on m b name p) (one (suc k)) ∙ least_more (λ q. b.acks q name p) k where
  one : (n : ℕ) → n + 1 ≡ suc n
  one n = omega arith

-- where nothing is common to some, nothing is common to more
pub common_none : (n m : ℕ) (b : Look) (name : Name) (p : ℕ) → 0 < n → n ≤ m → common_on n b name p ≡ 0 → common_on m b name p ≡ 0
common_none n zero b name p some le none = absurd (omega (arith, some, le))
common_none n (suc m) b name p some le none = elim (answer (nat_lt m n)) [
  | yes t ↦ ap (λ k. common_on k b name p) (last n m le t) ∙ none
  | no f ↦
      ap (λ k. common_on k b name p) (one m)
      ∙ common_more m b name p (more n m some f)
      ∙ ap (λ x. min x (b.acks m name p)) (common_none n m b name p some (less n m f) none)
      ∙ sym (zero_left (b.acks m name p))
] where
  last : (n m : ℕ) → n ≤ suc m → nat_lt m n ≡ true → suc m ≡ n
  last n m le t = grind (arith, nat_tests)

  less : (n m : ℕ) → nat_lt m n ≡ false → n ≤ m
  less n m f = grind (arith, nat_tests)

  more : (n m : ℕ) → 0 < n → nat_lt m n ≡ false → 0 < m
  more n m some f = grind (arith, nat_tests)

  one : (m : ℕ) → suc m ≡ m + 1
  one m = omega arith

pub bare_numbers : (d : AcksView) → is_bare d ≡ true → (name : Name) (p : ℕ) → numbers_acked d name p ≡ 0
bare_numbers d bare name p = ap (number_acked p) (bare_gets name_total name_exact d bare name)

-- NO NUMBER IS 0

module _ (others : OfProcesses ℕ) (neat : has_no_zero others ≡ true) where
  lesser_some : (a n : ℕ) (y : Option ℕ) → nat_lt 0 a ≡ true → ((b : ℕ) → y ≡ Some b → nat_lt 0 b ≡ true) → option_map (min a) y ≡ Some n → nat_lt 0 n ≡ true
  lesser_some a n None t u is = cc is
  lesser_some a n (Some b) t u is = ap (nat_lt 0) (sym (same_Some (min a b) n is)) ∙ above a b t (u b refl) where
    above : (a b : ℕ) → nat_lt 0 a ≡ true → nat_lt 0 b ≡ true → nat_lt 0 (min a b) ≡ true
    above a b t u = grind (arith, nat_tests)

  kept_some : (p n : ℕ) (x : Option ℕ) → ((a : ℕ) → x ≡ Some a → nat_lt 0 a ≡ true) → option_and_then (least_number others p) x ≡ Some n → nat_lt 0 n ≡ true
  kept_some p n None t is = cc is
  kept_some p n (Some a) t is = lesser_some a n (get others p) (t a refl) (λ b at. entries_get nat_cmp_total nat_cmp-IsAntisymmetric (λ p n. nat_lt 0 n) others neat p b at) is

  keep_some : (m : OfProcesses ℕ) → has_no_zero m ≡ true → has_no_zero (keep (least_number others) m) ≡ true
  keep_some m t = get_entries nat_cmp_total nat_cmp-IsAntisymmetric (λ p n. nat_lt 0 n) (keep (least_number others) m) (λ p n is.
      kept_some p n (get m p) (λ a at. entries_get nat_cmp_total nat_cmp-IsAntisymmetric (λ p n. nat_lt 0 n) m t p a at) (sym (get_keep nat_cmp (least_number others) nat_cmp_total nat_cmp-IsAntisymmetric m p) ∙ is))

tidy_some : (m : OfProcesses ℕ) → is_tidy_numbers m ≡ true → has_no_zero m ≡ true
tidy_some m t = second_true (not (is_bare m)) (has_no_zero m) t

least_numbers_some : (m : OfProcesses ℕ) (o : Option (OfProcesses ℕ)) → has_no_zero m ≡ true → ((x : OfProcesses ℕ) → o ≡ Some x → is_tidy_numbers x ≡ true) → has_no_zero (least_numbers m o) ≡ true
least_numbers_some m None t u = all_empty nat_cmp_total nat_cmp-IsAntisymmetric (λ p n. nat_lt 0 n)
least_numbers_some m (Some x) t u = keep_some x (tidy_some x (u x refl)) m t

pub least_tidy : (d others : AcksView) → are_tidy_numbers d ≡ true → are_tidy_numbers others ≡ true → are_tidy_numbers (least d others) ≡ true
least_tidy d others t u = get_entries name_total name_exact (λ name n. is_tidy_numbers n) (least d others) (λ name n is. tidy_at name n (get d name) (λ m at. entries_get name_total name_exact (λ name n. is_tidy_numbers n) d t name m at) (sym (get_keep name_cmp (least_context others) name_total name_exact d name) ∙ is)) where
  tidy_at : (name : Name) (n : OfProcesses ℕ) (o : Option (OfProcesses ℕ)) → ((m : OfProcesses ℕ) → o ≡ Some m → is_tidy_numbers m ≡ true) → option_and_then (least_context others name) o ≡ Some n → is_tidy_numbers n ≡ true
  tidy_at name n None was is = cc is
  tidy_at name n (Some m) was is = unless_bare_tidy (least_numbers m (get others name)) n
      (least_numbers_some m (get others name) (tidy_some m (was m refl)) (λ x at. entries_get name_total name_exact (λ name n. is_tidy_numbers n) others u name x at)) is

-- what a process says on a board has no 0
pub said_tidy : (v : PartsView) (q : ℕ) (a : AcksView) → is_tidy v ≡ true → get v.1 q ≡ Some a → are_tidy_numbers a ≡ true
said_tidy v q a tidy at = second_true (not (is_bare a)) (are_tidy_numbers a) (entries_get nat_cmp_total nat_cmp-IsAntisymmetric (λ p x. is_tidy_acks x) v.1 (second_true (are_tidy_entries v.0) (are_tidy_acks v.1) tidy) q a at)

pub none_tidy : (a : AcksView) → a ≡ no_entry → are_tidy_numbers a ≡ true
none_tidy a is = ap are_tidy_numbers is ∙ all_empty name_total name_exact (λ name n. is_tidy_numbers n)
