-- How frames are spelled.
use Rattle.std.proofs.Common.{◌≡◌, ℕ, ◌+◌, ◌≤◌, Bool, true, false, not, ◌&&◌, ◌||◌, List, [], ◌∷◌, ◌++◌, length, refl, ap, ◌∙◌, length-append, append_assoc}
use Rattle.std.specs.Prelude.{nat_lt, nat_le}
use Rattle.std.specs.Int.{w16, to_be_bytes}
use Rattle.std.specs.Ordering.{nat_cmp}
use Rattle.std.specs.FinMap.{is_sorted, entries}
use Rattle.std.specs.List.{list_all, list_any}
use Rattle.std.proofs.lemmas.Bool.{ltb-false, le-leb}
use Rattle.join_core.specs.laws.Cases.{both_true, first_true, second_true}
use Rattle.join_nest.specs.Lift.{live, dead}
use Rattle.mpx_name.specs.Order.{name_cmp}
use Rattle.mpx_name.specs.Name.{Name}
use Rattle.mpx_board.specs.Parts.{LiftedView, AcksView, PartsView}
use Rattle.mpx_board.specs.Tidy.{says_nothing, is_neat_entry, is_tidy_lifted}
use Rattle.mpx_format.specs.declared.versions.Version.TheVariants.{Two}
use Rattle.mpx_format.specs.Format.{byte}
use Rattle.mpx_format.specs.Rising.{keyed, always}
use Rattle.mpx_format.specs.Fields.{process, name, name_count, acks, all_acks}
use Rattle.mpx_format.specs.Contexts.{lifted, says_something, parts, frame}
use Rattle.mpx_encode.specs.Entries.{entries_spelled, both_pass}
use Rattle.mpx_encode.proofs.Rising.{always_says}
use Rattle.mpx_encode.proofs.Maps.{keyed_spelling, keyed_fits, few_processes, byte_count}
use Rattle.mpx_encode.proofs.Contexts.{few_names}

-- MPXG, and the version
abbrev pub magic : List ℕ
magic = 77 ∷ 80 ∷ 88 ∷ 71 ∷ 2 ∷ []

-- what is tidy says something
tidy_tells : (l : LiftedView) → is_tidy_lifted l ≡ true → says_something l ≡ true
tidy_tells (live e) h = first_true (not (says_nothing e)) (is_neat_entry e) h
tidy_tells dead h = refl

tidy_says : (es : List (Name × LiftedView)) → list_all (λ e. is_tidy_lifted e.1) es ≡ true → list_all (λ e. says_something e.1) es ≡ true
tidy_says [] h = refl
tidy_says (e ∷ es) h =
    both_true _ _ (tidy_tells e.1 (first_true (is_tidy_lifted e.1) (list_all (λ x. is_tidy_lifted x.1) es) h)) (tidy_says es (second_true (is_tidy_lifted e.1) (list_all (λ x. is_tidy_lifted x.1) es) h))

module _ (v : PartsView) (es : List (Name × LiftedView)) (ps : List (ℕ × AcksView)) where
  abbrev pub names_part : List ℕ
  names_part = (magic ++ to_be_bytes w16 (length es)) ++ entries_spelled name (lifted Two) es

  regrouped : (a b c d e : List ℕ) → a ++ ((b ++ c) ++ (d ++ e)) ≡ (((a ++ b) ++ c) ++ d) ++ e
  regrouped a b c d e = simp append_assoc

  pub frame_spelled : es ≡ entries v.0 → ps ≡ entries v.1 → frame.spelling (Two, v) ≡ (names_part ++ length ps ∷ []) ++ entries_spelled process acks ps
  unfolding frame parts all_acks name_count
  frame_spelled es_is ps_is =
      ap (λ l. magic ++ (l ++ all_acks.spelling v.1)) (keyed_spelling name_cmp name_count name (lifted Two) says_something v.0 es es_is)
      ∙ ap (λ l. magic ++ ((to_be_bytes w16 (length es) ++ entries_spelled name (lifted Two) es) ++ l)) (keyed_spelling nat_cmp byte process acks always v.1 ps ps_is)
      ∙ regrouped magic (to_be_bytes w16 (length es)) (entries_spelled name (lifted Two) es) (length ps ∷ []) (entries_spelled process acks ps)

  pub length-names : length names_part ≡ 7 + length (entries_spelled name (lifted Two) es)
  length-names = length-append (magic ++ to_be_bytes w16 (length es)) (entries_spelled name (lifted Two) es)

  pub frame_split : es ≡ entries v.0 → ps ≡ entries v.1 → frame.spelling (Two, v) ≡ names_part ++ ((length ps ∷ []) ++ entries_spelled process acks ps)
  frame_split es_is ps_is = frame_spelled es_is ps_is ∙ append_assoc names_part (length ps ∷ []) (entries_spelled process acks ps)

  pub frame_fits : es ≡ entries v.0 → ps ≡ entries v.1 → is_sorted name_cmp es ≡ true → is_sorted nat_cmp ps ≡ true → length es ≤ 4096 → list_all (λ e. is_tidy_lifted e.1) es ≡ true
      → both_pass name.fits (lifted Two).fits es ≡ true → both_pass process.fits acks.fits ps ≡ true → frame.fits (Two, v) ≡ true
  unfolding frame parts all_acks
  frame_fits es_is ps_is es_sorted ps_sorted few tidy es_pass ps_pass =
      both_true _ _ (keyed_fits name_cmp name_count name (lifted Two) says_something v.0 es es_is es_sorted (few_names (length es) few) es_pass (tidy_says es tidy))
      (keyed_fits nat_cmp byte process acks always v.1 ps ps_is ps_sorted (byte_count (length ps) (few_processes acks.fits ps ps_sorted ps_pass)) ps_pass (always_says ps))

  pub frame_names : frame.fits (Two, v) ≡ true → (keyed name_cmp name_count name (lifted Two) says_something).fits v.0 ≡ true
  unfolding frame parts
  frame_names h = first_true ((keyed name_cmp name_count name (lifted Two) says_something).fits v.0) (all_acks.fits v.1) h

  pub frame_acks : frame.fits (Two, v) ≡ true → (keyed nat_cmp byte process acks always).fits v.1 ≡ true
  unfolding frame parts all_acks
  frame_acks h = second_true ((keyed name_cmp name_count name (lifted Two) says_something).fits v.0) ((keyed nat_cmp byte process acks always).fits v.1) h

none_first : (a b : Bool) → (a || b) ≡ false → a ≡ false
none_first true b h = h
none_first false b h = refl

none_second : (a b : Bool) → (a || b) ≡ false → b ≡ false
none_second true b h = absurd cc
none_second false b h = h

-- each passes one test, and none fails the other
pub both_tests : {X : Type 0} (p q r : X → Bool) → ((x : X) → q x ≡ false → r x ≡ true) → (xs : List X) → list_all p xs ≡ true → list_any q xs ≡ false → list_all (λ x. p x && r x) xs ≡ true
both_tests p q r so [] h none = refl
both_tests p q r so (x ∷ xs) h none =
    both_true _ _ (both_true _ _ (first_true (p x) (list_all p xs) h) (so x (none_first (q x) (list_any q xs) none))) (both_tests p q r so xs (second_true (p x) (list_all p xs) h) (none_second (q x) (list_any q xs) none))

pub not_above : (n most : ℕ) → nat_lt most n ≡ false → nat_le n most ≡ true
not_above n most h = le-leb n most (ltb-false most n h)

pub either_false : (a b : Bool) → (a || b) ≡ false → (a ≡ false) × (b ≡ false)
either_false a b h = (none_first a b h, none_second a b h)
