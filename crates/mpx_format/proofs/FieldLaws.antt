-- The laws of the formats of single fields, of names and of maps.
use Rattle.std.proofs.Common.{◌≡◌, ℕ, zero, suc, Bool, true, List, length, ltb, arith, Some, None, refl, sym, ap, ◌∙◌, reverse}
use Rattle.std.specs.Int.{w16, w32}
use Rattle.std.specs.Cmp.{IsTotalOrder, nat_cmp_total}
use Rattle.std.specs.declared.cmp.Ordering.{Ordering}
use Rattle.std.specs.FinMap.{entries, entries_sorted, from_sorted, entries-from_sorted, same_entries_map}
use Rattle.std.proofs.lemmas.List.{reverse-reverse}
use Rattle.std.proofs.lemmas.Bool.{ltb-true, and_parts}
use Rattle.mpx_name.specs.declared.steps.Step.{Step}
use Rattle.mpx_name.specs.declared.steps.Step.TheVariants.{Child, Gathering}
use Rattle.mpx_name.specs.Order.{name_total}
use Rattle.mpx_format.specs.Format.{Format, out_of_limits, not_canonical}
use Rattle.mpx_format.specs.Rising.{keyed, always}
use Rattle.mpx_format.specs.Fields.{process, member, member_count, members, call, colour, tag, code_of_step, child_of, of_child, gathering_of, of_gathering, child, gathering, step_form, step, step_count, steps, name, some_calls, some_byte, name_count, some_names, fronts, numbers, acks, all_acks}
use Rattle.mpx_format.proofs.FormatLaws.{Exactly, byte_laws, number_laws, wide16, wide32, both_laws, only_laws, through_laws, counted_laws, tagged_laws, some_is}
use Rattle.mpx_format.proofs.Rows.{rising_sorted}

pub process_laws : Exactly process
unfolding process
process_laws = only_laws out_of_limits _ byte_laws

pub member_laws : (before : List ℕ) → Exactly (member before)
unfolding member
member_laws before = only_laws out_of_limits _ process_laws

pub members_laws : Exactly members
unfolding members member_count
members_laws = counted_laws (only_laws out_of_limits _ byte_laws) member_laws

pub call_laws : Exactly call
unfolding call
call_laws = only_laws out_of_limits _ (number_laws w32 wide32)

pub colour_laws : Exactly colour
unfolding colour
colour_laws = only_laws out_of_limits _ (number_laws w32 wide32)

pub tag_laws : Exactly tag
unfolding tag
tag_laws = only_laws out_of_limits _ (number_laws w16 wide16)

is_child : (s : Step) (a : ℕ × ℕ) → of_child s ≡ Some a → child_of a ≡ s
is_child (Child k c) a e = ap child_of (sym (some_is (k, c) a e))
is_child (Gathering t ps) a e = absurd cc

pub child_laws : Exactly child
unfolding child
child_laws = through_laws child_of of_child (both_laws call_laws (λ k fits. colour_laws)) (λ a fits. refl) is_child

is_gathering : (s : Step) (a : ℕ × List ℕ) → of_gathering s ≡ Some a → gathering_of a ≡ s
is_gathering (Child k c) a e = absurd cc
is_gathering (Gathering t ps) a e = ap gathering_of (sym (some_is (t, ps) a e))

pub gathering_laws : Exactly gathering
unfolding gathering
gathering_laws = through_laws gathering_of of_gathering (both_laws tag_laws (λ t fits. members_laws)) (λ a fits. refl) is_gathering

form_laws : (t : ℕ) → Exactly (step_form t)
form_laws zero = child_laws
form_laws (suc n) = gathering_laws

form_tags : (t : ℕ) (s : Step) → ltb t 2 ≡ true → (step_form t).fits s ≡ true → code_of_step s ≡ t
unfolding child gathering
form_tags zero (Child k c) known fits = refl
form_tags zero (Gathering t ps) known fits = absurd cc
form_tags (suc n) (Child k c) known fits = absurd cc
form_tags (suc n) (Gathering t ps) known fits = omega (arith, ltb-true _ _ known)

pub step_laws : Exactly step
unfolding step
step_laws = tagged_laws _ code_of_step (λ t known. form_laws t) form_tags

pub steps_laws : Exactly steps
unfolding steps step_count
steps_laws = counted_laws (only_laws out_of_limits _ byte_laws) (λ before. step_laws)

pub name_laws : Exactly name
unfolding name
name_laws = through_laws reverse _ steps_laws (λ a fits. ap Some (reverse-reverse a)) (λ b a e. ap reverse (sym (some_is (reverse b) a e)) ∙ reverse-reverse b)

pub some_calls_laws : Exactly some_calls
unfolding some_calls
some_calls_laws = only_laws not_canonical _ (number_laws w32 wide32)

pub some_byte_laws : Exactly some_byte
unfolding some_byte
some_byte_laws = only_laws not_canonical _ byte_laws

pub name_count_laws : Exactly name_count
unfolding name_count
name_count_laws = only_laws out_of_limits _ (number_laws w16 wide16)

pub some_names_laws : Exactly some_names
unfolding some_names
some_names_laws = only_laws not_canonical _ name_count_laws

-- MAPS

module _ {K V : Type 0} {R : K → K → Ordering} (o : IsTotalOrder R) {count : Format ℕ} {key : Format K} {value : Format V} (c : Exactly count) (p : Exactly key) (q : Exactly value) (says : V → Bool) where
  pub keyed_laws : Exactly (keyed R count key value says)
  keyed_laws = through_laws (from_sorted {R = R}) (λ m. Some (entries m)) (counted_laws c (λ before. only_laws not_canonical _ (both_laws (only_laws not_canonical _ p) (λ k fits. q))))
      (λ es fits. ap Some (entries-from_sorted R es (rising_sorted o key value says None _ es (and_parts (count.fits (length es)) _ fits).1)))
      (λ m es e. ap (from_sorted {R = R}) (sym (some_is (entries m) es e)) ∙ same_entries_map (from_sorted (entries m)) m (entries-from_sorted R (entries m) (entries_sorted m)))

pub fronts_laws : Exactly fronts
unfolding fronts
fronts_laws = keyed_laws nat_cmp_total byte_laws process_laws some_calls_laws always

pub numbers_laws : Exactly numbers
unfolding numbers
numbers_laws = keyed_laws nat_cmp_total some_byte_laws process_laws some_calls_laws always

pub acks_laws : Exactly acks
unfolding acks
acks_laws = keyed_laws name_total some_names_laws name_laws numbers_laws always

pub all_acks_laws : Exactly all_acks
unfolding all_acks
all_acks_laws = keyed_laws nat_cmp_total byte_laws process_laws acks_laws always
