-- With what a process says, what it doesn't say yet is a digest.
use Rattle.std.proofs.Common.{arith, ◌≡◌, ℕ, ◌≤◌, ◌==◌, ◌||◌, Bool, true, false, cond, max, List, [], ◌∷◌, Option, Some, None, refl, sym, ap, ◌∙◌, subst}
use Rattle.std.specs.Prelude.{nat_eq, nat_le, nat_lt, option_and_then}
use Rattle.std.proofs.lemmas.Bool.Decides.{nat_tests}
use Rattle.std.specs.FinMap.{empty as no_entry, entries, get, get-empty}
use Rattle.join_core.specs.laws.Cases.{answer, yes, no, first_true, second_true}
use Rattle.join_nest.specs.Lift.{live, dead}
use Rattle.mpx_birth.specs.Births.{BirthView}
use Rattle.mpx_group.specs.Group.{has}
use Rattle.mpx_name.specs.Name.{Name}
use Rattle.mpx_name.specs.Order.{name_cmp, name_total, name_exact}
use Rattle.mpx_board.specs.Boards.{Look, told}
use Rattle.mpx_board.specs.Contexts.{ack_in, look_of, number_acked, numbers_acked, or_zero}
use Rattle.mpx_board.specs.Parts.{AcksView, CallView, EntryView, LiftedView, OfProcesses, PartsView}
use Rattle.mpx_board.specs.Tidy.{are_tidy_numbers, has_no_zero, is_tidy_numbers}
use Rattle.mpx_board.proofs.Entries.{get_entries}
use Rattle.mpx_digest.specs.Beyond.{digest_above, have_all, numbers_above, says_all, says_dropped, says_members, says_quiet}
use Rattle.mpx_digest.specs.Digest.{IsDigest, IsDigestBeyond, number_at}
use Rattle.mpx_digest.specs.Keep.{unless_bare}
use Rattle.mpx_digest.specs.Reach.{digest_lifted, digest_number, digest_parts, has_posted, is_member_of, reach}
use Rattle.mpx_digest.proofs.Bare.{bare_number, unless_bare_tidy}
use Rattle.mpx_digest.proofs.Gaps.{digest_at, digest_is, get_digest, lifted_some}
use Rattle.mpx_digest.proofs.Kept.{get_keep}

-- A CONTEXT OF WHICH AS MUCH IS SAID

module _ (numbers : OfProcesses ℕ) (least p : ℕ) where
  member_has : (members : List ℕ) → have_all numbers least members ≡ true → has members p ≡ true → least ≤ number_at numbers p
  member_has [] all is = cc is
  member_has (q ∷ members) all is = elim (answer (q == p)) [
    | yes t ↦
        let here : nat_le least (number_at numbers q) ≡ true = first_true (nat_le least (number_at numbers q)) (have_all numbers least members) all in
        subst (λ n. least ≤ number_at numbers n) (same q p t) (at_least least (number_at numbers q) here)
    | no n ↦ member_has members (second_true (nat_le least (number_at numbers q)) (have_all numbers least members) all) (ap (λ b. b || has members p) (sym n) ∙ is)
  ] where
    same : (q p : ℕ) → (q == p) ≡ true → q ≡ p
    same q p t = grind (arith, nat_tests)

    at_least : (m n : ℕ) → nat_le m n ≡ true → m ≤ n
    at_least m n t = grind (arith, nat_tests)

if_listed : (b : Bool) (n m : ℕ) → (b ≡ true → n ≤ m) → cond b n 0 ≤ m
if_listed true n m f = f refl
if_listed false n m f = omega arith

members_have : (said : Option (OfProcesses ℕ)) (dropped p : ℕ) (members : List ℕ) → says_members said dropped members ≡ true → has members p ≡ true → dropped ≤ number_acked p said
members_have None dropped p members all is = cc all
members_have (Some numbers) dropped p members all is = member_has numbers dropped p members all is

none_at_zero : (dropped m : ℕ) → nat_eq dropped 0 ≡ true → dropped ≤ m
none_at_zero dropped m t = grind (arith, nat_tests)

dropped_said : (said : Option (OfProcesses ℕ)) (dropped p : ℕ) (birth : Option BirthView) → says_dropped said dropped birth ≡ true → is_member_of p birth ≡ true → dropped ≤ number_acked p said
dropped_said said dropped p None all is = cc is
dropped_said said dropped p (Some birth) all is = elim (answer (nat_eq dropped 0)) [
  | yes t ↦ none_at_zero dropped (number_acked p said) t
  | no n ↦ members_have said dropped p birth.members (ap (λ b. b || says_members said dropped birth.members) (sym n) ∙ all) is
]

or_false : (b : Bool) → (b || false) ≡ b
or_false true = refl
or_false false = refl

quiet_said : (said : Option (OfProcesses ℕ)) (e : EntryView) (p : ℕ) (calls : List (ℕ × CallView)) → says_quiet said e calls ≡ true
    → cond (is_member_of p (told e.0) || has_posted p calls) (reach p e.1.1.dropped calls) 0 ≤ number_acked p said
quiet_said said e p [] all =
    if_listed (is_member_of p (told e.0) || false) e.1.1.dropped (number_acked p said) (λ is. dropped_said said e.1.1.dropped p (told e.0) all (sym (or_false (is_member_of p (told e.0))) ∙ is))
quiet_said said e p (c ∷ calls) all = cc all

-- the digest of a context is no more than what is said of it
number_said : (said : AcksView) (name : Name) (l : LiftedView) (p : ℕ) → says_all said name l ≡ true → number_acked p (unless_bare (digest_lifted l)) ≤ number_acked p (get said name)
number_said said name dead p all =
    let none : number_acked p (unless_bare (digest_lifted dead)) ≡ 0 = bare_number no_entry p ∙ ap or_zero (get-empty _ p) in
    subst (λ n. n ≤ number_acked p (get said name)) (sym none) (omega arith)
number_said said name (live e) p all =
    subst (λ n. n ≤ number_acked p (get said name)) (sym (digest_at e p)) (within (nat_lt p 64) (digest_number e p) (number_acked p (get said name)) (quiet_said (get said name) e p (entries e.1.1.calls) all)) where
      within : (b : Bool) (n m : ℕ) → n ≤ m → cond b n 0 ≤ m
      within true n m le = le
      within false n m le = omega arith

-- WHAT ISN'T SAID YET

get_above : (said : AcksView) (v : PartsView) (name : Name) → get (digest_above said v) name ≡ option_and_then (λ l. unless_bare (numbers_above said name l)) (get v.0 name)
get_above said v name = get_keep name_cmp (λ name l. unless_bare (numbers_above said name l)) name_total name_exact v.0 name

nothing_more : (n m : ℕ) → n ≤ m → max m 0 ≡ max m n
nothing_more n m le = omega (arith, le)

module _ (said : AcksView) (name : Name) (p : ℕ) where
  abbrev said_there : ℕ
  said_there = number_acked p (get said name)

  abbrev number_of : OfProcesses ℕ → ℕ
  number_of m = number_acked p (unless_bare m)

  same_on : (o : Option LiftedView) → max said_there (number_acked p (option_and_then (λ l. unless_bare (numbers_above said name l)) o)) ≡ max said_there (number_acked p (option_and_then (λ l. unless_bare (digest_lifted l)) o))
  same_on None = refl
  same_on (Some l) = elim (answer (says_all said name l)) [
    | no n ↦ ap (λ b. max said_there (number_of (cond b no_entry (digest_lifted l)))) n
    | yes t ↦
        let none : number_of no_entry ≡ 0 = bare_number no_entry p ∙ ap or_zero (get-empty _ p) in
        ap (λ b. max said_there (number_of (cond b no_entry (digest_lifted l)))) t
        ∙ ap (max said_there) none
        ∙ nothing_more (number_of (digest_lifted l)) said_there (number_said said name l p t)
  ]

pub above_same : (said : AcksView) (v : PartsView) (name : Name) (p : ℕ) → max (numbers_acked said name p) (numbers_acked (digest_above said v) name p) ≡ max (numbers_acked said name p) (numbers_acked (digest_parts v) name p)
above_same said v name p =
    ap (λ o. max (numbers_acked said name p) (number_acked p o)) (get_above said v name)
    ∙ same_on said name p (get v.0 name)
    ∙ ap (λ o. max (numbers_acked said name p) (number_acked p o)) (sym (get_digest v name))

pub above_is_beyond : (me : ℕ) (said : AcksView) (v : PartsView) → get v.1 me ≡ Some said → IsDigestBeyond me (numbers_acked (digest_above said v)) (look_of v)
unfolding look_of
above_is_beyond me said v some = record {
  whole = numbers_acked (digest_parts v);
  digest = digest_is v;
  same = λ name p. subst (λ o. max (ack_in name p o) (numbers_acked (digest_above said v) name p) ≡ max (ack_in name p o) (numbers_acked (digest_parts v) name p)) (sym some) (above_same said v name p);
}

pub digest_is_beyond : (me : ℕ) (d : AcksView) (b : Look) → IsDigest (numbers_acked d) b → IsDigestBeyond me (numbers_acked d) b
digest_is_beyond me d b is = record { whole = numbers_acked d; digest = is; same = λ name p. refl }

-- no number is 0
above_some : (b : Bool) (l : LiftedView) → has_no_zero (cond b no_entry (digest_lifted l)) ≡ true
above_some true l = lifted_some dead
above_some false l = lifted_some l

pub above_tidy : (said : AcksView) (v : PartsView) → are_tidy_numbers (digest_above said v) ≡ true
above_tidy said v = get_entries name_total name_exact (λ name n. is_tidy_numbers n) (digest_above said v) (λ name n is. tidy_in name (get v.0 name) n (sym (get_above said v name) ∙ is)) where
  tidy_in : (name : Name) (o : Option LiftedView) (n : OfProcesses ℕ) → option_and_then (λ l. unless_bare (numbers_above said name l)) o ≡ Some n → is_tidy_numbers n ≡ true
  tidy_in name None n is = cc is
  tidy_in name (Some l) n is = unless_bare_tidy (numbers_above said name l) n (above_some (says_all said name l) l) is
