-- Gatherings: their members, and what an accepted one is.
use Rattle.std.proofs.Common.{◌≡◌, ◌≢◌, [], ◌∷◌, ℕ, zero, suc, ◌^◌, ◌+◌, ◌<◌, nat_le, nat_lt, ◌||◌, Bool, true, false, not, List, ℤ, pos, negsuc, nat_abs, length, get_or, take, map, ◌++◌, Option, Some, None, Result, Ok, Err, refl, sym, ap, ◌∙◌, arith}
use Rattle.std.proofs.lemmas.List.{get_or-map, get_or_default, length-map}
use Rattle.std.proofs.lemmas.Simd.{map-map}
use Rattle.std.specs.List.{list_all}
use Rattle.std.specs.Prelude.{int_le}
use Rattle.std.proofs.lemmas.Bool.{and_from, and_parts, eq-eqb, or_left, or_parts, or_right, true≢false}
use Rattle.std.proofs.lemmas.Bool.Decides.{nat_tests}
use Rattle.mpx_group.specs.Group.{has, has_twice}
use Rattle.mpx_post.specs.declared.draft.PostError.{PostError}
use Rattle.mpx_post.specs.declared.draft.PostError.TheVariants.{NotMember, Closed, DepthUsedUp, BadGroup, BadTag}
use Rattle.mpx_birth.specs.Births.{BirthView, rank_in}
use Rattle.mpx_post.specs.Drafts.{first_that_holds, is_rank, is_tag, most_steps, natural, naturals, unless}
use Rattle.mpx_post.specs.Gatherings.{GatheringView, gathering, gathering_at, is_bad_group, members_at}
use Rattle.mpx_post.proofs.Limits.{from_not}
use Rattle.mpx_post.proofs.Lists.{map_pushed}

pub length-members_at : (members : List ℕ) (ranks : List ℤ) → length (members_at members ranks) ≡ length ranks
length-members_at members ranks = length-map (naturals ranks) (λ r. get_or members r 0) ∙ length-map ranks natural

-- the member at a rank of the list
pub member_at : (members : List ℕ) (ranks : List ℤ) (i r x : ℕ) → i < length ranks → r ≡ natural (get_or ranks i (pos 0)) → r < length members → x ≡ get_or members r x → x ≡ get_or (members_at members ranks) i x
member_at members ranks i r x l is k e =
    let first : get_or (members_at members ranks) i x ≡ get_or members (get_or (naturals ranks) i 0) 0 = get_or-map (λ r. get_or members r 0) (naturals ranks) i 0 x (omega (arith, length-map ranks natural)) in
    let second : get_or (naturals ranks) i 0 ≡ r = get_or-map natural ranks i (pos 0) 0 l ∙ sym is in
    e ∙ get_or_default members r x 0 k ∙ ap (λ n. get_or members n 0) (sym second) ∙ sym first

-- a rank as the number of a place
pub rank_as : (size : ℕ) (z : ℤ) → is_rank size z ≡ true → (nat_abs z < size) × (nat_abs z ≡ natural z)
rank_as size (pos n) h =
    let below : n < size = grind (arith, nat_tests, h) in
    (below, refl)
rank_as size (negsuc n) h = cc

-- after a push of the member at the next rank
pub members_at-pushed : (members : List ℕ) (ranks : List ℤ) (i : ℕ) → i < length ranks → (before after : List ℕ) (x : ℕ) → before ≡ members_at members (take i ranks) → after ≡ before ++ x ∷ [] → x ≡ get_or members (natural (get_or ranks i (pos 0))) 0 → after ≡ members_at members (take (i + 1) ranks)
members_at-pushed members ranks i l before after x was push is =
    let both : (zs : List ℤ) → map (λ z. get_or members (natural z) 0) zs ≡ members_at members zs = λ zs. sym (map-map (λ r. get_or members r 0) natural zs) in
    map_pushed (λ z. get_or members (natural z) 0) ranks i (pos 0) l before after x (was ∙ sym (both (take i ranks))) push is ∙ both (take (i + 1) ranks)

-- WHAT A CHECK SAYS

module _ (birth : BirthView) (me depth : ℕ) (closed : Bool) (tag : ℤ) (ranks : List ℤ) where
  abbrev answer : Result GatheringView PostError
  answer = gathering birth me depth closed tag ranks

  pub refused_outside : rank_in me birth.members ≡ None → answer ≡ Err NotMember
  unfolding gathering
  refused_outside h = rw h refl

  pub refused_closed : (rank : ℕ) → rank_in me birth.members ≡ Some rank → closed ≡ true → answer ≡ Err Closed
  unfolding gathering
  refused_closed rank member shut = rw (member, shut) refl

  module _ (rank : ℕ) (member : rank_in me birth.members ≡ Some rank) (going : closed ≡ false) where
    pub refused_too_deep : nat_le most_steps depth ≡ true → answer ≡ Err DepthUsedUp
    unfolding gathering
    refused_too_deep deep = rw (member, going, deep) refl

    pub refused_group : nat_le most_steps depth ≡ false → is_bad_group birth.members me ranks ≡ true → answer ≡ Err BadGroup
    unfolding gathering
    refused_group deep bad = rw (member, going, deep, bad) refl

    pub refused_tag : nat_le most_steps depth ≡ false → is_bad_group birth.members me ranks ≡ false → is_tag tag ≡ false → answer ≡ Err BadTag
    unfolding gathering
    refused_tag deep bad tagged = rw (member, going, deep, bad, tagged) refl

    pub gathered : nat_le most_steps depth ≡ false → is_bad_group birth.members me ranks ≡ false → is_tag tag ≡ true → answer ≡ Ok (record { tag = natural tag; members = members_at birth.members ranks })
    unfolding gathering
    gathered deep bad tagged = rw (member, going, deep, bad, tagged) refl

-- below a communicator that it has freed a member opens none
pub closed_gathering : (birth : BirthView) (me rank depth : ℕ) (tag : ℤ) (ranks : List ℤ) → rank_in me birth.members ≡ Some rank → gathering birth me depth true tag ranks ≡ Err Closed
closed_gathering birth me rank depth tag ranks member = refused_closed birth me depth true tag ranks rank member refl

-- a group that isn't bad: ranks in range, members that differ, and the caller
pub group_parts : (members : List ℕ) (me : ℕ) (ranks : List ℤ) → is_bad_group members me ranks ≡ false → (list_all (is_rank (length members)) ranks ≡ true) × (has_twice (members_at members ranks) ≡ false) × (has (members_at members ranks) me ≡ true)
group_parts members me ranks h =
    let parts = or_parts (not (list_all (is_rank (length members)) ranks)) (has_twice (members_at members ranks) || not (has (members_at members ranks) me)) h in
    let others = or_parts (has_twice (members_at members ranks)) (not (has (members_at members ranks) me)) parts.1 in
    (from_not _ parts.0, others.0, from_not _ others.1)

-- a list that isn't empty has a length
pub some_is_more : (xs : List ℕ) → xs ≢ [] → 0 < length xs
some_is_more [] some = absurd (some refl)
some_is_more (x ∷ xs) some = omega arith

-- a list that has a number isn't empty
pub has_is_some : (xs : List ℕ) (x : ℕ) → has xs x ≡ true → xs ≢ []
has_is_some [] x h = absurd (true≢false (sym h))
has_is_some (y ∷ ys) x h = λ e. cc

-- WHAT AN ACCEPTED GATHERING IS

has_at : (xs : List ℕ) (i : ℕ) → i < length xs → has xs (get_or xs i 0) ≡ true
has_at [] i l = absurd (omega arith)
has_at (x ∷ xs) zero l = or_left _ _ (eq-eqb x x refl)
has_at (x ∷ xs) (suc i) l = or_right _ _ (has_at xs i (omega arith))

all_are_members : (members : List ℕ) (ranks : List ℤ) → list_all (is_rank (length members)) ranks ≡ true → list_all (has members) (members_at members ranks) ≡ true
all_are_members members [] h = refl
all_are_members members (z ∷ ranks) h =
    let parts = and_parts (is_rank (length members) z) (list_all (is_rank (length members)) ranks) h in
    let rank = and_parts (int_le (pos 0) z) (nat_lt (natural z) (length members)) parts.0 in
    let below : natural z < length members = grind (arith, nat_tests, rank.1) in
    and_from _ _ (has_at members (natural z) below) (all_are_members members ranks parts.1)

-- members of the communicator, which differ, and among them the caller; a tag; and room below
pub record Gathers (birth : BirthView) (me depth : ℕ) (g : GatheringView) : Type 0 where
  pub some : g.members ≢ []
  pub distinct : has_twice g.members ≡ false
  pub caller : has g.members me ≡ true
  pub members : list_all (has birth.members) g.members ≡ true
  pub tag : g.tag < 2 ^ 15
  pub room : depth < 8

-- what no refusal of a gathering says
pub passed : (c d b t : Bool) (x g : GatheringView) → unless (first_that_holds ((c, Closed) ∷ (d, DepthUsedUp) ∷ (b, BadGroup) ∷ (t, BadTag) ∷ [])) x ≡ Ok g → (d ≡ false) × (b ≡ false) × (t ≡ false) × (x ≡ g)
passed true d b t x g h = cc
passed false true b t x g h = cc
passed false false true t x g h = cc
passed false false false true x g h = cc
passed false false false false x g h = (refl, refl, refl, cc)

gathers_at : (found : Option ℕ) (birth : BirthView) (me depth : ℕ) (closed : Bool) (tag : ℤ) (ranks : List ℤ) (g : GatheringView) → gathering_at found birth.members me depth closed tag ranks ≡ Ok g → Gathers birth me depth g
gathers_at None birth me depth closed tag ranks g h = cc
gathers_at (Some rank) birth me depth closed tag ranks g h =
    let tests = passed closed (nat_le most_steps depth) (is_bad_group birth.members me ranks) (not (is_tag tag)) _ g h in
    let group = group_parts birth.members me ranks tests.1 in
    let tagged = and_parts (int_le (pos 0) tag) (nat_lt (natural tag) (2 ^ 15)) (from_not _ tests.2) in
    let small : natural tag < 2 ^ 15 = grind (arith, nat_tests, tagged.1) in
    let room : depth < 8 = grind (arith, nat_tests, tests.0) in
    rw (← tests.3)
    (record {
      some = has_is_some (members_at birth.members ranks) me group.2;
      distinct = group.1;
      caller = group.2;
      members = all_are_members birth.members ranks group.0;
      tag = small;
      room = room;
    })

pub gathers : (birth : BirthView) (me depth : ℕ) (closed : Bool) (tag : ℤ) (ranks : List ℤ) (g : GatheringView) → gathering birth me depth closed tag ranks ≡ Ok g → Gathers birth me depth g
unfolding gathering
gathers birth me depth closed tag ranks g h = gathers_at (rank_in me birth.members) birth me depth closed tag ranks g h
