-- What may be opened and dropped is what isn't refused.
use Rattle.std.proofs.Common.{◌≡◌, ℕ, ℤ, ◌<◌, ◌≤◌, Bool, true, false, cond, not, List, length, Option, Some, None, refl, sym, ap, ◌∙◌, inl, inr, arith}
use Rattle.std.specs.Prelude.{nat_le, Result, Ok, Err}
use Rattle.std.proofs.lemmas.Bool.Decides.{nat_tests}
use Rattle.mpx_birth.specs.Births.{BirthView, rank_in}
use Rattle.mpx_post.specs.declared.draft.PostError.{PostError}
use Rattle.mpx_post.specs.declared.draft.PostError.TheVariants.{Closed}
use Rattle.mpx_post.specs.Drafts.{is_tag, most_steps, natural}
use Rattle.mpx_post.specs.Gatherings.{GatheringView, gathering, gathering_at, is_bad_group, members_at}
use Rattle.mpx_post.proofs.Gatherings.{gathered, passed}
use Rattle.mpx_post.proofs.Limits.{from_not}
use Rattle.mpx_board.specs.declared.errors.PruneError.{PruneError}
use Rattle.mpx_board.specs.declared.errors.PruneError.TheVariants.{AboveFloor}
use Rattle.mpx_board.specs.Boards.{Look, floor_on, told}
use Rattle.mpx_board.specs.Changes.{pruned, pruned_on}
use Rattle.mpx_name.specs.Name.{Name}
use Rattle.mpx_node.specs.Nodes.{NodeView, OpenedView, gathers_by, gathers_there, gathers_on}
use Rattle.mpx_world.specs.Worlds.{MayPost}
use Rattle.mpx_world.specs.Openings.{MayGather, MayPrune}
use Rattle.mpx_world.proofs.Born.{gathers_is}

-- GATHERINGS

abbrev Accepted : Option ℕ → BirthView → (me depth : ℕ) → (tag : ℤ) → List ℤ → GatheringView → Type 0
Accepted found birth me depth tag ranks g = (rank : ℕ) × (found ≡ Some rank) × (nat_le most_steps depth ≡ false) × (is_bad_group birth.members me ranks ≡ false) × (not (is_tag tag) ≡ false)
    × ((let x : GatheringView = record { tag = natural tag; members = members_at birth.members ranks } in x) ≡ g)

accepted_at : (found : Option ℕ) (birth : BirthView) (me depth : ℕ) (tag : ℤ) (ranks : List ℤ) (g : GatheringView) → gathering_at found birth.members me depth false tag ranks ≡ Ok g → Accepted found birth me depth tag ranks g
accepted_at None birth me depth tag ranks g h = cc
accepted_at (Some rank) birth me depth tag ranks g h =
    let tests = passed false (nat_le most_steps depth) (is_bad_group birth.members me ranks) (not (is_tag tag)) _ g h in
    (rank, refl, tests.0, tests.1, tests.2, tests.3)

accepted : (birth : BirthView) (me depth : ℕ) (tag : ℤ) (ranks : List ℤ) (g : GatheringView) → gathering birth me depth false tag ranks ≡ Ok g → Accepted (rank_in me birth.members) birth me depth tag ranks g
unfolding gathering
accepted birth me depth tag ranks g h = accepted_at (rank_in me birth.members) birth me depth tag ranks g h

open_where : (freed : Bool) (r : Result GatheringView PostError) (g : GatheringView) → (let x : Result GatheringView PostError = cond freed (Err Closed) r in x) ≡ Ok g → freed ≡ false
open_where true r g e = cc e
open_where false r g e = refl

may_post : (x : Option OpenedView) (o : Option BirthView) (me : ℕ) (parent : Name) (tag : ℤ) (ranks : List ℤ) (g : GatheringView) → gathers_by x o me parent tag ranks ≡ Ok g → MayPost x
may_post None o me parent tag ranks g e = cc e
may_post (Some v) o me parent tag ranks g e = open_where v.freed (gathers_there o me parent tag ranks) g e

pub gathers_may : (node : NodeView) (parent : Name) (tag : ℤ) (ranks : List ℤ) (g : GatheringView) → gathers_on node parent tag ranks ≡ Ok g → MayGather node parent tag ranks g
gathers_may node parent tag ranks g e =
    let is = gathers_is (node.opened parent) (told (node.board.contexts parent).birth) node.me parent tag ranks g e in
    let a = accepted is.0 node.me (length parent) tag ranks g is.2 in
    let room : length parent < most_steps = grind (arith, nat_tests, a.2) in
    record {
      opened = may_post (node.opened parent) (told (node.board.contexts parent).birth) node.me parent tag ranks g e;
      birth = is.0;
      rank = a.0;
      born = is.1;
      member = a.1;
      room = room;
      group = a.3;
      tagged = from_not _ a.4;
      is = sym a.5;
    }

open_by : (x : Option OpenedView) (o : Option BirthView) (birth : BirthView) (me : ℕ) (parent : Name) (tag : ℤ) (ranks : List ℤ) (g : GatheringView) → MayPost x → o ≡ Some birth
    → gathering birth me (length parent) false tag ranks ≡ Ok g → gathers_by x o me parent tag ranks ≡ Ok g
open_by None o birth me parent tag ranks g may born e = absurd may
open_by (Some v) o birth me parent tag ranks g may born e =
    ap (λ freed. let r : Result GatheringView PostError = cond freed (Err Closed) (gathers_there o me parent tag ranks) in r) may
    ∙ ap (λ x. gathers_there x me parent tag ranks) born
    ∙ e

pub may_gathers : (node : NodeView) (parent : Name) (tag : ℤ) (ranks : List ℤ) (g : GatheringView) → MayGather node parent tag ranks g → gathers_on node parent tag ranks ≡ Ok g
may_gathers node parent tag ranks g m =
    let few = m.room in
    let deep : nat_le most_steps (length parent) ≡ false = grind (arith, nat_tests, few) in
    open_by (node.opened parent) (told (node.board.contexts parent).birth) m.birth node.me parent tag ranks g m.opened m.born
    (gathered m.birth node.me (length parent) false tag ranks m.rank m.member refl deep m.group m.tagged ∙ ap Ok (sym m.is))

-- PRUNINGS

may_at : (o : Option ℕ) (n : ℕ) → pruned o n ≡ Ok tt → (floor : ℕ) × (o ≡ Some floor) × (n ≤ floor)
may_at None n e = cc e
may_at (Some floor) n e = (floor, refl, by_test (nat_le n floor) refl e) where
  by_test : (b : Bool) → nat_le n floor ≡ b → (let r : Result (Unit {0}) PruneError = cond b (Ok tt) (Err (AboveFloor floor)) in r) ≡ Ok tt → n ≤ floor
  by_test true is h = grind (arith, nat_tests, is)
  by_test false is h = cc h

pub prunes_may : (b : Look) (name : Name) (n : ℕ) → pruned_on b name n ≡ Ok tt → MayPrune b name n
prunes_may b name n e = by_dead (b.contexts name).dead refl e where
  by_dead : (dead : Bool) → (b.contexts name).dead ≡ dead → (let r : Result (Unit {0}) PruneError = cond dead (Ok tt) (pruned (floor_on b name) n) in r) ≡ Ok tt → MayPrune b name n
  by_dead true is h = inl is
  by_dead false is h = inr (may_at (floor_on b name) n h)

pub may_prunes : (b : Look) (name : Name) (n : ℕ) → MayPrune b name n → pruned_on b name n ≡ Ok tt
may_prunes b name n (inl dead) = ap (λ d. let r : Result (Unit {0}) PruneError = cond d (Ok tt) (pruned (floor_on b name) n) in r) dead
may_prunes b name n (inr low) = by_dead (b.contexts name).dead where
  reached : pruned (floor_on b name) n ≡ Ok tt
  reached =
      let few = low.2 in
      let passes : nat_le n low.0 ≡ true = grind (arith, nat_tests, few) in
      ap (λ o. pruned o n) low.1 ∙ ap (λ b. let r : Result (Unit {0}) PruneError = cond b (Ok tt) (Err (AboveFloor low.0)) in r) passes

  by_dead : (dead : Bool) → (let r : Result (Unit {0}) PruneError = cond dead (Ok tt) (pruned (floor_on b name) n) in r) ≡ Ok tt
  by_dead true = refl
  by_dead false = reached
