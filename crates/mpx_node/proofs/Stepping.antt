-- What a write through the map of opened contexts does, and what the answers of a post and a harvest come to.
use Rattle.std.proofs.Common.{◌≡◌, ℕ, Bool, true, false, cond, List, [], length, Option, Some, None, refl, sym, ap, ◌∙◌, subst}
use Rattle.std.proofs.Math.Nat.{zero-max}
use Rattle.std.specs.Prelude.{◌==◌, Result, Ok, Err, is_some, nat_le, nat_lt}
use Rattle.std.specs.Option.{option_map}
use Rattle.std.specs.BTreeMap.{BTreeMap, get, get_by, is_at, WritesThrough}
use Rattle.join_core.specs.declared.memory.OutOfMemory.{OutOfMemory}
use Rattle.join_core.specs.laws.Cases.{yes, no, answer, is_tied}
use Rattle.join_core.specs.Flat.{known, unknown}
use Rattle.mpx_name.specs.Order.{name_cmp, name_exact}
use Rattle.mpx_name.proofs.Keys.{either}
use Rattle.mpx_num.specs.declared.own.Operation.{Operation}
use Rattle.mpx_post.specs.Posts.{Given}
use Rattle.mpx_post.specs.declared.draft.PostError.{PostError}
use Rattle.mpx_post.specs.declared.draft.PostError.TheVariants as R
use Rattle.mpx_birth.specs.Births.{BirthView}
use Rattle.mpx_post.specs.declared.draft.Draft.{Draft}
use Rattle.mpx_post.specs.Drafts.{Checks, at, checked}
use Rattle.mpx_post.proofs.Checks.{checks_post}
use Rattle.mpx_post.proofs.Lists.{is_there}
use Rattle.mpx_name.specs.Name.{Name, same_name}
use Rattle.mpx_board.specs.Boards.{Born, Front, only, told, join, join_contexts, empty, nothing}
use Rattle.mpx_node.specs.declared.opened.Opened.{Opened}
use Rattle.mpx_node.specs.declared.node.Harvest.{Harvest}
use Rattle.mpx_node.specs.declared.node.Harvest.TheVariants as H
use Rattle.mpx_node.specs.declared.finished.Finished.{Finished}
use Rattle.mpx_node.specs.Nodes.{NodeView, OpenedView, checked_by, checked_there, checked_on, posted_by, posted_on, results_by, front_on, with_post, Posts, next_of, next_result, result_of, add_result, children_on}
use Rattle.mpx_node.specs.Harvests.{Harvests, HarvestsOpened}
use Rattle.mpx_node.proofs.Nexts.{no_result}
use Rattle.mpx_node.specs.Opened.{opened_of, opened_by}

same_either : {A : Type 0} (b : Bool) (x : A) → cond b x x ≡ x
same_either true x = refl
same_either false x = refl

-- NAMES

pub same_is : (n name : Name) → is_at (name_cmp name) n ≡ true → n ≡ name
same_is n name t = sym (name_exact name n (is_tied _ t))

-- A WRITE

abbrev pub Contexts : Type 0
Contexts = Name → Option OpenedView

abbrev pub seen : BTreeMap Name Opened → Contexts
seen = opened_by

map_cond : {A B : Type 0} (f : A → B) (b : Bool) (x : A) (o : Option A) → option_map f (cond b (Some x) o) ≡ cond b (Some (f x)) (option_map f o)
map_cond f true x o = refl
map_cond f false x o = refl

module _ (m n : BTreeMap Name Opened) (name : Name) (o w : Opened) (value : Some o ≡ get_by (name_cmp name) m) (holds : WritesThrough name_cmp (name_cmp name) m w n) where
  pub has : seen m name ≡ Some (opened_of o)
  has = ap (option_map opened_of) (sym value)

  lent : (q : Name) → seen n q ≡ cond (is_at (name_cmp name) q) (Some (opened_of w)) (seen m q)
  lent q = ap (option_map opened_of) ((holds.3 (is_there _ o value)).0 q) ∙ map_cond opened_of (is_at (name_cmp name) q) w (get name_cmp m q)

  here : (q : Name) → is_at (name_cmp name) q ≡ true → seen m q ≡ Some (opened_of o)
  here q t = ap (seen m) (same_is q name t) ∙ has

  pub stays : opened_of w ≡ opened_of o → seen n ≡ seen m
  stays e i q = at q i where
    at : (q : Name) → seen n q ≡ seen m q
    at q = elim (answer (is_at (name_cmp name) q)) [
      | yes t ↦ lent q ∙ ap (λ b. cond b (Some (opened_of w)) (seen m q)) t ∙ ap Some e ∙ sym (here q t)
      | no f ↦ lent q ∙ ap (λ b. cond b (Some (opened_of w)) (seen m q)) f
    ]

  pub does : (f : OpenedView → OpenedView) → opened_of w ≡ f (opened_of o) → seen n ≡ (λ q. cond (same_name q name) (option_map f (seen m q)) (seen m q))
  does f e i q = at q i where
    at : (q : Name) → seen n q ≡ cond (same_name q name) (option_map f (seen m q)) (seen m q)
    at q = elim (answer (is_at (name_cmp name) q)) [
      | yes t ↦ lent q ∙ ap (λ b. cond b (Some (opened_of w)) (seen m q)) t ∙ ap Some e ∙ sym (ap (option_map f) (here q t)) ∙ ap (λ b. cond b (option_map f (seen m q)) (seen m q)) (sym (either q name ∙ t))
      | no g ↦ lent q ∙ ap (λ b. cond b (Some (opened_of w)) (seen m q)) g ∙ ap (λ b. cond b (option_map f (seen m q)) (seen m q)) (sym (either q name ∙ g))
    ]

-- POSTS

-- what a draft comes to on an opened context, behind an own free and before
module _ (ops : List Operation) (x : Option OpenedView) (o : OpenedView) (told birth : Option BirthView) (me : ℕ) (name : Name) (draft : Draft) (here : x ≡ Some o) where
  asked : checked_by ops x told me name draft ≡ cond o.freed (Err R.Closed) (checked_there ops o.posted told me name draft)
  asked = ap (λ y. checked_by ops y told me name draft) here

  pub asked_closed : o.freed ≡ true → checked_by ops x told me name draft ≡ Err R.Closed
  asked_closed freed = asked ∙ ap (λ b. let r : Result Given PostError = cond b (Err R.Closed) (checked_there ops o.posted told me name draft) in r) freed

  pub asked_there : o.freed ≡ false → told ≡ birth → checked_by ops x told me name draft ≡ checked_there ops o.posted birth me name draft
  asked_there unfreed same = asked ∙ ap (λ b. let r : Result Given PostError = cond b (Err R.Closed) (checked_there ops o.posted told me name draft) in r) unfreed ∙ ap (λ b. checked_there ops o.posted b me name draft) same

module _ (name : Name) (old new : NodeView) where
  pub posts_refused : (r : Result Given PostError) (e : PostError) → r ≡ Err e → new ≡ old → Posts name r (Err e) old new
  posts_refused r e re same = subst (λ x. Posts name x (Err e) old new) (sym re) (refl, same)

  turned_down : (r : Result Given PostError) (e : PostError) → Checks r (Err e) → new ≡ old → Posts name r (Err e) old new
  turned_down (Err refusal) e answered same = (cc answered, same)
  turned_down (Ok given) e answered same = (answered, same)

  pub posts_turned_down : (r : Result Given PostError) (result : Result ℕ PostError) (e : PostError) → Checks r (Err e) → result ≡ Err e → new ≡ old → Posts name r result old new
  posts_turned_down r result e answered is same = subst (λ x. Posts name r x old new) (sym is) (turned_down r e answered same)

  pub posts_made : (r : Result Given PostError) (given : Given) (call : ℕ) → r ≡ Ok given → call ≡ posted_on old name → new ≡ with_post name given old → Posts name r (Ok call) old new
  posts_made r given call rg k made = subst (λ x. Posts name x (Ok call) old new) (sym rg) (k, made)

  pub posts_wants : (r : Result Given PostError) (given : Given) → r ≡ Ok given → new ≡ old → Posts name r (Err R.OutOfMemory) old new
  posts_wants r given rg same = subst (λ x. Posts name x (Err R.OutOfMemory) old new) (sym rg) (refl, same)

-- the answer of a post on an opened context
module _ (ops : List Operation) (name : Name) (draft : Draft) (old new : NodeView) (o : OpenedView) (here : old.opened name ≡ Some o) where
  abbrev birth_told : Option BirthView
  birth_told = told (old.board.contexts name).birth

  pub closed_refused : o.freed ≡ true → new ≡ old → Posts name (checked_on ops old name draft) (Err R.Closed) old new
  closed_refused freed same = posts_refused name old new (checked_on ops old name draft) R.Closed (asked_closed ops (old.opened name) o birth_told None old.me name draft here freed) same

  pub unborn_refused : o.freed ≡ false → birth_told ≡ None → new ≡ old → Posts name (checked_on ops old name draft) (Err R.NotMember) old new
  unborn_refused unfreed unborn same = posts_refused name old new (checked_on ops old name draft) R.NotMember (asked_there ops (old.opened name) o birth_told None old.me name draft here unfreed unborn) same

  module _ (birth : BirthView) (unfreed : o.freed ≡ false) (born : birth_told ≡ Some birth) where
    there : checked_on ops old name draft ≡ checked ops birth old.me (at name o.posted false) draft
    there = asked_there ops (old.opened name) o birth_told (Some birth) old.me name draft here unfreed born

    pub draft_refused : (result : Result ℕ PostError) (e : PostError) → Checks (checked ops birth old.me (at name o.posted false) draft) (Err e) → result ≡ Err e → new ≡ old → Posts name (checked_on ops old name draft) result old new
    draft_refused result e checks is same = posts_turned_down name old new (checked_on ops old name draft) result e (subst (λ r. Checks r (Err e)) (sym there) checks) is same

    asked_made : (given : Given) → Checks (checked ops birth old.me (at name o.posted false) draft) (Ok given) → checked_on ops old name draft ≡ Ok given
    asked_made given checks = checks_post (checked_on ops old name draft) given (subst (λ r. Checks r (Ok given)) (sym there) checks)

    pub draft_posted : (given : Given) → Checks (checked ops birth old.me (at name o.posted false) draft) (Ok given) → new ≡ with_post name given old → Posts name (checked_on ops old name draft) (Ok o.posted) old new
    draft_posted given checks made = posts_made name old new (checked_on ops old name draft) given o.posted (asked_made given checks) (sym (ap posted_by here)) made

    pub draft_wants : (given : Given) → Checks (checked ops birth old.me (at name o.posted false) draft) (Ok given) → new ≡ old → Posts name (checked_on ops old name draft) (Err R.OutOfMemory) old new
    draft_wants given checks same = posts_wants name old new (checked_on ops old name draft) given (asked_made given checks) same

-- HARVESTS

no_more : {A : Type 0} (b : Bool) (o : Option A) → o ≡ None → cond b o None ≡ None
no_more true o e = e
no_more false o e = refl

module _ (ops : List Operation) (name : Name) (old new : NodeView) (o : OpenedView) (has : old.opened name ≡ Some o) where
  opened_here : (result : Result Harvest OutOfMemory) → HarvestsOpened ops name (next_of ops (Some o) old.board name old.me) result old new → Harvests ops (is_some (old.opened name)) name (next_result ops old name) result old new
  opened_here result h = subst (λ x. Harvests ops (is_some x) name (next_of ops x old.board name old.me) result old new) (sym has) h

  pub harvests_done : (finished : Finished) (call : ℕ) → next_of ops (Some o) old.board name old.me ≡ Some finished → call ≡ front_on old name → new ≡ add_result name finished (children_on ops old.board name (front_on old name)) old → Harvests ops (is_some (old.opened name)) name (next_result ops old name) (Ok (H.Done call)) old new
  harvests_done finished call e k made = opened_here (Ok (H.Done call)) (subst (λ x. HarvestsOpened ops name x (Ok (H.Done call)) old new) (sym e) (k, made))

  -- by the front that the process has stored up to
  pub harvests_next : (finished : Finished) (call : ℕ) → call ≡ length o.results → nat_lt (length o.results) o.posted ≡ true → result_of ops old.board name old.me call ≡ Some finished → new ≡ add_result name finished (children_on ops old.board name call) old → Harvests ops (is_some (old.opened name)) name (next_result ops old name) (Ok (H.Done call)) old new
  harvests_next finished call k less found made =
      let front : call ≡ front_on old name = k ∙ sym (ap (λ x. length (results_by x)) has) in
      harvests_done finished call (ap (λ b. cond b (result_of ops old.board name old.me (length o.results)) None) less ∙ ap (result_of ops old.board name old.me) (sym k) ∙ found) front
      (made ∙ ap (λ n. add_result name finished (children_on ops old.board name n) old) front)

  -- where that has no result
  pub harvests_not : (call : ℕ) → call ≡ length o.results → is_some (result_of [] old.board name old.me call) ≡ false → new ≡ old → Harvests ops (is_some (old.opened name)) name (next_result ops old name) (Ok H.NotYet) old new
  harvests_not call k none same =
      let nothing_next : next_of ops (Some o) old.board name old.me ≡ None =
      no_more (nat_lt (length o.results) o.posted) (result_of ops old.board name old.me (length o.results)) (ap (result_of ops old.board name old.me) (sym k) ∙ no_result ops old.board name old.me call none) in
      opened_here (Ok H.NotYet) (subst (λ x. HarvestsOpened ops name x (Ok H.NotYet) old new) (sym nothing_next) same)

-- AT THE START

-- a board that knows nothing learns a birth
pub first_birth : (name : Name) (birth : BirthView) → join empty (only (Born name (known birth))) ≡ only (Born name (known birth))
first_birth name birth i = record { contexts = λ n. at (same_name n name) i; acks = λ q n p. 0 } where
  at : (b : Bool) → join_contexts nothing (cond b (record nothing { birth = known birth }) nothing) ≡ cond b (record nothing { birth = known birth }) nothing
  at true i = record { birth = known birth; fronts = λ p. 0; dropped = 0; posts = λ k p. same_either (nat_le 0 k) unknown i; dead = false }
  at false i = record { birth = unknown; fronts = λ p. 0; dropped = 0; posts = λ k p. same_either (nat_le 0 k) unknown i; dead = false }

-- it learns a front
pub first_front : (name : Name) (process number : ℕ) → join empty (only (Front name process number)) ≡ only (Front name process number)
first_front name process number i = record { contexts = λ n. at (same_name n name) i; acks = λ q n p. 0 } where
  at : (b : Bool) → join_contexts nothing (cond b (record nothing { fronts = λ q. cond (q == process) number 0 }) nothing) ≡ cond b (record nothing { fronts = λ q. cond (q == process) number 0 }) nothing
  at true i = record { birth = unknown; fronts = λ q. zero-max (cond (q == process) number 0) i; dropped = 0; posts = λ k p. same_either (nat_le 0 k) unknown i; dead = false }
  at false i = record { birth = unknown; fronts = λ p. 0; dropped = 0; posts = λ k p. same_either (nat_le 0 k) unknown i; dead = false }
