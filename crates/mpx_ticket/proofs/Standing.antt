-- What is so of a process that stands in a world that can be reached.
use Rattle.std.proofs.Common.{◌≡◌, ◌⊎◌, ℕ, zero, suc, ◌-◌, ◌<◌, ◌≤◌, Bool, true, false, cond, List, [], ◌∷◌, length, Option, None, Some, Result, Ok, Err, slice_get, refl, sym, ap, ◌∙◌, subst, arith, inl, inr}
use Rattle.std.specs.Prelude.{◌&&◌, IsTrue, is_some, map, nat_le}
use Rattle.std.specs.List.{list_any}
use Rattle.std.specs.Option.{option_map_or}
use Rattle.std.proofs.lemmas.Option.{same_Some}
use Rattle.join_core.specs.Flat.{FlatView, unknown, known, clash}
use Rattle.mpx_name.specs.Name.{Name}
use Rattle.mpx_num.specs.declared.own.Operation.{Operation}
use Rattle.mpx_post.specs.Posts.{Given, is_free}
use Rattle.mpx_birth.specs.Births.{BirthView}
use Rattle.mpx_post.specs.declared.draft.Draft.{Draft}
use Rattle.mpx_post.specs.Drafts.{at, checked}
use Rattle.mpx_post.specs.declared.draft.PostError.{PostError}
use Rattle.mpx_post.specs.declared.draft.PostError.TheVariants.{Closed}
use Rattle.mpx_board.specs.Boards.{IsGone, floor_on, minimum, told}
use Rattle.mpx_value.specs.Histories.{posts_on}
use Rattle.mpx_node.specs.declared.finished.Finished.{Finished}
use Rattle.mpx_node.specs.Nodes.{OpenedView, checked_by, checked_there, freed_by, freed_on, front_on, is_fine_free, is_nothing, is_past_free, posted_by, posted_on, result_on, results_on}
use Rattle.mpx_node.specs.Stored.{stored_at}
use Rattle.mpx_world.specs.Worlds.{ProcessView, WorldView, births, history, own_front}
use Rattle.mpx_world.specs.Soundness.{AgreesWithFact, HaveHarvested, IsMember, IsValue}
use Rattle.mpx_world.proofs.Born.{option_map_some}
use Rattle.mpx_world.proofs.Lists.{any_at}
use Rattle.mpx_world.proofs.Truth.{told_agrees}
use Rattle.mpx_world.proofs.Steps.{Good, board_so, minimum_below}
use Rattle.mpx_world.proofs.Freed.{freed_harvested}
use Rattle.mpx_world.proofs.Retention.{IsKeptOn, StoresOwn, retention}
use Rattle.mpx_world.proofs.Opened.{are_members, opened_where}
use Rattle.mpx_world.proofs.Whole.{IsWell, well_by}
use Rattle.mpx_bus.specs.declared.act.Act.{Act}
use Rattle.mpx_bus.specs.declared.act.Setup.{Setup}
use Rattle.mpx_bus.specs.Acts.{process_at, node_at}
use Rattle.mpx_bus.specs.Rule.{Stood, world_of}

-- what is told of a value on which nothing agrees
told_none : {A : Type 0} (v : FlatView A) → AgreesWithFact v None → told v ≡ None
told_none unknown a = refl
told_none (known x) a = cc a
told_none clash a = absurd a

pub within : {A : Type 0} (xs : List A) (k : ℕ) (x : A) → slice_get xs k ≡ Some x → k < length xs
within [] k x e = absurd (cc e)
within (y ∷ ys) zero x e = omega arith
within (y ∷ ys) (suc k) x e = let l = within ys k x e in omega (arith, l)

-- of results beside posts of which none is a free the last is none
unfreed_last : (posts : List Given) (results : List (Option Finished)) → list_any is_free posts ≡ false → ((k : ℕ) (f : Finished) → stored_at results k ≡ Some f → slice_get posts k ≡ Some f.mine) → (n : ℕ) → is_past_free results n ≡ false
unfreed_last posts results none beside n = by_last (stored_at results (length results - 1)) refl where
  by_free : (f : Finished) → slice_get posts (length results - 1) ≡ Some f.mine → (free : Bool) → is_free f.mine ≡ free → ((free && is_nothing f.outcome) && nat_le (length results) n) ≡ false
  by_free f mine true t = let some = any_at is_free posts (length results - 1) f.mine mine t in cc (none, some)
  by_free f mine false t = refl

  by_last : (o : Option Finished) → stored_at results (length results - 1) ≡ o → (option_map_or is_fine_free o false && nat_le (length results) n) ≡ false
  by_last None e = refl
  by_last (Some f) e = by_free f (beside (length results - 1) f e) (is_free f.mine) refl

-- what a draft came to where it came to a post: no free stands before it
pub record IsChecked (ops : List Operation) (o : Option OpenedView) (b : Option BirthView) (me : ℕ) (name : Name) (draft : Draft) (given : Given) : Type 0 where
  pub birth : BirthView
  pub born : b ≡ Some birth
  pub unfreed : freed_by o ≡ false
  pub checks : checked ops birth me (at name (posted_by o) false) draft ≡ Ok given

opened_parts : (ops : List Operation) (o : OpenedView) (b : Option BirthView) (me : ℕ) (name : Name) (draft : Draft) (given : Given) (freed : Bool) → o.freed ≡ freed
    → (let r : Result Given PostError = cond freed (Err Closed) (checked_there ops o.posted b me name draft) in r) ≡ Ok given → IsChecked ops (Some o) b me name draft given
opened_parts ops o b me name draft given true unfreed e = cc e
opened_parts ops o None me name draft given false unfreed e = cc e
opened_parts ops o (Some birth) me name draft given false unfreed e = record { birth = birth; born = refl; unfreed = unfreed; checks = e }

pub checked_parts : (ops : List Operation) (o : Option OpenedView) (b : Option BirthView) (me : ℕ) (name : Name) (draft : Draft) (given : Given) → checked_by ops o b me name draft ≡ Ok given → IsChecked ops o b me name draft given
checked_parts ops None b me name draft given e = cc e
checked_parts ops (Some o) b me name draft given e = opened_parts ops o b me name draft given o.freed refl e

module _ (setup : Setup) (me : ℕ) (journal : List Act) (s : Stood setup me journal) where
  abbrev w : WorldView
  w = world_of setup s.happenings

  well : IsWell w
  well = well_by setup.operations setup.ranks setup.size s.happenings s.may

  pub stood_good : Good (world_of setup s.happenings) me (process_at setup me journal)
  stood_good = subst (Good w me) s.stands (well.holds.processes me)

  -- a result is a value
  pub stood_value : (name : Name) (call : ℕ) (f : Finished) → result_on (node_at setup me journal) name call ≡ Some f → IsValue (world_of setup s.happenings) me name call f
  stood_value name call f e = stood_good.values name call f e

  -- its own posts are those of the history
  pub stood_history : (name : Name) (call : ℕ) → (history (world_of setup s.happenings)).post name call me ≡ slice_get (posts_on name ((process_at setup me journal).made)) call
  stood_history name call = ap (λ (v : ProcessView). slice_get (posts_on name v.made) call) s.stands

  -- a birth that its board tells is one
  pub stood_birth : (name : Name) (birth : BirthView) → told ((node_at setup me journal).board.contexts name).birth ≡ Some birth → births (world_of setup s.happenings) name ≡ Some birth
  stood_birth name birth e = told_agrees ((node_at setup me journal).board.contexts name).birth (births w name) birth (((board_so w me (process_at setup me journal) stood_good).contexts_so name).birth_so) e

  -- it is a member of each context that it has opened
  pub stood_member : (name : Name) → IsTrue (is_some ((node_at setup me journal).opened name)) → IsMember (world_of setup s.happenings) name me
  stood_member name opened = are_members w well.holds well.members me name (subst (λ (u : ProcessView). IsTrue (is_some (u.node.opened name))) (sym s.stands) opened)

  -- and of each on which it has posted
  own_member : (name : Name) → 0 < posted_on (node_at setup me journal) name → IsMember (world_of setup s.happenings) name me
  own_member name l = stood_member name (opened_where ((node_at setup me journal).opened name) l)

  -- and no floor passes its own front
  pub floor_low : (name : Name) (floor : ℕ) → 0 < posted_on (node_at setup me journal) name → floor_on (node_at setup me journal).board name ≡ Some floor → floor ≤ front_on (node_at setup me journal) name
  floor_low name floor l e =
      let v = process_at setup me journal in
      let fronts = (v.node.board.contexts name).fronts in
      let b = own_member name l in
      let least : floor ≡ minimum (map fronts b.birth.members) = option_map_some (λ (birth : BirthView). minimum (map fronts birth.members)) (told (v.node.board.contexts name).birth) floor e
      (λ birth is same. sym same ∙ ap (λ (x : BirthView). minimum (map fronts x.members)) (same_Some birth b.birth (sym (stood_birth name birth is) ∙ b.born))) in
      let below : minimum (map fronts b.birth.members) ≤ fronts me = minimum_below fronts b.birth.members b.rank me b.member in
      let so : fronts me ≤ front_on v.node name = subst (λ (u : ProcessView). fronts me ≤ front_on u.node name) s.stands (((board_so w me v stood_good).contexts_so name).fronts_so me) in
      omega (arith, least, below, so)

  -- an own post whose call isn't harvested is on the board
  own_kept : (name : Name) (call : ℕ) (x : Given) → front_on (node_at setup me journal) name ≤ call → slice_get (posts_on name ((process_at setup me journal).made)) call ≡ Some x
      → told (((node_at setup me journal).board.contexts name).posts call me) ≡ Some x
  own_kept name call x none mine =
      let v = process_at setup me journal in
      let l : call < length (posts_on name v.made) = within (posts_on name v.made) call x mine in
      let b = own_member name (omega (arith, l, stood_good.counted name)) in
      let front : front_on ((w.each me).node) name ≤ call = subst (λ (u : ProcessView). front_on u.node name ≤ call) (sym s.stands) none in
      let kept = retention w well.holds well.stores well.members name b.birth b.born b.rank me b.member call me x front (stood_history name call ∙ mine) in
      ap (λ (u : ProcessView). told ((u.node.board.contexts name).posts call me)) (sym s.stands) ∙ ap told kept

  pub own_on_board : (name : Name) (call : ℕ) → front_on (node_at setup me journal) name ≤ call
      → slice_get (posts_on name ((process_at setup me journal).made)) call ≡ told (((node_at setup me journal).board.contexts name).posts call me)
  own_on_board name call none = by (slice_get (posts_on name ((process_at setup me journal).made)) call) refl where
    by : (o : Option Given) → slice_get (posts_on name ((process_at setup me journal).made)) call ≡ o → o ≡ told (((node_at setup me journal).board.contexts name).posts call me)
    by None e = sym (told_none (((node_at setup me journal).board.contexts name).posts call me) (subst (AgreesWithFact (((node_at setup me journal).board.contexts name).posts call me)) (stood_history name call ∙ e) (((board_so w me (process_at setup me journal) stood_good).contexts_so name).posts_so call me)))
    by (Some x) e = sym (own_kept name call x none e)

  -- an own post is on the board, or it is dropped, or the context is dead
  pub own_stored : (name : Name) (call : ℕ) (x : Given) → slice_get (posts_on name ((process_at setup me journal).made)) call ≡ Some x → IsKeptOn (node_at setup me journal).board name call me x
  own_stored name call x mine =
      subst (λ p. IsKeptOn (node_at setup me journal).board name call p x) stood_good.me_is (subst StoresOwn s.stands (well.stores me) name call x mine)

  -- and then it has harvested the call
  pub gone_stored : (name : Name) (call : ℕ) (x : Given) → slice_get (posts_on name ((process_at setup me journal).made)) call ≡ Some x
      → IsGone (node_at setup me journal).board name ⊎ (call < ((node_at setup me journal).board.contexts name).dropped) → call < front_on (node_at setup me journal) name
  gone_stored name call x mine gone =
      let v = process_at setup me journal in
      let l : call < length (posts_on name v.made) = within (posts_on name v.made) call x mine in
      let b = own_member name (omega (arith, l, stood_good.counted name)) in
      let so = (board_so w me v stood_good).contexts_so name in
      let front : call < own_front w name me = elim gone [
        | inl dead ↦ freed_harvested w well.holds name (so.dead_so dead) me b call x (stood_history name call ∙ mine) b.birth b.born b.rank me b.member
        | inr low ↦
            let all : HaveHarvested w name (v.node.board.contexts name).dropped (births w name) = so.dropped_so (omega (arith, low)) in
            let done = (subst (HaveHarvested w name (v.node.board.contexts name).dropped) b.born all) b.rank me b.member in
            omega (arith, done, low)
      ] in
      subst (λ (u : ProcessView). call < front_on u.node name) s.stands front

  -- a result stands beside the own post
  pub own_beside : (name : Name) (call : ℕ) (f : Finished) → result_on (node_at setup me journal) name call ≡ Some f → slice_get (posts_on name ((process_at setup me journal).made)) call ≡ Some f.mine
  own_beside name call f e = sym (stood_history name call) ∙ (stood_value name call f e).mine

  -- where it has posted no free none of its results is one
  pub stood_unfreed : (name : Name) → freed_on (node_at setup me journal) name ≡ false → (n : ℕ) → is_past_free (results_on (node_at setup me journal) name) n ≡ false
  stood_unfreed name unfreed n = unfreed_last (posts_on name ((process_at setup me journal).made)) (results_on (node_at setup me journal) name) (sym (stood_good.closed name) ∙ unfreed) (own_beside name) n
