-- Histories that begin a plan.
use Rattle.std.proofs.Common.{◌≡◌, ℕ, List, [], ◌∷◌, ◌++◌, length, take, Some, true, slice_get, refl, sym, ap, ◌∙◌, subst, append_assoc}
use Rattle.std.proofs.lemmas.List.{append-nil}
use Rattle.std.specs.Option.{option_map}
use mathlib.Core.List.{IsPrefix}
use Rattle.mpx_name.specs.Name.{Name}
use Rattle.mpx_birth.specs.Births.{BirthView}
use Rattle.mpx_post.specs.Posts.{Given}
use Rattle.mpx_value.specs.Histories.{Grows, answer_with, birth_of, outcome_of, outcomes_by, posts_on, row_of, value_for}
use Rattle.mpx_value.proofs.Growth.{birth-grows, posts_on-append, row-grows, then_some}
use Rattle.mpx_node.specs.declared.finished.Finished.{Finished}
use Rattle.mpx_world.specs.Worlds.{WorldView, Happening, births, history}
use Rattle.mpx_world.specs.Soundness.{IsValue}
use Rattle.mpx_post.proofs.Lists.{slice_get-append}
use Rattle.mpx_world.proofs.Later.{later_goes_on}
use Rattle.mpx_bus.specs.declared.act.Setup.{Setup}
use Rattle.mpx_bus.specs.Acts.{start_of}
use Rattle.mpx_bus.specs.Rule.{BeginsPlan, world_of}
use Rattle.mpx_shared.specs.LawfulPorts.{plan_history, planned_birth}
use Rattle.mpx_shared.specs.Laws.{IsBirthByPlan, IsFinished, IsPlannedResult}

-- LISTS

-- a beginning, and what comes next
pub prefix_next : {A : Type 0} (xs ys : List A) (a : A) → IsPrefix xs ys → slice_get ys (length xs) ≡ Some a → IsPrefix (xs ++ a ∷ []) ys
prefix_next [] [] a p e = absurd (cc e)
prefix_next [] (y ∷ ys) a p e = (ys, ap (λ z. z ∷ ys) (let s : a ≡ y = cc e in s))
prefix_next (x ∷ xs) [] a p e = absurd (cc e)
prefix_next (x ∷ xs) (y ∷ ys) a p e = let r = prefix_next xs ys a (p.0, cc (p.1)) e in let same : x ≡ y = cc (p.1) in (r.0, cc (r.1, same))

take_first : {A : Type 0} (xs more : List A) → take (length xs) (xs ++ more) ≡ xs
take_first [] more = refl
take_first (x ∷ xs) more = ap (λ zs. x ∷ zs) (take_first xs more)

pub prefix_itself : {A : Type 0} (xs ys : List A) → ys ≡ xs → IsPrefix xs ys
prefix_itself xs ys e = ([], append-nil xs ∙ sym e)

pub prefix_then : {A : Type 0} (xs ys zs : List A) → IsPrefix xs ys → IsPrefix ys zs → IsPrefix xs zs
prefix_then xs ys zs p q = (p.0 ++ q.0, sym (append_assoc xs p.0 q.0) ∙ ap (λ list. list ++ q.0) p.1 ∙ q.1)

-- a beginning is the first so many
pub prefix_take : {A : Type 0} (xs ys : List A) → IsPrefix xs ys → xs ≡ take (length xs) ys
prefix_take xs ys p = sym (ap (take (length xs)) (sym p.1) ∙ take_first xs p.0)

-- THE PLAN

-- the ranks of a world by what can happen
pub ranks_of : (setup : Setup) (hs : List Happening) → (world_of setup hs).ranks ≡ setup.ranks
ranks_of setup hs = sym ((later_goes_on hs (start_of setup)).ranks)

-- its operations
pub operations_of : (setup : Setup) (hs : List Happening) → (world_of setup hs).operations ≡ setup.operations
operations_of setup hs = sym ((later_goes_on hs (start_of setup)).operations)

module _ (setup : Setup) (w : WorldView) (planned : setup.planned ≡ true) (begins : BeginsPlan setup w) (ops : w.operations ≡ setup.operations) where
  posts_grow : (name : Name) (k p : ℕ) (given : Given) → (history w).post name k p ≡ Some given → (plan_history setup).post name k p ≡ Some given
  posts_grow name k p given e =
      let b = begins planned p in
      ap (λ ms. slice_get (posts_on name ms) k) (sym b.1)
      ∙ ap (λ xs. slice_get xs k) (posts_on-append name ((w.each p).made) b.0)
      ∙ slice_get-append (posts_on name ((w.each p).made)) (posts_on name b.0) k given e

  pub plan_grows : Grows (history w) (plan_history setup)
  plan_grows = record { operations = ops; post = posts_grow }

  pub plan_births : w.ranks ≡ setup.ranks → (name : Name) (birth : BirthView) → births w name ≡ Some birth → planned_birth setup name ≡ Some birth
  plan_births ranks name birth e = birth-grows (history w) (plan_history setup) setup.ranks plan_grows name birth (subst (λ n. birth_of (history w) n name ≡ Some birth) ranks e)

  pub plan_result : w.ranks ≡ setup.ranks → (me : ℕ) (name : Name) (call : ℕ) (f : Finished) → IsValue w me name call f → IsPlannedResult setup me name call f
  plan_result ranks me name call f v =
      let h = plan_history setup in
      let row : row_of h name v.birth call ≡ Some v.row = row-grows (history w) h setup.ranks plan_grows name v.birth call v.row v.whole in
      let outcome : outcome_of h setup.ranks me name call ≡ Some f.outcome =
      then_some (λ birth. outcomes_by h name birth me call) (birth_of h setup.ranks name) v.birth f.outcome (plan_births ranks name v.birth v.born)
      (then_some (λ r. value_for setup.operations v.birth me r name call) (row_of h name v.birth call) v.row f.outcome row (ap (λ o. value_for o v.birth me v.row name call) (sym ops) ∙ v.outcome)) in
      record {
        result = ap (option_map (answer_with (birth_of h setup.ranks))) outcome;
        mine = posts_grow name call me f.mine v.mine;
      }

pub result_is_planned : (setup : Setup) (me : ℕ) (name : Name) (call : ℕ) (f : Finished) → setup.planned ≡ true → IsFinished setup me name call f → IsPlannedResult setup me name call f
result_is_planned setup me name call f planned is = plan_result setup (world_of setup is.happenings) planned is.begins (operations_of setup is.happenings) (ranks_of setup is.happenings) me name call f is.value

pub birth_is_planned : (setup : Setup) (name : Name) (birth : BirthView) → setup.planned ≡ true → IsBirthByPlan setup name birth → planned_birth setup name ≡ Some birth
birth_is_planned setup name birth planned is = plan_births setup (world_of setup is.happenings) planned is.begins (operations_of setup is.happenings) (ranks_of setup is.happenings) name birth is.born
