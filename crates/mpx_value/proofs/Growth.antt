-- What was posted stays, and so do births, whole rows and what they give.
use Rattle.std.proofs.Common.{◌≡◌, ℕ, Bool, true, false, cond, List, [], ◌∷◌, ◌++◌, length, Option, Some, None, refl, sym, ap, ◌∙◌}
use Rattle.std.specs.Prelude.{option_and_then}
use Rattle.std.specs.Option.{option_map}
use Rattle.std.proofs.lemmas.Option.{option_and_then_some}
use Rattle.mpx_name.specs.declared.steps.Step.TheVariants.{Child, Gathering}
use Rattle.mpx_name.specs.Name.{Name, same_name}
use Rattle.mpx_post.specs.Posts.{Given}
use Rattle.mpx_birth.specs.Births.{BirthView, rank_in}
use Rattle.mpx_post.specs.Rows.{RowView, all_of}
use Rattle.mpx_value.specs.declared.outcomes.Outcome.{Outcome}
use Rattle.mpx_value.specs.declared.outcomes.Outcome.TheVariants.{Nothing, Absent, Items, NewComm, Null, Fault}
use Rattle.mpx_value.specs.Children.{child}
use Rattle.mpx_value.specs.Histories.{Made, posts_on, History, Grows, row_of, child_of, gathered, birth_of, Within, value_for, outcomes_by, outcome_of, answer_with, results_of}
use Rattle.mpx_value.proofs.NewCommunicators.{children_exact, new_communicator}

-- POSTS

by_test : (b : Bool) (x : Given) (xs ys zs : List Given) → zs ≡ xs ++ ys → cond b (x ∷ zs) zs ≡ cond b (x ∷ xs) xs ++ ys
by_test true x xs ys zs e = ap (λ l. x ∷ l) e
by_test false x xs ys zs e = e

-- further posts come behind those that were made
pub posts_on-append : (name : Name) (ms more : List Made) → posts_on name (ms ++ more) ≡ posts_on name ms ++ posts_on name more
posts_on-append name [] more = refl
posts_on-append name (m ∷ ms) more = by_test (same_name name m.name) m.given (posts_on name ms) (posts_on name more) (posts_on name (ms ++ more)) (posts_on-append name ms more)

-- ROWS

-- where the first part has an answer, the rest goes by that
pub then_some : {A B : Type 0} (f : A → Option B) (o : Option A) (x : A) (y : B) → o ≡ Some x → f x ≡ Some y → option_and_then f o ≡ Some y
then_some f o x y e g = ap (option_and_then f) e ∙ g

pub all_of-grows : {A B : Type 0} (f g : B → Option A) → ((p : B) (x : A) → f p ≡ Some x → g p ≡ Some x) → (ps : List B) (xs : List A) → all_of f ps ≡ Some xs → all_of g ps ≡ Some xs
all_of-grows f g grows [] xs h = h
all_of-grows f g grows (p ∷ ps) xs h =
    option_and_then_some _ (f p) xs h (λ x e r.
    option_and_then_some _ (all_of f ps) xs r (λ ys es s.
    then_some _ (g p) x xs (grows p x e) (then_some _ (all_of g ps) ys xs (all_of-grows f g grows ps ys es) s)))

module _ (h later : History) (ranks : ℕ) (grows : Grows h later) where
  pub row-grows : (name : Name) (birth : BirthView) (k : ℕ) (row : RowView) → row_of h name birth k ≡ Some row → row_of later name birth k ≡ Some row
  row-grows name birth k row e = all_of-grows (h.post name k) (later.post name k) (grows.post name k) birth.members row e

  -- what was born stays so
  pub birth-grows : (name : Name) (birth : BirthView) → birth_of h ranks name ≡ Some birth → birth_of later ranks name ≡ Some birth
  birth-grows [] birth e = e
  birth-grows (Child call colour ∷ parent) birth e =
      option_and_then_some (child_of h parent call colour) (birth_of h ranks parent) birth e (λ b eb r.
      then_some (child_of later parent call colour) (birth_of later ranks parent) b birth (birth-grows parent b eb)
      (option_and_then_some (λ row. child h.operations b row parent call colour) (row_of h parent b call) birth r (λ row er s.
      then_some (λ x. child later.operations b x parent call colour) (row_of later parent b call) row birth (row-grows parent b call row er) (ap (λ o. child o b row parent call colour) (sym grows.operations) ∙ s))))
  birth-grows (Gathering tag members ∷ parent) birth e =
      option_and_then_some (gathered members) (birth_of h ranks parent) birth e (λ b eb r.
      then_some (gathered members) (birth_of later ranks parent) b birth (birth-grows parent b eb) r)

  -- who sees a longer history sees more rows whole, and no other values
  pub outcomes-grow : (me : ℕ) (name : Name) (k : ℕ) (outcome : Outcome) → outcome_of h ranks me name k ≡ Some outcome → outcome_of later ranks me name k ≡ Some outcome
  outcomes-grow me name k outcome e =
      option_and_then_some (λ birth. outcomes_by h name birth me k) (birth_of h ranks name) outcome e (λ birth eb r.
      then_some (λ b. outcomes_by later name b me k) (birth_of later ranks name) birth outcome (birth-grows name birth eb)
      (option_and_then_some (λ row. value_for h.operations birth me row name k) (row_of h name birth k) outcome r (λ row er s.
      then_some (λ row. value_for later.operations birth me row name k) (row_of later name birth k) row outcome (row-grows name birth k row er) (ap (λ o. value_for o birth me row name k) (sym grows.operations) ∙ s))))

-- a communicator that the history has given a process: its birth is known there, and has the process
pub record IsBornWith (births : Name → Option BirthView) (me : ℕ) (name : Name) (size rank : ℕ) : Type 0 where
  pub birth : BirthView
  pub born : births name ≡ Some birth
  pub counted : size ≡ length birth.members
  pub member : rank_in me birth.members ≡ Some rank

pub new-born : (h : History) (ranks me : ℕ) (name : Name) (k : ℕ) (new : Name) (size rank : ℕ) → outcome_of h ranks me name k ≡ Some (NewComm new size rank) → IsBornWith (birth_of h ranks) me new size rank
new-born h ranks me name k new size rank e =
    option_and_then_some (λ birth. outcomes_by h name birth me k) (birth_of h ranks name) (NewComm new size rank) e (λ birth eb r.
    option_and_then_some (λ row. value_for h.operations birth me row name k) (row_of h name birth k) (NewComm new size rank) r (λ row er s.
    let i = new_communicator h.operations birth me row name k new size rank s in
    record {
      birth = i.child.birth;
      born = ap (birth_of h ranks) i.named
          ∙ then_some (child_of h name k i.child.colour) (birth_of h ranks name) birth i.child.birth eb
          (then_some (λ x. child h.operations birth x name k i.child.colour) (row_of h name birth k) row i.child.birth er (children_exact h.operations birth row name k i.place i.child i.among));
      counted = i.counted;
      member = i.member;
    }))

module _ (h later : History) (ranks : ℕ) (grows : Grows h later) where
  -- what an outcome names stays born
  same-answer : (outcome : Outcome) → ((new : Name) (size rank : ℕ) → outcome ≡ NewComm new size rank → (birth : BirthView) × (birth_of h ranks new ≡ Some birth)) → answer_with (birth_of later ranks) outcome ≡ answer_with (birth_of h ranks) outcome
  same-answer Nothing born = refl
  same-answer Absent born = refl
  same-answer (Items items) born = refl
  same-answer (NewComm new size rank) born =
      let b = born new size rank refl in
      λ i. record { outcome = NewComm new size rank; born = (birth-grows h later ranks grows new b.0 b.1 ∙ sym b.1) i }
  same-answer Null born = refl
  same-answer (Fault fault) born = refl

  pub results-grow : (me : ℕ) → Within (results_of h ranks me) (results_of later ranks me)
  results-grow me name k answer e = by_outcome (outcome_of h ranks me name k) refl e where
    by_outcome : (o : Option Outcome) → outcome_of h ranks me name k ≡ o → option_map (answer_with (birth_of h ranks)) o ≡ Some answer → results_of later ranks me name k ≡ Some answer
    by_outcome None f g = cc g
    by_outcome (Some outcome) f g =
        ap (option_map (answer_with (birth_of later ranks))) (outcomes-grow h later ranks grows me name k outcome f)
        ∙ ap Some (same-answer outcome (λ new size rank is. let b = new-born h ranks me name k new size rank (f ∙ ap Some is) in (b.birth, b.born)))
        ∙ g
