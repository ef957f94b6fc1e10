-- What the words of ranks are bound to, and what the lines of ranks tell, in whatever state moves reach.
use Rattle.std.proofs.Common.{◌≡◌, ℕ, zero, suc, ◌<◌, ◌≤◌, ◌==◌, ◌⊎◌, Bool, true, false, cond, List, [], ◌∷◌, ◌++◌, length, codes, Option, Some, None, refl, sym, ap, ◌∙◌, subst, inl, inr, append_assoc, arith}
use Rattle.std.specs.Prelude.{slice_get, nat_lt, if◌then◌else◌}
use Rattle.std.specs.List.{position_or_len}
use Rattle.std.specs.Str.{bytes_eq}
use Rattle.std.specs.Option.{option_map}
use Rattle.std.proofs.Math.Nat.{eq-or-lt_of_le}
use Rattle.std.proofs.lemmas.Bool.Decides.{Decides-eqb, nat_tests}
use Rattle.std.proofs.lemmas.Option.{option_and_then_some, same_Some}
use Rattle.mpx_num.specs.declared.own.Operation.{Operation}
use Rattle.mpx_name.specs.Name.{Name}
use Rattle.mpx_birth.specs.Births.{BirthView, rank_in, upto}
use Rattle.mpx_value.specs.declared.outcomes.Outcome.{Outcome}
use Rattle.mpx_value.specs.declared.outcomes.Outcome.TheVariants.{Nothing, Absent, Items, NewComm, Null, Fault}
use Rattle.mpx_value.specs.Histories.{Answer, Results, Within, answer_with, birth_of, row_of, value_for, outcome_of, outcomes_by}
use Rattle.mpx_value.specs.Values.{value}
use Rattle.mpx_value.proofs.Growth.{results-grow, birth-grows, new-born}
use Rattle.mpx_statement.specs.declared.statement.Statement.{Statement}
use Rattle.mpx_statement.specs.Statements.{bound_to}
use Rattle.mpx_statement.specs.Lookups.{named}
use Rattle.mpx_meaning.specs.Ranks.{Bindings, Bound, Communicator, NullCommunicator, Told, Local, bind, bound_by, next, step}
use Rattle.mpx_meaning.specs.Evaluation.{State, start_state, bound_at_start, world_of, history, known, move, moves, statements_of, IsReached, IsPrefixOf}
use Rattle.mpx_meaning.specs.Told.{Passes, none, CarriesOut, IsToldOf, IsMemberOf}
use Rattle.mpx_meaning.proofs.Fronts.{prefix_itself, history-grows}
use Rattle.mpx_meaning.proofs.Steps.{step_cases, step-keeps}
use Rattle.mpx_meaning.proofs.Ways.{step_by-adds}
use Rattle.mpx_meaning.proofs.Passing.{carries_out-grows, step-carries_out, carried_out-tell, carried_out-all}
use Rattle.mpx_meaning.proofs.Ahead.{goes_on_cases}

-- BINDINGS

-- an entry more behind the others
stays_by : (t : Bool) (x b : Bound) (before after : Option Bound) → (if t then Some x else before) ≡ Some b → (before ≡ Some b → after ≡ Some b) → (if t then Some x else after) ≡ Some b
stays_by true x b before after e f = e
stays_by false x b before after e f = f e

stays_behind : (xs : Bindings) (entry : List ℕ × Bound) (word : List ℕ) (b : Bound) → named xs word ≡ Some b → named (xs ++ entry ∷ []) word ≡ Some b
stays_behind [] entry word b e = cc e
stays_behind (x ∷ xs) entry word b e = stays_by (bytes_eq word x.0) x.1 b (named xs word) (named (xs ++ entry ∷ []) word) e (stays_behind xs entry word b)

-- a word that was bound stays so
pub named-stays : (bound : Bindings) (target : Option (List ℕ)) (to : Bound) (word : List ℕ) (b : Bound) → named bound word ≡ Some b → named (bind target to bound) word ≡ Some b
named-stays bound None to word b e = e
named-stays bound (Some new) to word b e = stays_behind bound (new, to) word b e

last_by : (t : Bool) (to b : Bound) → (if t then Some to else None) ≡ Some b → to ≡ b
last_by true to b e = same_Some to b e
last_by false to b e = cc e

found_by : (t : Bool) (x to b : Bound) (before after : Option Bound) → (if t then Some x else after) ≡ Some b → (after ≡ Some b → (before ≡ Some b) ⊎ (to ≡ b)) → ((if t then Some x else before) ≡ Some b) ⊎ (to ≡ b)
found_by true x to b before after e f = inl e
found_by false x to b before after e f = f e

found_behind : (xs : Bindings) (entry : List ℕ × Bound) (word : List ℕ) (b : Bound) → named (xs ++ entry ∷ []) word ≡ Some b → (named xs word ≡ Some b) ⊎ (entry.1 ≡ b)
found_behind [] entry word b e = inr (last_by (bytes_eq word entry.0) entry.1 b e)
found_behind (x ∷ xs) entry word b e = found_by (bytes_eq word x.0) x.1 entry.1 b (named xs word) (named (xs ++ entry ∷ []) word) e (found_behind xs entry word b)

-- and what one is bound to it was bound to before, or it is the new one
pub named-bound : (bound : Bindings) (target : Option (List ℕ)) (to : Bound) (word : List ℕ) (b : Bound) → named (bind target to bound) word ≡ Some b → (named bound word ≡ Some b) ⊎ (to ≡ b)
named-bound bound None to word b e = inl e
named-bound bound (Some new) to word b e = found_behind bound (new, to) word b e

-- a call that binds a word to a communicator gave that one
pub record IsGivenBy (outcome : Outcome) (born : Option BirthView) (name : Name) (birth : BirthView) : Type 0 where
  pub size : ℕ
  pub rank : ℕ
  pub is : outcome ≡ NewComm name size rank
  pub born_so : born ≡ Some birth

pub given_by : (outcome : Outcome) (born : Option BirthView) (name : Name) (birth : BirthView) → bound_by outcome born ≡ Communicator name birth → IsGivenBy outcome born name birth
given_by Nothing born name birth e = cc e
given_by Absent born name birth e = cc e
given_by (Items items) born name birth e = cc e
given_by (NewComm new size rank) None name birth e = cc e
given_by (NewComm new size rank) (Some b) name birth e = record { size = size; rank = rank; is = let same : new ≡ name = cc e in ap (λ n. NewComm n size rank) same; born_so = let same : b ≡ birth = cc e in ap Some same }
given_by Null born name birth e = cc e
given_by (Fault fault) born name birth e = cc e

pub mapped_some : {A B : Type 0} (f : A → B) (o : Option A) (y : B) → option_map f o ≡ Some y → (x : A) × (o ≡ Some x) × (f x ≡ y)
mapped_some f None y e = cc e
mapped_some f (Some x) y e = (x, refl, same_Some (f x) y e)

-- its birth is known; and a rank of the script is one of its members
pub record IsThere (ops : List Operation) (ranks : ℕ) (s : State) (process : ℕ) (name : Name) (birth : BirthView) : Type 0 where
  pub born : birth_of (history ops s) ranks name ≡ Some birth
  pub member : process < ranks → (rank : ℕ) × (rank_in process birth.members ≡ Some rank)

-- each word that is bound to a communicator
abbrev pub AreThere : List Operation → ℕ → State → ℕ → Bindings → Type 0
AreThere ops ranks s p bound = (word : List ℕ) (name : Name) (birth : BirthView) → named bound word ≡ Some (Communicator name birth) → IsThere ops ranks s p name birth

module _ (ops : List Operation) (ranks : ℕ) (s : State) (p : ℕ) where
  told_there : (from : Name) (call : ℕ) (answer : Answer) → known ops ranks s p from call ≡ Some answer → (name : Name) (birth : BirthView) → bound_by answer.outcome answer.born ≡ Communicator name birth → IsThere ops ranks s p name birth
  told_there from call answer e name birth f =
      let births = birth_of (history ops s) ranks in
      let found = mapped_some (answer_with births) (outcome_of (history ops s) ranks p from call) answer e in
      let given = given_by answer.outcome answer.born name birth f in
      let is : found.0 ≡ NewComm name given.size given.rank = ap (λ (a : Answer). a.outcome) found.2 ∙ given.is in
      let born : births name ≡ Some birth = ap (λ o. (answer_with births o).born) (sym is) ∙ ap (λ (a : Answer). a.born) found.2 ∙ given.born_so in
      let b = new-born (history ops s) ranks p from call name given.size given.rank (found.1 ∙ ap Some is) in
      record {
        born = born;
        member = λ l. (given.rank, ap (λ (v : BirthView). rank_in p v.members) (same_Some birth b.birth (sym born ∙ b.born)) ∙ b.member);
      }

  bound_there : (bound : Bindings) (target : Option (List ℕ)) (to : Bound) → AreThere ops ranks s p bound → ((name : Name) (birth : BirthView) → to ≡ Communicator name birth → IsThere ops ranks s p name birth) → AreThere ops ranks s p (bind target to bound)
  bound_there bound target to before new word name birth e = elim (named-bound bound target to word (Communicator name birth) e) [ inl old ↦ before word name birth old | inr is ↦ new name birth is ]

  -- a rank that stands somewhere makes a step by these answers
  pub step_there : (here : Local) → AreThere ops ranks s p here.bound → (t : Local) → step ops (known ops ranks s p) here ≡ Some t → AreThere ops ranks s p t.bound
  step_there here before t e = step_cases ops (known ops ranks s p) here (λ u. AreThere ops ranks s p u.bound)
      (λ x rest m todo b f. before)
      (λ x rest word m todo b f. before)
      (λ x rest refusal todo f. bound_there here.bound (bound_to x) NullCommunicator before (λ name birth is. cc is))
      (λ words rest told todo f. before)
      (λ question rest todo. before)
      (λ from call target rest answer todo f. bound_there here.bound target (bound_by answer.outcome answer.born) before (told_there from call answer f))
      t e

-- what is in a list has a place in it
next_by : (p : ℕ → Bool) (x : ℕ) (xs : List ℕ) (b : Bool) → p x ≡ b → position_or_len p xs < length xs → position_or_len p (x ∷ xs) < length (x ∷ xs)
next_by p x xs true t l = rw t (omega arith)
next_by p x xs false t l = rw t (omega (arith, l))

found_in : (p : ℕ → Bool) (xs ys : List ℕ) (y : ℕ) → p y ≡ true → position_or_len p (xs ++ y ∷ ys) < length (xs ++ y ∷ ys)
found_in p [] ys y e = rw e (omega arith)
found_in p (x ∷ xs) ys y e = next_by p x (xs ++ y ∷ ys) (p x) refl (found_in p xs ys y e)

upto_has : (n q : ℕ) → q < n → (xs ys : List ℕ) × (upto n ≡ xs ++ q ∷ ys)
upto_has zero q l = absurd (omega (arith, l))
upto_has (suc n) q l =
    let below : q ≤ n = omega (arith, l) in
    elim (eq-or-lt_of_le below) [
      | inl here ↦ (upto n, [], ap (λ k. upto n ++ k ∷ []) (sym here))
      | inr before ↦ let found = upto_has n q before in (found.0, found.1 ++ n ∷ [], ap (λ xs. xs ++ n ∷ []) found.2 ∙ append_assoc found.0 (q ∷ found.1) (n ∷ []))
    ]

upto_there : (n p : ℕ) → p < n → (rank : ℕ) × (rank_in p (upto n) ≡ Some rank)
upto_there n p l =
    let has = upto_has n p l in
    let within : position_or_len (λ q. q == p) (upto n) < length (upto n) = subst (λ xs. position_or_len (λ q. q == p) xs < length xs) (sym has.2) (found_in (λ q. q == p) has.0 has.1 p ((Decides-eqb p p).1 refl)) in
    let yes : nat_lt (position_or_len (λ q. q == p) (upto n)) (length (upto n)) ≡ true = grind (arith, nat_tests, within) in
    (position_or_len (λ q. q == p) (upto n), ap (λ b. cond b (Some (position_or_len (λ q. q == p) (upto n))) None) yes)

-- STATES

-- it holds of all ranks
pub record AllCarryOut (ops : List Operation) (script : List (List Statement)) (ranks : ℕ) (s : State) : Type 0 where
  pub each : (p : ℕ) → CarriesOut ops (known ops ranks s p) (bound_at_start ranks) (statements_of script p) (s p)
  pub me : (p : ℕ) → (s p).me ≡ p
  pub world : (p : ℕ) → named (s p).bound (codes "world") ≡ named (bound_at_start ranks) (codes "world")
  pub bound : (p : ℕ) → AreThere ops ranks s p (s p).bound

move-adds : (ops : List Operation) (ranks : ℕ) (s : State) (p q : ℕ) → IsPrefixOf (s q).made (move ops ranks s p q).made
move-adds ops ranks s p = goes_on_cases ops (λ q t. IsPrefixOf (s q).made t.made) s p (known ops ranks s p) (λ q. prefix_itself (s q).made) (λ t e. (step_by-adds (known ops ranks s p) (s p) (next ops (s p)) t e).0)

move-within : (ops : List Operation) (ranks : ℕ) (s : State) (p me : ℕ) → Within (known ops ranks s me) (known ops ranks (move ops ranks s p) me)
move-within ops ranks s p me = results-grow (history ops s) (history ops (move ops ranks s p)) ranks (history-grows ops s (move ops ranks s p) (move-adds ops ranks s p)) me

moved_there : (ops : List Operation) (ranks : ℕ) (s : State) (p q : ℕ) (bound : Bindings) → AreThere ops ranks s q bound → AreThere ops ranks (move ops ranks s p) q bound
moved_there ops ranks s p q bound h word name birth e =
    let there = h word name birth e in
    record { born = birth-grows (history ops s) (history ops (move ops ranks s p)) ranks (history-grows ops s (move ops ranks s p) (move-adds ops ranks s p)) name birth there.born; member = there.member }

step_world : (ops : List Operation) (r : Results) (s : Local) (b : Bound) → named s.bound (codes "world") ≡ Some b → (t : Local) → step ops r s ≡ Some t → named t.bound (codes "world") ≡ Some b
step_world ops r s b h t e = step_cases ops r s (λ u. named u.bound (codes "world") ≡ Some b)
    (λ x rest m todo f g. h)
    (λ x rest word m todo f g. h)
    (λ x rest refusal todo f. named-stays s.bound (bound_to x) NullCommunicator (codes "world") b h)
    (λ words rest told todo f. h)
    (λ question rest todo. h)
    (λ from call target rest answer todo f. named-stays s.bound target (bound_by answer.outcome answer.born) (codes "world") b h)
    t e

moved-carry_out : (ops : List Operation) (script : List (List Statement)) (ranks : ℕ) (order : List ℕ) (s : State) → AllCarryOut ops script ranks s → AllCarryOut ops script ranks (moves ops ranks order s)
moved-carry_out ops script ranks [] s h = h
moved-carry_out ops script ranks (p ∷ order) s h = moved-carry_out ops script ranks order (move ops ranks s p) (record {
  each = λ q. carries_out-grows ops (known ops ranks s q) (known ops ranks (move ops ranks s p) q) (move-within ops ranks s p q) (bound_at_start ranks) (statements_of script q) (move ops ranks s p q)
      (goes_on_cases ops (λ j t. CarriesOut ops (known ops ranks s j) (bound_at_start ranks) (statements_of script j) t) s p (known ops ranks s p) h.each (λ t e. step-carries_out ops (known ops ranks s p) (bound_at_start ranks) (statements_of script p) (s p) t (h.each p) e) q);
  me = goes_on_cases ops (λ j t. t.me ≡ j) s p (known ops ranks s p) h.me (λ t e. step-keeps ops (known ops ranks s p) (s p) t e ∙ h.me p);
  world = goes_on_cases ops (λ j t. named t.bound (codes "world") ≡ named (bound_at_start ranks) (codes "world")) s p (known ops ranks s p) h.world (λ t e. step_world ops (known ops ranks s p) (s p) _ (h.world p) t e);
  bound = λ q. moved_there ops ranks s p q (move ops ranks s p q).bound (goes_on_cases ops (λ j t. AreThere ops ranks s j t.bound) s p (known ops ranks s p) h.bound (λ t e. step_there ops ranks s p (s p) (h.bound p) t e) q);
})

-- in any state
pub start-there : (ops : List Operation) (ranks : ℕ) (s : State) (p : ℕ) → AreThere ops ranks s p (bound_at_start ranks)
start-there ops ranks s p word name birth e = by_test (bytes_eq word (codes "world")) e where
  by_test : (t : Bool) → (if t then Some (Communicator [] (world_of ranks)) else None) ≡ Some (Communicator name birth) → IsThere ops ranks s p name birth
  by_test true f =
      let no_steps : [] ≡ name = cc f in
      let same : world_of ranks ≡ birth = cc f in
      record {
        born = ap (birth_of (history ops s) ranks) (sym no_steps) ∙ ap Some same;
        member = λ l. let found = upto_there ranks p l in (found.0, ap (λ (v : BirthView). rank_in p v.members) (sym same) ∙ found.1);
      }
  by_test false f = cc f

start-carry_out : (ops : List Operation) (script : List (List Statement)) (ranks : ℕ) → AllCarryOut ops script ranks (start_state script ranks)
start-carry_out ops script ranks = record {
  each = λ p. inl (record { passed = []; left = statements_of script p; all = refl; todo = refl; passes = none });
  me = λ p. refl;
  world = λ p. refl;
  bound = start-there ops ranks (start_state script ranks);
}

pub reached-carry_out : (ops : List Operation) (script : List (List Statement)) (ranks : ℕ) (s : State) → IsReached ops script ranks s → AllCarryOut ops script ranks s
reached-carry_out ops script ranks s r = subst (AllCarryOut ops script ranks) r.reached (moved-carry_out ops script ranks r.order (start_state script ranks) (start-carry_out ops script ranks))

-- WHAT THEY TELL

module _ (ops : List Operation) (script : List (List Statement)) (ranks : ℕ) (s : State) (reached : IsReached ops script ranks s) (p : ℕ) where
  pub each-carries_out : CarriesOut ops (known ops ranks s p) (bound_at_start ranks) (statements_of script p) (s p)
  each-carries_out = (reached-carry_out ops script ranks s reached).each p

  pub each-me : (s p).me ≡ p
  each-me = (reached-carry_out ops script ranks s reached).me p

  pub each-world : named (s p).bound (codes "world") ≡ Some (Communicator [] (world_of ranks))
  each-world = (reached-carry_out ops script ranks s reached).world p

  pub each-bound : p < ranks → (word : List ℕ) (name : Name) (birth : BirthView) → named (s p).bound word ≡ Some (Communicator name birth) → IsMemberOf ops ranks s p name birth
  each-bound l word name birth e =
      let there = (reached-carry_out ops script ranks s reached).bound p word name birth e in
      record { born = there.born; rank = (there.member l).0; member = (there.member l).1 }

  pub each-all : (s p).todo ≡ [] → Passes ops (known ops ranks s p) p (bound_at_start ranks) [] [] (statements_of script p) (s p).bound (s p).requests (s p).made (s p).lines
  each-all e =
      subst (λ me. Passes ops (known ops ranks s p) me (bound_at_start ranks) [] [] (statements_of script p) (s p).bound (s p).requests (s p).made (s p).lines) each-me
      (carried_out-all ops (known ops ranks s p) (bound_at_start ranks) (statements_of script p) (s p) each-carries_out e)

  pub lines_tell : (i : ℕ) (name : Name) (call : ℕ) (outcome : Outcome) → slice_get (s p).lines i ≡ Some (Told name call outcome) → IsToldOf ops ranks s p name call outcome
  lines_tell i name call outcome e =
      let tells = carried_out-tell ops (known ops ranks s p) (bound_at_start ranks) (statements_of script p) (s p) each-carries_out i name call outcome e in
      let found = mapped_some (answer_with (birth_of (history ops s) ranks)) (outcome_of (history ops s) ranks p name call) tells.answer tells.known_as in
      let given : outcome_of (history ops s) ranks p name call ≡ Some outcome = found.1 ∙ ap Some (ap (λ (a : Answer). a.outcome) found.2 ∙ tells.is) in
      option_and_then_some (λ birth. outcomes_by (history ops s) name birth p call) (birth_of (history ops s) ranks name) outcome given (λ birth born f.
      option_and_then_some (λ row. value_for ops birth p row name call) (row_of (history ops s) name birth call) outcome f (λ row whole g.
      option_and_then_some (λ rank. Some (value ops birth row name call rank)) (rank_in p birth.members) outcome g (λ rank member is.
      record { birth = birth; born = born; row = row; whole = whole; rank = rank; member = member; is = sym (same_Some (value ops birth row name call rank) outcome is) })))
