-- Waits for requests, by the outcomes that are told of their calls.
use Rattle.std.proofs.Common.{◌≡◌, ℕ, zero, suc, ◌<◌, Bool, true, false, cond, List, [], ◌∷◌, ◌++◌, length, get_or, Option, Some, None, refl, sym, ap, ◌∙◌, arith}
use Rattle.std.specs.Prelude.{◌&&◌, is_some, slice_get}
use Rattle.std.proofs.lemmas.Option.{same_Some}
use Rattle.std.specs.Str.{bytes_eq}
use Rattle.mpx_name.specs.Name.{Name}
use Rattle.mpx_value.specs.declared.outcomes.Outcome.{Outcome}
use Rattle.mpx_meaning.specs.declared.line.Line.TheVariants.{Told}
use Rattle.mpx_meaning.specs.Standing.{closed}
use Rattle.mpx_rank.specs.Carriers.{IsToldWithin, Outcomes, Terms, is_told}
use Rattle.mpx_rank.specs.Waits.{WasNotDone}
use Rattle.mpx_rank.specs.Moves.{are_done, is_done, request_line, told_line, wait_lines}

-- a request, where it is open
abbrev Open : Type 0
Open = List ℕ → Option (Name × ℕ)

pub both_true : (a b : Bool) → (a && b) ≡ true → (a ≡ true) × (b ≡ true)
both_true true b e = (refl, e)
both_true false b e = cc e

together : (a b : Bool) → a ≡ true → b ≡ true → (a && b) ≡ true
together a b e f = λ i. e i && f i

-- ALL DONE

module _ (told : Outcomes) where
  done_closed : (b : Bool) (o : Option (Name × ℕ)) → is_done told o ≡ true → is_done told (cond b None o) ≡ true
  done_closed true o e = refl
  done_closed false o e = e

  -- fewer open requests are done too
  done_less : (word : List ℕ) (requests : Open) (words : List (List ℕ)) → are_done told requests words ≡ true → are_done told (closed word requests) words ≡ true
  done_less word requests [] h = refl
  done_less word requests (x ∷ xs) h =
      let parts = both_true (is_done told (requests x)) (are_done told requests xs) h in
      together (is_done told (closed word requests x)) (are_done told (closed word requests) xs) (done_closed (bytes_eq word x) (requests x) parts.0) (done_less word requests xs parts.1)

  pub done_first : (requests : Open) (word : List ℕ) (words : List (List ℕ)) → are_done told requests (word ∷ words) ≡ true → (is_done told (requests word) ≡ true) × (are_done told (closed word requests) words ≡ true)
  done_first requests word words h =
      let parts = both_true (is_done told (requests word)) (are_done told requests words) h in
      (parts.0, done_less word requests words parts.1)

  -- one word more
  pub done_last : (requests : Open) (words : List (List ℕ)) (word : List ℕ) → are_done told requests words ≡ true → is_done told (requests word) ≡ true → are_done told requests (words ++ word ∷ []) ≡ true
  done_last requests [] word h e = together (is_done told (requests word)) true e refl
  done_last requests (x ∷ xs) word h e =
      let parts = both_true (is_done told (requests x)) (are_done told requests xs) h in
      together (is_done told (requests x)) (are_done told requests (xs ++ word ∷ [])) parts.0 (done_last requests xs word parts.1 e)

  not_both : (a b : Bool) → b ≡ false → (a && b) ≡ false
  not_both true b e = e
  not_both false b e = refl

  -- one that isn't done
  pub one_not_done : (requests : Open) (words : List (List ℕ)) (i : ℕ) (word : List ℕ) → i < length words → word ≡ get_or words i word → is_done told (requests word) ≡ false → are_done told requests words ≡ false
  one_not_done requests [] i word l e n = absurd (omega (arith, l))
  one_not_done requests (x ∷ xs) zero word l e n = ap (λ b. b && are_done told requests xs) (ap (λ w. is_done told (requests w)) (sym e) ∙ n)
  one_not_done requests (x ∷ xs) (suc i) word l e n = not_both (is_done told (requests x)) (are_done told requests xs) (one_not_done requests xs i word (omega (arith, l)) e n)

-- WHAT STAYS TOLD

there : (o : Option Outcome) → is_some o ≡ true → (outcome : Outcome) × (o ≡ Some outcome)
there None e = cc e
there (Some outcome) e = (outcome, refl)

module _ (a b : Outcomes) (within : IsToldWithin a b) where
  told_both : (place : Name × ℕ) → is_told a place ≡ true → (outcome : Outcome) × (a place.0 place.1 ≡ Some outcome) × (b place.0 place.1 ≡ Some outcome)
  told_both place h = let found = there (a place.0 place.1) h in (found.0, found.1, within place.0 place.1 found.0 found.1)

  pub done_later : (o : Option (Name × ℕ)) → is_done a o ≡ true → is_done b o ≡ true
  done_later None h = refl
  done_later (Some place) h = ap is_some (told_both place h).2

  pub all_done_later : (requests : Open) (words : List (List ℕ)) → are_done a requests words ≡ true → are_done b requests words ≡ true
  all_done_later requests [] h = refl
  all_done_later requests (word ∷ words) h =
      let parts = both_true (is_done a (requests word)) (are_done a requests words) h in
      together (is_done b (requests word)) (are_done b requests words) (done_later (requests word) parts.0) (all_done_later requests words parts.1)

  pub line_later : (o : Option (Name × ℕ)) → is_done a o ≡ true → request_line b o ≡ request_line a o
  line_later None h = refl
  line_later (Some place) h = let x = told_both place h in ap (told_line place.0 place.1) (x.2 ∙ sym x.1)

  pub lines_later : (requests : Open) (words : List (List ℕ)) → are_done a requests words ≡ true → wait_lines b requests words ≡ wait_lines a requests words
  lines_later requests [] h = refl
  lines_later requests (word ∷ words) h =
      let parts = done_first a requests word words h in
      λ i. line_later (requests word) parts.0 i ∷ lines_later (closed word requests) words parts.1 i

-- the lines of a wait tell what is told
module _ (told : Outcomes) (name : Name) (call : ℕ) (outcome : Outcome) where
  call_line : (place : Name × ℕ) (o : Option Outcome) → told place.0 place.1 ≡ o → told_line place.0 place.1 o ≡ Told name call outcome → told name call ≡ Some outcome
  call_line place None is e = cc e
  call_line place (Some x) is e = cc (e, is)

  open_line : (o : Option (Name × ℕ)) → request_line told o ≡ Told name call outcome → told name call ≡ Some outcome
  open_line None e = cc e
  open_line (Some place) e = call_line place (told place.0 place.1) refl e

  pub wait_tells : (requests : Open) (words : List (List ℕ)) (i : ℕ) → slice_get (wait_lines told requests words) i ≡ Some (Told name call outcome) → told name call ≡ Some outcome
  wait_tells requests [] i e = cc e
  wait_tells requests (word ∷ words) zero e = open_line (requests word) (same_Some (request_line told (requests word)) (Told name call outcome) e)
  wait_tells requests (word ∷ words) (suc i) e = wait_tells (closed word requests) words i e

-- A MOMENT

-- where not all were done before, or this one isn't now, there is a moment at which not all are
pub was_not_done : {C K : Type 0} (terms : Terms C K) (itself : (c : C) → terms.hears c c) (more : (a b c : C) → terms.hears a b → terms.hears b c → terms.hears a c) (me : ℕ) (requests : Open) (words : List (List ℕ)) (first before now : C)
    → terms.hears first before → terms.hears before now → (i : ℕ) (word : List ℕ) → i < length words → word ≡ get_or words i word → (all done : Bool) → done ≡ is_done (terms.tells now me) (requests word)
    → (all ≡ false → WasNotDone terms me requests words first before) → (all && done) ≡ false → WasNotDone terms me requests words first now
was_not_done terms itself more me requests words first before now h k i word l e false done is old f =
    let was = old refl in
    record { moment = was.moment; after = was.after; before = more was.moment before now was.before k; not_done = was.not_done }
was_not_done terms itself more me requests words first before now h k i word l e true done is old f =
    record { moment = now; after = more first before now h k; before = itself now; not_done = one_not_done (terms.tells now me) requests words i word l e (sym is ∙ f) }
