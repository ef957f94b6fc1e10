-- Words that a map binds, and waits for requests.
use Rattle.std.proofs.Common.{◌≡◌, ℕ, Bool, true, false, cond, List, [], ◌∷◌, Option, Some, None, refl, sym, ap, ◌∙◌}
use Rattle.std.specs.Prelude.{◌&&◌, is_some, bytes_eq, option_and_then}
use Rattle.std.specs.List.{list_all}
use Rattle.std.specs.Option.{option_map}
use Rattle.std.proofs.lemmas.Option.{option_and_then_some, same_Some}
use Rattle.mpx_num.specs.declared.own.Operation.{Operation}
use Rattle.mpx_name.specs.Name.{Name}
use Rattle.mpx_value.specs.Histories.{Answer, Made, Results, has_freed}
use Rattle.mpx_statement.specs.declared.statement.Posting.{Posting}
use Rattle.mpx_statement.specs.Lookups.{named}
use Rattle.mpx_meaning.specs.declared.asking.Found.{Found}
use Rattle.mpx_meaning.specs.declared.asking.Found.TheVariants as W
use Rattle.mpx_meaning.specs.declared.line.Line.TheVariants.{Idle}
use Rattle.mpx_meaning.specs.Ranks.{Bindings, Bound, Communicator, NullCommunicator, Requests, answers, attempt_on, awaited_by, awaited_then, bind, communicator_of, found_as, found_of, line_then, open_or_null, waited_lines, without}
use Rattle.mpx_meaning.specs.Standing.{binds, closed}
use Rattle.mpx_meaning.proofs.Standing.{binds_seen, named_behind, named_without, same_word}
use Rattle.mpx_rank.specs.Carriers.{outcomes_of}
use Rattle.mpx_rank.specs.Moves.{are_done, communicator_in, found_in, is_done, request_line, told_line, wait_lines}
use Rattle.mpx_rank.specs.Places.{CommunicatorView, attempt_by, bound_as}
use Rattle.mpx_post.proofs.Lists.{is_some-all_of}

-- WORDS

-- what a word is bound to
pub bound_behind : (target : Option (List ℕ)) (to : Option CommunicatorView) (bound : List ℕ → Option (Option CommunicatorView)) (xs : Bindings) → ((word : List ℕ) → option_map bound_as (bound word) ≡ named xs word) → (word : List ℕ) → option_map bound_as (binds target to bound word) ≡ named (bind target (bound_as to) xs) word
bound_behind None to bound xs e word = e word
bound_behind (Some new) to bound xs e word = binds_seen bound_as (Some new) to bound word ∙ (λ i. binds (Some new) (bound_as to) (λ w. e w i) word) ∙ sym (named_behind xs new (bound_as to) word)

pub communicator_same : (o : Option (Option CommunicatorView)) → communicator_of (option_map bound_as o) ≡ communicator_in o
communicator_same None = refl
communicator_same (Some None) = refl
communicator_same (Some (Some c)) = refl

-- what it is bound to, where that is a communicator
pub bound_there : (o : Option (Option CommunicatorView)) (c : CommunicatorView) → communicator_in o ≡ Some c → option_map bound_as o ≡ Some (Communicator c.0 c.1)
bound_there None c e = cc e
bound_there (Some None) c e = cc e
bound_there (Some (Some x)) c e = ap (λ o. option_map bound_as (Some o)) e

-- what a statement comes to on that
pub attempt_same : (ops : List Operation) (me : ℕ) (made : List Made) (posting : Posting) (b : Option Bound) → attempt_on ops me made posting b ≡ attempt_by ops me made posting (communicator_of b)
attempt_same ops me made posting None = refl
attempt_same ops me made posting (Some NullCommunicator) = refl
attempt_same ops me made posting (Some (Communicator name birth)) = refl

-- what it stands for where it is asked about

abbrev found_at : List Made → Option CommunicatorView → Found CommunicatorView
found_at made None = W.Null
found_at made (Some c) = found_as (has_freed c.0 made) (Some c)

found_same : (made : List Made) (o : Option (Option CommunicatorView)) → found_at made (communicator_in o) ≡ found_of made (option_map bound_as o)
found_same made None = refl
found_same made (Some None) = refl
found_same made (Some (Some c)) = refl

-- by one who says of a communicator that the rank freed it where it did, and who knows those that it didn't free
module _ (made : List Made) (closes : CommunicatorView → Bool) (knows : CommunicatorView → Option CommunicatorView) (closed_so : (c : CommunicatorView) → closes c ≡ has_freed c.0 made) (known_so : (c : CommunicatorView) → closes c ≡ false → knows c ≡ Some c) where
  found_known : (c : CommunicatorView) (freed : Bool) → closes c ≡ freed → found_as freed (knows c) ≡ found_as freed (Some c)
  found_known c true e = refl
  found_known c false e = ap open_or_null (known_so c e)

  found_there : (o : Option CommunicatorView) → found_in closes knows o ≡ found_at made o
  found_there None = refl
  found_there (Some c) = found_known c (closes c) refl ∙ ap (λ freed. found_as freed (Some c)) (closed_so c)

  pub found_behind : (o : Option (Option CommunicatorView)) → found_in closes knows (communicator_in o) ≡ found_of made (option_map bound_as o)
  found_behind o = found_there (communicator_in o) ∙ found_same made o

-- WAITS

some_mapped : (o : Option Answer) → is_some (option_map (λ (a : Answer). a.outcome) o) ≡ is_some o
some_mapped None = refl
some_mapped (Some a) = refl

module _ (r : Results) where
  -- what is closed is done
  done_closed : (requests : List ℕ → Option (Name × ℕ)) (old : List ℕ) → is_done (outcomes_of r) (requests old) ≡ true → (word : List ℕ) → is_done (outcomes_of r) (closed old requests word) ≡ is_done (outcomes_of r) (requests word)
  done_closed requests old done word = by_test (bytes_eq old word) refl where
    by_test : (b : Bool) → bytes_eq old word ≡ b → is_done (outcomes_of r) (cond b None (requests word)) ≡ is_done (outcomes_of r) (requests word)
    by_test true e = sym (ap (λ w. is_done (outcomes_of r) (requests w)) (sym (same_word old word e)) ∙ done)
    by_test false e = refl

  done_all : (word : List ℕ) (words : List (List ℕ)) (xs : Requests) (o : Option (Name × ℕ)) → named xs word ≡ o → is_some (answers r (awaited_by (without word xs) words)) ≡ are_done (outcomes_of r) (named (without word xs)) words
      → is_some (answers r (awaited_then o (awaited_by (without word xs) words))) ≡ (is_done (outcomes_of r) o && are_done (outcomes_of r) (named xs) words)
  done_all word words xs o e before = by_request o e where
    rest : is_done (outcomes_of r) (named xs word) ≡ true → is_some (answers r (awaited_by (without word xs) words)) ≡ are_done (outcomes_of r) (named xs) words
    rest done = before ∙ (λ i. list_all (λ w. is_done (outcomes_of r) (named_without word xs w i)) words) ∙ (λ i. list_all (λ w. done_closed (named xs) word done w i) words)

    by_done : (place : Name × ℕ) → named xs word ≡ Some place → (b : Bool) → is_some (r place.0 place.1) ≡ b → (b && list_all (λ (call : Name × ℕ). is_some (r call.0 call.1)) (awaited_by (without word xs) words)) ≡ (b && are_done (outcomes_of r) (named xs) words)
    by_done place e true f = sym (is_some-all_of (λ (call : Name × ℕ). r call.0 call.1) (awaited_by (without word xs) words)) ∙ rest (ap (is_done (outcomes_of r)) e ∙ some_mapped (r place.0 place.1) ∙ f)
    by_done place e false f = refl

    by_request : (o : Option (Name × ℕ)) → named xs word ≡ o → is_some (answers r (awaited_then o (awaited_by (without word xs) words))) ≡ (is_done (outcomes_of r) o && are_done (outcomes_of r) (named xs) words)
    by_request None e = rest (ap (is_done (outcomes_of r)) e)
    by_request (Some place) e = is_some-all_of (λ (call : Name × ℕ). r call.0 call.1) (place ∷ awaited_by (without word xs) words) ∙ by_done place e (is_some (r place.0 place.1)) refl ∙ ap (λ b. b && are_done (outcomes_of r) (named xs) words) (sym (some_mapped (r place.0 place.1)))

  -- a wait passes where all of its calls are done
  pub answers_done : (words : List (List ℕ)) (xs : Requests) → is_some (answers r (awaited_by xs words)) ≡ are_done (outcomes_of r) (named xs) words
  answers_done [] xs = refl
  answers_done (word ∷ words) xs = done_all word words xs (named xs word) refl (answers_done words (without word xs))

  told_all : (word : List ℕ) (words : List (List ℕ)) (xs : Requests) (told : List Answer) → ((told : List Answer) → answers r (awaited_by (without word xs) words) ≡ Some told → waited_lines (without word xs) words told ≡ wait_lines (outcomes_of r) (named (without word xs)) words)
      → (o : Option (Name × ℕ)) → answers r (awaited_then o (awaited_by (without word xs) words)) ≡ Some told → line_then o told (waited_lines (without word xs) words) ≡ request_line (outcomes_of r) o ∷ wait_lines (outcomes_of r) (closed word (named xs)) words
  told_all word words xs told before o e = by_request o e where
    rest : (told : List Answer) → answers r (awaited_by (without word xs) words) ≡ Some told → waited_lines (without word xs) words told ≡ wait_lines (outcomes_of r) (closed word (named xs)) words
    rest told f = before told f ∙ λ i. wait_lines (outcomes_of r) (λ w. named_without word xs w i) words

    by_request : (o : Option (Name × ℕ)) → answers r (awaited_then o (awaited_by (without word xs) words)) ≡ Some told → line_then o told (waited_lines (without word xs) words) ≡ request_line (outcomes_of r) o ∷ wait_lines (outcomes_of r) (closed word (named xs)) words
    by_request None g = ap (λ ls. Idle ∷ ls) (rest told g)
    by_request (Some place) g =
        option_and_then_some (λ x. option_and_then (λ ys. Some (x ∷ ys)) (answers r (awaited_by (without word xs) words))) (r place.0 place.1) told g (λ answer known k.
        option_and_then_some (λ ys. Some (answer ∷ ys)) (answers r (awaited_by (without word xs) words)) told k (λ more others is.
        ap (λ ts. line_then (Some place) ts (waited_lines (without word xs) words)) (sym (same_Some (answer ∷ more) told is))
        ∙ (λ i. told_line place.0 place.1 (option_map (λ (a : Answer). a.outcome) (sym known i)) ∷ rest more others i)))

  -- and its lines tell their answers
  pub lines_told : (words : List (List ℕ)) (xs : Requests) (told : List Answer) → answers r (awaited_by xs words) ≡ Some told → waited_lines xs words told ≡ wait_lines (outcomes_of r) (named xs) words
  lines_told [] xs told e = refl
  lines_told (word ∷ words) xs told e = told_all word words xs told (λ ts f. lines_told words (without word xs) ts f) (named xs word) e
