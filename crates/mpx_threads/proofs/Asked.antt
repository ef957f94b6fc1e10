-- The calls that a rank's end asks for are those that the rank waits for.
use Rattle.std.proofs.Common.{◌≡◌, ℕ, zero, suc, Bool, true, false, cond, List, [], ◌∷◌, map, Option, Some, None, refl, sym, ap, ◌∙◌}
use Rattle.std.specs.Prelude.{bytes_eq, slice_get}
use Rattle.std.specs.Option.{option_map}
use Rattle.std.proofs.lemmas.Option.{same_Some, slice_get-map}
use Rattle.mpx_name.specs.Name.{Name}
use Rattle.mpx_statement.specs.declared.statement.Statement.TheVariants.{Ask, Post, Wait}
use Rattle.mpx_statement.specs.Lookups.{named}
use Rattle.mpx_meaning.specs.declared.end.AskedCall.{AskedCall}
use Rattle.mpx_meaning.specs.declared.end.RankEnd.{RankEnd}
use Rattle.mpx_meaning.specs.declared.end.WaitsAt.{WaitsAt}
use Rattle.mpx_meaning.specs.Ends.{Asked, asked_by, asked_then, asked_view, end_of, end_view, waits_at_view, waits_with}
use Rattle.mpx_meaning.specs.Ranks.{Await, Do, Local, Todo}
use Rattle.mpx_meaning.specs.Standing.{closed}
use Rattle.mpx_meaning.proofs.Standing.{same_word}
use Rattle.mpx_system.proofs.Results.{mapped_at}
use Rattle.mpx_threads.specs.Rest.{AreWaitedFor, IsOneOf, IsRequested, WaitsFor, awaits, calls_in, calls_with, stands_at}

abbrev Open : Type 0
Open = List ℕ → Option (Name × ℕ)

abbrev calls : List Asked → List (Name × ℕ)
calls asked = map (λ (a : Asked). a.1) asked

-- WAITS FOR REQUESTS

was_open : (old : List ℕ) (requests : Open) (word : List ℕ) (call : Name × ℕ) → closed old requests word ≡ Some call → requests word ≡ Some call
was_open old requests word call e = by_test (bytes_eq old word) e where
  by_test : (b : Bool) → cond b None (requests word) ≡ Some call → requests word ≡ Some call
  by_test true f = cc f
  by_test false f = f

only_asked : (requests : Open) (words : List (List ℕ)) (i : ℕ) (call : Name × ℕ) → slice_get (calls (asked_by requests words)) i ≡ Some call → IsRequested requests words call
only_asked requests [] i call e = cc e
only_asked requests (word ∷ words) i call e = by_first (λ j f. only_asked (closed word requests) words j call f) (requests word) refl i e where
  later : ((k : ℕ) → slice_get (calls (asked_by (closed word requests) words)) k ≡ Some call → IsRequested (closed word requests) words call) → (j : ℕ) → slice_get (calls (asked_by (closed word requests) words)) j ≡ Some call → IsRequested requests (word ∷ words) call
  later more j f = let x = more j f in (suc x.0, (x.1.0, (x.1.1.0, was_open word requests x.1.0 call x.1.1.1)))

  by_first : ((k : ℕ) → slice_get (calls (asked_by (closed word requests) words)) k ≡ Some call → IsRequested (closed word requests) words call) → (o : Option (Name × ℕ)) → requests word ≡ o → (j : ℕ) → slice_get (calls (asked_then word o (asked_by (closed word requests) words))) j ≡ Some call → IsRequested requests (word ∷ words) call
  by_first more None is j f = later more j f
  by_first more (Some place) is zero f = (0, (word, (refl, is ∙ f)))
  by_first more (Some place) is (suc j) f = later more j f

first_asked : (word : List ℕ) (o : Option (Name × ℕ)) (rest : List Asked) (call : Name × ℕ) → o ≡ Some call → IsOneOf call (calls (asked_then word o rest))
first_asked word o rest call e = (0, ap (λ x. slice_get (calls (asked_then word x rest)) 0) e)

later_asked : (word : List ℕ) (o : Option (Name × ℕ)) (rest : List Asked) (call : Name × ℕ) → IsOneOf call (calls rest) → IsOneOf call (calls (asked_then word o rest))
later_asked word None rest call is = is
later_asked word (Some place) rest call is = (suc is.0, is.1)

all_asked : (requests : Open) (words : List (List ℕ)) (call : Name × ℕ) (place : ℕ) (word : List ℕ) → slice_get words place ≡ Some word → requests word ≡ Some call → IsOneOf call (calls (asked_by requests words))
all_asked requests [] call place word e f = cc e
all_asked requests (first ∷ words) call zero word e f = first_asked first (requests first) (asked_by (closed first requests) words) call (ap requests (same_Some first word e) ∙ f)
all_asked requests (first ∷ words) call (suc place) word e f = by_test (bytes_eq first word) refl (λ g. all_asked (closed first requests) words call place word e g) where
  by_test : (b : Bool) → bytes_eq first word ≡ b → (closed first requests word ≡ Some call → IsOneOf call (calls (asked_by (closed first requests) words))) → IsOneOf call (calls (asked_by requests (first ∷ words)))
  by_test true t more = first_asked first (requests first) (asked_by (closed first requests) words) call (ap requests (same_word first word t) ∙ f)
  by_test false t more = later_asked first (requests first) (asked_by (closed first requests) words) call (more (ap (λ b. cond b None (requests word)) t ∙ f))

-- where no request is open, none is asked for
pub none_asked : (requests : Open) → ((word : List ℕ) → requests word ≡ None) → (words : List (List ℕ)) → asked_by requests words ≡ []
none_asked requests none [] = refl
none_asked requests none (word ∷ words) =
    ap (λ o. asked_then word o (asked_by (closed word requests) words)) (none word) ∙ none_asked (closed word requests) (λ other. by_test (bytes_eq word other) (none other)) words where
      by_test : (b : Bool) {o : Option (Name × ℕ)} → o ≡ None → cond b None o ≡ None
      by_test true e = refl
      by_test false e = e

-- ENDS

pub waited_for : (s : Local) → AreWaitedFor s (calls_in (end_of s))
waited_for s = by_todo s.todo refl where
  by_todo : (todo : List Todo) → s.todo ≡ todo → AreWaitedFor s (calls_with (waits_with (named s.requests) todo))
  by_todo [] e = record { only = λ i call f. cc f; all = λ call w. never call w } where
    never : (call : Name × ℕ) → WaitsFor s call → IsOneOf call []
    never call (awaits target rest f) = cc (e, f)
    never call (stands_at words rest f asked) = cc (e, f)
  by_todo (Await name call target ∷ rest) e = record { only = only_one; all = one } where
    only_one : (i : ℕ) (other : Name × ℕ) → slice_get ((name, call) ∷ []) i ≡ Some other → WaitsFor s other
    only_one zero other f = let is : (name, call) ≡ other = same_Some (name, call) other f in awaits target rest (e ∙ ap (λ (c : Name × ℕ). Await c.0 c.1 target ∷ rest) is)
    only_one (suc i) other f = cc f

    one : (other : Name × ℕ) → WaitsFor s other → IsOneOf other ((name, call) ∷ [])
    one other (awaits to more f) =
        let same : Await name call target ∷ rest ≡ Await other.0 other.1 to ∷ more = sym e ∙ f in
        let name_is : name ≡ other.0 = cc same in
        let call_is : call ≡ other.1 = cc same in
        (0, λ i. Some (name_is i, call_is i))
    one other (stands_at words more f asked) = let same : Await name call target ∷ rest ≡ Do (Wait words) ∷ more = sym e ∙ f in cc same
  by_todo (Do (Post posting) ∷ rest) e = record { only = λ i call f. cc f; all = λ call w. never call w } where
    never : (call : Name × ℕ) → WaitsFor s call → IsOneOf call []
    never call (awaits target more f) = let same : Do (Post posting) ∷ rest ≡ Await call.0 call.1 target ∷ more = sym e ∙ f in cc same
    never call (stands_at words more f asked) = let same : Do (Post posting) ∷ rest ≡ Do (Wait words) ∷ more = sym e ∙ f in cc same
  by_todo (Do (Ask question) ∷ rest) e = record { only = λ i call f. cc f; all = λ call w. never call w } where
    never : (call : Name × ℕ) → WaitsFor s call → IsOneOf call []
    never call (awaits target more f) = let same : Do (Ask question) ∷ rest ≡ Await call.0 call.1 target ∷ more = sym e ∙ f in cc same
    never call (stands_at words more f asked) = let same : Do (Ask question) ∷ rest ≡ Do (Wait words) ∷ more = sym e ∙ f in cc same
  by_todo (Do (Wait words) ∷ rest) e = record {
    only = λ i call f. stands_at words rest e (only_asked (named s.requests) words i call f);
    all = λ call w. these call w;
  } where
    these : (call : Name × ℕ) → WaitsFor s call → IsOneOf call (calls (asked_by (named s.requests) words))
    these call (awaits target more f) = let same : Do (Wait words) ∷ rest ≡ Await call.0 call.1 target ∷ more = sym e ∙ f in cc same
    these call (stands_at others more f asked) =
        let same : Do (Wait words) ∷ rest ≡ Do (Wait others) ∷ more = sym e ∙ f in
        let words_are : others ≡ words = cc same in
        all_asked (named s.requests) words call asked.0 asked.1.0 (ap (λ ws. slice_get ws asked.0) (sym words_are) ∙ asked.1.1.0) asked.1.1.1

-- THE CODE'S ENDS

-- a call of an end's list is one of those that it asks for
pub calls_there : (end : RankEnd) (w : WaitsAt) → end.waits ≡ Some w → (i : ℕ) (a : AskedCall) → slice_get w.calls.items i ≡ Some a → slice_get (calls_in (end_view end)) i ≡ Some (asked_view a).1
calls_there end w is i a e =
    ap (λ o. slice_get (calls_with (option_map waits_at_view o)) i) is
    ∙ slice_get-map (λ (x : Asked). x.1) (map asked_view w.calls.items) i
    ∙ ap (option_map (λ (x : Asked). x.1)) (slice_get-map asked_view w.calls.items i ∙ ap (option_map asked_view) e)

-- and each of these is one
pub calls_from : (end : RankEnd) (w : WaitsAt) → end.waits ≡ Some w → (i : ℕ) (call : Name × ℕ) → slice_get (calls_in (end_view end)) i ≡ Some call → (a : AskedCall) × ((slice_get w.calls.items i ≡ Some a) × ((asked_view a).1 ≡ call))
calls_from end w is i call e =
    let all = ap (λ o. slice_get (calls_with (option_map waits_at_view o)) i) (sym is) ∙ e in
    let asked = mapped_at (λ (x : Asked). x.1) (map asked_view w.calls.items) i call all in
    let found = mapped_at asked_view w.calls.items i asked.0 asked.1 in
    (found.0, (found.1, ap (λ (x : Asked). x.1) found.2 ∙ asked.2))
