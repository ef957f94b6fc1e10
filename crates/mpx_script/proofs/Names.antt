-- The names that statements bind, as sets, and tests of them.
use Rattle.std.proofs.Common.{◌≡◌, ℕ, Bool, true, false, ◌||◌, List, [], ◌∷◌, ◌++◌, Vec, bytes_eq, Option, Some, None, refl, sym, ap, subst, ◌∙◌}
use Rattle.std.specs.BTreeSet.{BTreeSet, insert_key}
use Rattle.std.specs.Cmp.Lexicographic.{slice_cmp}
use Rattle.std.specs.List.{filter_map, list_any}
use Rattle.std.specs.Ordering.{is_eq, match_ordering, nat_cmp}
use Rattle.std.specs.declared.cmp.Ordering.TheVariants.{Less, Equal, Greater}
use Rattle.std.proofs.lemmas.List.{append-nil}
use Rattle.std.proofs.lemmas.List.Elements.{filter_map-append}
use Rattle.std.proofs.lemmas.List.Folds.{list_any-append}
use Rattle.std.proofs.lemmas.Map.Lookups.{exact_bytes}
use Rattle.std.proofs.lemmas.Map.Text.{is_eq-slice_cmp}
use Rattle.mpx_statement.specs.Statements.{request_of, target_of}
use Rattle.mpx_script.specs.ScriptView.{AreBound, AreNames}
use Rattle.mpx_statement.specs.declared.statement.Statement.{Statement}
use Rattle.mpx_statement.specs.declared.statement.Statement.TheVariants.{Post, Wait, Ask}
use Rattle.mpx_statement.specs.declared.statement.Posting.TheVariants.{Call, Start, New, CreateGroup}

last_first : (a b : Bool) → (a || b) ≡ (b || a)
last_first true true = refl
last_first true false = refl
last_first false true = refl
last_first false false = refl

once_more : (a b : Bool) → (a || b) ≡ (a || b || a)
once_more true b = refl
once_more false true = refl
once_more false false = refl

-- a name more
any_inserted : {Z : Type 0} (word : List ℕ) (names : List (Vec ℕ Z)) (name : Vec ℕ Z) → list_any (λ k. is_eq (slice_cmp nat_cmp word k.items)) (insert_key (λ x y. slice_cmp nat_cmp x.items y.items) names name) ≡ (list_any (λ k. is_eq (slice_cmp nat_cmp word k.items)) names || bytes_eq word name.items)
any_inserted word [] name = last_first (is_eq (slice_cmp nat_cmp word name.items)) false ∙ is_eq-slice_cmp word name.items
any_inserted word (first ∷ names) name =
    let test : Vec ℕ _ → Bool = λ k. is_eq (slice_cmp nat_cmp word k.items) in
    elim (slice_cmp nat_cmp name.items first.items) as (λ o. slice_cmp nat_cmp name.items first.items ≡ o → list_any test (match_ordering o (name ∷ first ∷ names) (first ∷ names) (first ∷ insert_key (λ x y. slice_cmp nat_cmp x.items y.items) names name)) ≡ (list_any test (first ∷ names) || bytes_eq word name.items)) [
      | Less ↦ λ e. last_first (test name) (list_any test (first ∷ names)) ∙ ap (λ b. list_any test (first ∷ names) || b) (is_eq-slice_cmp word name.items)
      | Equal ↦ λ e.
          let same : bytes_eq word name.items ≡ test first = ap (bytes_eq word) (exact_bytes name.items first.items e) ∙ sym (is_eq-slice_cmp word first.items) in
          rw same (once_more (test first) (list_any test names))
      | Greater ↦ λ e. elim (test first) as (λ b. (b || list_any test (insert_key (λ x y. slice_cmp nat_cmp x.items y.items) names name)) ≡ (b || list_any test names || bytes_eq word name.items)) [
        | true ↦ refl
        | false ↦ any_inserted word names name
      ]
    ] refl

-- as a set of names has it
pub names_more : {Z : Type 0} (old new : BTreeSet (Vec ℕ Z)) (name : Vec ℕ Z) (added : List ℕ) (words : List (List ℕ)) → name.items ≡ added → new.keys ≡ insert_key (λ x y. slice_cmp nat_cmp x.items y.items) old.keys name → AreNames old words → AreNames new (words ++ added ∷ [])
names_more old new name added words same keys are = λ word.
    ap (list_any (λ k. is_eq (slice_cmp nat_cmp word k.items))) keys
    ∙ any_inserted word old.keys name
    ∙ ap (λ b. b || bytes_eq word name.items) (are word)
    ∙ ap (λ b. list_any (bytes_eq word) words || b) (last_first false (bytes_eq word name.items))
    ∙ sym (list_any-append (bytes_eq word) words (name.items ∷ []))
    ∙ ap (λ w. list_any (bytes_eq word) (words ++ w ∷ [])) same

-- a statement that binds no such word
names_kept : {Z : Type 0} (bound_by : Statement → Option (List ℕ)) (names : BTreeSet (Vec ℕ Z)) (statements : List Statement) (statement : Statement) → bound_by statement ≡ None → AreNames names (filter_map bound_by statements) → AreNames names (filter_map bound_by (statements ++ statement ∷ []))
names_kept bound_by names statements statement none are =
    let same : filter_map bound_by (statements ++ statement ∷ []) ≡ filter_map bound_by statements = filter_map-append bound_by statements (statement ∷ []) ∙ rw none (append-nil (filter_map bound_by statements)) in
    subst (λ words. AreNames names words) (sym same) are

-- and one that binds this one
names_added : {Z : Type 0} (bound_by : Statement → Option (List ℕ)) (names : BTreeSet (Vec ℕ Z)) (statements : List Statement) (statement : Statement) (word : List ℕ) → bound_by statement ≡ Some word → AreNames names (filter_map bound_by statements ++ word ∷ []) → AreNames names (filter_map bound_by (statements ++ statement ∷ []))
names_added bound_by names statements statement word binds are =
    let more : filter_map bound_by (statements ++ statement ∷ []) ≡ filter_map bound_by statements ++ word ∷ [] = filter_map-append bound_by statements (statement ∷ []) ∙ rw binds refl in
    subst (λ words. AreNames names words) (sym more) are

-- a statement that binds a communicator binds no request
no_request : (statement : Statement) (word : List ℕ) → target_of statement ≡ Some word → request_of statement ≡ None
no_request (Post (Call on draft)) word h = refl
no_request (Post (Start on draft request)) word h = cc h
no_request (Post (New on draft to)) word h = refl
no_request (Post (CreateGroup on tag ranks to)) word h = refl
no_request (Wait requests) word h = refl
no_request (Ask question) word h = refl

pub communicator_added : {Z : Type 0} (old new requests : BTreeSet (Vec ℕ Z)) (statements : List Statement) (statement : Statement) (word : List ℕ) → target_of statement ≡ Some word → ((words : List (List ℕ)) → AreNames old words → AreNames new (words ++ word ∷ [])) → AreBound old requests statements → AreBound new requests (statements ++ statement ∷ [])
communicator_added old new requests statements statement word binds more are = record {
  targets_are = names_added target_of new statements statement word binds (more (filter_map target_of statements) are.targets_are);
  requests_are = names_kept request_of requests statements statement (no_request statement word binds) are.requests_are;
}

pub request_added : {Z : Type 0} (communicators old new : BTreeSet (Vec ℕ Z)) (statements : List Statement) (statement : Statement) (word : List ℕ) → target_of statement ≡ None → request_of statement ≡ Some word → ((words : List (List ℕ)) → AreNames old words → AreNames new (words ++ word ∷ [])) → AreBound communicators old statements → AreBound communicators new (statements ++ statement ∷ [])
request_added communicators old new statements statement word none binds more are = record {
  targets_are = names_kept target_of communicators statements statement none are.targets_are;
  requests_are = names_added request_of new statements statement word binds (more (filter_map request_of statements) are.requests_are);
}

pub nothing_added : {Z : Type 0} (communicators requests : BTreeSet (Vec ℕ Z)) (statements : List Statement) (statement : Statement) → target_of statement ≡ None → request_of statement ≡ None → AreBound communicators requests statements → AreBound communicators requests (statements ++ statement ∷ [])
nothing_added communicators requests statements statement none no_request are = record {
  targets_are = names_kept target_of communicators statements statement none are.targets_are;
  requests_are = names_kept request_of requests statements statement no_request are.requests_are;
}

-- Tests of the names of a statement

pub any_of_two : (f : List ℕ → Bool) (first second words : List (List ℕ)) → first ++ second ≡ words → list_any f words ≡ (list_any f first || list_any f second)
any_of_two f first second words same = ap (list_any f) (sym same) ∙ list_any-append f first second

pub any_of_names : (f : List ℕ → Bool) (first second communicators requests target request : List (List ℕ)) → first ++ second ≡ communicators → list_any f ((communicators ++ requests) ++ (target ++ request)) ≡ (((list_any f first || list_any f second) || list_any f requests) || (list_any f target || list_any f request))
any_of_names f first second communicators requests target request same =
    list_any-append f (communicators ++ requests) (target ++ request)
    ∙ ap (λ b. b || list_any f (target ++ request)) (list_any-append f communicators requests ∙ ap (λ b. b || list_any f requests) (any_of_two f first second communicators same))
    ∙ ap (λ b. ((list_any f first || list_any f second) || list_any f requests) || b) (list_any-append f target request)

-- where the tests before the last one fail

pub none_of_two : (f : List ℕ → Bool) (first second words : List (List ℕ)) → first ++ second ≡ words → list_any f first ≡ false → list_any f second ≡ false → list_any f words ≡ false
none_of_two f first second words same no_first no_second = any_of_two f first second words same ∙ rw (no_first, no_second) refl

pub last_of_names : (f : List ℕ → Bool) (first second communicators requests target request : List (List ℕ)) → first ++ second ≡ communicators → list_any f first ≡ false → list_any f second ≡ false → list_any f requests ≡ false → list_any f target ≡ false → list_any f ((communicators ++ requests) ++ (target ++ request)) ≡ list_any f request
last_of_names f first second communicators requests target request same no_first no_second no_requests no_target =
    any_of_names f first second communicators requests target request same ∙ rw (no_first, no_second, no_requests, no_target) refl
