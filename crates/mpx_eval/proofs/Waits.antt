-- Who waits at the end, by the program's ranks and their table.
use Rattle.std.proofs.Common.{◌≡◌, ℕ, zero, suc, ◌+◌, ◌-◌, ◌<◌, ◌⊎◌, Bool, true, false, cond, not, List, [], ◌∷◌, ◌++◌, length, map, take, drop, drop-cons, get_or, Option, Some, None, Result, Ok, Err, refl, sym, ap, ◌∙◌, subst, arith, append_assoc, inl, inr}
use Rattle.std.specs.Prelude.{◌||◌, bytes_eq, is_none, is_some, nat_le, slice_get, slice_index_or}
use Rattle.std.specs.Cmp.Lexicographic.{slice_cmp}
use Rattle.std.specs.List.{filter, list_any}
use Rattle.std.specs.Option.{option_map}
use Rattle.std.specs.Ordering.{is_eq, nat_cmp}
use Rattle.std.specs.BTreeMap.{BTreeMap}
use Rattle.std.proofs.lemmas.List.{map-append, take_more}
use Rattle.std.proofs.lemmas.List.Elements.{filter-append}
use Rattle.std.proofs.lemmas.Option.{same_Some}
use Rattle.mpx_num.specs.declared.own.Operation.{Operation}
use Rattle.mpx_name.specs.Name.{Name}
use Rattle.mpx_name.specs.Order.{name_equality}
use Rattle.mpx_post.specs.declared.draft.PostError.{PostError}
use Rattle.mpx_post.specs.Posts.{Given}
use Rattle.mpx_value.specs.Histories.{Made, Results, posts_on}
use Rattle.mpx_value.proofs.Growth.{posts_on-append}
use Rattle.mpx_statement.specs.declared.statement.Statement.{Statement}
use Rattle.mpx_statement.specs.declared.statement.Statement.TheVariants.{Post, Wait, Ask}
use Rattle.mpx_statement.specs.Statements.{bound_to, started_as}
use Rattle.mpx_statement.specs.Lookups.{named}
use Rattle.mpx_script.specs.ScriptView.{ScriptView}
use Rattle.mpx_meaning.specs.declared.line.Line.{Line}
use Rattle.mpx_meaning.specs.Ranks.{Await, Bindings, Do, Local, Requests, Todo, attempt, awaited_by, awaited_then, doing, next, next_call, next_by, posts_or_refuses, without}
use Rattle.mpx_meaning.specs.Standing.{WaitView, awaited, closed, closed_all, looked_up, or_new, todo_of}
use Rattle.mpx_meaning.specs.Evaluation.{bound_at_start, known, statements_of}
use Rattle.mpx_meaning.specs.Reports.{is_left, which}
use Rattle.mpx_meaning.specs.Told.{CarriesOut, Passes, accepted, asked as told_at_once, none, refused, started, waited}
use Rattle.mpx_meaning.proofs.Standing.{closed_word, named_behind, named_without, named_without_all}
use Rattle.mpx_meaning.proofs.Tells.{each-carries_out}
use Rattle.mpx_eval.specs.declared.missing.MissingMember.{MissingMember}
use Rattle.mpx_eval.specs.Contexts.{ContextView}
use Rattle.mpx_eval.specs.Found.{calls_found, found_at, found_call, found_calls, is_open}
use Rattle.mpx_eval.specs.Lacking.{lacking, missing_by, missing_there}
use Rattle.mpx_rank.specs.Shown.{requests_of}
use Rattle.mpx_rank.proofs.Moving.{todo_length}
use Rattle.mpx_eval.specs.Carrying.{at_place}
use Rattle.mpx_eval.specs.Places.{TableRank, posted_by}
use Rattle.mpx_eval.specs.Rounds.{AreAtEnd, is_waiting_at}
use Rattle.mpx_eval.specs.Tables.{Table, answer_on}
use Rattle.mpx_eval.specs.Waiting.{Asked, MissingCallView, WaitingView, asked, asked_by, asked_of, asked_then, calls_of, is_unknown, missing_call, missing_of, missing_to, waiting_in_full, waits_at}
use Rattle.mpx_eval.proofs.Outcomes.{given_there, results_same}
use Rattle.mpx_eval.proofs.Reporting.{there, waits_same, at_index}
use Rattle.mpx_meaning.proofs.Reports.{which_same}

-- WHAT THE NEXT MOVE ASKS FOR

abbrev place_of : Asked → Name × ℕ
place_of a = a.1

by_words : (words : List (List ℕ)) (requests : Requests) → map place_of (asked_by (named requests) words) ≡ awaited_by requests words
by_words [] requests = refl
by_words (word ∷ words) requests =
    let rest : map place_of (asked_by (closed word (named requests)) words) ≡ awaited_by (without word requests) words =
    ap (λ f. map place_of (asked_by f words)) (let same : closed word (named requests) ≡ named (without word requests) = λ i w. sym (named_without word requests w) i in same) ∙ by_words words (without word requests) in
    by_place (asked_by (closed word (named requests)) words) (awaited_by (without word requests) words) (named requests word) rest where
      by_place : (xs : List Asked) (ys : List (Name × ℕ)) (o : Option (Name × ℕ)) → map place_of xs ≡ ys → map place_of (asked_then word o xs) ≡ awaited_then o ys
      by_place xs ys None e = e
      by_place xs ys (Some place) e = λ i. place ∷ e i

pub asks_so : (ops : List Operation) (s : Local) → map place_of (asked s) ≡ calls_of (next ops s)
asks_so ops s = by_todo s.todo where
  by_result : (rest : List Todo) (target request : Option (List ℕ)) (r : Result Made PostError) → [] ≡ calls_of (posts_or_refuses s rest target request r)
  by_result rest target request (Ok m) = refl
  by_result rest target request (Err refusal) = refl

  by_todo : (todo : List Todo) → map place_of (asked_of (named s.requests) todo) ≡ calls_of (next_by ops s todo)
  by_todo [] = refl
  by_todo (Do (Post posting) ∷ rest) = by_result rest (bound_to posting) (started_as posting) (attempt ops s.me s.bound s.made posting)
  by_todo (Do (Wait words) ∷ rest) = by_words words s.requests
  by_todo (Do (Ask question) ∷ rest) = refl
  by_todo (Await name call target ∷ rest) = refl

-- A RANK'S OWN POSTS

-- posts that are made stay
posts_kept : (name : Name) (ms more : List Made) (k : ℕ) → k < length (posts_on name ms) → k < length (posts_on name (ms ++ more))
posts_kept name ms more k l = subst (λ xs. k < length xs) (sym (posts_on-append name ms more)) (longer (posts_on name ms) (posts_on name more) k l) where
  longer : (xs ys : List Given) (k : ℕ) → k < length xs → k < length (xs ++ ys)
  longer [] ys k l = absurd (omega (arith, l))
  longer (x ∷ xs) ys zero l = omega arith
  longer (x ∷ xs) ys (suc k) l = omega (arith, longer xs ys k (omega (arith, l)))

-- the last post is one to the call whose number is that of the posts before
posted_last : (ms : List Made) (m : Made) → next_call m.name ms < length (posts_on m.name (ms ++ m ∷ []))
posted_last ms m = subst (λ xs. next_call m.name ms < length xs) (sym (posts_on-append m.name ms (m ∷ []) ∙ ap (λ b. posts_on m.name ms ++ cond b (m.given ∷ []) []) (name_equality.reflexive m.name))) (more (posts_on m.name ms)) where
  more : (xs : List Given) → length xs < length (xs ++ m.given ∷ [])
  more [] = omega arith
  more (x ∷ xs) = omega (arith, more xs)

posted_then : (ms : List Made) (m : Made) (rest : List Made) → next_call m.name ms < length (posts_on m.name (ms ++ m ∷ rest))
posted_then ms m rest = subst (λ xs. next_call m.name ms < length (posts_on m.name xs)) (append_assoc ms (m ∷ []) rest) (posts_kept m.name (ms ++ m ∷ []) rest (next_call m.name ms) (posted_last ms m))

-- a closed request was open
was_open : (olds : List (List ℕ)) (words : List ℕ → Option (Name × ℕ)) (word : List ℕ) (place : Name × ℕ) → closed_all olds words word ≡ Some place → words word ≡ Some place
was_open [] words word place e = e
was_open (old ∷ olds) words word place e = by_test (bytes_eq old word) (was_open olds (closed old words) word place e) where
  by_test : (b : Bool) → cond b None (words word) ≡ Some place → words word ≡ Some place
  by_test true f = cc f
  by_test false f = f

-- an open request was open before, or the rank has posted to its call
abbrev IsOpened : Requests → List Made → List ℕ → Name × ℕ → Type 0
IsOpened requests made word place = (named requests word ≡ Some place) ⊎ (place.1 < length (posts_on place.0 made))

-- what a word stands for, with one more behind the others
behind_cases : (b : Bool) (o : Option (Name × ℕ)) (new place : Name × ℕ) → cond b (Some (or_new o new)) o ≡ Some place → (o ≡ Some place) ⊎ (new ≡ place)
behind_cases false o new place e = inl e
behind_cases true None new place e = inr (same_Some new place e)
behind_cases true (Some old) new place e = inl e

opened_by : {ops : List Operation} {r : Results} {me : ℕ} {before after : Bindings} {requests left : Requests} {earlier ms : List Made} {xs : List Statement} {lines : List Line} → Passes ops r me before requests earlier xs after left ms lines
    → (word : List ℕ) (place : Name × ℕ) → named left word ≡ Some place → IsOpened requests (earlier ++ ms) word place
opened_by none word place e = inl e
opened_by (accepted {requests = requests} {earlier = earlier} {further = further} {m = m} b a k p) word place e =
    subst (λ made. IsOpened requests made word place) (append_assoc earlier (m ∷ []) further) (opened_by p word place e)
opened_by (started {requests = requests} {earlier = earlier} {further = further} {word = new} {m = m} b a p) word place e =
    elim (opened_by p word place e) [
      | inr posted ↦ inr (subst (λ made. place.1 < length (posts_on place.0 made)) (append_assoc earlier (m ∷ []) further) posted)
      | inl left ↦ elim (behind_cases (bytes_eq word new) (named requests word) (m.name, next_call m.name earlier) place (sym (named_behind requests new (m.name, next_call m.name earlier) word) ∙ left)) [
        | inl before ↦ inl before
        | inr is ↦ inr (subst (λ (c : Name × ℕ). c.1 < length (posts_on c.0 (earlier ++ m ∷ further))) is (posted_then earlier m further))
      ]
    ]
opened_by (refused a p) word place e = opened_by p word place e
opened_by (waited {requests = requests} {words = words} k p) word place e =
    elim (opened_by p word place e) [
      | inr posted ↦ inr posted
      | inl left ↦ inl (was_open words (named requests) word place (named_without_all words requests (named requests) (λ w. refl) word ∙ left))
    ]
opened_by (told_at_once p) word place e = opened_by p word place e

-- a call that a wait asks for is that of an open request
asked_open : (words : List (List ℕ)) (requests : List ℕ → Option (Name × ℕ)) (i : ℕ) (a : Asked) → slice_get (asked_by requests words) i ≡ Some a → (word : List ℕ) × (requests word ≡ Some a.1)
asked_open [] requests i a e = cc e
asked_open (word ∷ words) requests i a e = by_place (requests word) refl (asked_open words (closed word requests)) e where
  still : (w : List ℕ) → closed word requests w ≡ Some a.1 → requests w ≡ Some a.1
  still w f = was_open (word ∷ []) requests w a.1 f

  by_index : (place : Name × ℕ) → requests word ≡ Some place → ((k : ℕ) (x : Asked) → slice_get (asked_by (closed word requests) words) k ≡ Some x → (w : List ℕ) × (closed word requests w ≡ Some x.1))
      → (k : ℕ) → slice_get ((Some word, place) ∷ asked_by (closed word requests) words) k ≡ Some a → (w : List ℕ) × (requests w ≡ Some a.1)
  by_index place f again zero g = (word, f ∙ ap (λ (x : Asked). Some x.1) (same_Some (Some word, place) a g))
  by_index place f again (suc k) g = let found = again k a g in (found.0, still found.0 found.1)

  by_place : (o : Option (Name × ℕ)) → requests word ≡ o → ((k : ℕ) (x : Asked) → slice_get (asked_by (closed word requests) words) k ≡ Some x → (w : List ℕ) × (closed word requests w ≡ Some x.1))
      → slice_get (asked_then word o (asked_by (closed word requests) words)) i ≡ Some a → (w : List ℕ) × (requests w ≡ Some a.1)
  by_place None f again g = let found = again i a g in (found.0, still found.0 found.1)
  by_place (Some place) f again g = by_index place f again i g

-- a rank has posted to each call that its next move asks for
has_posted : (ops : List Operation) (r : Results) (first : Bindings) (xs : List Statement) (s : Local) → CarriesOut ops r first xs s → (i : ℕ) (a : Asked) → slice_get (asked s) i ≡ Some a → a.1.1 < length (posts_on a.1.0 s.made)
has_posted ops r first xs s (inl h) i a e = by_left h.left (sym (ap (λ todo. slice_get (asked_of (named s.requests) todo) i) h.todo) ∙ e) where
  by_left : (left : List Statement) → slice_get (asked_of (named s.requests) (doing left)) i ≡ Some a → a.1.1 < length (posts_on a.1.0 s.made)
  by_left [] f = cc f
  by_left (Post posting ∷ left) f = cc f
  by_left (Ask question ∷ left) f = cc f
  by_left (Wait words ∷ left) f =
      let found = asked_open words (named s.requests) i a f in
      elim (opened_by h.passes found.0 a.1 found.1) [ inl never ↦ cc never | inr posted ↦ posted ]
has_posted ops r first xs s (inr h) i a e = by_index i (sym (ap (λ todo. slice_get (asked_of (named s.requests) todo) i) h.todo) ∙ e) where
  by_index : (k : ℕ) → slice_get ((None, (h.last.name, next_call h.last.name h.earlier)) ∷ []) k ≡ Some a → a.1.1 < length (posts_on a.1.0 s.made)
  by_index (suc k) f = cc f
  by_index zero f =
      let is : (h.last.name, next_call h.last.name h.earlier) ≡ a.1 = ap (λ (x : Asked). x.1) (same_Some _ a f) in
      subst (λ (c : Name × ℕ). c.1 < length (posts_on c.0 s.made)) is (subst (λ made. next_call h.last.name h.earlier < length (posts_on h.last.name made)) (sym h.made) (posted_last h.earlier h.last))

-- THE MEMBERS

abbrev member_by : (ℕ → List Given) → ℕ → MissingMember
member_by f q = missing_by q (f q)

lacking_of : (f : ℕ → List Given) (members : List ℕ) (call : ℕ) → lacking members (map f members) call ≡ map (member_by f) (filter (λ q. nat_le (length (f q)) call) members)
lacking_of f [] call = refl
lacking_of f (m ∷ members) call = by_test (nat_le (length (f m)) call) (lacking members (map f members) call) (filter (λ q. nat_le (length (f q)) call) members) (lacking_of f members call) where
  by_test : (b : Bool) (xs : List MissingMember) (ys : List ℕ) → xs ≡ map (member_by f) ys → cond b (member_by f m ∷ []) [] ++ xs ≡ map (member_by f) (cond b (m ∷ ys) ys)
  by_test true xs ys e = ap (λ zs. member_by f m ∷ zs) e
  by_test false xs ys e = e

-- THE CALLS

found-append : (t : Table) (me : ℕ) (xs ys : List Asked) → found_calls t me (xs ++ ys) ≡ found_calls t me xs ++ found_calls t me ys
found-append t me xs ys = ap (map (found_call t)) (filter-append (is_open t me) xs ys) ∙ map-append (found_call t) (filter (is_open t me) xs) (filter (is_open t me) ys)

then_parts : (word : List ℕ) (o : Option (Name × ℕ)) (rest : List Asked) → asked_then word o rest ≡ asked_then word o [] ++ rest
then_parts word None rest = refl
then_parts word (Some place) rest = refl

closed-push : (olds : List (List ℕ)) (old : List ℕ) (f : List ℕ → Option (Name × ℕ)) → closed_all (olds ++ old ∷ []) f ≡ closed old (closed_all olds f)
closed-push [] old f = refl
closed-push (x ∷ olds) old f = closed-push olds old (closed x f)

-- one word more is closed
one_fewer : (f : List ℕ → Option (Name × ℕ)) (words : List (List ℕ)) (i : ℕ) (w : List ℕ) → i < length words → w ≡ get_or words i w → closed_all (take (i + 1) words) f ≡ closed w (closed_all (take i words) f)
one_fewer f words i w l is = ap (λ xs. closed_all xs f) (take_more words i w l) ∙ ap (λ x. closed_all (take i words ++ x ∷ []) f) (sym is) ∙ closed-push (take i words) w f

-- a word more is seen: open are the requests of the others
pub seen_more : (f : List ℕ → Option (Name × ℕ)) (words : List (List ℕ)) (i : ℕ) (w : List ℕ) → i < length words → w ≡ get_or words i w → (seen now : List ℕ → Option Bool) (v : List ℕ)
    → closed_all (take i words) f v ≡ cond (is_some (seen v)) None (f v) → now v ≡ cond (is_eq (slice_cmp nat_cmp w v)) (Some true) (seen v)
    → closed_all (take (i + 1) words) f v ≡ cond (is_some (now v)) None (f v)
seen_more f words i w l is seen now v e n =
    let g = closed_all (take i words) f in
    (λ j. one_fewer f words i w l is j v) ∙ sym (closed_word g w v) ∙ ap (λ o. cond (is_eq (slice_cmp nat_cmp w v)) None o) e
    ∙ by_test (is_eq (slice_cmp nat_cmp w v)) ∙ ap (λ o. cond (is_some o) None (f v)) (sym n) where
      by_test : (t : Bool) → cond t None (cond (is_some (seen v)) None (f v)) ≡ cond (is_some (cond t (Some true) (seen v))) None (f v)
      by_test true = refl
      by_test false = refl

-- one request more
pub requested_more : (t : Table) (me : ℕ) (f : List ℕ → Option (Name × ℕ)) (words : List (List ℕ)) (i : ℕ) (w : List ℕ) → i < length words → w ≡ get_or words i w → (had new : List MissingCallView)
    → new ≡ had ++ found_calls t me (asked_then w (closed_all (take i words) f w) [])
    → new ++ found_calls t me (asked_by (closed_all (take (i + 1) words) f) (drop (i + 1) words)) ≡ had ++ found_calls t me (asked_by (closed_all (take i words) f) (drop i words))
requested_more t me f words i w l is had new e =
    let g = closed_all (take i words) f in
    let k : suc i ≡ i + 1 = omega arith in
    let rest = asked_by (closed w g) (drop (i + 1) words) in
    let cut : drop i words ≡ w ∷ drop (i + 1) words = drop-cons words i w l ∙ (λ j. sym is j ∷ drop (k j) words) in
    let fewer = one_fewer f words i w l is in
    (λ j. e j ++ found_calls t me (asked_by (fewer j) (drop (i + 1) words)))
    ∙ append_assoc had (found_calls t me (asked_then w (g w) [])) (found_calls t me rest)
    ∙ ap (λ xs. had ++ xs) (sym (found-append t me (asked_then w (g w) []) rest) ∙ ap (found_calls t me) (sym (then_parts w (g w) rest)))
    ∙ ap (λ xs. had ++ found_calls t me (asked_by g xs)) (sym cut)

-- a rank that waits for an outcome
pub awaits_found : (t : Table) (r : TableRank) (name : Name) (call : ℕ) → option_map {U = Name × ℕ} (λ (w : WaitView). (w.name, w.call)) r.waits ≡ Some (name, call) → found_calls t r.me ((None, (name, call)) ∷ []) ≡ calls_found t r
awaits_found t r name call e = by_wait r.waits e where
  by_wait : (o : Option WaitView) → option_map {U = Name × ℕ} (λ (w : WaitView). (w.name, w.call)) o ≡ Some (name, call) → found_calls t r.me ((None, (name, call)) ∷ []) ≡ found_calls t r.me (asked_of r.requests (todo_of o r.todo))
  by_wait None f = cc f
  by_wait (Some w) f = ap (λ (c : Name × ℕ). found_calls t r.me ((None, c) ∷ [])) (sym (same_Some (w.name, w.call) (name, call) f))

-- or for none
pub next_found : (t : Table) (r : TableRank) (words : List (List ℕ)) → option_map {U = Name × ℕ} (λ (w : WaitView). (w.name, w.call)) r.waits ≡ None → asked_by r.requests words ≡ asked_of r.requests (doing r.todo) → found_calls t r.me (asked_by r.requests words) ≡ calls_found t r
next_found t r words e f = by_wait r.waits e where
  by_wait : (o : Option WaitView) → option_map {U = Name × ℕ} (λ (w : WaitView). (w.name, w.call)) o ≡ None → found_calls t r.me (asked_by r.requests words) ≡ found_calls t r.me (asked_of r.requests (todo_of o r.todo))
  by_wait None g = ap (found_calls t r.me) f
  by_wait (Some w) g = cc g

-- THE RANKS

-- one rank more
pub found_more : (f : ℕ → WaitingView) (test : ℕ → Bool) (n : ℕ) (had new : List WaitingView) → had ≡ map f (which test n) → new ≡ had ++ cond (test n) (f n ∷ []) [] → new ≡ map f (which test (n + 1))
found_more f test n had new h e =
    let k : suc n ≡ n + 1 = omega arith in
    e ∙ ap (λ xs. xs ++ cond (test n) (f n ∷ []) []) h ∙ by_test (test n) ∙ ap (λ m. map f (which test m)) k where
      by_test : (b : Bool) → map f (which test n) ++ cond b (f n ∷ []) [] ≡ map f (which test n ++ cond b (n ∷ []) [])
      by_test true = sym (map-append f (which test n) (n ∷ []))
      by_test false = sym (map-append f (which test n) [])

map_which : (f g : ℕ → WaitingView) (test : ℕ → Bool) (n : ℕ) → ((p : ℕ) → p < n → f p ≡ g p) → map f (which test n) ≡ map g (which test n)
map_which f g test zero h = refl
map_which f g test (suc n) h =
    let first : map f (which test n) ≡ map g (which test n) = map_which f g test n (λ p l. h p (omega (arith, l))) in
    map-append f (which test n) (cond (test n) (n ∷ []) []) ∙ (λ i. first i ++ by_test (test n) i) ∙ sym (map-append g (which test n) (cond (test n) (n ∷ []) [])) where
      by_test : (b : Bool) → map f (cond b (n ∷ []) []) ≡ map g (cond b (n ∷ []) [])
      by_test true = λ i. h n (omega arith) i ∷ []
      by_test false = refl

map_filter : (f g : Asked → MissingCallView) (test : Asked → Bool) (xs : List Asked) → ((i : ℕ) (a : Asked) → slice_get xs i ≡ Some a → f a ≡ g a) → map f (filter test xs) ≡ map g (filter test xs)
map_filter f g test [] h = refl
map_filter f g test (x ∷ xs) h = by_test (test x) (h 0 x refl) (map_filter f g test xs (λ i a e. h (suc i) a e)) where
  by_test : (b : Bool) → f x ≡ g x → map f (filter test xs) ≡ map g (filter test xs) → map f (cond b (x ∷ filter test xs) (filter test xs)) ≡ map g (cond b (x ∷ filter test xs) (filter test xs))
  by_test true e rest = λ i. e i ∷ rest i
  by_test false e rest = rest

not_there : {A : Type 0} (o : Option A) → not (is_some o) ≡ is_none o
not_there None = refl
not_there (Some x) = refl

module _ (ops : List Operation) (script : ScriptView) (rs : List TableRank) (t : Table) (e : AreAtEnd ops script.statements script.ranks rs t) where
  -- whom the table lacks
  missing_same : (p : ℕ) (name : Name) (call : ℕ) → call < length (posts_on name (e.end p).made) → missing_there (t name) call ≡ missing_to ops script.ranks e.end name call
  missing_same p name call l = by_context (t name) refl where
    by_context : (o : Option ContextView) → t name ≡ o → missing_there o call ≡ missing_to ops script.ranks e.end name call
    by_context None f = absurd (let empty : length (posts_on name (e.end p).made) ≡ 0 = ap length (e.are.shows.none name f p) in omega (arith, l, empty))
    by_context (Some c) f =
        ap (λ posts. lacking c.birth.members posts call) (e.are.shows.posts name c f)
        ∙ lacking_of (λ member. posts_on name (e.end member).made) c.birth.members call
        ∙ sym (ap (missing_of e.end name call) (e.are.shows.born name c f))

  calls_same : (p : ℕ) (r : TableRank) → slice_get rs p ≡ Some r → calls_found t r ≡ (waits_at ops script.statements script.ranks e.end p).calls
  calls_same p r at =
      let s = e.end p in
      let here = e.are.each p r at in
      let requests : r.requests ≡ named s.requests = λ i word. here.1.requests word i in
      let asks : asked_of r.requests (todo_of r.waits r.todo) ≡ asked s = λ i. asked_of (requests i) (sym here.1.todo i) in
      let knows : answer_on ops t p ≡ known ops script.ranks e.end p = λ i name call. results_same ops script.ranks t (posted_by e.end) e.are.shows p name call i in
      let open_where_unknown : is_open t p ≡ is_unknown (answer_on ops t p) = λ i a. (ap not (given_there ops t p a.1.0 a.1.1) ∙ not_there (answer_on ops t p a.1.0 a.1.1)) i in
      (λ i. found_calls t (here.0 i) (asks i))
      ∙ ap (λ test. map (found_call t) (filter test (asked s))) open_where_unknown
      ∙ ap (λ r. map (found_call t) (filter (is_unknown r) (asked s))) knows
      ∙ map_filter (found_call t) (missing_call ops script.ranks e.end) (is_unknown (known ops script.ranks e.end p)) (asked s) (λ i a f.
      let posted = has_posted ops (known ops script.ranks e.end p) (bound_at_start script.ranks) (statements_of script.statements p) s (each-carries_out ops script.statements script.ranks e.end e.evaluation.reached p) i a f in
      ap (λ missing. record { request = a.0; name = a.1.0; call = a.1.1; missing = missing }) (missing_same p a.1.0 a.1.1 posted))

  found_same : (p : ℕ) → p < script.ranks → found_at script.statements t p (slice_get rs p) ≡ waits_at ops script.statements script.ranks e.end p
  found_same p l =
      let at = there ops script rs t e p l in
      let here = e.are.each p at.0 at.1 in
      let todo : awaited at.0.waits + length at.0.todo ≡ length (e.end p).todo = sym (todo_length at.0.waits at.0.todo) ∙ ap length (sym here.1.todo) in
      let statement : length (slice_index_or script.statements p []) - (awaited at.0.waits + length at.0.todo) ≡ length (statements_of script.statements p) - length (e.end p).todo =
      λ i. length (at_index script.statements p i) - todo i in
      ap (found_at script.statements t p) at.1 ∙ λ i. record { rank = p; statement = statement i; calls = calls_same p at.0 at.1 i }

  pub waits_found : (found : List WaitingView) → found ≡ map (λ p. found_at script.statements t p (slice_get rs p)) (which (λ p. is_waiting_at (slice_get rs p)) script.ranks) → found ≡ waiting_in_full ops script.statements script.ranks e.end
  waits_found found is =
      is
      ∙ map_which (λ p. found_at script.statements t p (slice_get rs p)) (waits_at ops script.statements script.ranks e.end) (λ p. is_waiting_at (slice_get rs p)) script.ranks found_same
      ∙ ap (map (waits_at ops script.statements script.ranks e.end)) (which_same (λ p. is_waiting_at (slice_get rs p)) (λ p. is_left (e.end p).todo) script.ranks (waits_same ops script rs t e))

-- REQUESTS

place_itself : (o : Option (Name × ℕ)) → o ≡ option_map at_place o
place_itself None = refl
place_itself (Some place) = refl

-- a request of the table is the place of its call
pub requests_same : (m : BTreeMap (List ℕ) (Name × ℕ)) → looked_up m ≡ requests_of at_place m
requests_same m = λ i word. place_itself (looked_up m word) i
