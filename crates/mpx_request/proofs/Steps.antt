-- The steps of a node, and what stays over them.
use Rattle.std.proofs.Common.{◌≡◌, ℕ, zero, suc, ◌+◌, ◌-◌, ◌<◌, ◌≤◌, max, Bool, true, false, cond, List, [], ◌∷◌, ◌++◌, length, Option, Some, None, ◌⊎◌, inl, inr, refl, sym, ap, ◌∙◌, subst, arith, is_some}
use Rattle.std.specs.Prelude.{◌||◌, Result, Ok, Err, IfErr, slice_get, nat_le, nat_lt}
use Rattle.std.specs.Option.{option_map}
use Rattle.std.proofs.lemmas.Bool.Decides.{nat_tests}
use Rattle.std.proofs.lemmas.Option.{same_Some, option_and_then_some, slice_get_past}
use Rattle.std.proofs.lemmas.List.{length-append}
use Rattle.mpx_name.specs.Order.{name_equality}
use Rattle.join_core.specs.laws.Cases.{TestAnswer, yes, no, answer}
use Rattle.join_core.specs.declared.memory.OutOfMemory.{OutOfMemory}
use Rattle.join_core.specs.Flat.{FlatView, known, unknown, clash, flat_join, flat_leq}
use Rattle.mpx_post.specs.Posts.{Given}
use Rattle.mpx_birth.specs.Births.{BirthView}
use Rattle.mpx_post.specs.Equality.{same_given, given_equality}
use Rattle.mpx_name.specs.Name.{Name, same_name}
use Rattle.mpx_num.specs.declared.own.Operation.{Operation}
use Rattle.mpx_board.specs.Boards.{Context, Look, gone, join_contexts, join_live, told}
use Rattle.mpx_value.specs.declared.outcomes.Outcome.{Outcome}
use Rattle.mpx_node.specs.declared.finished.Finished.{Finished}
use Rattle.mpx_node.specs.declared.node.Harvest.{Harvest}
use Rattle.mpx_node.specs.declared.node.Harvest.TheVariants.{Done, NotYet, NotOpened}
use Rattle.mpx_node.specs.Harvests.{Harvests, HarvestsOpened}
use Rattle.mpx_node.specs.Nodes.{NodeView, OpenedView, posted_by, results_on, results_by, front_on, next_result, next_of, result_of, outcome_on, learn, add_result, children_on, or_new, opens, stores_on, is_new_to, harvest_part}
use Rattle.mpx_node.specs.Stored.{stored_at}
use Rattle.mpx_request.specs.Later.{result_at, is_empty, is_let_go, IsAtHand, IsHeld, IsOwn, Later, IsPending}
use Rattle.mpx_board.proofs.Facts.{posts_bound, posts_order}
use Rattle.mpx_node.proofs.Gone.{stored_append, stored_push}
use Rattle.mpx_node.proofs.Nexts.{no_next, some_next}

-- a fact that holds whatever the refusal is
pub if_err : {A E : Type 0} (r : Result A E) (P : Type 0) → P → IfErr r (λ e. P)
if_err (Ok x) P h = tt
if_err (Err e) P h = h

-- TIME

pub later_none : (a : NodeView) → Later a a
later_none a = record { me = refl; posted = λ n. refl; stored = λ n k f e. e; let_go = λ n k. refl; own = λ n k g o. o }

pub later_more : (a b c : NodeView) → Later a b → Later b c → Later a c
later_more a b c x y = record {
  me = y.me ∙ x.me;
  posted = λ n. y.posted n ∙ x.posted n;
  stored = λ n k f e. y.stored n k f (x.stored n k f e);
  let_go = λ n k. y.let_go n k ∙ x.let_go n k;
  own = λ n k g o. y.own n k g (x.own n k g o);
}

pub later_same : (a b : NodeView) → b ≡ a → Later a b
later_same a b e = subst (λ x. Later a x) (sym e) (later_none a)

-- WHAT IS HELD

-- nothing is held of a dead context
held_gone : (k p : ℕ) (given : Given) → IsHeld gone k p given
held_gone k p given = record { held = λ alive l. cc alive; lost = λ x. refl }

none_below : (m k : ℕ) (v : FlatView Given) → k < m → cond (nat_le m k) v unknown ≡ unknown
none_below m k v l = let no : nat_le m k ≡ false = grind (arith, nat_tests) in ap (λ b. cond b v unknown) no

not_above : (m k : ℕ) → nat_le m k ≡ false → m ≤ k → ⊥
not_above m k e l = grind (arith, nat_tests)

kept_above : (m k : ℕ) (given : Given) (v : FlatView Given) → m ≤ k → flat_leq same_given (known given) v ≡ true → flat_leq same_given (known given) (cond (nat_le m k) v unknown) ≡ true
kept_above m k given v l h = by_test (nat_le m k) refl where
  by_test : (b : Bool) → nat_le m k ≡ b → flat_leq same_given (known given) (cond b v unknown) ≡ true
  by_test true e = h
  by_test false e = absurd (not_above m k e l)

-- a live context holds a post that stands in the two that are joined
pub held_live : (c d : Context) (k p : ℕ) (given : Given) → (max c.dropped d.dropped ≤ k → flat_leq same_given (known given) (flat_join same_given (c.posts k p) (d.posts k p)) ≡ true) → IsHeld (join_live c d) k p given
held_live c d k p given above = record { held = λ alive l. kept_above (max c.dropped d.dropped) k given (flat_join same_given (c.posts k p) (d.posts k p)) l (above l); lost = lost } where
  lost : (false ≡ true) ⊎ (k < max c.dropped d.dropped) → cond (nat_le (max c.dropped d.dropped) k) (flat_join same_given (c.posts k p) (d.posts k p)) unknown ≡ unknown
  lost (inl dead) = cc dead
  lost (inr l) = none_below (max c.dropped d.dropped) k (flat_join same_given (c.posts k p) (d.posts k p)) l

-- so does the join, where both may be dead
pub held_either : (c d : Context) (k p : ℕ) (given : Given) → ((c.dead || d.dead) ≡ false → IsHeld (join_live c d) k p given) → TestAnswer (c.dead || d.dead) → IsHeld (join_contexts c d) k p given
held_either c d k p given live (yes t) = subst (λ x. IsHeld x k p given) (sym (ap (λ b. cond b gone (join_live c d)) t)) (held_gone k p given)
held_either c d k p given live (no n) = subst (λ x. IsHeld x k p given) (sym (ap (λ b. cond b gone (join_live c d)) n)) (live n)

first_live : (a b : Bool) → (a || b) ≡ false → a ≡ false
first_live true b n = n
first_live false b n = refl

first_front : (a b k : ℕ) → max a b ≤ k → a ≤ k
first_front a b k l = omega (arith, l)

-- a post that is held is held by each join
pub held_joined : (c d : Context) (k p : ℕ) (given : Given) → IsHeld c k p given → IsHeld (join_contexts c d) k p given
held_joined c d k p given h =
    held_either c d k p given
    (λ n. held_live c d k p given (λ l. posts_order.transitive (known given) (c.posts k p) (flat_join same_given (c.posts k p) (d.posts k p)) (h.held (first_live c.dead d.dead n) (first_front c.dropped d.dropped k l)) (posts_bound.above_first (c.posts k p) (d.posts k p))))
    (answer (c.dead || d.dead))

told_held : (v : FlatView Given) (given m : Given) → flat_leq same_given (known given) v ≡ true → told v ≡ Some m → m ≡ given
told_held unknown given m l e = cc e
told_held (known x) given m l e = sym (same_Some x m e) ∙ sym (given_equality.sound given x l)
told_held clash given m l e = cc e

-- what is told there is the own post
told_own : (c : Context) (k p : ℕ) (given m : Given) → IsHeld c k p given → told (c.posts k p) ≡ Some m → m ≡ given
told_own c k p given m h e = by_dead (answer c.dead) where
  none : (c.dead ≡ true) ⊎ (k < c.dropped) → m ≡ given
  none x = let lost : c.posts k p ≡ unknown = h.lost x in cc (ap told lost, e)

  by_front : c.dead ≡ false → TestAnswer (nat_le c.dropped k) → m ≡ given
  by_front alive (yes t) = told_held (c.posts k p) given m (h.held alive (grind (arith, nat_tests))) e
  by_front alive (no f) = none (inr (grind (arith, nat_tests)))

  by_dead : TestAnswer c.dead → m ≡ given
  by_dead (yes t) = none (inl t)
  by_dead (no f) = by_front f (answer (nat_le c.dropped k))

-- A BOARD COMES

pub later_learns : (part : Look) (a : NodeView) → Later a (learn part a)
later_learns part a = record {
  me = refl;
  posted = λ n. refl;
  stored = λ n k f e. e;
  let_go = λ n k. refl;
  own = λ n k g o. record { held = held_joined (a.board.contexts n) (part.contexts n) k a.me g o.held; mine = o.mine };
}

-- CONTEXTS ARE OPENED

posted_opens : (b : Bool) (o : Option OpenedView) → posted_by (cond b (Some (or_new o)) o) ≡ posted_by o
posted_opens true None = refl
posted_opens true (Some o) = refl
posted_opens false o = refl

results_opens : (b : Bool) (o : Option OpenedView) → results_by (cond b (Some (or_new o)) o) ≡ results_by o
results_opens true None = refl
results_opens true (Some o) = refl
results_opens false o = refl

pub later_opens : (new : Name → Bool) (a : NodeView) → Later a (opens new a)
later_opens new a = record {
  me = refl;
  posted = λ n. posted_opens (new n) (a.opened n);
  stored = λ n k f e. ap (λ rs. stored_at rs k) (results_opens (new n) (a.opened n)) ∙ e;
  let_go = λ n k. ap (λ rs. is_empty (slice_get rs k)) (results_opens (new n) (a.opened n));
  own = λ n k g o. record { held = o.held; mine = λ f e. o.mine f (ap (λ rs. stored_at rs k) (sym (results_opens (new n) (a.opened n))) ∙ e) };
}

-- A CALL IS DONE

module _ (ops : List Operation) (board : Look) (name : Name) (me : ℕ) (finished : Finished) where
  made_of : (mine : Given) (o : Option Outcome) → option_map (λ outcome. record { mine = mine; outcome = outcome }) o ≡ Some finished → finished.mine ≡ mine
  made_of mine None e = cc e
  made_of mine (Some x) e = sym (ap (λ (f : Finished). f.mine) (same_Some _ finished e))

  -- a result has the post that is told
  result_mine : (k : ℕ) → result_of ops board name me k ≡ Some finished → told ((board.contexts name).posts k me) ≡ Some finished.mine
  result_mine k e = option_and_then_some (λ mine. option_map (λ outcome. record { mine = mine; outcome = outcome }) (outcome_on ops board name me k)) (told ((board.contexts name).posts k me)) finished e
      (λ mine is f. is ∙ ap Some (sym (made_of mine (outcome_on ops board name me k) f)))

  next_mine : (o : Option OpenedView) → next_of ops o board name me ≡ Some finished → told ((board.contexts name).posts (length (results_by o)) me) ≡ Some finished.mine
  next_mine None e = cc e
  next_mine (Some o) e = by_test (nat_lt (length o.results) o.posted) e where
    by_test : (b : Bool) → cond b (result_of ops board name me (length o.results)) None ≡ Some finished → told ((board.contexts name).posts (length o.results) me) ≡ Some finished.mine
    by_test true f = result_mine (length o.results) f
    by_test false f = cc f

module _ (finished : Finished) where
  abbrev with_result : OpenedView → OpenedView
  with_result o = record o { results = o.results ++ Some finished ∷ [] }

  posted_stays : (b : Bool) (o : Option OpenedView) → posted_by (cond b (option_map with_result o) o) ≡ posted_by o
  posted_stays true None = refl
  posted_stays true (Some o) = refl
  posted_stays false o = refl

pub get_either : {A : Type 0} (xs : List A) (y : A) (k : ℕ) (x : A) → slice_get (xs ++ y ∷ []) k ≡ Some x → (slice_get xs k ≡ Some x) ⊎ ((k ≡ length xs) × (y ≡ x))
get_either [] y zero x e = inr (refl, same_Some y x e)
get_either [] y (suc k) x e = cc e
get_either (z ∷ xs) y zero x e = inl e
get_either (z ∷ xs) y (suc k) x e = one_more (get_either xs y k x e) where
  one_more : (slice_get xs k ≡ Some x) ⊎ ((k ≡ length xs) × (y ≡ x)) → (slice_get (z ∷ xs) (suc k) ≡ Some x) ⊎ ((suc k ≡ length (z ∷ xs)) × (y ≡ x))
  one_more (inl f) = inl f
  one_more (inr f) = inr (ap suc f.0, f.1)

-- WHAT IS STORED, AND WHAT WAS LET GO

-- what is stored behind one more was there, or is the last
stored_either : (xs : List (Option Finished)) (y : Finished) (k : ℕ) (x : Finished) → stored_at (xs ++ Some y ∷ []) k ≡ Some x → (stored_at xs k ≡ Some x) ⊎ ((k ≡ length xs) × (y ≡ x))
stored_either xs y k x e = stored_push (λ a i. (stored_at xs i ≡ Some a) ⊎ ((i ≡ length xs) × (y ≡ a))) xs y k x e (λ there. inl there) (λ same at. inr (at, same))

-- one more lets none go
empty_push : (xs : List (Option Finished)) (y : Finished) (k : ℕ) → is_empty (slice_get (xs ++ Some y ∷ []) k) ≡ is_empty (slice_get xs k)
empty_push [] y zero = refl
empty_push [] y (suc k) = refl
empty_push (o ∷ xs) y zero = refl
empty_push (o ∷ xs) y (suc k) = empty_push xs y k

-- what has no result and wasn't let go isn't harvested
ahead_in : (xs : List (Option Finished)) (k : ℕ) → None ≡ stored_at xs k → is_empty (slice_get xs k) ≡ false → length xs ≤ k
ahead_in [] k e f = omega arith
ahead_in (Some x ∷ xs) zero e f = cc e
ahead_in (None ∷ xs) zero e f = cc f
ahead_in (o ∷ xs) (suc k) e f = let l = ahead_in xs k e f in omega (arith, l)

pub ahead_of : (node : NodeView) (name : Name) (call : ℕ) → None ≡ result_at node name call → is_let_go node name call ≡ false → front_on node name ≤ call
ahead_of node name call e f = ahead_in (results_on node name) call e f

-- what isn't harvested wasn't let go
pub ahead_kept : (node : NodeView) (name : Name) (call : ℕ) → front_on node name ≤ call → is_let_go node name call ≡ false
ahead_kept node name call l = ap is_empty (slice_get_past (results_on node name) call l)

-- nor what is there
there_in : (xs : List (Option Finished)) (k : ℕ) (x : Finished) → Some x ≡ stored_at xs k → false ≡ is_empty (slice_get xs k)
there_in [] k x e = refl
there_in (Some y ∷ xs) zero x e = refl
there_in (None ∷ xs) zero x e = cc e
there_in (o ∷ xs) (suc k) x e = there_in xs k x e

pub there_kept : (node : NodeView) (name : Name) (call : ℕ) (finished : Finished) → Some finished ≡ result_at node name call → false ≡ is_let_go node name call
there_kept node name call finished e = there_in (results_on node name) call finished e

module _ (ops : List Operation) (old : NodeView) (name : Name) (finished : Finished) (is : next_result ops old name ≡ Some finished) where
  abbrev after : Name → Bool → Option OpenedView
  after n b = cond b (option_map (with_result finished) (old.opened n)) (old.opened n)

  stored_by : (b : Bool) (o : Option OpenedView) (k : ℕ) (g : Finished) → stored_at (results_by o) k ≡ Some g → stored_at (results_by (cond b (option_map (with_result finished) o) o)) k ≡ Some g
  stored_by true None k g e = e
  stored_by true (Some o) k g e = stored_append o.results (Some finished ∷ []) k g e
  stored_by false o k g e = e

  empty_by : (b : Bool) (o : Option OpenedView) (k : ℕ) → is_empty (slice_get (results_by (cond b (option_map (with_result finished) o) o)) k) ≡ is_empty (slice_get (results_by o) k)
  empty_by true None k = refl
  empty_by true (Some o) k = empty_push o.results finished k
  empty_by false o k = refl

  mine_by : (o : Option OpenedView) → next_of ops o old.board name old.me ≡ Some finished → (k : ℕ) (given : Given) → IsHeld (old.board.contexts name) k old.me given → ((g : Finished) → stored_at (results_by o) k ≡ Some g → g.mine ≡ given) → (g : Finished) → stored_at (results_by (option_map (with_result finished) o)) k ≡ Some g → g.mine ≡ given
  mine_by None e k given h before g s = cc e
  mine_by (Some o) e k given h before g s = by_place (stored_either o.results finished k g s) where
    by_place : (stored_at o.results k ≡ Some g) ⊎ ((k ≡ length o.results) × (finished ≡ g)) → g.mine ≡ given
    by_place (inl there) = before g there
    by_place (inr last) =
        let here : told ((old.board.contexts name).posts k old.me) ≡ Some finished.mine = ap (λ j. told ((old.board.contexts name).posts j old.me)) last.0 ∙ next_mine ops old.board name old.me finished (Some o) e in
        sym (ap (λ (f : Finished). f.mine) last.1) ∙ told_own (old.board.contexts name) k old.me given finished.mine h here

  mine_at : (n : Name) (k : ℕ) (given : Given) → IsOwn old n k given → TestAnswer (same_name n name) → (g : Finished) → stored_at (results_by (after n (same_name n name))) k ≡ Some g → g.mine ≡ given
  mine_at n k given o (no f) g e = o.mine g (ap (λ b. stored_at (results_by (after n b)) k) (sym f) ∙ e)
  mine_at n k given o (yes t) g e =
      let same : n ≡ name = name_equality.sound n name t in
      let here : stored_at (results_by (after name true)) k ≡ Some g = ap (λ q. stored_at (results_by (after q true)) k) (sym same) ∙ ap (λ b. stored_at (results_by (after n b)) k) (sym t) ∙ e in
      mine_by (old.opened name) is k given
      (subst (λ q. IsHeld (old.board.contexts q) k old.me given) same o.held)
      (subst (λ q. (f : Finished) → stored_at (results_by (old.opened q)) k ≡ Some f → f.mine ≡ given) same o.mine)
      g here

  abbrev storing : NodeView
  storing = stores_on name finished old

  later_stored : Later old storing
  later_stored = record {
    me = refl;
    posted = λ n. posted_stays finished (same_name n name) (old.opened n);
    stored = λ n k f e. stored_by (same_name n name) (old.opened n) k f e;
    let_go = λ n k. empty_by (same_name n name) (old.opened n) k;
    own = λ n k g o. record { held = o.held; mine = mine_at n k g o (answer (same_name n name)) };
  }

  module _ (made : List (Name × BirthView)) where
    abbrev telling : NodeView
    telling = learn (harvest_part name made old) storing

    pub later_done : Later old (add_result name finished made old)
    later_done = later_more old storing (add_result name finished made old) later_stored (later_more storing telling (add_result name finished made old) (later_learns (harvest_part name made old) storing) (later_opens (is_new_to old.me made) telling))

    longer : (o : Option OpenedView) → next_of ops o old.board name old.me ≡ Some finished → length (results_by (option_map (with_result finished) o)) ≡ length (results_by o) + 1
    longer None e = cc e
    longer (Some o) e = length-append o.results (Some finished ∷ [])

    pub front_done : front_on (add_result name finished made old) name ≡ front_on old name + 1
    front_done = ap length (results_opens (is_new_to old.me made name) (telling.opened name)) ∙ ap (λ b. length (results_by (after name b))) (name_equality.reflexive name) ∙ longer (old.opened name) is

-- HARVESTS

module _ (ops : List Operation) (old new : NodeView) (name : Name) where
  later_by : (b : Bool) (next : Option Finished) (result : Result Harvest OutOfMemory) → next_result ops old name ≡ next → Harvests ops b name next result old new → Later old new
  later_by false next result e h = later_same old new h.1
  later_by true (Some f) (Ok (Done call)) e h = subst (λ x. Later old x) (sym h.1) (later_done ops old name f e (children_on ops old.board name (front_on old name)))
  later_by true (Some f) (Ok NotYet) e h = absurd h
  later_by true (Some f) (Ok NotOpened) e h = absurd h
  later_by true None (Ok (Done call)) e h = absurd h
  later_by true None (Ok NotYet) e h = later_same old new h
  later_by true None (Ok NotOpened) e h = absurd h
  later_by true None (Err x) e h = absurd h
  later_by true (Some f) (Err x) e h = later_same old new h

  pub later_harvest : (result : Result Harvest OutOfMemory) → Harvests ops (is_some (old.opened name)) name (next_result ops old name) result old new → Later old new
  later_harvest result h = later_by (is_some (old.opened name)) (next_result ops old name) result refl h

  front_by : (b : Bool) (next : Option Finished) (call : ℕ) → next_result ops old name ≡ next → Harvests ops b name next (Ok (Done call)) old new → front_on new name ≡ front_on old name + 1
  front_by false next call e h = cc (h.0)
  front_by true (Some f) call e h = ap (λ x. front_on x name) h.1 ∙ front_done ops old name f e (children_on ops old.board name (front_on old name))
  front_by true None call e h = absurd h

  -- each that is done is one more result
  pub front_harvest : (call : ℕ) → Harvests ops (is_some (old.opened name)) name (next_result ops old name) (Ok (Done call)) old new → front_on new name ≡ front_on old name + 1
  front_harvest call h = front_by (is_some (old.opened name)) (next_result ops old name) call refl h

  pending_by : (b : Bool) (next : Option Finished) (call : ℕ) → next_result ops old name ≡ next → front_on old name ≤ call → Harvests ops b name next (Ok NotYet) old new → IsPending new name call
  pending_by false next call e none h = cc (h.0)
  pending_by true (Some f) call e none h = absurd h
  pending_by true None call e none h = subst (λ x. IsPending x name call) (sym h) (record { ahead = none; next = no_next ops old name e })

  -- nothing more can be had of a call that isn't harvested
  pub pending_harvest : (call : ℕ) (answer : Harvest) → answer ≡ NotYet → front_on old name ≤ call → Harvests ops (is_some (old.opened name)) name (next_result ops old name) (Ok answer) old new → IsPending new name call
  pending_harvest call answer is none h = pending_by (is_some (old.opened name)) (next_result ops old name) call refl none (subst (λ x. Harvests ops (is_some (old.opened name)) name (next_result ops old name) (Ok x) old new) is h)

  never_opened : (next : Option Finished) → HarvestsOpened ops name next (Ok NotOpened) old new → ⊥
  never_opened (Some f) h = h
  never_opened None h = h

  unopened_by : (o : Option OpenedView) (call : ℕ) → old.opened name ≡ o → front_on old name ≤ call → Harvests ops (is_some o) name (next_of ops o old.board name old.me) (Ok NotOpened) old new → IsPending new name call
  unopened_by None call e none h = subst (λ x. IsPending x name call) (sym h.1) (record { ahead = none; next = ap (λ o. is_some (next_of [] o old.board name old.me)) e })
  unopened_by (Some o) call e none h = absurd (never_opened (next_of ops (Some o) old.board name old.me) h)

  -- nor where its context isn't opened
  pub unopened_harvest : (call : ℕ) (answer : Harvest) → answer ≡ NotOpened → front_on old name ≤ call → Harvests ops (is_some (old.opened name)) name (next_result ops old name) (Ok answer) old new → IsPending new name call
  unopened_harvest call answer is none h = unopened_by (old.opened name) call refl none (subst (λ x. Harvests ops (is_some (old.opened name)) name (next_result ops old name) (Ok x) old new) is h)

  wanting_by : (b : Bool) (next : Option Finished) (refusal : OutOfMemory) (call : ℕ) → next_result ops old name ≡ next → front_on old name ≤ call → Harvests ops b name next (Err refusal) old new → IsAtHand new name call
  wanting_by false next refusal call e ahead h = cc (h.0)
  wanting_by true (Some f) refusal call e ahead h = subst (λ x. IsAtHand x name call) (sym h) (inr (ahead, some_next ops old name f e))
  wanting_by true None refusal call e ahead h = absurd h

  -- memory can be wanting only for what is at hand
  pub wanting_harvest : (refusal : OutOfMemory) (call : ℕ) → front_on old name ≤ call → Harvests ops (is_some (old.opened name)) name (next_result ops old name) (Err refusal) old new → IsAtHand new name call
  wanting_harvest refusal call ahead h = wanting_by (is_some (old.opened name)) (next_result ops old name) refusal call refl ahead h

-- there is less to harvest up to a call that isn't harvested
pub less_left : (ops : List Operation) (old new : NodeView) (name : Name) (call k : ℕ) (h : Harvest) → h ≡ Done k → front_on old name ≤ call → Harvests ops (is_some (old.opened name)) name (next_result ops old name) (Ok h) old new → call + 1 - front_on new name < call + 1 - front_on old name
less_left ops old new name call k h is ahead done =
    let more : front_on new name ≡ front_on old name + 1 = front_harvest ops old new name k (subst (λ x. Harvests ops (is_some (old.opened name)) name (next_result ops old name) (Ok x) old new) is done) in
    omega (arith, more, ahead)
