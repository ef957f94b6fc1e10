-- From wherever a run has come to, a full round can be made.
use Rattle.std.proofs.Common.{◌≡◌, ℕ, zero, suc, ◌<◌, ◌≤◌, ◌+◌, Bool, true, false, List, [], ◌∷◌, ◌++◌, length, Option, Some, None, refl, sym, ap, ◌∙◌, subst, arith, inl, inr, append_assoc}
use Rattle.std.specs.Prelude.{◌⊎◌, slice_get, is_some, option_and_then}
use Rattle.std.specs.Option.{option_map}
use Rattle.std.proofs.Math.Nat.{eq-or-lt_of_le}
use Rattle.std.proofs.lemmas.List.{append-nil}
use Rattle.std.proofs.lemmas.Option.{same_Some}
use Rattle.mpx_num.specs.declared.own.Operation.{Operation}
use Rattle.mpx_name.specs.Name.{Name}
use Rattle.mpx_post.specs.Rows.{all_of}
use Rattle.mpx_board.specs.Boards.{Look, IsBoardBelow}
use Rattle.mpx_board.proofs.Facts.{below_through}
use Rattle.mpx_value.specs.Histories.{Answer, answer_with}
use Rattle.mpx_node.specs.declared.finished.Finished.{Finished}
use Rattle.mpx_node.specs.Nodes.{OpenedView, has_next, next_of, next_result, result_on, results_on}
use Rattle.mpx_node.proofs.Nexts.{next_is_there}
use Rattle.mpx_world.specs.Worlds.{WorldView, Harvests, Sends, Takes, births, happens, own_front}
use Rattle.mpx_node.proofs.Gone.{past_all}
use Rattle.mpx_world.proofs.Complete.{HasAll}
use Rattle.mpx_world.proofs.Later.{Later, later_goes_on, later_happens, later_itself, later_then}
use Rattle.mpx_world.proofs.Lists.{slice_get-push}
use Rattle.mpx_world.proofs.Progress.{front_next, taken_below}
use Rattle.mpx_world.proofs.Reached.{own_seen}
use Rattle.mpx_statement.specs.declared.statement.Statement.{Statement}
use Rattle.mpx_meaning.specs.Ranks.{Act, Asks, End, Local, Next, answers, done, next, step, step_by, weights}
use Rattle.mpx_meaning.specs.Evaluation.{State, IsEvaluation, left}
use Rattle.mpx_meaning.proofs.Ends.{goes_on-at}
use Rattle.mpx_meaning.proofs.Steps.{step-lowers}
use Rattle.mpx_system.specs.Systems.{System, Doing, Nets, Drives, MayDoAll, Leads, does, does_all, posts_of, start_system, world_tells}
use Rattle.mpx_system.specs.Rest.{AreFullRounds, IsFullRound, IsSettled, WaitsBy, WasSettled, after_rounds}
use Rattle.mpx_system.proofs.Coupling.{Couples, couples_all, couples_does}
use Rattle.mpx_system.proofs.Leading.{coupled}
use Rattle.mpx_system.proofs.Posting.{held_all}
use Rattle.mpx_system.proofs.Rounds.{rounds_end}

-- LISTS

none_of : {A B : Type 0} (f : B → Option A) (ps : List B) (i : ℕ) (p : B) → slice_get ps i ≡ Some p → f p ≡ None → all_of f ps ≡ None
none_of f [] i p e none = cc e
none_of {A} f (q ∷ ps) zero p e none = ap (option_and_then (λ x. option_and_then (λ ys. let o : Option (List A) = Some (x ∷ ys) in o) (all_of f ps))) (ap f (same_Some q p e) ∙ none)
none_of {A} f (q ∷ ps) (suc i) p e none = by_first (f q) (none_of f ps i p e none) where
  by_first : (o : Option A) → all_of f ps ≡ None → option_and_then (λ x. option_and_then (λ ys. let o : Option (List A) = Some (x ∷ ys) in o) (all_of f ps)) o ≡ None
  by_first None h = refl
  by_first (Some x) h = ap (option_and_then (λ ys. let o : Option (List A) = Some (x ∷ ys) in o)) h

all_given : {A B : Type 0} (f : B → Option A) (ps : List B) → ((i : ℕ) (p : B) → slice_get ps i ≡ Some p → is_some (f p) ≡ true) → (xs : List A) × (all_of f ps ≡ Some xs)
all_given f [] h = ([], refl)
all_given {A} f (p ∷ ps) h = by_first (f p) (h 0 p refl) (all_given f ps (λ i q e. h (suc i) q e)) where
  by_first : (o : Option A) → is_some o ≡ true → (xs : List A) × (all_of f ps ≡ Some xs) → (xs : List A) × (option_and_then (λ x. option_and_then (λ ys. let o : Option (List A) = Some (x ∷ ys) in o) (all_of f ps)) o ≡ Some xs)
  by_first None t rest = cc t
  by_first (Some x) t rest = (x ∷ rest.0, ap (option_and_then (λ ys. let o : Option (List A) = Some (x ∷ ys) in o)) rest.1)

opened_there : (ops : List Operation) (o : Option OpenedView) (board : Look) (name : Name) (me : ℕ) → is_some (next_of ops o board name me) ≡ true → (x : OpenedView) × (o ≡ Some x)
opened_there ops None board name me t = cc t
opened_there ops (Some x) board name me t = (x, refl)

some_there : {A : Type 0} (o : Option A) → is_some o ≡ true → (x : A) × (o ≡ Some x)
some_there None t = cc t
some_there (Some x) t = (x, refl)

-- DOINGS

pub does_all-append : (early late : List Doing) (s : System) → does_all s (early ++ late) ≡ does_all (does_all s early) late
does_all-append [] late s = refl
does_all-append (d ∷ early) late s = does_all-append early late (does s d)

may_do-append : (ranks : ℕ) (early late : List Doing) (s : System) → MayDoAll ranks s early → MayDoAll ranks (does_all s early) late → MayDoAll ranks s (early ++ late)
may_do-append ranks [] late s m n = n
may_do-append ranks (d ∷ early) late s m n = (m.0, may_do-append ranks early late (does s d) m.1 n)

later_does : (s : System) (d : Doing) → Later s.world (does s d).world
later_does s (Nets h) = later_happens s.world h
later_does s (Drives p) = later_goes_on (posts_of s.world.operations p (s.world.each p).made (s.ranks p).bound (s.ranks p).todo) s.world

later_all : (ds : List Doing) (s : System) → Later s.world (does_all s ds).world
later_all [] s = later_itself s.world
later_all (d ∷ ds) s = later_then s.world (does s d).world (does_all (does s d) ds).world (later_does s d) (later_all ds (does s d))

-- some doings lead to where this is so
record Comes (ranks : ℕ) (s : System) (P : System → Type 0) : Type 0 where
  ds : List Doing
  may : MayDoAll ranks s ds
  is : P (does_all s ds)

module _ (ops : List Operation) (script : List (List Statement)) (ranks : ℕ) where
  at_once : (s : System) (P : System → Type 0) → P s → Comes ranks s P
  at_once s P is = record { ds = []; may = tt; is = is }

  and_then : (s : System) (P Q : System → Type 0) → Couples ops script ranks s → Comes ranks s P → ((t : System) → Couples ops script ranks t → Later s.world t.world → P t → Comes ranks t Q) → Comes ranks s Q
  and_then s P Q c x f =
      let t = does_all s x.ds in
      let r = f t (couples_all ops script ranks x.ds s c x.may) (later_all x.ds s) x.is in
      record { ds = x.ds ++ r.ds; may = may_do-append ranks x.ds r.ds s x.may r.may; is = subst Q (sym (does_all-append x.ds r.ds s)) r.is }

  module _ (p : ℕ) (l : p < ranks) where
    -- HEARING

    abbrev Heard : WorldView → ℕ → System → Type 0
    Heard then n t = (q : ℕ) → q < n → IsBoardBelow (then.each q).node.board (t.world.each p).node.board

    heard_later : (then : WorldView) (n : ℕ) (s t : System) → Later s.world t.world → Heard then n s → Heard then n t
    heard_later then n s t later h q m = below_through (then.each q).node.board (s.world.each p).node.board (t.world.each p).node.board (h q m) (later.kept p).board_kept

    -- one process sends its board, and this one takes it
    hears : (s : System) → Couples ops script ranks s → (q : ℕ) → Comes ranks s (λ t. Later s.world t.world × IsBoardBelow (s.world.each q).node.board (t.world.each p).node.board)
    hears s c q =
        let board = (s.world.each q).node.board in
        let ds : List Doing = Nets (Sends q board) ∷ Nets (Takes p (length s.world.parts)) ∷ [] in
        let may : MayDoAll ranks s ds = ((tt, λ f has. inl (own_seen s.world q (s.world.each q) f (c.upheld.holds.processes q) has)), ((tt, tt), tt)) in
        let then = couples_all ops script ranks ds s c may in
        record {
          ds = ds;
          may = may;
          is = (later_all ds s, taken_below (happens s.world (Sends q board)) (does_all s ds).world p (length s.world.parts) board then.upheld.holds (slice_get-push s.world.parts board) (later_itself (does_all s ds).world));
        }

    hears_all : (then : WorldView) (n : ℕ) (s : System) → Couples ops script ranks s → Later then s.world → Comes ranks s (Heard then n)
    hears_all then zero s c later = at_once s (Heard then zero) (λ q m. absurd (omega (arith, m)))
    hears_all then (suc n) s c later =
        and_then s (Heard then n) (Heard then (suc n)) c (hears_all then n s c later) (λ t d since h.
        let x = hears t d n in
        record {
          ds = x.ds;
          may = x.may;
          is = λ q m.
              let below : q ≤ n = omega (arith, m) in
              elim (eq-or-lt_of_le below) [
                | inl same ↦ subst (λ (j : ℕ). IsBoardBelow (then.each j).node.board ((does_all t x.ds).world.each p).node.board) (sym same)
                    (below_through (then.each n).node.board (t.world.each n).node.board ((does_all t x.ds).world.each p).node.board ((later_then then s.world t.world later since).kept n).board_kept x.is.1)
                | inr less ↦ heard_later then n t (does_all t x.ds) x.is.0 h q less
              ];
        })

    -- HARVESTING

    abbrev IsHeld : System → Name → ℕ → Type 0
    IsHeld t name k = is_some (result_on (t.world.each p).node name k) ≡ true

    abbrev IsLacked : System → Name → ℕ → Type 0
    IsLacked t name k = (result_on (t.world.each p).node name k ≡ None) × (has_next (t.world.each p).node name ≡ false)

    abbrev Stays : System → System → Type 0
    Stays s t = Later s.world t.world × (t.ranks ≡ s.ranks)

    stays_then : (a b c : System) → Stays a b → Stays b c → Stays a c
    stays_then a b c h k = (later_then a.world b.world c.world h.0 k.0, k.1 ∙ h.1)

    held_later : (s t : System) → Later s.world t.world → HasAll (t.world.each p).node → (name : Name) (k : ℕ) → IsHeld s name k → IsHeld t name k
    held_later s t later all name k h =
        let f = some_there (result_on (s.world.each p).node name k) h in
        ap is_some (held_all (t.world.each p).node name k f.0 (all name) ((later.kept p).results_kept name k f.0 f.1))

    abbrev IsTried : Name → ℕ → System → System → Type 0
    IsTried name k s t = Stays s t × (IsHeld t name k ⊎ IsLacked t name k)

    -- it has a result, or it has none and none can be had; else the next one is harvested
    try_by : (name : Name) (k : ℕ) (s : System) → (result_on (s.world.each p).node name k ≡ None → has_next (s.world.each p).node name ≡ true → Comes ranks s (IsTried name k s)) → Comes ranks s (IsTried name k s)
    try_by name k s more = by_result (result_on (s.world.each p).node name k) refl where
      by_next : result_on (s.world.each p).node name k ≡ None → (b : Bool) → has_next (s.world.each p).node name ≡ b → Comes ranks s (IsTried name k s)
      by_next none false next = at_once s (IsTried name k s) ((later_itself s.world, refl), inr (none, next))
      by_next none true next = more none next

      by_result : (o : Option Finished) → result_on (s.world.each p).node name k ≡ o → Comes ranks s (IsTried name k s)
      by_result (Some f) e = at_once s (IsTried name k s) ((later_itself s.world, refl), inl (ap is_some e))
      by_result None e = by_next e (has_next (s.world.each p).node name) refl

    tries : (fuel : ℕ) (name : Name) (k : ℕ) (s : System) → Couples ops script ranks s → k < own_front s.world name p + fuel → Comes ranks s (IsTried name k s)
    tries zero name k s c fits = try_by name k s (λ none next. let past = past_all (results_on (s.world.each p).node name) k (c.upheld.complete p name) none in absurd (omega (arith, fits, past)))
    tries (suc fuel) name k s c fits = try_by name k s (λ none next.
        let t : is_some (next_result s.world.operations (s.world.each p).node name) ≡ true = next_is_there s.world.operations (s.world.each p).node name ∙ next in
        let o = opened_there s.world.operations ((s.world.each p).node.opened name) (s.world.each p).node.board name (s.world.each p).node.me t in
        let finished = some_there (next_result s.world.operations (s.world.each p).node name) t in
        let front : own_front (happens s.world (Harvests p name)) name p ≡ own_front s.world name p + 1 = front_next s.world p name o.0 finished.0 o.1 finished.1 in
        let d : Doing = Nets (Harvests p name) in
        let r = tries fuel name k (does s d) (couples_does ops script ranks s c d (tt, tt)) (omega (arith, fits, front)) in
        record { ds = d ∷ r.ds; may = ((tt, tt), r.may); is = (stays_then s (does s d) (does_all (does s d) r.ds) (later_does s d, refl) r.is.0, r.is.1) })

    abbrev AllHeld : System → List (Name × ℕ) → Type 0
    AllHeld t calls = (i : ℕ) (call : Name × ℕ) → slice_get calls i ≡ Some call → IsHeld t call.0 call.1

    record OneLacked (t : System) (calls : List (Name × ℕ)) : Type 0 where
      place : ℕ
      call : Name × ℕ
      at : slice_get calls place ≡ Some call
      lacked : IsLacked t call.0 call.1

    abbrev Tried : System → List (Name × ℕ) → System → Type 0
    Tried s calls t = Stays s t × (AllHeld t calls ⊎ OneLacked t calls)

    tries_all : (calls : List (Name × ℕ)) (s : System) → Couples ops script ranks s → Comes ranks s (Tried s calls)
    tries_all [] s c = at_once s (Tried s []) ((later_itself s.world, refl), inl (λ i call e. cc e))
    tries_all (call ∷ rest) s c =
        and_then s (IsTried call.0 call.1 s) (Tried s (call ∷ rest)) c (tries (suc call.1) call.0 call.1 s c (omega arith)) (λ t d since h. elim h.1 [
          | inr lacked ↦ at_once t (Tried s (call ∷ rest)) (h.0, inr (record { place = 0; call = call; at = refl; lacked = lacked }))
          | inl held ↦
              let r = tries_all rest t d in
              let u = does_all t r.ds in
              record {
                ds = r.ds;
                may = r.may;
                is = (
                  stays_then s t u h.0 r.is.0,
                  elim r.is.1 [
                    | inl all ↦ inl (first_and t u call rest (r.is.0.0) ((couples_all ops script ranks r.ds t d r.may).upheld.complete p) held all)
                    | inr one ↦ inr (record { place = suc one.place; call = one.call; at = one.at; lacked = one.lacked })
                  ],
                );
              }
        ]) where
          first_and : (t u : System) (call : Name × ℕ) (rest : List (Name × ℕ)) → Later t.world u.world → HasAll (u.world.each p).node → IsHeld t call.0 call.1 → AllHeld u rest → AllHeld u (call ∷ rest)
          first_and t u call rest later has held all zero x e = subst (λ (y : Name × ℕ). IsHeld u y.0 y.1) (same_Some call x e) (held_later t u later has call.0 call.1 held)
          first_and t u call rest later has held all (suc i) x e = all i x e

    -- GOING ON UNTIL IT WAITS

    lacked_waits : (s t : System) → t.ranks ≡ s.ranks → (calls : List (Name × ℕ)) (act : List Answer → Act) → next ops (s.ranks p) ≡ Asks calls act → OneLacked t calls → WaitsBy ops (t.world.each p).node (t.ranks p)
    lacked_waits s t same calls act asks one told hand =
        let asks_now : next ops (t.ranks p) ≡ Asks calls act = (λ i. next ops (same i p)) ∙ asks in
        let untold : told one.call.0 one.call.1 ≡ None = hand one.call.0 one.call.1 one.lacked.0 one.lacked.1 in
        let none : answers told calls ≡ None = none_of (λ (call : Name × ℕ). told call.0 call.1) calls one.place one.call one.at untold in
        ap (step_by told (t.ranks p)) asks_now ∙ ap (option_and_then (λ xs. let o : Option Local = Some (done (t.ranks p) (act xs)) in o)) none

    mapped_there : (born : Name → Option _) (o : Option Finished) → is_some o ≡ true → is_some (option_map (λ (f : Finished). answer_with born f.outcome) o) ≡ true
    mapped_there born None t = cc t
    mapped_there born (Some f) t = refl

    held_moves : (s t : System) → Couples ops script ranks t → t.ranks ≡ s.ranks → (calls : List (Name × ℕ)) (act : List Answer → Act) → next ops (s.ranks p) ≡ Asks calls act → AllHeld t calls → (u : Local) × (step t.world.operations (world_tells t.world p) (t.ranks p) ≡ Some u)
    held_moves s t d same calls act asks all =
        let asks_now : next ops (t.ranks p) ≡ Asks calls act = (λ i. next ops (same i p)) ∙ asks in
        let given = all_given (λ (call : Name × ℕ). world_tells t.world p call.0 call.1) calls (λ i call e. mapped_there (births t.world) (result_on (t.world.each p).node call.0 call.1) (all i call e)) in
        let u : Local = done (t.ranks p) (act given.0) in
        let steps : step ops (world_tells t.world p) (t.ranks p) ≡ Some u = ap (step_by (world_tells t.world p) (t.ranks p)) asks_now ∙ ap (option_and_then (λ xs. let o : Option Local = Some (done (t.ranks p) (act xs)) in o)) given.1 in
        (u, (λ i. step (d.operations i) (world_tells t.world p) (t.ranks p)) ∙ steps)

    abbrev ComesToWait : System → System → Type 0
    ComesToWait s t = Later s.world t.world × WaitsBy ops (t.world.each p).node (t.ranks p)

    goes_by : (s : System) → Couples ops script ranks s → (n : Next) → next ops (s.ranks p) ≡ n → ((u : System) → Couples ops script ranks u → weights (u.ranks p).todo < weights (s.ranks p).todo → Comes ranks u (ComesToWait u)) → Comes ranks s (ComesToWait s)
    goes_by s c End e again = at_once s (ComesToWait s) (later_itself s.world, λ told hand. ap (step_by told (s.ranks p)) e)
    goes_by s c (Asks calls act) e again =
        and_then s (Tried s calls) (ComesToWait s) c (tries_all calls s c) (λ t d since h. elim h.1 [
          | inr one ↦ at_once t (ComesToWait s) (since, lacked_waits s t h.0.1 calls act e one)
          | inl all ↦
              let move = held_moves s t d h.0.1 calls act e all in
              let u = does t (Drives p) in
              let at : u.ranks p ≡ move.0 = goes_on-at t.world.operations t.ranks p (world_tells t.world p) move.0 move.1 in
              let lowers : weights move.0.todo < weights (t.ranks p).todo = step-lowers t.world.operations (world_tells t.world p) (t.ranks p) move.0 move.1 in
              let same : weights (t.ranks p).todo ≡ weights (s.ranks p).todo = ap (λ (x : State). weights (x p).todo) h.0.1 in
              let less : weights (u.ranks p).todo ≡ weights move.0.todo = ap (λ (x : Local). weights x.todo) at in
              let r = again u (couples_does ops script ranks t d (Drives p) l) (omega (arith, lowers, same, less)) in
              record {
                ds = Drives p ∷ r.ds;
                may = (l, r.may);
                is = (later_then s.world u.world (does_all u r.ds).world (later_then s.world t.world u.world since (later_does t (Drives p))) r.is.0, r.is.1);
              }
        ])

    goes : (fuel : ℕ) (s : System) → Couples ops script ranks s → weights (s.ranks p).todo < fuel → Comes ranks s (ComesToWait s)
    goes zero s c fits = absurd (omega (arith, fits))
    goes (suc fuel) s c fits = goes_by s c (next ops (s.ranks p)) refl (λ u d less. goes fuel u d (omega (arith, fits, less)))

    settles : (then : WorldView) (s : System) → Couples ops script ranks s → Later then s.world → Comes ranks s (λ t. IsSettled ranks then t p)
    settles then s c later =
        and_then s (Heard then ranks) (λ t. IsSettled ranks then t p) c (hears_all then ranks s c later) (λ t d since h.
        let r = goes (suc (weights (t.ranks p).todo)) t d (omega arith) in
        let u = does_all t r.ds in
        let e = couples_all ops script ranks r.ds t d r.may in
        record {
          ds = r.ds;
          may = r.may;
          is = record { heard = heard_later then ranks t u r.is.0 h; waits = subst (λ o. WaitsBy o (u.world.each p).node (u.ranks p)) (sym e.operations) r.is.1 };
        })

  -- A ROUND

  record UpTo (n : ℕ) (s : System) : Type 0 where
    ds : List Doing
    may : MayDoAll ranks s ds
    each : (p : ℕ) → p < n → WasSettled ranks s ds p

  up_to : (n : ℕ) (s : System) → Couples ops script ranks s → n ≤ ranks → UpTo n s
  up_to zero s c few = record { ds = []; may = tt; each = λ p m. absurd (omega (arith, m)) }
  up_to (suc n) s c few =
      let r = up_to n s c (omega (arith, few)) in
      let t = does_all s r.ds in
      let x = settles n (omega (arith, few)) s.world t (couples_all ops script ranks r.ds s c r.may) (later_all r.ds s) in
      record {
        ds = r.ds ++ x.ds;
        may = may_do-append ranks r.ds x.ds s r.may x.may;
        each = λ p m.
            let below : p ≤ n = omega (arith, m) in
            elim (eq-or-lt_of_le below) [
              | inl same ↦ record {
                early = r.ds ++ x.ds;
                late = [];
                all = append-nil (r.ds ++ x.ds);
                settled = subst (IsSettled ranks s.world (does_all s (r.ds ++ x.ds))) (sym same) (subst (λ u. IsSettled ranks s.world u n) (sym (does_all-append r.ds x.ds s)) x.is);
              }
              | inr less ↦
                  let w = r.each p less in
                  record { early = w.early; late = w.late ++ x.ds; all = sym (append_assoc w.early w.late x.ds) ∙ ap (λ ys. ys ++ x.ds) w.all; settled = w.settled }
            ];
      }

  pub round_there : (s : System) → Couples ops script ranks s → (ds : List Doing) × IsFullRound ranks s ds
  round_there s c = let r = up_to ranks s c (omega arith) in (r.ds, record { may = r.may; each = r.each })

  -- ROUNDS

  record Round (n : ℕ) (s : System) : Type 0 where
    rounds : List (List Doing)
    full : AreFullRounds ranks s rounds
    count : length rounds ≡ n
    as_one : List Doing
    may : MayDoAll ranks s as_one
    same : after_rounds s rounds ≡ does_all s as_one

  rounds_there : (n : ℕ) (s : System) → Couples ops script ranks s → Round n s
  rounds_there zero s c = record { rounds = []; full = tt; count = refl; as_one = []; may = tt; same = refl }
  rounds_there (suc n) s c =
      let first = round_there s c in
      let t = does_all s first.0 in
      let rest = rounds_there n t (couples_all ops script ranks first.0 s c first.1.may) in
      record {
        rounds = first.0 ∷ rest.rounds;
        full = (first.1, rest.full);
        count = ap suc rest.count;
        as_one = first.0 ++ rest.as_one;
        may = may_do-append ranks first.0 rest.as_one s first.1.may rest.may;
        same = rest.same ∙ sym (does_all-append first.0 rest.as_one s);
      }

  -- so the end of the evaluation is within reach
  pub end_there : (size : ℕ) (s : System) → Leads ranks (start_system ops script ranks size) s → length script ≤ ranks → (more : List Doing) × (MayDoAll ranks s more × IsEvaluation ops script ranks (does_all s more).ranks)
  end_there size s led few =
      let r = rounds_there (suc (left ranks s.ranks)) s (coupled ops script ranks size s led) in
      (r.as_one, (r.may, subst (λ (t : System). IsEvaluation ops script ranks t.ranks) r.same (rounds_end ops script ranks size few r.rounds s led r.full (omega (arith, r.count)))))
