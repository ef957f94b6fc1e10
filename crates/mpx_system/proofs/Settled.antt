-- Who is settled has no move in the evaluation.
use Rattle.std.proofs.Common.{◌≡◌, ℕ, ◌<◌, ◌≤◌, true, false, List, [], ◌∷◌, ◌++◌, length, Option, Some, None, refl, sym, ap, ◌∙◌, subst, arith, inl, inr}
use Rattle.std.specs.Prelude.{slice_get, is_some, IsTrue}
use Rattle.std.proofs.lemmas.Bool.{cases_lt}
use Rattle.std.proofs.lemmas.Option.{option_and_then_some, same_Some, slice_get_within}
use Rattle.mpx_num.specs.declared.own.Operation.{Operation}
use Rattle.mpx_name.specs.Name.{Name}
use Rattle.mpx_post.specs.Posts.{Given}
use Rattle.mpx_post.specs.Rows.{RowView}
use Rattle.mpx_birth.specs.Births.{BirthView, rank_in}
use Rattle.mpx_board.specs.Boards.{told}
use Rattle.mpx_value.specs.Values.{value}
use Rattle.mpx_value.specs.Histories.{Answer, History, Made, answer_with, birth_of, outcome_of, outcomes_by, posts_on, results_of, row_of, value_for}
use Rattle.mpx_node.specs.Nodes.{has_next, next_result, posted_on, result_on, results_on}
use Rattle.mpx_node.proofs.Gone.{past_all}
use Rattle.mpx_node.proofs.Nexts.{next_is_there}
use Rattle.mpx_world.specs.Worlds.{Happening, MayGoOn, WorldView, births, goes_on as goes_on_world, history, own_front, start as start_world, world_by}
use Rattle.mpx_world.specs.Enough.{AreDoneUpTo, IsEnough, WasBy}
use Rattle.mpx_world.proofs.Freeing.{all_of_at, ranked_at}
use Rattle.mpx_world.proofs.Opened.{opened_where}
use Rattle.mpx_world.proofs.Progress.{enough_by}
use Rattle.mpx_world.proofs.Steps.{board_so}
use Rattle.mpx_world.proofs.Truth.{told_agrees}
use Rattle.mpx_world.proofs.Whole.{LeadsTo, goes_on-append, may_append}
use Rattle.mpx_statement.specs.declared.statement.Statement.{Statement}
use Rattle.mpx_meaning.specs.Ranks.{step}
use Rattle.mpx_meaning.specs.Evaluation.{State, IsEvaluation, IsQuiet, IsReached, known, move, moves, start_state, history as history_of_ranks}
use Rattle.mpx_meaning.proofs.Steps.{step_ends}
use Rattle.mpx_meaning.proofs.Ahead.{goes_on_cases}
use Rattle.mpx_meaning.proofs.Ends.{start_quiet}
use Rattle.mpx_meaning.proofs.Tells.{mapped_some}
use Rattle.mpx_system.specs.Systems.{System, Doing, MayDoAll, Leads, does_all, start_system}
use Rattle.mpx_system.specs.Rest.{IsSettled, IsAtRest}
use Rattle.mpx_system.proofs.Coupling.{Couples, couples_all, couples_start}
use Rattle.mpx_system.proofs.Happenings.{doings_lead}
use Rattle.mpx_system.proofs.Leading.{coupled}

-- WHAT AN ANSWER COMES OF

-- all members have posted to the call, and the process is one of them
record IsOfRow (h : History) (ranks p : ℕ) (name : Name) (k : ℕ) : Type 0 where
  birth : BirthView
  born : birth_of h ranks name ≡ Some birth
  row : RowView
  whole : row_of h name birth k ≡ Some row
  rank : ℕ
  member : rank_in p birth.members ≡ Some rank

of_row : (h : History) (ranks p : ℕ) (name : Name) (k : ℕ) (answer : Answer) → results_of h ranks p name k ≡ Some answer → IsOfRow h ranks p name k
of_row h ranks p name k answer e =
    let found = mapped_some (answer_with (birth_of h ranks)) (outcome_of h ranks p name k) answer e in
    option_and_then_some (λ birth. outcomes_by h name birth p k) (birth_of h ranks name) found.0 found.1 (λ birth born f.
    option_and_then_some (λ row. value_for h.operations birth p row name k) (row_of h name birth k) found.0 f (λ row whole g.
    option_and_then_some (λ rank. Some (value h.operations birth row name k rank)) (rank_in p birth.members) found.0 g (λ rank member is.
    record { birth = birth; born = born; row = row; whole = whole; rank = rank; member = member })))

-- A SYSTEM'S POSTS

module _ (ops : List Operation) (script : List (List Statement)) (ranks : ℕ) (s : System) (c : Couples ops script ranks s) where
  history_is : history s.world ≡ history_of_ranks ops s.ranks
  history_is = λ i. history_of_ranks (c.operations i) (λ p. record (s.ranks p) { made = c.made p i })

  -- who posted a call is a rank, and its node counts it
  poster : (q : ℕ) (name : Name) (k : ℕ) (x : Given) → slice_get (posts_on name (s.ranks q).made) k ≡ Some x → (q < ranks) × (k < posted_on (s.world.each q).node name)
  poster q name k x e = (
    elim (cases_lt q ranks) [
      | inl l ↦ l
      | inr g ↦ let none : slice_get (posts_on name []) k ≡ Some x = subst (λ (ms : List Made). slice_get (posts_on name ms) k ≡ Some x) (c.relays q g) e in cc none
    ],
    (let counted = (c.upheld.holds.processes q).counted name in
        let within : k < length (posts_on name (s.ranks q).made) = slice_get_within (posts_on name (s.ranks q).made) k x e in
        let same : length (posts_on name (s.world.each q).made) ≡ length (posts_on name (s.ranks q).made) = ap (λ (ms : List Made). length (posts_on name ms)) (c.made q) in
        omega (arith, counted, within, same)),
  )

-- A RANK THAT IS SETTLED

-- where no rank has moved since the boards told so
module _ (ops : List Operation) (script : List (List Statement)) (ranks size : ℕ) (base : System) (led : Leads ranks (start_system ops script ranks size) base) (ds : List Doing) (may : MayDoAll ranks base ds) (same : (does_all base ds).ranks ≡ base.ranks)
    (p : ℕ) (l : p < ranks) (settled : IsSettled ranks base.world (does_all base ds) p) where
  abbrev now : System
  now = does_all base ds

  before : Couples ops script ranks base
  before = coupled ops script ranks size base led

  after : Couples ops script ranks now
  after = couples_all ops script ranks ds base before may

  first : LeadsTo (start_world ops ranks size) base.world
  first = subst (λ (s : System). LeadsTo (start_world ops ranks size) s.world) led.reached (doings_lead ops script ranks led.doings (start_system ops script ranks size) (couples_start ops script ranks size) led.may)

  then_on : LeadsTo base.world now.world
  then_on = doings_lead ops script ranks ds base before may

  abbrev happened : List Happening
  happened = first.happenings ++ then_on.happenings

  may_happen : MayGoOn (start_world ops ranks size) happened
  may_happen = may_append first.happenings then_on.happenings (start_world ops ranks size) first.may (subst (λ w. MayGoOn w then_on.happenings) (sym first.is) then_on.may)

  is_now : world_by ops ranks size happened ≡ now.world
  is_now = goes_on-append first.happenings then_on.happenings (start_world ops ranks size) ∙ ap (λ w. goes_on_world w then_on.happenings) first.is ∙ then_on.is

  was_base : WasBy ops ranks size happened base.world
  was_base = record { early = first.happenings; late = then_on.happenings; all = refl; is = first.is }

  done : (name : Name) (k : ℕ) → IsEnough (WasBy ops ranks size happened) (now.world.each p).node name k → AreDoneUpTo now.world p name k
  done name k h = subst (λ w. AreDoneUpTo w p name k) is_now (enough_by ops ranks size happened may_happen p name k (subst (λ (w : WorldView). IsEnough (WasBy ops ranks size happened) (w.each p).node name k) (sym is_now) h))

  history_now : history now.world ≡ history_of_ranks ops base.ranks
  history_now = history_is ops script ranks now after ∙ ap (history_of_ranks ops) same

  module _ (name : Name) (k : ℕ) (answer : Answer) (e : known ops ranks base.ranks p name k ≡ Some answer) where
    row : IsOfRow (history_of_ranks ops base.ranks) ranks p name k
    row = of_row (history_of_ranks ops base.ranks) ranks p name k answer e

    -- each member's post
    given : (place q : ℕ) → slice_get row.birth.members place ≡ Some q → (x : Given) × (slice_get (posts_on name (base.ranks q).made) k ≡ Some x)
    given place q at = let x = all_of_at ((history_of_ranks ops base.ranks).post name k) row.birth.members row.row row.whole place q at in (x.0, x.1)

    mine : k < posted_on (now.world.each p).node name
    mine =
        let x = given row.rank p (ranked_at p row.birth.members row.rank row.member) in
        (poster ops script ranks now after p name k x.0 (subst (λ (s : State). slice_get (posts_on name (s p).made) k ≡ Some x.0) (sym same) x.1)).1

    birth_is : (birth : BirthView) → told ((now.world.each p).node.board.contexts name).birth ≡ Some birth → birth ≡ row.birth
    birth_is birth b =
        let so = ((board_so now.world p (now.world.each p) (after.upheld.holds.processes p)).contexts_so name).birth_so in
        let born : births now.world name ≡ Some birth = told_agrees ((now.world.each p).node.board.contexts name).birth (births now.world name) birth so b in
        same_Some birth row.birth (sym born ∙ (λ i. birth_of (history_now i) (after.size i) name) ∙ row.born)

    enough : IsEnough (WasBy ops ranks size happened) (now.world.each p).node name k
    enough = record {
      opened = opened_where ((now.world.each p).node.opened name) (omega (arith, mine));
      posted = mine;
      each = λ birth b place q at.
          let x = given place q (subst (λ (v : BirthView). slice_get v.members place ≡ Some q) (birth_is birth (ap told b)) at) in
          let has = poster ops script ranks base before q name k x.0 x.1 in
          inr (record { moment = base.world; was = was_base; posted = has.1; below = settled.heard q has.0 });
    }

    -- so it has a result, or the next one can be had
    at_hand : result_on (now.world.each p).node name k ≡ None → has_next (now.world.each p).node name ≡ false → ⊥
    at_hand none pending = elim (cases_lt k (own_front now.world name p)) [
      | inl less ↦ let past = past_all (results_on (now.world.each p).node name) k (after.upheld.complete p name) none in absurd (omega (arith, less, past))
      | inr over ↦
          let d : IsTrue (is_some (next_result now.world.operations (now.world.each p).node name)) = (done name k enough 1 (omega (arith, over))).0 in
          let there : has_next (now.world.each p).node name ≡ true = sym (next_is_there now.world.operations (now.world.each p).node name) ∙ d in
          cc (there, pending)
    ]

  -- of a call that it lacks nothing is known
  unknown : (name : Name) (k : ℕ) → result_on (now.world.each p).node name k ≡ None → has_next (now.world.each p).node name ≡ false → known ops ranks base.ranks p name k ≡ None
  unknown name k none pending = by_answer (known ops ranks base.ranks p name k) refl where
    by_answer : (o : Option Answer) → known ops ranks base.ranks p name k ≡ o → known ops ranks base.ranks p name k ≡ None
    by_answer None e = e
    by_answer (Some answer) e = absurd (at_hand name k answer e none pending)

  pub settled_stuck : step ops (known ops ranks base.ranks p) (base.ranks p) ≡ None
  settled_stuck = sym (λ i. step (after.operations i) (known ops ranks base.ranks p) (same i p)) ∙ settled.waits (known ops ranks base.ranks p) unknown

-- WHO IS NO RANK

moves_quiet : (ops : List Operation) (ranks : ℕ) (order : List ℕ) (s : State) → IsQuiet ranks s → IsQuiet ranks (moves ops ranks order s)
moves_quiet ops ranks [] s q = q
moves_quiet ops ranks (p ∷ order) s q = moves_quiet ops ranks order (move ops ranks s p) (record {
  from = goes_on_cases ops (λ j u. ranks ≤ j → u.todo ≡ []) s p (known ops ranks s p) q.from (λ u f g. let none = step_ends ops (known ops ranks s p) (s p) (q.from p g) in cc (f, none));
})

reached_quiet : (ops : List Operation) (script : List (List Statement)) (ranks : ℕ) (s : State) → length script ≤ ranks → IsReached ops script ranks s → IsQuiet ranks s
reached_quiet ops script ranks s few r = subst (IsQuiet ranks) r.reached (moves_quiet ops ranks r.order (start_state script ranks) (start_quiet script ranks few))

-- where no rank has a move, the ranks stand at the end of the evaluation
pub stuck_ends : (ops : List Operation) (script : List (List Statement)) (ranks : ℕ) (s : State) → length script ≤ ranks → IsReached ops script ranks s → ((p : ℕ) → p < ranks → step ops (known ops ranks s p) (s p) ≡ None) → IsEvaluation ops script ranks s
stuck_ends ops script ranks s few reached stuck = record {
  reached = reached;
  maximal = λ p. elim (cases_lt p ranks) [
    | inl l ↦ stuck p l
    | inr g ↦ step_ends ops (known ops ranks s p) (s p) ((reached_quiet ops script ranks s few reached).from p g)
  ];
}

-- AT REST

pub rest_ends : (ops : List Operation) (script : List (List Statement)) (ranks size : ℕ) (s : System) → Leads ranks (start_system ops script ranks size) s → length script ≤ ranks → IsAtRest ranks s → IsEvaluation ops script ranks s.ranks
rest_ends ops script ranks size s led few rest = stuck_ends ops script ranks s.ranks few (coupled ops script ranks size s led).reached (λ p l. settled_stuck ops script ranks size s led [] tt refl p l (rest p l))
