-- Ranks of which all ports say that none can go on have come to the evaluation's end.
use Rattle.std.proofs.Common.{◌≡◌, ℕ, ◌<◌, ◌≤◌, false, List, [], ◌∷◌, Option, Some, None, refl, sym, ap, ◌∙◌, subst, arith, inl, inr}
use Rattle.std.specs.Prelude.{◌⊎◌, slice_get, is_some}
use Rattle.std.specs.Option.{option_map}
use Rattle.std.proofs.lemmas.Option.{option_and_then_some, same_Some}
use Rattle.atomic_table.specs.Seated.{TableId}
use Rattle.mpx_num.specs.declared.own.Operation.{Operation}
use Rattle.mpx_name.specs.Name.{Name}
use Rattle.mpx_post.specs.Posts.{Given}
use Rattle.mpx_post.specs.Rows.{RowView}
use Rattle.mpx_post.proofs.Lists.{slice_get-append}
use Rattle.mpx_birth.specs.Births.{BirthView, rank_in}
use Rattle.mpx_board.specs.Boards.{IsGone, Look, told}
use Rattle.mpx_value.specs.Values.{value}
use Rattle.mpx_value.specs.Histories.{Answer, History, Results, Within, answer_with, birth_of, outcome_of, outcomes_by, posts_on, results_of, row_of, value_for}
use Rattle.mpx_value.proofs.Growth.{birth-grows, posts_on-append, results-grow}
use Rattle.mpx_node.specs.Nodes.{front_on}
use Rattle.mpx_world.proofs.Freeing.{all_of_at, ranked_at}
use Rattle.mpx_world.proofs.Retention.{IsKeptOn}
use Rattle.mpx_bus.specs.declared.act.Setup.{Setup}
use Rattle.mpx_bus.specs.Ports.{PortView, node_in}
use Rattle.mpx_shared.specs.LawfulPorts.{IsLawful, made_in}
use Rattle.mpx_shared.proofs.LawfulPorts.{lawful_birth, lawful_gone, lawful_stored}
use Rattle.mpx_shared.proofs.Plans.{birth_is_planned}
use Rattle.mpx_script.specs.ScriptView.{ScriptView}
use Rattle.mpx_statement.specs.declared.statement.Statement.{Statement}
use Rattle.mpx_statement.specs.Lookups.{named}
use Rattle.mpx_meaning.specs.Ranks.{Local, answers, awaited_by, step}
use Rattle.mpx_meaning.specs.Evaluation.{IsEvaluation, IsPrefixOf, State, history, known, move, moves as moves_of, start_state}
use Rattle.mpx_meaning.specs.Going.{Goes, stays, moves}
use Rattle.mpx_meaning.proofs.Ahead.{goes_on_cases}
use Rattle.mpx_meaning.proofs.Fronts.{history-grows, prefix_trans}
use Rattle.mpx_meaning.proofs.Going.{goes-adds}
use Rattle.mpx_meaning.proofs.Standing.{none_there}
use Rattle.mpx_meaning.proofs.Steps.{step_stays, step_waits}
use Rattle.mpx_meaning.proofs.Tells.{mapped_some}
use Rattle.mpx_meaning.proofs.Ways.{Way, here, on, step-grows, way-adds, way-stuck}
use Rattle.mpx_rank.specs.Carriers.{outcomes_of}
use Rattle.mpx_rank.specs.Moves.{are_done, is_done}
use Rattle.mpx_rank.proofs.Words.{answers_done}
use Rattle.mpx_system.proofs.Results.{one_fails}
use Rattle.mpx_threads.specs.Plans.{Plans}
use Rattle.mpx_threads.specs.Rest.{Lacks, WaitsFor, awaits, stands_at}
use Rattle.mpx_threads.specs.ToldCalls.{planned_birth}
use Rattle.mpx_threads.proofs.Plans.{births_are, lt_or_ge, planned_is}

-- WHO WAITS

-- who isn't told of this call has no move
abbrev pub Needs : List Operation → Local → Name × ℕ → Type 0
Needs ops s call = (told : Results) → told call.0 call.1 ≡ None → step ops told s ≡ None

-- a rank has no move without a call that it waits for
pub needs_it : (ops : List Operation) (s : Local) (call : Name × ℕ) → WaitsFor s call → Needs ops s call
needs_it ops s call (awaits target rest todo) told none = step_waits ops told s call.0 call.1 target rest todo none
needs_it ops s call (stands_at words rest todo asked) told none =
    let place : ℕ = asked.0 in
    let word : List ℕ = asked.1.0 in
    let missing : is_done (outcomes_of told) (named s.requests word) ≡ false = ap (is_done (outcomes_of told)) asked.1.1.1 ∙ ap (λ x. is_some (option_map (λ (a : Answer). a.outcome) x)) none in
    let not_done : are_done (outcomes_of told) (named s.requests) words ≡ false = one_fails (λ w. is_done (outcomes_of told) (named s.requests w)) words place word asked.1.1.0 missing in
    step_stays ops told s words rest todo (none_there (answers told (awaited_by s.requests words)) (answers_done told words s.requests ∙ not_done))

-- WAYS

-- one step more
way_then : (ops : List Operation) (r : Results) (s t u : Local) → Way ops r s t → step ops r t ≡ Some u → Way ops r s u
way_then ops r s t u here e = on e here
way_then ops r s t u (on {t = v} f w) e = on f (way_then ops r v t u w e)

as_way : (ops : List Operation) (r : Results) (s u : Local) → Goes ops r s u → Way ops r s u
as_way ops r s u stays = here
as_way ops r s u (moves {t = t} g e) = way_then ops r s t u (as_way ops r s t g) e

-- who makes a step by less than is told is on the way still, where nothing more leads on from its end
way_on : (ops : List Operation) (less r more : Results) → Within less r → Within less more → (s t u : Local) → Way ops r s u → step ops more u ≡ None → step ops less s ≡ Some t → Way ops r t u
way_on ops less r more w v s t u here stuck e = let f : step ops more s ≡ Some t = step-grows ops less more v s t e in cc (f, stuck)
way_on ops less r more w v s t u (on {t = x} f rest) stuck e = subst (λ y. Way ops r y u) (same_Some x t (sym f ∙ step-grows ops less r w s t e)) rest

-- ranks that have each come so far on the way to the evaluation's end, and of which none has a move by what they posted, are there
module _ (ops : List Operation) (script : List (List Statement)) (ranks : ℕ) (end : State) (is : IsEvaluation ops script ranks end) (ours : State)
    (come : (p : ℕ) → Goes ops (known ops ranks end p) (start_state script ranks p) (ours p)) (stuck : (p : ℕ) → step ops (known ops ranks ours p) (ours p) ≡ None) where
  record IsBehind (s : State) : Type 0 where
    each : (p : ℕ) → Way ops (known ops ranks end p) (s p) (ours p)

  posts_less : (p : ℕ) → IsPrefixOf (ours p).made (end p).made
  posts_less p = (goes-adds ops script ranks end is p (ours p) (come p)).0

  fewer : (s : State) → IsBehind s → (p : ℕ) → IsPrefixOf (s p).made (ours p).made
  fewer s b p = (way-adds ops (known ops ranks end p) (s p) (ours p) (b.each p)).0

  known_less : (s t : State) → ((p : ℕ) → IsPrefixOf (s p).made (t p).made) → (p : ℕ) → Within (known ops ranks s p) (known ops ranks t p)
  known_less s t less p = results-grow (history ops s) (history ops t) ranks (history-grows ops s t less) p

  behind_next : (s : State) → IsBehind s → (p : ℕ) → IsBehind (move ops ranks s p)
  behind_next s b p = record {
    each = goes_on_cases ops (λ q t. Way ops (known ops ranks end q) t (ours q)) s p (known ops ranks s p) b.each
        (λ t e. way_on ops (known ops ranks s p) (known ops ranks end p) (known ops ranks ours p)
        (known_less s end (λ q. prefix_trans (s q).made (ours q).made (end q).made (fewer s b q) (posts_less q)) p)
        (known_less s ours (fewer s b) p) (s p) t (ours p) (b.each p) (stuck p) e);
  }

  behind_all : (order : List ℕ) (s : State) → IsBehind s → IsBehind (moves_of ops ranks order s)
  behind_all [] s b = b
  behind_all (p ∷ order) s b = behind_all order (move ops ranks s p) (behind_next s b p)

  end_behind : IsBehind end
  end_behind = subst IsBehind is.reached.reached (behind_all is.reached.order (start_state script ranks) (record { each = λ p. as_way ops (known ops ranks end p) (start_state script ranks p) (ours p) (come p) }))

  pub at_end : ours ≡ end
  at_end = λ i p. sym (way-stuck ops (known ops ranks end p) (end p) (ours p) (end_behind.each p) (is.maximal p)) i

-- WHAT AN ANSWER COMES OF

-- all members have posted to the call, and the process is one of them
record IsOfRow (h : History) (ranks p : ℕ) (name : Name) (k : ℕ) : Type 0 where
  birth : BirthView
  born : birth_of h ranks name ≡ Some birth
  row : RowView
  whole : row_of h name birth k ≡ Some row
  rank : ℕ
  member : slice_get birth.members rank ≡ Some p

of_row : (h : History) (ranks p : ℕ) (name : Name) (k : ℕ) (answer : Answer) → results_of h ranks p name k ≡ Some answer → IsOfRow h ranks p name k
of_row h ranks p name k answer e =
    let found = mapped_some (answer_with (birth_of h ranks)) (outcome_of h ranks p name k) answer e in
    option_and_then_some (λ birth. outcomes_by h name birth p k) (birth_of h ranks name) found.0 found.1 (λ birth born f.
    option_and_then_some (λ row. value_for h.operations birth p row name k) (row_of h name birth k) found.0 f (λ row whole g.
    option_and_then_some (λ rank. Some (value h.operations birth row name k rank)) (rank_in p birth.members) found.0 g (λ rank member is.
    record { birth = birth; born = born; row = row; whole = whole; rank = rank; member = ranked_at p birth.members rank member })))

-- PORTS OF ONE BOARD

-- the port of a rank has made its posts
pub record HoldsPosts (table : TableId) (setup : Setup) (q : ℕ) (s : Local) : Type 0 where
  pub port : PortView
  pub lawful : IsLawful table setup q port
  pub posts : IsPrefixOf s.made (made_in port)

module _ (script : ScriptView) (relays : ℕ) (setup : Setup) (plan : Plans script relays setup) (table : TableId) (ours : State)
    (less : (q : ℕ) → IsPrefixOf (ours q).made (plan.end q).made) (none_past : (q : ℕ) → script.ranks ≤ q → (ours q).made ≡ [])
    (at : (q : ℕ) → q < script.ranks → HoldsPosts table setup q (ours q)) (one : (p q : ℕ) (l : p < script.ranks) (m : q < script.ranks) → (node_in (at q m).port).board ≡ (node_in (at p l).port).board) where
  abbrev end : State
  end = plan.end

  -- what a rank posted its port posted
  posted : (q : ℕ) (m : q < script.ranks) (name : Name) (k : ℕ) (x : Given) → slice_get (posts_on name (ours q).made) k ≡ Some x → slice_get (posts_on name (made_in (at q m).port)) k ≡ Some x
  posted q m name k x e =
      let rest = (at q m).posts in
      ap (λ ms. slice_get (posts_on name ms) k) (sym rest.1) ∙ ap (λ xs. slice_get xs k) (posts_on-append name (ours q).made rest.0) ∙ slice_get-append (posts_on name (ours q).made) (posts_on name rest.0) k x e

  rank_posted : (q : ℕ) (name : Name) (k : ℕ) (x : Given) → slice_get (posts_on name (ours q).made) k ≡ Some x → q < script.ranks
  rank_posted q name k x e = elim (lt_or_ge q script.ranks) [
    | inl m ↦ m
    | inr past ↦ let none : slice_get (posts_on name []) k ≡ Some x = ap (λ ms. slice_get (posts_on name ms) k) (sym (none_past q past)) ∙ e in cc none
  ]

  module _ (p : ℕ) (l : p < script.ranks) (call : Name × ℕ) (lacks : Lacks (node_in (at p l).port) call) where
    abbrev name : Name
    name = call.0

    abbrev k : ℕ
    k = call.1

    abbrev board : Look
    board = (node_in (at p l).port).board

    -- what it lacks it hasn't harvested
    not_harvested : k < front_on (node_in (at p l).port) name → ⊥
    not_harvested low = let later = lacks.later in omega (arith, later, low)

    module _ (answer : Answer) (e : known setup.operations script.ranks ours p name k ≡ Some answer) where
      row : IsOfRow (history setup.operations ours) script.ranks p name k
      row = of_row (history setup.operations ours) script.ranks p name k answer e

      birth_is : row.birth ≡ lacks.birth
      birth_is =
          let grown : birth_of (history setup.operations end) script.ranks name ≡ Some row.birth = birth-grows (history setup.operations ours) (history setup.operations end) script.ranks (history-grows setup.operations ours end less) name row.birth row.born in
          let told_so : planned_birth setup name ≡ Some lacks.birth = birth_is_planned setup name lacks.birth (planned_is script relays setup plan) (lawful_birth table setup p (at p l).port name lacks.birth (at p l).lawful lacks.born) in
          same_Some row.birth lacks.birth (sym grown ∙ sym (births_are script relays setup plan name) ∙ told_so)

      given : (place q : ℕ) → slice_get row.birth.members place ≡ Some q → (x : Given) × (slice_get (posts_on name (ours q).made) k ≡ Some x)
      given place q is = let x = all_of_at ((history setup.operations ours).post name k) row.birth.members row.row row.whole place q is in (x.0, x.1)

      abbrev place : ℕ
      place = lacks.one.0

      abbrev other : ℕ
      other = lacks.one.1.0

      -- the member's post
      theirs : (x : Given) × (slice_get (posts_on name (ours other).made) k ≡ Some x)
      theirs = given place other (subst (λ (b : BirthView). slice_get b.members place ≡ Some other) (sym birth_is) lacks.one.1.1.0)

      mine : (x : Given) × (slice_get (posts_on name (ours p).made) k ≡ Some x)
      mine = given row.rank p row.member

      rank : other < script.ranks
      rank = rank_posted other name k theirs.0 theirs.1

      kept : IsKeptOn board name k other theirs.0
      kept = subst (λ b. IsKeptOn b name k other theirs.0) (one p other l rank) (lawful_stored table setup other (at other rank).port name k theirs.0 (at other rank).lawful (posted other rank name k theirs.0 theirs.1))

      harvested : IsGone board name ⊎ (k < (board.contexts name).dropped) → ⊥
      harvested gone = not_harvested (lawful_gone table setup p (at p l).port name k mine.0 (at p l).lawful (posted p l name k mine.0 mine.1) gone)

      not_known : ⊥
      not_known = by_kept kept where
        by_kept : IsKeptOn board name k other theirs.0 → ⊥
        by_kept (inl dead) = harvested (inl dead)
        by_kept (inr (inl low)) = harvested (inr low)
        by_kept (inr (inr held)) = let there : told ((board.contexts name).posts k other) ≡ Some theirs.0 = ap told held in let none = lacks.one.1.1.1 in cc (there, none)

    -- of a call that it lacks nothing is known
    pub unknown : known setup.operations script.ranks ours p name k ≡ None
    unknown = by_answer (known setup.operations script.ranks ours p name k) refl where
      by_answer : (o : Option Answer) → known setup.operations script.ranks ours p name k ≡ o → known setup.operations script.ranks ours p name k ≡ None
      by_answer None e = e
      by_answer (Some answer) e = absurd (not_known answer e)
