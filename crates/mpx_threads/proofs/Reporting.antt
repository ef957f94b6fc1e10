-- What all processes of a run come to together.
use Rattle.std.proofs.Common.{◌≡◌, ℕ, ◌<◌, ◌≤◌, ◌⊎◌, Bool, List, [], length, map, take, true, false, Some, None, refl, sym, ap, ◌∙◌, subst, inl, inr, arith}
use Rattle.std.specs.Prelude.{slice_get, is_some}
use Rattle.std.proofs.lemmas.List.{length-map}
use Rattle.std.specs.Option.{option_map}
use Rattle.std.proofs.lemmas.Option.{same_Some, slice_get-map}
use Rattle.atomic_table.specs.Seated.{TableId}
use Rattle.mpx_num.specs.declared.own.Operation.{Operation}
use Rattle.mpx_name.specs.Name.{Name}
use Rattle.mpx_bus.specs.declared.act.Setup.{Setup}
use Rattle.mpx_bus.specs.Ports.{PortView, node_in}
use Rattle.mpx_shared.specs.LawfulPorts.{IsLawful, made_in}
use Rattle.mpx_script.specs.ScriptView.{ScriptView}
use Rattle.mpx_meaning.specs.Ranks.{Local, step}
use Rattle.mpx_meaning.specs.Evaluation.{IsEvaluation, IsPrefixOf, State, known, start_state}
use Rattle.mpx_meaning.specs.Going.{Goes, stays}
use Rattle.mpx_meaning.specs.declared.end.RankEnd.{RankEnd}
use Rattle.mpx_meaning.specs.Ends.{EndView, end_of, end_view, waiting_among, waits_at_view}
use Rattle.mpx_meaning.specs.Reports.{end_text, is_left, waiting_in, lines_in as lines_of}
use Rattle.mpx_meaning.specs.Transcripts.{line_text}
use Rattle.mpx_meaning.proofs.Ahead.{confluent}
use Rattle.mpx_meaning.proofs.Ends.{start_quiet}
use Rattle.mpx_meaning.proofs.Going.{goes-adds, goes-whole}
use Rattle.mpx_meaning.proofs.Steps.{step_ends}
use Rattle.mpx_system.specs.Runs.{AreAll, AreWhole, Begin}
use Rattle.mpx_system.proofs.Results.{length_taken, mapped_at, nothing_left, prefix_map, some_at, taken_at, which_has}
use Rattle.mpx_meaning.proofs.Reports.{is_some-mapped, lines-said, waiting-left, waits-left}
use Rattle.mpx_threads.specs.declared.worker.Worked.{Worked}
use Rattle.mpx_threads.specs.Plans.{setup_by}
use Rattle.mpx_statement.specs.Lookups.{named}
use Rattle.mpx_threads.specs.Rest.{AreAtRest, AreWaitedFor, HaveBoardInCommon, HaveComeToRest, Lacks, LacksOne, calls_in}
use Rattle.mpx_threads.specs.ThreadRuns.{IsDone, IsThreadRun}
use Rattle.mpx_threads.specs.Work.{AreWorked, HasWorked}
use Rattle.mpx_threads.proofs.Asked.{waited_for}
use Rattle.mpx_threads.proofs.Plans.{lt_or_ge}
use Rattle.mpx_threads.proofs.Resting.{HoldsPosts, at_end, needs_it, unknown}

-- what isn't false is true
told_so : (b : Bool) → (b ≡ false → ⊥) → b ≡ true
told_so true never = refl
told_so false never = absurd (never refl)

module _ (script : ScriptView) (relays : ℕ) (setup : Setup) (table : TableId) (ws : List Worked) (are : AreWorked script relays setup table ws) where
  abbrev end : State
  end = are.plan.end

  -- the rank stands there
  record IsAt (p : ℕ) (w : Worked) (s : Local) : Type 0 where
    done : IsDone setup.operations script end p w.port s
    ends : end_view w.end ≡ end_of s
    waits : is_some w.end.waits ≡ is_left s.todo
    calls : AreWaitedFor s (calls_in (end_view w.end))

  worked_at : (p : ℕ) → p < script.ranks → (w : Worked) × ((slice_get ws p ≡ Some w) × HasWorked script relays setup p w.port (end_view w.end))
  worked_at p l = let found = some_at ws p (omega (arith, l, are.count)) in (found.0, (found.1, (are.each p found.0 found.1).rank l))

  abbrev local_by : (p : ℕ) → (p < script.ranks) ⊎ (script.ranks ≤ p) → Local
  local_by p (inl l) = (worked_at p l).1.1.to
  local_by p (inr g) = start_state script.statements script.ranks p

  abbrev local : State
  local p = local_by p (lt_or_ge p script.ranks)

  at_by : (p : ℕ) (w : Worked) → slice_get ws p ≡ Some w → p < script.ranks → (x : (p < script.ranks) ⊎ (script.ranks ≤ p)) → IsAt p w (local_by p x)
  at_by p w e less (inr g) = absurd (omega (arith, less, g))
  at_by p w e less (inl l) =
      let found = worked_at p l in
      let same : found.0 ≡ w = same_Some found.0 w (sym found.1.0 ∙ e) in
      subst (λ v. IsAt p v found.1.1.to) same (record {
        done = found.1.1.done are.plan;
        ends = found.1.1.end_is;
        waits = sym (is_some-mapped waits_at_view found.0.end.waits) ∙ ap (λ (x : EndView). is_some x.waits) found.1.1.end_is ∙ waits-left (named found.1.1.to.requests) found.1.1.to.todo;
        calls = subst (λ (x : EndView). AreWaitedFor found.1.1.to (calls_in x)) (sym found.1.1.end_is) (waited_for found.1.1.to);
      })

  at_local : (p : ℕ) (w : Worked) → slice_get ws p ≡ Some w → p < script.ranks → IsAt p w (local p)
  at_local p w e l = at_by p w e l (lt_or_ge p script.ranks)

  -- each rank has come so far on its way
  come_by : (p : ℕ) (x : (p < script.ranks) ⊎ (script.ranks ≤ p)) → Goes setup.operations (known setup.operations script.ranks end p) (start_state script.statements script.ranks p) (local_by p x)
  come_by p (inl l) = ((worked_at p l).1.1.done are.plan).goes
  come_by p (inr g) = stays

  come : (p : ℕ) → Goes setup.operations (known setup.operations script.ranks end p) (start_state script.statements script.ranks p) (local p)
  come p = come_by p (lt_or_ge p script.ranks)

  -- who is no rank has done nothing
  past_by : (p : ℕ) → script.ranks ≤ p → (x : (p < script.ranks) ⊎ (script.ranks ≤ p)) → local_by p x ≡ start_state script.statements script.ranks p
  past_by p g (inl l) = absurd (omega (arith, g, l))
  past_by p g (inr h) = refl

  local_past : (p : ℕ) → script.ranks ≤ p → local p ≡ start_state script.statements script.ranks p
  local_past p g = past_by p g (lt_or_ge p script.ranks)

  none_left : (p : ℕ) → p < script.ranks → (w : Worked) → slice_get ws p ≡ Some w → is_some w.end.waits ≡ false → (local p).todo ≡ []
  none_left p l w e idle =
      let none : is_left (local p).todo ≡ false = sym (at_local p w e l).waits ∙ idle in
      nothing_left (local p).todo (λ left. let never : true ≡ false = sym left ∙ none in cc never)

  module _ (rest : HaveComeToRest script.ranks ws) where
    abbrev holds_at : (p : ℕ) → p < script.ranks → HoldsPosts table setup p (local p)
    holds_at p l = let found = worked_at p l in record { port = found.0.port; lawful = (are.each p found.0 found.1.0).lawful; posts = (at_local p found.0 found.1.0 l).done.posts }

    ended : (p : ℕ) → p < script.ranks → (w : Worked) → slice_get ws p ≡ Some w → is_some w.end.waits ≡ false → step setup.operations (known setup.operations script.ranks local p) (local p) ≡ None
    ended p l w e idle = step_ends setup.operations (known setup.operations script.ranks local p) (local p) (none_left p l w e idle)

    lacking : HaveBoardInCommon script.ranks ws → (p : ℕ) (l : p < script.ranks) → LacksOne (node_in (holds_at p l).port) (calls_in (end_view (worked_at p l).0.end)) → step setup.operations (known setup.operations script.ranks local p) (local p) ≡ None
    lacking one p l o =
        let found = worked_at p l in
        let call : Name × ℕ = o.1.0 in
        needs_it setup.operations (local p) call ((at_local p found.0 found.1.0 l).calls.only o.0 call o.1.1.0) (known setup.operations script.ranks local p)
        (unknown script relays setup are.plan table local
        (λ q. (goes-adds setup.operations script.statements script.ranks end are.plan.evaluation q (local q) (come q)).0)
        (λ q g. ap (λ (s : Local). s.made) (local_past q g))
        holds_at (λ q r m n. one q r (worked_at q m).0 (worked_at r n).0 m n (worked_at q m).1.0 (worked_at r n).1.0) p l call o.1.1.1)

    no_move : (p : ℕ) → p < script.ranks → step setup.operations (known setup.operations script.ranks local p) (local p) ≡ None
    no_move p l = let found = worked_at p l in elim rest [
      | inl all ↦ ended p l found.0 found.1.0 (all p found.0 l found.1.0)
      | inr some ↦ elim (some.1 p found.0 l found.1.0) [
        | inl idle ↦ ended p l found.0 found.1.0 idle
        | inr o ↦ lacking some.0 p l o
      ]
    ]

    stuck : (p : ℕ) → step setup.operations (known setup.operations script.ranks local p) (local p) ≡ None
    stuck p = elim (lt_or_ge p script.ranks) [
      | inl l ↦ no_move p l
      | inr g ↦ step_ends setup.operations (known setup.operations script.ranks local p) (local p) (ap (λ (s : Local). s.todo) (local_past p g) ∙ (start_quiet script.statements script.ranks (omega (arith, are.plan.counted))).from p g)
    ]

    -- so they have come to the evaluation's end
    at_its_end : local ≡ end
    at_its_end = at_end setup.operations script.statements script.ranks end are.plan.evaluation local come stuck

  module _ (ports : List PortView) (ends : List RankEnd) (waiting : List ℕ) (ports_are : ports ≡ map (λ (w : Worked). w.port) ws) (ends_are : ends ≡ take script.ranks (map (λ (w : Worked). w.end) ws)) (waiting_are : waiting ≡ waiting_among (map end_view ends)) where
    port_at : (p : ℕ) (port : PortView) → slice_get ports p ≡ Some port → (w : Worked) × (slice_get ws p ≡ Some w) × (w.port ≡ port)
    port_at p port e = mapped_at (λ (w : Worked). w.port) ws p port (ap (λ xs. slice_get xs p) (sym ports_are) ∙ e)

    abbrev said : List (List (List ℕ))
    said = map end_text ends

    -- each of these ends is that of a rank that has worked
    ended_at : (p : ℕ) (e : RankEnd) → slice_get ends p ≡ Some e → (p < script.ranks) × (end_view e ≡ end_of (local p))
    ended_at p e f =
        let taken = taken_at script.ranks (map (λ (w : Worked). w.end) ws) p e (ap (λ xs. slice_get xs p) (sym ends_are) ∙ f) in
        let found = mapped_at (λ (w : Worked). w.end) ws p e taken.1 in
        (taken.0, ap end_view (sym found.2) ∙ (at_local p found.0 found.1 taken.0).ends)

    each_end : (p : ℕ) (e : EndView) → slice_get (map end_view ends) p ≡ Some e → e ≡ end_of (local p)
    each_end p e f = let found = mapped_at end_view ends p e f in sym found.2 ∙ (ended_at p found.0 found.1).1

    lines_at : (p : ℕ) (lines : List (List ℕ)) → slice_get said p ≡ Some lines → (p < script.ranks) × (lines ≡ lines_of local p)
    lines_at p lines e = let found = mapped_at end_text ends p lines e in ((ended_at p found.0 found.1).0, lines-said ends local each_end p lines e)

    count : length ends ≡ script.ranks
    count = ap length ends_are ∙ length_taken script.ranks (map (λ (w : Worked). w.end) ws) (omega (arith, length-map ws (λ (w : Worked). w.end), are.count))

    waiting_so : waiting ≡ waiting_in local script.ranks
    waiting_so = waiting_are ∙ waiting-left (map end_view ends) local each_end ∙ ap (waiting_in local) (length-map ends end_view ∙ count)

    -- the port of a process that has worked
    there : (p : ℕ) (w : Worked) → slice_get ws p ≡ Some w → slice_get ports p ≡ Some w.port
    there p w e = ap (λ xs. slice_get xs p) ports_are ∙ slice_get-map (λ (w : Worked). w.port) ws p ∙ ap (option_map (λ (w : Worked). w.port)) e

    -- they rest where the ports say so
    ports_rest : HaveComeToRest script.ranks ws → AreAtRest script.ranks local ports
    ports_rest rest = elim rest [
      | inl all ↦ inl (λ p l. let found = worked_at p l in none_left p l found.0 found.1.0 (all p found.0 l found.1.0))
      | inr some ↦ inr (
        λ p q a b l m e f.
            let one = port_at p a e in
            let other = port_at q b f in
            ap (λ x. (node_in x).board) (sym other.2) ∙ some.0 p q one.0 other.0 l m one.1 other.1 ∙ ap (λ x. (node_in x).board) one.2,
        λ p port l e.
            let found = port_at p port e in
            elim (some.1 p found.0 l found.1) [
              | inl idle ↦ inl (none_left p l found.0 found.1 idle)
              | inr o ↦ inr (o.1.0, ((at_local p found.0 found.1 l).calls.only o.0 o.1.0 o.1.1.0, subst (λ x. Lacks (node_in x) o.1.0) found.2 o.1.1.1))
            ],
      )
    ]

    worked_rest : AreAtRest script.ranks local ports → HaveComeToRest script.ranks ws
    worked_rest rest = elim rest [
      | inl all ↦ inl (λ p w l e. (at_local p w e l).waits ∙ ap is_left (all p l))
      | inr some ↦ inr (
        λ p q w v l m e f. some.0 p q w.port v.port l m (there p w e) (there q v f),
        λ p w l e.
            elim (some.1 p w.port l (there p w e)) [
              | inl none ↦ inl ((at_local p w e l).waits ∙ ap is_left none)
              | inr x ↦ let among = (at_local p w e l).calls.all x.0 x.1.0 in inr (among.0, (x.0, (among.1, x.1.1)))
            ],
      )
    ]

    pub is_thread_run : (rests : Bool) → (rests ≡ true → HaveComeToRest script.ranks ws) → (rests ≡ false → HaveComeToRest script.ranks ws → ⊥) → IsThreadRun setup.operations script relays table ports said waiting rests
    is_thread_run rests so never = record {
      end = end;
      evaluation = are.plan.evaluation;
      count = ap length ports_are ∙ length-map ws (λ (w : Worked). w.port) ∙ are.count;
      lawful = λ p port e.
          let found = port_at p port e in
          subst (λ b. IsLawful table (setup_by setup.operations script.ranks relays end) p b) found.2 (subst (λ u. IsLawful table u p found.0.port) are.plan.setup_is (are.each p found.0 found.1).lawful);
      relays_post_nothing = λ p port e past. let found = port_at p port e in ap made_in (sym found.2) ∙ (are.each p found.0 found.1).relay past;
      ranks = local;
      done = λ p port e l. let found = port_at p port e in subst (λ b. IsDone setup.operations script end p b (local p)) found.2 (at_local p found.0 found.1 l).done;
      ranks_are = length-map ends end_text ∙ count;
      lines = λ p lines e. (lines_at p lines e).1;
      waiting_are = waiting_so;
      rest = (λ e. ports_rest (so e), λ at. told_so rests (λ e. never e (worked_rest at)));
    }

    module _ (evaluation : State) (is : IsEvaluation setup.operations script.statements script.ranks evaluation) where
      one_end : end ≡ evaluation
      one_end = confluent setup.operations script.statements script.ranks end evaluation are.plan.evaluation is

      goes_at : (p : ℕ) → p < script.ranks → Goes setup.operations (known setup.operations script.ranks end p) (start_state script.statements script.ranks p) (local p)
      goes_at p l = let found = worked_at p l in (at_local p found.0 found.1.0 l).done.goes

      pub begins : Begin said evaluation
      begins p lines e =
          let here = lines_at p lines e in
          subst (λ xs. IsPrefixOf xs (lines_of evaluation p)) (sym here.1)
          (subst (λ (s : State). IsPrefixOf (lines_of local p) (lines_of s p)) one_end (prefix_map (local p).lines (end p).lines (goes-adds setup.operations script.statements script.ranks end are.plan.evaluation p (local p) (goes_at p here.0)).1))

      pub are_whole : AreWhole said waiting evaluation
      are_whole p lines e other =
          let here = lines_at p lines e in
          let todo : (local p).todo ≡ [] = nothing_left (local p).todo (λ left.
          let found = which_has (λ q. is_left (local q).todo) script.ranks p here.0 left in
          other found.0 (ap (λ xs. slice_get xs found.0) waiting_so ∙ found.1)) in
          here.1 ∙ ap (λ (s : Local). map line_text s.lines) (goes-whole setup.operations script.statements script.ranks end are.plan.evaluation p (local p) (goes_at p here.0) todo) ∙ ap (λ (s : State). lines_of s p) one_end

      pub are_all : HaveComeToRest script.ranks ws → AreAll said waiting script.ranks evaluation
      are_all rest = subst (AreAll said waiting script.ranks) (at_its_end rest ∙ one_end) (record { lines = λ p lines e. (lines_at p lines e).1; who = waiting_so })

-- the same by the operations that are lent, which are the setup's
module _ (ops : List Operation) (script : ScriptView) (relays : ℕ) (setup : Setup) (table : TableId) (ws : List Worked) (are : AreWorked script relays setup table ws) (lent : ops ≡ setup.operations)
    (ports : List PortView) (ends : List RankEnd) (waiting : List ℕ) (ports_are : ports ≡ map (λ (w : Worked). w.port) ws) (ends_are : ends ≡ take script.ranks (map (λ (w : Worked). w.end) ws)) (waiting_are : waiting ≡ waiting_among (map end_view ends)) where
  abbrev said_lent : List (List (List ℕ))
  said_lent = map end_text ends

  by_setup : (evaluation : State) → IsEvaluation ops script.statements script.ranks evaluation → IsEvaluation setup.operations script.statements script.ranks evaluation
  by_setup evaluation is = subst (λ o. IsEvaluation o script.statements script.ranks evaluation) lent is

  pub run_lent : (rests : Bool) → (rests ≡ true → HaveComeToRest script.ranks ws) → (rests ≡ false → HaveComeToRest script.ranks ws → ⊥) → IsThreadRun ops script relays table ports said_lent waiting rests
  run_lent rests so never = subst (λ o. IsThreadRun o script relays table ports said_lent waiting rests) (sym lent) (is_thread_run script relays setup table ws are ports ends waiting ports_are ends_are waiting_are rests so never)

  pub begins_lent : (evaluation : State) → IsEvaluation ops script.statements script.ranks evaluation → Begin said_lent evaluation
  begins_lent evaluation is = begins script relays setup table ws are ports ends waiting ports_are ends_are waiting_are evaluation (by_setup evaluation is)

  pub whole_lent : (evaluation : State) → IsEvaluation ops script.statements script.ranks evaluation → AreWhole said_lent waiting evaluation
  whole_lent evaluation is = are_whole script relays setup table ws are ports ends waiting ports_are ends_are waiting_are evaluation (by_setup evaluation is)

  pub all_lent : HaveComeToRest script.ranks ws → (evaluation : State) → IsEvaluation ops script.statements script.ranks evaluation → AreAll said_lent waiting script.ranks evaluation
  all_lent rest evaluation is = are_all script relays setup table ws are ports ends waiting ports_are ends_are waiting_are evaluation (by_setup evaluation is) rest
