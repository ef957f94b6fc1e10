-- A run that rests has come to the end of the evaluation.
use Rattle.std.proofs.Common.{◌≡◌, ℕ, ◌<◌, ◌≤◌, false, List, [], ◌∷◌, length, Option, Some, None, refl, sym, ap, ◌∙◌, subst, arith}
use Rattle.std.specs.Prelude.{slice_get, is_some, IfOk, Result, Ok, Err}
use Rattle.std.specs.Option.{option_map}
use Rattle.std.proofs.lemmas.Option.{slice_get-map}
use Rattle.mpx_num.specs.declared.own.Operation.{Operation}
use Rattle.mpx_name.specs.Name.{Name}
use Rattle.mpx_board.specs.Boards.{IsBoardBelow}
use Rattle.mpx_value.specs.Histories.{Answer, Results}
use Rattle.mpx_node.specs.Nodes.{NodeView, has_next, result_on}
use Rattle.mpx_world.specs.Worlds.{WorldView}
use Rattle.mpx_world.proofs.Reached.{are_least}
use Rattle.mpx_world.proofs.Steps.{Holds}
use Rattle.mpx_statement.specs.declared.statement.Statement.{Statement}
use Rattle.mpx_statement.specs.declared.statement.Statement.TheVariants.{Wait}
use Rattle.mpx_statement.specs.Lookups.{named}
use Rattle.mpx_meaning.specs.Ranks.{answers, awaited_by, doing, step}
use Rattle.mpx_meaning.specs.Evaluation.{Script, IsEvaluation}
use Rattle.mpx_meaning.specs.Standing.{WaitView, todo_of}
use Rattle.mpx_meaning.proofs.Standing.{none_there}
use Rattle.mpx_meaning.proofs.Steps.{step_ends, step_stays, step_waits}
use Rattle.mpx_rank.specs.Carriers.{outcomes_of}
use Rattle.mpx_rank.specs.Moves.{are_done, is_done}
use Rattle.mpx_rank.specs.Shown.{place_of}
use Rattle.mpx_rank.proofs.Words.{answers_done}
use Rattle.mpx_meaning.proofs.Tells.{mapped_some}
use Rattle.mpx_system.specs.Systems.{System}
use Rattle.mpx_system.specs.Runs.{HaveOneBoard}
use Rattle.mpx_system.specs.Rest.{AreAtHand}
use Rattle.mpx_system.proofs.Results.{behind_first, none_mapped, one_fails, some_at}
use Rattle.mpx_system.proofs.Settled.{rest_ends}
use Rattle.mpx_sim.specs.Ends.{AllLack, IsOpen, Lacks, OneIsOpen, awaits, has_ended, nodes_of, waits_for}
use Rattle.mpx_sim.specs.Turns.{Alone, FrameView, Moment}
use Rattle.mpx_sim.specs.Running.{IsAt, IsUnderWay, ProcessView, StandsBy}
use Rattle.mpx_sim.proofs.Running.{couples}

pub if_ok_then : {T E : Type 0} {P Q : T → Type 0} (r : Result T E) → ((x : T) → P x → Q x) → IfOk r P → IfOk r Q
if_ok_then (Ok x) f h = f x h
if_ok_then (Err e) f h = h

-- the rank waits for this call
pub awaited_lacks : (v : ProcessView) (call : Name × ℕ) → option_map place_of v.rank.waits ≡ Some call → IsOpen v.node call.0 call.1 → Lacks v
awaited_lacks v call e pending =
    let found = mapped_some place_of v.rank.waits call e in
    awaits found.0 found.1 (subst (λ (c : Name × ℕ). IsOpen v.node c.0 c.1) (sym found.2) pending)

-- it stands at a wait
pub waiting_lacks : (v : ProcessView) (words : List (List ℕ)) → option_map place_of v.rank.waits ≡ None → slice_get v.rank.todo 0 ≡ Some (Wait words) → OneIsOpen v.node v.rank.requests words → Lacks v
waiting_lacks v words none first one = let behind = behind_first v.rank.todo (Wait words) first in waits_for words behind.0 (none_mapped place_of v.rank.waits none) behind.1 one

-- A RANK THAT LACKS A CALL HAS NO MOVE

module _ (ops : List Operation) (ranks : ℕ) (s : System) (p : ℕ) (l : p < ranks) (v : ProcessView) (at : IsAt ranks s p v) (told : Results) (hand : AreAtHand (s.world.each p).node told) where
  stands : StandsBy v.rank (s.ranks p)
  stands = at.stands l

  todo_is : (waits : Option WaitView) (todo : List Statement) → v.rank.waits ≡ waits → v.rank.todo ≡ todo → (s.ranks p).todo ≡ todo_of waits todo
  todo_is waits todo e f = stands.stands.todo ∙ λ i. todo_of (e i) (f i)

  untold : (name : Name) (call : ℕ) → IsOpen v.node name call → told name call ≡ None
  untold name call pending = hand name call (ap (λ (n : NodeView). result_on n name call) (sym at.node) ∙ pending.none) (ap (λ (n : NodeView). has_next n name) (sym at.node) ∙ pending.next)

  not_done : (words : List (List ℕ)) → OneIsOpen v.node v.rank.requests words → are_done (outcomes_of told) (named (s.ranks p).requests) words ≡ false
  not_done words o =
      let there : named (s.ranks p).requests o.word ≡ Some (o.name, o.call) = sym (stands.stands.requests o.word) ∙ o.stands_for in
      one_fails (λ word. is_done (outcomes_of told) (named (s.ranks p).requests word)) words o.place o.word o.at
      (ap (is_done (outcomes_of told)) there ∙ ap (λ x. is_some (option_map (λ (a : Answer). a.outcome) x)) (untold o.name o.call o.is_open))

  pub no_move : Lacks v → step ops told (s.ranks p) ≡ None
  no_move (has_ended w e) = step_ends ops told (s.ranks p) (todo_is None [] w e)
  no_move (awaits w e pending) = step_waits ops told (s.ranks p) w.name w.call w.target (doing v.rank.todo) (todo_is (Some w) v.rank.todo e refl) (untold w.name w.call pending)
  no_move (waits_for words rest w e one) =
      step_stays ops told (s.ranks p) words (doing rest) (todo_is None (Wait words ∷ rest) w e)
      (none_there (answers told (awaited_by (s.ranks p).requests words)) (answers_done told words (s.ranks p).requests ∙ not_done words one))

-- ONE BOARD, AND ALL LACK A CALL

below_itself : (w : WorldView) → Holds w → (p : ℕ) → IsBoardBelow (w.each p).node.board (w.each p).node.board
below_itself w h p = let a = are_least w h p in a.least (w.each p).node.board (λ i b e. a.above i b e)

module _ (ops : List Operation) (script : Script) (ranks size : ℕ) (begun : Moment) (within : ranks ≤ size) (few : length script ≤ ranks) (processes : List ProcessView) (frames : List FrameView) (run : IsUnderWay ops script ranks size begun Alone processes frames) where
  process_at : (p : ℕ) → p < ranks → (v : ProcessView) × (slice_get processes p ≡ Some v)
  process_at p l = some_at processes p (omega (arith, l, within, run.count))

  board_at : HaveOneBoard (nodes_of processes) → (p q : ℕ) → p < ranks → q < ranks → (run.system.world.each q).node.board ≡ (run.system.world.each p).node.board
  board_at one p q l m =
      let v = process_at p l in
      let u = process_at q m in
      let here : slice_get (nodes_of processes) p ≡ Some v.0.node = slice_get-map (λ (x : ProcessView). x.node) processes p ∙ ap (option_map (λ (x : ProcessView). x.node)) v.1 in
      let there : slice_get (nodes_of processes) q ≡ Some u.0.node = slice_get-map (λ (x : ProcessView). x.node) processes q ∙ ap (option_map (λ (x : ProcessView). x.node)) u.1 in
      ap (λ (n : NodeView). n.board) (sym (run.each q u.0 u.1).node) ∙ one q p u.0.node v.0.node there here ∙ ap (λ (n : NodeView). n.board) (run.each p v.0 v.1).node

  pub rests_ends : HaveOneBoard (nodes_of processes) → AllLack ranks processes → IsEvaluation ops script ranks run.system.ranks
  rests_ends one lack = rest_ends ops script ranks size run.system run.led few (λ p l.
      let v = process_at p l in
      record {
        heard = λ q m. subst (λ b. IsBoardBelow b (run.system.world.each p).node.board) (sym (board_at one p q l m)) (below_itself run.system.world (couples ops script ranks size begun Alone processes frames run).upheld.holds p);
        waits = λ told hand. no_move run.system.world.operations ranks run.system p l v.0 (run.each p v.0 v.1) told hand (lack p v.0 l v.1);
      })
