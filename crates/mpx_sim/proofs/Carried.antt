-- The moves of a rank whose desk carries its posts are steps of its script, in the system that the run shows.
use Rattle.std.proofs.Common.{◌≡◌, ℕ, ◌<◌, Bool, true, List, [], ◌∷◌, set, Option, Some, None, refl, sym, ap, ◌∙◌, subst}
use Rattle.std.specs.Prelude.{slice_get, Ok, Err}
use Rattle.std.specs.Option.{option_map}
use Rattle.std.proofs.lemmas.Option.{same_Some}
use Rattle.mpx_num.specs.declared.own.Operation.{Operation}
use Rattle.mpx_name.specs.Name.{Name}
use Rattle.mpx_birth.specs.Births.{BirthView}
use Rattle.mpx_post.specs.declared.draft.PostError.{PostError}
use Rattle.mpx_post.specs.declared.draft.PostError.TheVariants.{OutOfMemory}
use Rattle.mpx_value.specs.declared.outcomes.Outcome.{Outcome}
use Rattle.mpx_value.specs.declared.outcomes.Outcome.TheVariants.{Nothing, Absent, Items, NewComm, Null, Fault}
use Rattle.mpx_value.specs.Histories.{Answer, Made, answer_with, has_freed}
use Rattle.mpx_node.specs.declared.finished.Finished.{Finished}
use Rattle.mpx_node.specs.Nodes.{NodeView, freed_on, result_on}
use Rattle.mpx_node.specs.Shown.{node_of}
use Rattle.mpx_statement.specs.declared.statement.Posting.{Posting}
use Rattle.mpx_statement.specs.declared.statement.Question.{Question}
use Rattle.mpx_statement.specs.declared.statement.Statement.{Statement}
use Rattle.mpx_statement.specs.declared.statement.Statement.TheVariants.{Post, Wait, Ask}
use Rattle.mpx_statement.specs.Statements.{bound_to, communicator_word, started_as}
use Rattle.mpx_statement.specs.Lookups.{named}
use Rattle.mpx_meaning.specs.Ranks.{Bound, Communicator, NullCommunicator, Await, Do, Local, Todo, answered_by, attempt_on, bound_by, communicator_of, found_as}
use Rattle.mpx_meaning.specs.Evaluation.{Script, rank_goes_on}
use Rattle.mpx_meaning.specs.Standing.{WaitView, binds, todo_of}
use Rattle.mpx_meaning.proofs.Ends.{goes_on-at}
use Rattle.mpx_meaning.proofs.Standing.{binds_seen}
use Rattle.mpx_meaning.proofs.Tells.{each-me}
use Rattle.mpx_rank.specs.Carriers.{AtOnce, Terms}
use Rattle.mpx_rank.specs.Moves.{GoesOn, Move, Ran, RankView, Still, answered, are_done, asks, communicator_in, found_in, has_ended, heard, hears, is_refused, moved_on, passes, passes_not, posted, posts, posts_not, refused, started, starts, stayed, waited, waits_on}
use Rattle.mpx_rank.specs.Places.{CommunicatorView, StandsInScript, attempt_by, bound_as}
use Rattle.mpx_rank.proofs.Stepping.{GoesBy, IsOn, move_steps}
use Rattle.mpx_rank.proofs.Words.{bound_there, communicator_same}
use Rattle.mpx_world.specs.Worlds.{WorldView, births, goes_on as goes_on_world}
use Rattle.mpx_system.specs.Systems.{System, Drives, posts_bound, posts_of, world_tells}
use Rattle.mpx_system.proofs.Coupling.{Couples, answer_born, bound_so, goes_on-other}
use Rattle.mpx_system.proofs.Posting.{IsBoundSo, driven_bound, not_same}
use Rattle.mpx_sim.specs.declared.desk.RunDesk.{RunDesk}
use Rattle.mpx_sim.specs.Carrying.{Tries, desk_terms, hears_more, hears_nothing, known_to, new_name, outcomes_on, tried_on}
use Rattle.mpx_sim.specs.Turns.{Alone, FrameView, Moment}
use Rattle.mpx_sim.specs.Senders.{SenderView}
use Rattle.mpx_sim.specs.Running.{IsUnderWay, Moves, ProcessView, StandsBy, name_of, with_births}
use Rattle.mpx_sim.proofs.Posting.{IsTried, answered_err, answered_ok, found_there, tried_bound, answered as answered_so}
use Rattle.mpx_sim.proofs.Running.{couples, moves_node, moves_then, run_on}

-- WHAT A NODE SAYS

-- what a process says that hears nothing meanwhile, where communicators came to be so
abbrev node_terms : List Operation → (born : Name → Option BirthView) → Terms NodeView CommunicatorView
node_terms ops born = record {
  tells = λ n me. outcomes_on n;
  gives = λ n me name call to. (f : Finished) × (result_on n name call ≡ Some f) × (bound_as to ≡ bound_by f.outcome (answer_with born f.outcome).born);
  knows = λ n c. Some c;
  closes = λ n me c. freed_on n c.0;
  may = λ n me posting on. Unit {0};
  tries = λ n me posting on result m. AtOnce (λ answer. Tries (tried_on ops posting (name_of on) n) answer m) result;
  hears = λ n m. m ≡ n;
}

told_same : (born : Name → Option BirthView) (o : Option Finished) → option_map (λ (a : Answer). a.outcome) (option_map (λ (f : Finished). answer_with born f.outcome) o) ≡ option_map (λ (f : Finished). f.outcome) o
told_same born None = refl
told_same born (Some f) = refl

module _ (ops : List Operation) (script : Script) (ranks : ℕ) (s : System) (c : Couples ops script ranks s) (p : ℕ) (l : p < ranks) where
  abbrev here : NodeView
  here = (s.world.each p).node

  abbrev made : List Made
  made = (s.ranks p).made

  -- a statement that posts is tried
  pub tried_here : (posting : Posting) (b : Option Bound) → IsBoundSo s.world p b → IsTried s.world p (posts_bound s.world.operations p (s.world.each p).made posting b) (attempt_on ops p (s.world.each p).made posting b) (tried_on ops posting (name_of (communicator_of b)) here)
  tried_here posting b is = subst (λ o. IsTried s.world p (posts_bound s.world.operations p (s.world.each p).made posting b) (attempt_on o p (s.world.each p).made posting b) (tried_on o posting (name_of (communicator_of b)) here)) c.operations (tried_bound s.world c.upheld p posting b is)

  tried_so : (posting : Posting) (on : Option CommunicatorView) → IsOn (s.ranks p) posting on → (tried_on ops posting (name_of on) here).answer ≡ answered_so made (attempt_by ops p made posting on)
  tried_so posting None is = refl
  tried_so posting (Some k) is =
      let b : Option Bound = Some (Communicator k.0 k.1) in
      let so : IsBoundSo s.world p b = subst (IsBoundSo s.world p) (is k refl) (bound_so ops script ranks s c p l (communicator_word posting)) in
      (tried_here posting b so).answer ∙ λ i. answered_so (c.made p i) (attempt_on ops p (c.made p i) posting b)

  pub goes_by : GoesBy ops (node_terms ops (births s.world)) (world_tells s.world p) p (s.ranks p) (λ n. n ≡ here) (λ t n. Unit {0})
  goes_by = record {
    hears = λ n m fits h. h ∙ fits;
    tells = λ n fits name call outcome e. told_same (births s.world) (result_on here name call) ∙ ap (λ (x : NodeView). outcomes_on x name call) (sym fits) ∙ e;
    gives = λ n fits name call to given. (
      answer_with (births s.world) given.0.outcome,
      ap (option_map (λ (f : Finished). answer_with (births s.world) f.outcome)) (ap (λ (x : NodeView). result_on x name call) (sym fits) ∙ given.1),
      given.2,
    );
    closes = λ n fits k. ap (λ (x : NodeView). freed_on x k.0) fits ∙ (c.upheld.holds.processes p).closed k.0 ∙ ap (has_freed k.0) (c.made p);
    knows = λ n fits k unfreed. refl;
    quiet = λ n fits t e same. tt;
    posts = λ n m fits posting rest todo on is_on name call tried.
        let found = answered_ok made (attempt_by ops p made posting on) name call (sym (tried_so posting on is_on) ∙ ap (λ (x : NodeView). (tried_on ops posting (name_of on) x).answer) (sym fits) ∙ tried.0) in
        (found.0, found.1, found.2, found.3, λ t e more. tt);
    refuses = λ n m fits posting rest todo on is_on refusal other tried.
        (answered_err made (attempt_by ops p made posting on) refusal (sym (tried_so posting on is_on) ∙ ap (λ (x : NodeView). (tried_on ops posting (name_of on) x).answer) (sym fits) ∙ (tried other).0), λ t e same. tt);
    not_now = λ n m fits posting rest todo on is_on tried. absurd tried;
  }

  -- what its next move gives its node to post changes no other node
  record Apart (todo : List Todo) : Type 0 where
    nodes : (q : ℕ) → (q ≡ p → ⊥) → ((goes_on_world s.world (posts_of s.world.operations p (s.world.each p).made (s.ranks p).bound todo)).each q).node ≡ (s.world.each q).node
    parts : (goes_on_world s.world (posts_of s.world.operations p (s.world.each p).made (s.ranks p).bound todo)).parts ≡ s.world.parts

  apart : (todo : List Todo) → Apart todo
  apart [] = record { nodes = λ q other. refl; parts = refl }
  apart (Do (Post posting) ∷ rest) = let d = driven_bound s.world c.upheld p posting (named (s.ranks p).bound (communicator_word posting)) (bound_so ops script ranks s c p l (communicator_word posting)) in record { nodes = d.nodes; parts = d.parts }
  apart (Do (Wait words) ∷ rest) = record { nodes = λ q other. refl; parts = refl }
  apart (Do (Ask question) ∷ rest) = record { nodes = λ q other. refl; parts = refl }
  apart (Await name call target ∷ rest) = record { nodes = λ q other. refl; parts = refl }

-- NAMES

bound_again : (b : Bound) → bound_as (communicator_of (Some b)) ≡ b
bound_again (Communicator name birth) = refl
bound_again NullCommunicator = refl

-- what an outcome gives is what its word is bound to, where the birth of a new communicator is known
given_so : (outcome : Outcome) (born : Option BirthView) → ((new : Name) (size rank : ℕ) → outcome ≡ NewComm new size rank → (birth : BirthView) × (born ≡ Some birth)) → new_name outcome ≡ name_of (communicator_of (Some (bound_by outcome born)))
given_so Nothing born h = refl
given_so Absent born h = refl
given_so (Items items) born h = refl
given_so (NewComm new size rank) born h = let x = h new size rank refl in ap (λ o. name_of (communicator_of (Some (bound_by (NewComm new size rank) o)))) (sym x.1)
given_so Null born h = refl
given_so (Fault fault) born h = refl

names_on : (o : Option (Option Name)) (b : Option (Option CommunicatorView)) → o ≡ option_map name_of b → communicator_in o ≡ name_of (communicator_in b)
names_on None None e = refl
names_on None (Some b) e = cc e
names_on (Some o) None e = cc e
names_on (Some o) (Some b) e = same_Some o (name_of b) e

module _ (bound : List ℕ → Option (Option Name)) (seen : List ℕ → Option (Option CommunicatorView)) (names : (word : List ℕ) → bound word ≡ option_map name_of (seen word)) where
  names_bound : (target : Option (List ℕ)) (to : Option Name) (known : Option CommunicatorView) → to ≡ name_of known → (word : List ℕ) → binds target to bound word ≡ option_map name_of (binds target known seen word)
  names_bound target to known e word = (λ i. binds target (e i) (λ other. names other i) word) ∙ sym (binds_seen name_of target known seen word)

-- ONE MOVE

module _ (ops : List Operation) (script : Script) (ranks size : ℕ) (begun : Moment) (processes : List ProcessView) (frames : List FrameView) (p : ℕ) (l : p < ranks) (r : RankView Name) (c : SenderView) (node : NodeView) (at : slice_get processes p ≡ Some (record { rank = r; node = node; sender = c })) (run : IsUnderWay ops script ranks size begun Alone processes frames) where
  abbrev coupled : Couples ops script ranks run.system
  coupled = couples ops script ranks size begun Alone processes frames run

  abbrev w : WorldView
  w = run.system.world

  abbrev local : Local
  local = run.system.ranks p

  node_is : node ≡ (w.each p).node
  node_is = (run.each p (record { rank = r; node = node; sender = c }) at).node

  stands : StandsBy r local
  stands = (run.each p (record { rank = r; node = node; sender = c }) at).stands l

  abbrev seen : RankView CommunicatorView
  seen = with_births stands.bound r

  todo_is : (waits : Option WaitView) (todo : List Statement) → r.waits ≡ waits → r.todo ≡ todo → local.todo ≡ todo_of waits todo
  todo_is waits todo e f = stands.stands.todo ∙ λ i. todo_of (e i) (f i)

  -- after the move the node is that of the world in which the move has been made
  abbrev IsMoved : NodeView → Type 0
  IsMoved m = m ≡ ((goes_on_world w (posts_of w.operations p (w.each p).made local.bound local.todo)).each p).node

  moves : (s : RankView Name) (bound : List ℕ → Option (Option CommunicatorView)) (m : NodeView) → s.me ≡ r.me → ((word : List ℕ) → s.bound word ≡ option_map name_of (bound word)) → Move (node_terms ops (births w)) seen node (with_births bound s) m → IsMoved m
      → IsUnderWay ops script ranks size begun Alone (set processes p (record { rank = s; node = m; sender = c })) frames
  moves s bound m me names move is =
      let a = run.each p (record { rank = r; node = node; sender = c }) at in
      let by : w.operations ≡ ops = coupled.operations in
      let one = move_steps ops (node_terms ops (births w)) (world_tells w p) seen local stands.stands (each-me ops script ranks run.system.ranks coupled.reached p ∙ sym a.me) (λ n. n ≡ (w.each p).node) (λ t n. Unit {0})
      (subst (λ q. GoesBy ops (node_terms ops (births w)) (world_tells w p) q local (λ n. n ≡ (w.each p).node) (λ t n. Unit {0})) (sym a.me) (goes_by ops script ranks run.system coupled p l)) node (with_births bound s) m node_is move in
      let others = apart ops script ranks run.system coupled p l local.todo in
      run_on ops script ranks size begun Alone processes frames run p (record { rank = r; node = node; sender = c }) (record { rank = s; node = m; sender = c }) at refl (Drives p) tt l (record {
        at = record {
          me = me ∙ a.me;
          node = is;
          stands = λ _. record { bound = bound; names = names; stands = subst (StandsInScript (with_births bound s)) (sym (ap (λ o. rank_goes_on o run.system.ranks p (world_tells w p) p) by ∙ goes_on-at ops run.system.ranks p (world_tells w p) one.to one.steps)) one.stands };
        };
        nodes = others.nodes;
        ranks_stay = λ q other. goes_on-other w.operations run.system.ranks p (world_tells w p) q (not_same q p other);
        parts = others.parts;
      })

  -- nothing is posted
  rests : (todo : List Todo) → local.todo ≡ todo → posts_of w.operations p (w.each p).made local.bound todo ≡ [] → IsMoved node
  rests todo e none = node_is ∙ ap (λ hs. ((goes_on_world w hs).each p).node) (sym (ap (posts_of w.operations p (w.each p).made local.bound) e ∙ none))

  hears_next : (wait : WaitView) (outcome : Outcome) (to : Option Name) (f : Finished) → r.waits ≡ Some wait → outcomes_on node wait.name wait.call ≡ Some outcome → result_on node wait.name wait.call ≡ Some f → to ≡ new_name f.outcome
      → IsUnderWay ops script ranks size begun Alone (set processes p (record { rank = heard r wait outcome to; node = node; sender = c })) frames
  hears_next wait outcome to f waits tells held gives =
      let answer : Answer = answer_with (births w) f.outcome in
      let b = bound_by answer.outcome answer.born in
      let there = communicator_of (Some b) in
      let known : world_tells w p wait.name wait.call ≡ Some answer = ap (λ (n : NodeView). option_map (λ (x : Finished). answer_with (births w) x.outcome) (result_on n wait.name wait.call)) (sym node_is) ∙ ap (option_map (λ (x : Finished). answer_with (births w) x.outcome)) held in
      let given : to ≡ name_of there = gives ∙ given_so f.outcome answer.born (answer_born ops script ranks run.system coupled p wait.name wait.call answer known) in
      moves (heard r wait outcome to) (binds wait.target there stands.bound) node refl (names_bound r.bound stands.bound stands.names wait.target to there given)
      (hears wait outcome there waits refl tells (f, held, bound_again b))
      (rests (todo_of (Some wait) r.todo) (todo_is (Some wait) r.todo waits refl) refl)

  module _ (posting : Posting) (rest : List Statement) (waits : r.waits ≡ None) (todo : r.todo ≡ Post posting ∷ rest) where
    abbrev on : Option CommunicatorView
    on = communicator_in (stands.bound (communicator_word posting))

    on_is : communicator_in (r.bound (communicator_word posting)) ≡ name_of on
    on_is = names_on (r.bound (communicator_word posting)) (stands.bound (communicator_word posting)) (stands.names (communicator_word posting))

    tried_next : (tried_on ops posting (name_of on) node).node ≡ ((goes_on_world w (posts_of w.operations p (w.each p).made local.bound local.todo)).each p).node
    tried_next =
        let b = named local.bound (communicator_word posting) in
        let same : on ≡ communicator_of b = sym (communicator_same (stands.bound (communicator_word posting))) ∙ ap communicator_of (stands.stands.bound (communicator_word posting)) in
        (λ i. (tried_on ops posting (name_of (same i)) (node_is i)).node)
        ∙ (tried_here ops script ranks run.system coupled p l posting b (bound_so ops script ranks run.system coupled p l (communicator_word posting))).node
        ∙ ap (λ todo. ((goes_on_world w (posts_of w.operations p (w.each p).made local.bound todo)).each p).node) (sym (todo_is None (Post posting ∷ rest) waits todo))

    posts_next : (name : Name) (call : ℕ) (m : NodeView) → started_as posting ≡ None → Tries (tried_on ops posting (communicator_in (r.bound (communicator_word posting))) node) (Ok (name, call)) m
        → IsUnderWay ops script ranks size begun Alone (set processes p (record { rank = posted r posting rest name call; node = m; sender = c })) frames
    posts_next name call m none tries =
        let tried : Tries (tried_on ops posting (name_of on) node) (Ok (name, call)) m = subst (λ o. Tries (tried_on ops posting o node) (Ok (name, call)) m) on_is tries in
        moves (posted r posting rest name call) stands.bound m refl stands.names (posts posting rest name call waits todo none tried) (tried.1 ∙ tried_next)

    starts_next : (word : List ℕ) (name : Name) (call : ℕ) (m : NodeView) → started_as posting ≡ Some word → Tries (tried_on ops posting (communicator_in (r.bound (communicator_word posting))) node) (Ok (name, call)) m
        → IsUnderWay ops script ranks size begun Alone (set processes p (record { rank = started r word rest name call; node = m; sender = c })) frames
    starts_next word name call m open_as tries =
        let tried : Tries (tried_on ops posting (name_of on) node) (Ok (name, call)) m = subst (λ o. Tries (tried_on ops posting o node) (Ok (name, call)) m) on_is tries in
        moves (started r word rest name call) stands.bound m refl stands.names (starts posting rest word name call waits todo open_as tried) (tried.1 ∙ tried_next)

    refused_next : (refusal : PostError) (m : NodeView) → (refusal ≡ OutOfMemory → ⊥) → Tries (tried_on ops posting (communicator_in (r.bound (communicator_word posting))) node) (Err refusal) m
        → IsUnderWay ops script ranks size begun Alone (set processes p (record { rank = refused r posting rest refusal; node = m; sender = c })) frames
    refused_next refusal m other tries =
        let tried : Tries (tried_on ops posting (name_of on) node) (Err refusal) m = subst (λ o. Tries (tried_on ops posting o node) (Err refusal) m) on_is tries in
        moves (refused r posting rest refusal) (binds (bound_to posting) None stands.bound) m refl (names_bound r.bound stands.bound stands.names (bound_to posting) None None refl)
        (is_refused posting rest refusal waits todo other tried) ((tried other).1 ∙ tried_next)

  passes_next : (words : List (List ℕ)) (rest : List Statement) → r.waits ≡ None → r.todo ≡ Wait words ∷ rest → are_done (outcomes_on node) r.requests words ≡ true
      → IsUnderWay ops script ranks size begun Alone (set processes p (record { rank = waited r words rest (outcomes_on node); node = node; sender = c })) frames
  passes_next words rest waits todo done =
      moves (waited r words rest (outcomes_on node)) stands.bound node refl stands.names (passes words rest waits todo refl done refl)
      (rests (todo_of None (Wait words ∷ rest)) (todo_is None (Wait words ∷ rest) waits todo) refl)

  -- what a word stands for
  found_so : (word : List ℕ) → found_in (λ k. freed_on node k) (λ k. known_to node k) (communicator_in (r.bound word)) ≡ found_in (λ (k : CommunicatorView). freed_on node k.0) Some (communicator_in (stands.bound word))
  found_so word = by_both (communicator_in (r.bound word)) (communicator_in (stands.bound word)) refl (names_on (r.bound word) (stands.bound word) (stands.names word)) where
    by_both : (o : Option Name) (b : Option CommunicatorView) → communicator_in (stands.bound word) ≡ b → o ≡ name_of b
        → found_in (λ k. freed_on node k) (λ k. known_to node k) o ≡ found_in (λ (k : CommunicatorView). freed_on node k.0) Some b
    by_both None None is e = refl
    by_both None (Some k) is e = cc e
    by_both (Some o) None is e = cc e
    by_both (Some o) (Some k) is e =
        let bound = bound_so ops script ranks run.system coupled p l word k.0 k.1 (sym (stands.stands.bound word) ∙ bound_there (stands.bound word) k is) in
        (λ i. found_as (freed_on (node_is i) (same_Some o k.0 e i)) (known_to (node_is i) (same_Some o k.0 e i)))
        ∙ found_there w coupled.upheld p k.0 k.1 bound.0 bound.1
        ∙ ap (λ (n : NodeView). found_as (freed_on n k.0) (Some k)) (sym node_is)

  asks_next : (question : Question) (rest : List Statement) → r.waits ≡ None → r.todo ≡ Ask question ∷ rest
      → IsUnderWay ops script ranks size begun Alone (set processes p (record { rank = answered r rest (answered_by r.me (λ word. found_in (λ k. freed_on node k) (λ k. known_to node k) (communicator_in (r.bound word))) question); node = node; sender = c })) frames
  asks_next question rest waits todo =
      moves (answered r rest (answered_by r.me (λ word. found_in (λ k. freed_on node k) (λ k. known_to node k) (communicator_in (r.bound word))) question)) stands.bound node refl stands.names
      (subst (λ line. Move (node_terms ops (births w)) seen node (with_births stands.bound (answered r rest line)) node) (λ i. answered_by r.me (λ word. sym (found_so word) i) question) (asks question rest waits todo))
      (rests (todo_of None (Ask question ∷ rest)) (todo_is None (Ask question ∷ rest) waits todo) refl)

-- MOVES

module _ (ops : List Operation) (sender : SenderView) where
  abbrev beside : RankView Name → RunDesk → ProcessView
  beside r d = record { rank = r; node = node_of d.desk.host; sender = sender }

  -- the desk hears of others
  hears_of : (r : RankView Name) (c d : RunDesk) → (desk_terms ops).hears c d → Moves ops (beside r c) (beside r d)
  hears_of r c d h = moves_node ops r sender (node_of c.desk.host) (node_of d.desk.host) h.0

  -- a move of the rank is one of its process
  move_is : (r : RankView Name) (c : RunDesk) (s : RankView Name) (d : RunDesk) → Move (desk_terms ops) r c s d → Moves ops (beside r c) (beside s d)
  move_is r c s d (hears wait outcome to waits before tells gives) =
      moves_then ops (beside r c) (beside r d) (beside s d) (hears_of r c d before)
      (λ script ranks size begun processes frames p l at run. hears_next ops script ranks size begun processes frames p l r sender (node_of d.desk.host) at run wait outcome to gives.0 waits tells gives.1 gives.2)
  move_is r c s d (posts posting rest name call waits todo none tries) = λ script ranks size begun processes frames p l at run.
      posts_next ops script ranks size begun processes frames p l r sender (node_of c.desk.host) at run posting rest waits todo name call (node_of d.desk.host) none tries
  move_is r c s d (starts posting rest word name call waits todo open_as tries) = λ script ranks size begun processes frames p l at run.
      starts_next ops script ranks size begun processes frames p l r sender (node_of c.desk.host) at run posting rest waits todo word name call (node_of d.desk.host) open_as tries
  move_is r c s d (is_refused posting rest refusal waits todo other tries) = λ script ranks size begun processes frames p l at run.
      refused_next ops script ranks size begun processes frames p l r sender (node_of c.desk.host) at run posting rest waits todo refusal (node_of d.desk.host) other tries
  move_is r c s d (passes {mid = between} words rest waits todo before done after) =
      moves_then ops (beside r c) (beside r between) (beside s d) (hears_of r c between before)
      (moves_then ops (beside r between) (beside s between) (beside s d)
      (λ script ranks size begun processes frames p l at run. passes_next ops script ranks size begun processes frames p l r sender (node_of between.desk.host) at run words rest waits todo done)
      (hears_of s between d after))
  move_is r c s d (asks question rest waits todo) = λ script ranks size begun processes frames p l at run.
      asks_next ops script ranks size begun processes frames p l r sender (node_of c.desk.host) at run question rest waits todo

  -- without a move it harvests at most
  still_is : (r : RankView Name) (c d : RunDesk) → Still (desk_terms ops) r c d → Moves ops (beside r c) (beside r d)
  still_is r c d (has_ended waits todo) = hears_of r c c (hears_nothing ops c)
  still_is r c d (waits_on w waits before none) = hears_of r c d before
  still_is r c d (posts_not posting rest waits todo tried) = absurd tried
  still_is r c d (passes_not {mid = between} words rest waits todo before undone after) = hears_of r c d (hears_more ops c between d before after)

  ran_is : (r : RankView Name) (c : RunDesk) (s : RankView Name) (d : RunDesk) (moved : Bool) → Ran (desk_terms ops) r c s d moved → Moves ops (beside r c) (beside s d)
  ran_is r c s d moved stayed = hears_of r c c (hears_nothing ops c)
  ran_is r c s d moved (moved_on {s = mid} {d = before} {moved = earlier} ran move) = moves_then ops (beside r c) (beside mid before) (beside s d) (ran_is r c mid before earlier ran) (move_is mid before s d move)

  pub goes_is : (r : RankView Name) (c : RunDesk) (s : RankView Name) (d : RunDesk) (moved : Bool) → GoesOn (desk_terms ops) r c s d moved → Moves ops (beside r c) (beside s d)
  goes_is r c s d moved goes = moves_then ops (beside r c) (beside s goes.0) (beside s d) (ran_is r c s goes.0 moved goes.1) (still_is s goes.0 d goes.2)
