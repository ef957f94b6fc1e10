-- What the steps of a process keep of a run.
use Rattle.std.proofs.Common.{◌≡◌, ℕ, ◌<◌, List, [], set, get_or, Option, Some, None, refl, sym, ap, ◌∙◌, subst, arith}
use Rattle.std.specs.Prelude.{slice_get, Result, Ok, Err, OnOk, OnErr}
use Rattle.std.specs.List.{All}
use Rattle.std.specs.List.Sorted.{IsPermutation}
use Rattle.std.proofs.lemmas.List.{length-set}
use Rattle.std.proofs.lemmas.List.Sorted.{All-permutation, IsPermutation-sym, IsPermutation-trans}
use Rattle.std.proofs.lemmas.Option.{slice_get-get_or, slice_get_within, same_Some}
use Rattle.mpx_num.specs.declared.own.Operation.{Operation}
use Rattle.mpx_name.specs.Name.{Name}
use Rattle.mpx_board.specs.declared.errors.PruneError.{PruneError}
use Rattle.mpx_board.specs.Boards.{IsBoardBelow, Numbers}
use Rattle.mpx_board.specs.Changes.{pruned_on}
use Rattle.mpx_delta.specs.Digests.{HasUpTo}
use Rattle.mpx_node.specs.declared.finished.Finished.{Finished}
use Rattle.mpx_node.specs.Harvests.{with_next}
use Rattle.mpx_node.specs.Nodes.{NodeView, acknowledge, learn, learn_some, next_result, prune_part, result_on}
use Rattle.mpx_world.specs.Worlds.{WorldView, Happening, MayHappen, happens, stores, drops, takes, acknowledges, harvests, prunes, Harvests, Prunes, Takes, Acknowledges, at_process, ProcessView as InWorld}
use Rattle.mpx_world.proofs.Kept.{kept_stores, taken_node}
use Rattle.mpx_world.proofs.Steps.{at_here}
use Rattle.mpx_meaning.specs.Evaluation.{Script}
use Rattle.mpx_rank.specs.Moves.{RankView}
use Rattle.mpx_system.specs.Systems.{IsPassive, System, Doing, Nets, does, MayDo, start_system}
use Rattle.mpx_system.proofs.Coupling.{Couples}
use Rattle.mpx_system.proofs.Leading.{coupled, leads_on}
use Rattle.mpx_system.proofs.Posting.{each_other}
use Rattle.mpx_system.proofs.Results.{some_at}
use Rattle.mpx_post.proofs.Lists.{set_cases, set_twice, set_has}
use Rattle.mpx_sim.specs.Running.{HasCome, HaveCome, HaveSent, Keeps, ProcessView, SendBy, StandsBy, IsAt, IsAmong, IsUnderWay, KeepsNode, Moves}
use Rattle.mpx_sim.specs.Draws.{ScheduleView}
use Rattle.mpx_sim.specs.Senders.{SenderView}
use Rattle.mpx_sim.specs.Turns.{Alone, Coming, FrameView, IsIn, IsLeft, IsTurn, IsUnder, Moment, Phase, Saying, Since, drawn_again_for, those_left}
use Rattle.mpx_sim.proofs.Left.{left_parts, left_under}
use Rattle.mpx_sim.proofs.Phases.{begins, says_now, since_on}

-- LISTS

pub read_at : {A : Type 0} (xs : List A) (i : ℕ) (d x : A) → slice_get xs i ≡ Some x → get_or xs i d ≡ x
read_at xs i d x e = same_Some (get_or xs i d) x (sym (slice_get-get_or xs i d (slice_get_within xs i x e)) ∙ e)

pub all_at : {A : Type 0} (P : A → Type 0) (xs : List A) (i : ℕ) (x : A) → slice_get xs i ≡ Some x → All P xs → P x
all_at P xs i x e h = subst P (read_at xs i x x e) (h i x (slice_get_within xs i x e))

pub all_more : {A : Type 0} (P Q : A → Type 0) → ((x : A) → P x → Q x) → (xs : List A) → All P xs → All Q xs
all_more P Q f xs h k d l = f (get_or xs k d) (h k d l)

-- SENDERS

-- one process is written that has come as far as it had
pub senders_set : (senders : ℕ → SenderView) (processes : List ProcessView) (p : ℕ) (old new : ProcessView) → slice_get processes p ≡ Some old → new.sender ≡ old.sender → HaveSent senders processes → HaveSent senders (set processes p new)
senders_set senders processes p old new at same have q v e = set_cases processes p q new v (λ (x : ProcessView). x.sender ≡ senders q) e
    (λ here. same ∙ have p old at ∙ ap senders (sym here))
    (λ before other. have q v before)

-- ONE DOING

-- a doing of process p: what it is after it, and the others as they were
pub record IsDoneAt (ranks : ℕ) (s t : System) (p : ℕ) (new : ProcessView) : Type 0 where
  pub at : IsAt ranks t p new
  pub nodes : (q : ℕ) → (q ≡ p → ⊥) → (t.world.each q).node ≡ (s.world.each q).node
  pub ranks_stay : (q : ℕ) → (q ≡ p → ⊥) → t.ranks q ≡ s.ranks q
  pub parts : t.world.parts ≡ s.world.parts

module _ (ops : List Operation) (script : Script) (ranks size : ℕ) (begun : Moment) (phase : Phase) (processes : List ProcessView) (frames : List FrameView) (run : IsUnderWay ops script ranks size begun phase processes frames) where
  pub couples : Couples ops script ranks run.system
  couples = coupled ops script ranks size run.system run.led

  -- one process is written, and something more is done
  senders_on : (p : ℕ) (old new : ProcessView) → slice_get processes p ≡ Some old → new.sender ≡ old.sender → (phase : Phase) (s : System) (since : Since ranks size begun phase frames s) (d : Doing) (into : IsIn phase d) (may : MayDo ranks s d)
      → SendBy ranks size begun phase frames s since processes → SendBy ranks size begun phase frames (does s d) (since_on ranks size begun phase frames s since d into may) (set processes p new)
  senders_on p old new at same Alone s since d into may have = senders_set begun.senders processes p old new at same have
  senders_on p old new at same Saying s since d into may have = tt
  senders_on p old new at same (Coming turn t) s since d into may have = senders_set since.0.sent.senders processes p old new at same have

  pub run_on : (p : ℕ) (old new : ProcessView) → slice_get processes p ≡ Some old → new.sender ≡ old.sender → (d : Doing) → IsIn phase d → MayDo ranks run.system d → IsDoneAt ranks run.system (does run.system d) p new → IsUnderWay ops script ranks size begun phase (set processes p new) frames
  run_on p old new at same d into may is =
      let t = does run.system d in
      record {
        system = t;
        led = leads_on ranks (start_system ops script ranks size) run.system d run.led may;
        since = since_on ranks size begun phase frames run.system run.since d into may;
        count = length-set processes p new ∙ run.count;
        each = λ q v e. set_cases processes p q new v (IsAt ranks t q) e
            (λ here. subst (λ j. IsAt ranks t j new) (sym here) is.at)
            (λ before other. let a = run.each q v before in record { me = a.me; node = a.node ∙ sym (is.nodes q other); stands = λ l. subst (StandsBy v.rank) (sym (is.ranks_stay q other)) (a.stands l) });
        sent = subst (λ ps. All (λ (f : FrameView). IsAmong ps f.part) frames) (sym is.parts) run.sent;
        senders = senders_on p old new at same phase run.system run.since d into may run.senders;
      }

  -- something of process p that makes no post, and changes its node so
  net_on : (p : ℕ) (r : RankView Name) (c : SenderView) (old new : NodeView) → slice_get processes p ≡ Some (record { rank = r; node = old; sender = c }) → (h : Happening) (f : InWorld → InWorld) → IsPassive h → IsIn phase (Nets h) → MayHappen run.system.world h
      → happens run.system.world h ≡ at_process p f run.system.world → new ≡ (f (run.system.world.each p)).node → IsUnderWay ops script ranks size begun phase (set processes p (record { rank = r; node = new; sender = c })) frames
  net_on p r c old new at h f net into may is e =
      let s = run.system in
      let a = run.each p (record { rank = r; node = old; sender = c }) at in
      run_on p (record { rank = r; node = old; sender = c }) (record { rank = r; node = new; sender = c }) at refl (Nets h) into (net, may)
      (subst (λ w. IsDoneAt ranks s (record { world = w; ranks = s.ranks }) p (record { rank = r; node = new; sender = c })) (sym is) (record {
        at = record { me = a.me; node = e ∙ ap (λ (v : InWorld). v.node) (sym (at_here s.world p f)); stands = a.stands };
        nodes = λ q other. ap (λ (v : InWorld). v.node) (each_other s.world p f q other);
        ranks_stay = λ q other. refl;
        parts = refl;
      }))

  -- a frame is taken
  pub run_takes : ((p place : ℕ) → IsIn phase (Nets (Takes p place))) → (p : ℕ) (r : RankView Name) (c : SenderView) (node : NodeView) (i : ℕ) (f : FrameView) → slice_get processes p ≡ Some (record { rank = r; node = node; sender = c }) → slice_get frames i ≡ Some f
      → IsUnderWay ops script ranks size begun phase (set processes p (record { rank = r; node = learn f.part node; sender = c })) frames
  run_takes into p r c node i f at got =
      let s = run.system in
      let found = all_at (λ (g : FrameView). IsAmong s.world.parts g.part) frames i f got run.sent in
      net_on p r c node (learn f.part node) at (Takes p found.0) (takes (slice_get s.world.parts found.0)) tt (into p found.0) tt refl
      (ap (learn f.part) (run.each p (record { rank = r; node = node; sender = c }) at).node ∙ ap (λ o. (takes o (s.world.each p)).node) (sym found.1))

module _ (ops : List Operation) (script : Script) (ranks size : ℕ) (begun : Moment) (turn : ℕ) (t : ScheduleView) (processes : List ProcessView) (frames : List FrameView) (run : IsUnderWay ops script ranks size begun (Coming turn t) processes frames) where
  -- frames are reordered
  pub run_mixed : (mixed : List FrameView) → IsPermutation frames mixed → IsUnderWay ops script ranks size begun (Coming turn t) processes mixed
  run_mixed mixed is = record {
    system = run.system;
    led = run.led;
    since = (run.since.0, IsPermutation-trans run.since.0.sent.frames frames mixed run.since.1 is);
    count = run.count;
    each = run.each;
    sent = All-permutation (λ (f : FrameView). IsAmong run.system.world.parts f.part) frames mixed is run.sent;
    senders = run.senders;
  }

  -- the turn is made once its frames have come
  abbrev pub next_moment : Moment
  next_moment = record { system = run.system; frames = those_left turn frames t; schedule = drawn_again_for turn frames t; senders = run.since.0.sent.senders }

  pub run_turned : HaveCome turn frames processes → IsTurn ranks size turn begun next_moment
  run_turned come =
      let sent = run.since.0.sent.frames in
      let back = IsPermutation-sym sent frames run.since.1 in
      record {
        mixed = t;
        coming = run.since.0;
        order = frames;
        ordered = run.since.1;
        frames_are = refl;
        schedule_is = refl;
        senders_are = refl;
        came = all_more (HasCome turn processes) (λ (f : FrameView). f.turn ≡ turn → f.to < size → IsBoardBelow f.part (run.system.world.each f.to).node.board)
            (λ f has now within.
            let v = some_at processes f.to (omega (arith, within, run.count)) in
            subst (λ (n : NodeView). IsBoardBelow f.part n.board) (run.each f.to v.0 v.1).node (has now v.0 v.1))
            sent (All-permutation (HasCome turn processes) frames sent back come);
        still = All-permutation (λ (f : FrameView). turn < f.turn → IsUnder (those_left turn frames t) f) frames sent back (left_under turn frames t);
      }

  -- and the next one begins
  pub run_begins : IsUnderWay ops script ranks size next_moment Alone processes (those_left turn frames t)
  run_begins = record {
    system = run.system;
    led = run.led;
    since = begins ranks size next_moment;
    count = run.count;
    each = run.each;
    sent = left_parts (IsAmong run.system.world.parts) turn frames t run.sent;
    senders = run.senders;
  }

-- where a rank has something left, processes say what they have
pub run_says : (ops : List Operation) (script : Script) (ranks size : ℕ) (begun : Moment) (processes : List ProcessView) (frames : List FrameView) (run : IsUnderWay ops script ranks size begun Alone processes frames) → IsLeft ranks run.system.ranks
    → IsUnderWay ops script ranks size begun Saying processes frames
run_says ops script ranks size begun processes frames run left = record { system = run.system; led = run.led; since = says_now ranks size begun frames run.system run.since left; count = run.count; each = run.each; sent = run.sent; senders = tt }

-- the same processes and frames
pub run_same : (ops : List Operation) (script : Script) (ranks size : ℕ) (begun : Moment) (phase : Phase) (ps qs : List ProcessView) (bs cs : List FrameView) → ps ≡ qs → bs ≡ cs → IsUnderWay ops script ranks size begun phase ps bs → IsUnderWay ops script ranks size begun phase qs cs
run_same ops script ranks size begun phase ps qs bs cs p f run = subst (λ xs. IsUnderWay ops script ranks size begun phase xs cs) p (subst (λ xs. IsUnderWay ops script ranks size begun phase ps xs) f run)

pub run_framed : (ops : List Operation) (script : Script) (ranks size : ℕ) (s : System) (t : ScheduleView) (c : ℕ → SenderView) (ps : List ProcessView) (bs cs : List FrameView) → bs ≡ cs → IsUnderWay ops script ranks size (record { system = s; frames = bs; schedule = t; senders = c }) Alone ps bs
    → IsUnderWay ops script ranks size (record { system = s; frames = cs; schedule = t; senders = c }) Alone ps cs
run_framed ops script ranks size s t c ps bs cs e run = subst (λ fs. IsUnderWay ops script ranks size (record { system = s; frames = fs; schedule = t; senders = c }) Alone ps fs) e run

-- or the same while frames come, by the same schedule
pub run_scheduled : (ops : List Operation) (script : Script) (ranks size : ℕ) (begun : Moment) (turn : ℕ) (t u : ScheduleView) (ps qs : List ProcessView) (bs cs : List FrameView) → t ≡ u → ps ≡ qs → bs ≡ cs → IsUnderWay ops script ranks size begun (Coming turn t) ps bs → IsUnderWay ops script ranks size begun (Coming turn u) qs cs
run_scheduled ops script ranks size begun turn t u ps qs bs cs s p f run = run_same ops script ranks size begun (Coming turn u) ps qs bs cs p f (subst (λ x. IsUnderWay ops script ranks size begun (Coming turn x) ps bs) s run)

-- A NODE'S STEPS

-- a step of a node that happens in each world of these operations where the node is so
keeps_net : (phase : Phase) (ops : List Operation) (old new : NodeView) (h : ℕ → Happening) (f : List Operation → InWorld → InWorld) → ((p : ℕ) → IsPassive (h p)) → ((w : WorldView) (p : ℕ) → happens w (h p) ≡ at_process p (f w.operations) w) → ((p : ℕ) → IsIn phase (Nets (h p)))
    → ((w : WorldView) (p : ℕ) → (w.each p).node ≡ old → MayHappen w (h p)) → ((v : InWorld) → v.node ≡ old → new ≡ (f ops v).node) → KeepsNode phase ops old new
keeps_net phase ops old new h f net is into may e r c script ranks size begun processes frames p at run =
    let w = run.system.world in
    let same : (w.each p).node ≡ old = sym (run.each p (record { rank = r; node = old; sender = c }) at).node in
    let by : w.operations ≡ ops = (couples ops script ranks size begun phase processes frames run).operations in
    net_on ops script ranks size begun phase processes frames run p r c old new at (h p) (f w.operations) (net p) (into p) (may w p same) (is w p) (e (w.each p) same ∙ ap (λ o. (f o (w.each p)).node) (sym by))

stores_node : (ops : List Operation) (name : Name) (o : Option Finished) (v : InWorld) → (stores ops name o v).node ≡ with_next ops o name v.node
stores_node ops name None v = refl
stores_node ops name (Some finished) v = refl

-- a harvest keeps the run, and what the node held
pub keeps_next : (ops : List Operation) (name : Name) (old : NodeView) → KeepsNode Alone ops old (with_next ops (next_result ops old name) name old)
    × ((n : Name) (k : ℕ) (x : Finished) → result_on old n k ≡ Some x → result_on (with_next ops (next_result ops old name) name old) n k ≡ Some x)
keeps_next ops name old =
    let next = next_result ops old name in
    let v : InWorld = record { node = old; made = []; learned = [] } in (
      keeps_net Alone ops old (with_next ops next name old) (λ p. Harvests p name) (λ o. harvests o name) (λ p. tt) (λ w p. refl) (λ p. tt) (λ w p same. tt)
          (λ v same. (λ i. with_next ops (next_result ops (sym same i) name) name (sym same i)) ∙ sym (stores_node ops name (next_result ops v.node name) v)),
      λ n k x e. subst (λ m. result_on m n k ≡ Some x) (stores_node ops name next v) ((kept_stores ops name next v).results_kept n k x e),
    )

-- a process acknowledges what its board has
pub keeps_node_acknowledge : (ops : List Operation) (numbers : Numbers) (old new : NodeView) → ((name : Name) (m : ℕ) → HasUpTo old.board name m (numbers name m)) → new ≡ acknowledge numbers old → KeepsNode Saying ops old new
keeps_node_acknowledge ops numbers old new has e =
    keeps_net Saying ops old new (λ p. Acknowledges p numbers) (λ o. acknowledges numbers) (λ p. tt) (λ w p. refl) (λ p. tt)
    (λ w p same. subst (λ (n : NodeView). (name : Name) (m : ℕ) → HasUpTo n.board name m (numbers name m)) (sym same) has)
    (λ v same. e ∙ ap (acknowledge numbers) (sym same))

abbrev pruned_by : Name → Result (Unit {0}) PruneError → ℕ → NodeView → NodeView
pruned_by name (Ok u) n node = learn_some (prune_part node name n) node
pruned_by name (Err refusal) n node = node

drops_node : (name : Name) (n : ℕ) (x : Result (Unit {0}) PruneError) (v : InWorld) → (drops name n x v).node ≡ pruned_by name x n v.node
drops_node name n (Ok u) v = taken_node (prune_part v.node name n) v
drops_node name n (Err refusal) v = refl

pruned_is : (name : Name) (r : Result (Unit {0}) PruneError) (n : ℕ) (old new : NodeView) → OnOk r (new ≡ learn_some (prune_part old name n) old) → OnErr r (new ≡ old) → new ≡ pruned_by name r n old
pruned_is name (Ok u) n old new f g = f
pruned_is name (Err refusal) n old new f g = g

-- and drops what it may
pub keeps_node_prune : (ops : List Operation) (name : Name) (n : ℕ) (answer : Result (Unit {0}) PruneError) (old new : NodeView) → answer ≡ pruned_on old.board name n → OnOk answer (new ≡ learn_some (prune_part old name n) old) → OnErr answer (new ≡ old) → KeepsNode Alone ops old new
keeps_node_prune ops name n answer old new e f g =
    keeps_net Alone ops old new (λ p. Prunes p name n) (λ o. prunes name n) (λ p. tt) (λ w p. refl) (λ p. tt) (λ w p same. tt)
    (λ v same. pruned_is name answer n old new f g ∙ ap (λ x. pruned_by name x n old) e ∙ (λ i. pruned_by name (pruned_on (sym same i).board name n) n (sym same i)) ∙ sym (drops_node name n (pruned_on v.node.board name n) v))

-- while lists are made, a process that has made its own has come further with sending
pub keeps_sender : (ops : List Operation) (v : ProcessView) (c : SenderView) → Keeps Saying ops v (record { rank = v.rank; node = v.node; sender = c })
keeps_sender ops v c script ranks size begun processes frames p at run =
    let new : ProcessView = record { rank = v.rank; node = v.node; sender = c } in
    record {
      system = run.system;
      led = run.led;
      since = run.since;
      count = length-set processes p new ∙ run.count;
      each = λ q x e. set_cases processes p q new x (IsAt ranks run.system q) e
          (λ here. let a = run.each p v at in subst (λ j. IsAt ranks run.system j new) (sym here) (record { me = a.me; node = a.node; stands = a.stands }))
          (λ before other. run.each q x before);
      sent = run.sent;
      senders = tt;
    }

-- one thing after the other
pub keeps_then : (phase : Phase) (ops : List Operation) (a b c : ProcessView) → Keeps phase ops a b → Keeps phase ops b c → Keeps phase ops a c
keeps_then phase ops a b c f g script ranks size begun processes frames p at run =
    subst (λ rs. IsUnderWay ops script ranks size begun phase rs frames) (set_twice processes p b c)
    (g script ranks size begun (set processes p b) frames p (set_has processes p a b at) (f script ranks size begun processes frames p at run))

-- A RANK'S MOVES

pub moves_node : (ops : List Operation) (r : RankView Name) (c : SenderView) (a b : NodeView) → KeepsNode Alone ops a b → Moves ops (record { rank = r; node = a; sender = c }) (record { rank = r; node = b; sender = c })
moves_node ops r c a b k script ranks size begun processes frames p l at run = k r c script ranks size begun processes frames p at run

pub moves_then : (ops : List Operation) (a b c : ProcessView) → Moves ops a b → Moves ops b c → Moves ops a c
moves_then ops a b c f g script ranks size begun processes frames p l at run =
    subst (λ rs. IsUnderWay ops script ranks size begun Alone rs frames) (set_twice processes p b c)
    (g script ranks size begun (set processes p b) frames p l (set_has processes p a b at) (f script ranks size begun processes frames p l at run))
