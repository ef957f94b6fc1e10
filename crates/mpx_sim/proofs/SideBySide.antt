-- What processes do side by side, as steps of a run, one process after the other.
use Rattle.std.proofs.Common.{◌≡◌, ℕ, zero, suc, ◌+◌, ◌<◌, ◌≤◌, Bool, true, false, List, [], ◌∷◌, ◌++◌, length, map, set, get_or, Option, Some, None, refl, sym, ap, ◌∙◌, subst, arith, ◌⊎◌, inl, inr}
use Rattle.std.specs.Prelude.{◌&&◌, IfSome, nat_eq, slice_get, if◌then◌else◌}
use Rattle.std.specs.Option.{option_map}
use Rattle.std.specs.Fork.{ChangesAt, ChangesEach}
use Rattle.std.proofs.lemmas.Option.{slice_get-get_or, slice_get-map, slice_get_within, same_Some}
use denote.Ref.{MutBor}
use denote.Param.Members.{Shared}
use Rattle.mpx_num.specs.declared.own.Operation.{Operation}
use Rattle.mpx_board.specs.Boards.{IsBoardBelow, Look}
use Rattle.mpx_board.proofs.Facts.{below_through, facts_below, join_is_least, under_itself}
use Rattle.mpx_delta.specs.declared.framed.NewFrames.{NewFrames}
use Rattle.mpx_node.specs.Deltas.{AreLacked}
use Rattle.mpx_node.specs.Nodes.{NodeView, learn}
use Rattle.mpx_meaning.specs.Evaluation.{Script}
use Rattle.mpx_post.proofs.Lists.{set_cases, set_has, set_same, set_twice, written}
use Rattle.mpx_system.proofs.Results.{mapped_at, some_at}
use Rattle.mpx_world.proofs.Lists.{itself, slice_get-push_cases}
use Rattle.mpx_sim.specs.declared.frame_under_way.FrameUnderWay.{FrameUnderWay}
use Rattle.mpx_sim.specs.declared.process.Process.{Process}
use Rattle.mpx_sim.specs.Draws.{ScheduleView}
use Rattle.mpx_sim.specs.Running.{HasCome, HaveCome, HaveGrown, HaveSent, IsUnderWay, Keeps, Moves, ProcessView}
use Rattle.mpx_sim.specs.Shown.{frame_of, part_of, process_of}
use Rattle.mpx_sim.specs.SideBySide.{AllGoOn, AllMake, AreMade, AreReady, GoesOn, IsReady, Makes, all_taken, comes, taken, to_send, took}
use Rattle.mpx_sim.specs.Senders.{SenderView, then_by}
use Rattle.mpx_sim.specs.Turns.{Alone, Coming, FrameView, IsListOf, Moment, Saying}
use Rattle.mpx_sim.proofs.Running.{read_at, run_takes}

-- LISTS

-- what holds of a list holds of the one with other elements, where it stays as each of them takes its place, from the first on
one_by_one : {A : Type 0} (P : List A → Type 0) (R : ℕ → A → A → Type 0) → ((place : ℕ) (xs : List A) (v w : A) → R place v w → slice_get xs place ≡ Some v → P xs → P (set xs place w))
    → (old new : List A) → length new ≡ length old → ((place : ℕ) (v w : A) → slice_get old place ≡ Some v → slice_get new place ≡ Some w → R place v w) → P old → P new
one_by_one P R step [] [] e each h = h
one_by_one P R step [] (y ∷ ys) e each h = absurd (omega (arith, e))
one_by_one P R step (x ∷ xs) [] e each h = absurd (omega (arith, e))
one_by_one P R step (x ∷ xs) (y ∷ ys) e each h =
    one_by_one (λ zs. P (y ∷ zs)) (λ place. R (suc place)) (λ place zs v w r at k. step (suc place) (y ∷ zs) v w r at k) xs ys (omega (arith, e)) (λ place v w a b. each (suc place) v w a b)
    (step zero (x ∷ xs) x y (each zero x y refl refl) refl h)

-- what a call in a thread did at this place
pub changed_at : {F T : Type 0} (g : Shared F (ℕ × (MutBor T × Unit {0})) (Unit {0} × (MutBor T × Unit {0}))) (f : F) (old new : List T) → ChangesEach g f old new → (place : ℕ) (p q : T) → slice_get old place ≡ Some p → slice_get new place ≡ Some q → ChangesAt g f place p q
changed_at g f old new changes place p q e n =
    subst (λ y. ChangesAt g f place p y) (read_at new place p q n) (subst (λ x. ChangesAt g f place x (get_or new place p)) (read_at old place p p e) (changes place p (slice_get_within old place p e)).1)

-- FRAMES COME

length_taken : (from turn : ℕ) (fs : List FrameUnderWay) (vs : List ProcessView) → length (all_taken from turn fs vs) ≡ length vs
length_taken from turn fs [] = refl
length_taken from turn fs (v ∷ vs) = ap suc (length_taken (suc from) turn fs vs)

taken_at : (from turn : ℕ) (fs : List FrameUnderWay) (vs : List ProcessView) (place : ℕ) (w : ProcessView) → slice_get (all_taken from turn fs vs) place ≡ Some w → (v : ProcessView) × (slice_get vs place ≡ Some v) × (w ≡ taken (from + place) turn fs v)
taken_at from turn fs [] place w e = cc e
taken_at from turn fs (v ∷ vs) zero w e =
    let same : w ≡ taken from turn fs v = sym (same_Some (taken from turn fs v) w e) in
    let there : from ≡ from + zero = omega arith in
    (v, refl, subst (λ n. w ≡ taken n turn fs v) there same)
taken_at from turn fs (v ∷ vs) (suc place) w e =
    let found = taken_at (suc from) turn fs vs place w e in
    let there : suc from + place ≡ from + suc place = omega arith in
    (found.0, found.1, subst (λ n. w ≡ taken n turn fs found.0) there found.2)

pub none_taken : (from turn : ℕ) (vs : List ProcessView) → all_taken from turn [] vs ≡ vs
none_taken from turn [] = refl
none_taken from turn (v ∷ vs) = ap (λ ws. v ∷ ws) (none_taken (suc from) turn vs)

-- what a frame says stands on the board of the process that took it, with all that stood there
took_grows : (place turn : ℕ) (f : FrameUnderWay) (v : ProcessView) → IsBoardBelow v.node.board (took place turn f v).node.board
took_grows place turn f v = by_test (comes place turn f) where
  by_test : (is : Bool) → IsBoardBelow v.node.board (if is then record { rank = v.rank; node = learn (part_of f) v.node; sender = v.sender } else v).node.board
  by_test true = (join_is_least v.node.board (part_of f)).left
  by_test false = facts_below v.node.board v.node.board (under_itself v.node.board)

took_has : (place turn : ℕ) (f : FrameUnderWay) (v : ProcessView) → comes place turn f ≡ true → IsBoardBelow (part_of f) (took place turn f v).node.board
took_has place turn f v is =
    subst (λ b. IsBoardBelow (part_of f) (if b then record { rank = v.rank; node = learn (part_of f) v.node; sender = v.sender } else v).node.board) (sym is) (join_is_least v.node.board (part_of f)).right

taken_grows : (place turn : ℕ) (fs : List FrameUnderWay) (v : ProcessView) → IsBoardBelow v.node.board (taken place turn fs v).node.board
taken_grows place turn [] v = facts_below v.node.board v.node.board (under_itself v.node.board)
taken_grows place turn (f ∷ fs) v = below_through v.node.board (took place turn f v).node.board (taken place turn fs (took place turn f v)).node.board (took_grows place turn f v) (taken_grows place turn fs (took place turn f v))

taken_has : (place turn : ℕ) (fs : List FrameUnderWay) (v : ProcessView) (i : ℕ) (f : FrameUnderWay) → slice_get fs i ≡ Some f → comes place turn f ≡ true → IsBoardBelow (part_of f) (taken place turn fs v).node.board
taken_has place turn [] v i f at is = cc at
taken_has place turn (g ∷ fs) v zero f at is =
    let same : g ≡ f = same_Some g f at in
    below_through (part_of f) (took place turn g v).node.board (taken place turn fs (took place turn g v)).node.board
    (subst (λ h. IsBoardBelow (part_of f) (took place turn h v).node.board) (sym same) (took_has place turn f v is)) (taken_grows place turn fs (took place turn g v))
taken_has place turn (g ∷ fs) v (suc i) f at is = taken_has place turn fs (took place turn g v) i f at is

comes_there : (place turn : ℕ) (f : FrameUnderWay) → f.to ≡ place → f.turn ≡ turn → comes place turn f ≡ true
comes_there place turn f to now = subst (λ p. (nat_eq f.to p && nat_eq f.turn turn) ≡ true) to (subst (λ n. (nat_eq f.to f.to && nat_eq f.turn n) ≡ true) now (λ i. itself f.to i && itself f.turn i))

-- where all have come, each has
pub taken_come : (turn : ℕ) (all : List FrameUnderWay) (old : List ProcessView) → HaveCome turn (map frame_of all) (all_taken zero turn all old)
taken_come turn all old k d l is v at =
    let f = mapped_at frame_of all k (get_or (map frame_of all) k d) (slice_get-get_or (map frame_of all) k d l) in
    let to = (get_or (map frame_of all) k d).to in
    let found = taken_at zero turn all old to v at in
    let there : zero + to ≡ to = omega arith in
    let here : v ≡ taken to turn all found.0 = subst (λ n. v ≡ taken n turn all found.0) there found.2 in
    let has = taken_has to turn all found.0 k f.0 f.1 (comes_there to turn f.0 (ap (λ (g : FrameView). g.to) f.2) (ap (λ (g : FrameView). g.turn) f.2 ∙ is)) in
    subst (λ (u : ProcessView). IsBoardBelow (get_or (map frame_of all) k d).part u.node.board) (sym here) (subst (λ (g : FrameView). IsBoardBelow g.part (taken to turn all found.0).node.board) f.2 has)

module _ (ops : List Operation) (script : Script) (ranks size : ℕ) (begun : Moment) (now : ℕ) (t : ScheduleView) (frames : List FrameView) where
  one_taken : (processes : List ProcessView) (place : ℕ) (v : ProcessView) (i : ℕ) (f : FrameView) → slice_get processes place ≡ Some v → slice_get frames i ≡ Some f → (is : Bool) → IsUnderWay ops script ranks size begun (Coming now t) processes frames
      → IsUnderWay ops script ranks size begun (Coming now t) (set processes place (if is then record { rank = v.rank; node = learn f.part v.node; sender = v.sender } else v)) frames
  one_taken processes place v i f at got true run = run_takes ops script ranks size begun (Coming now t) processes frames run (λ q n. tt) place v.rank v.sender v.node i f at got
  one_taken processes place v i f at got false run = subst (λ rs. IsUnderWay ops script ranks size begun (Coming now t) rs frames) (sym (set_same processes place v at)) run

  -- each of these frames is one of those under way
  abbrev AreAmong : List FrameUnderWay → Type 0
  AreAmong fs = (i : ℕ) (f : FrameUnderWay) → slice_get fs i ≡ Some f → (j : ℕ) × (slice_get frames j ≡ Some (frame_of f))

  some_taken : (turn : ℕ) (fs : List FrameUnderWay) → AreAmong fs → (processes : List ProcessView) (place : ℕ) (v : ProcessView) → slice_get processes place ≡ Some v → IsUnderWay ops script ranks size begun (Coming now t) processes frames
      → IsUnderWay ops script ranks size begun (Coming now t) (set processes place (taken place turn fs v)) frames
  some_taken turn [] among processes place v at run = subst (λ rs. IsUnderWay ops script ranks size begun (Coming now t) rs frames) (sym (set_same processes place v at)) run
  some_taken turn (f ∷ fs) among processes place v at run =
      let found = among zero f refl in
      let mid = took place turn f v in
      subst (λ rs. IsUnderWay ops script ranks size begun (Coming now t) rs frames) (set_twice processes place mid (taken place turn fs mid))
      (some_taken turn fs (λ i g e. among (suc i) g e) (set processes place mid) place mid (set_has processes place v mid at) (one_taken processes place v found.0 (frame_of f) at found.1 (comes place turn f) run))

  -- to each process those that come to it
  run_taken : (turn : ℕ) (fs : List FrameUnderWay) → AreAmong fs → (processes : List ProcessView) → IsUnderWay ops script ranks size begun (Coming now t) processes frames → IsUnderWay ops script ranks size begun (Coming now t) (all_taken zero turn fs processes) frames
  run_taken turn fs among processes run =
      one_by_one (λ ps. IsUnderWay ops script ranks size begun (Coming now t) ps frames) (λ place v w. w ≡ taken place turn fs v)
      (λ place ps v w same at h. subst (λ x. IsUnderWay ops script ranks size begun (Coming now t) (set ps place x) frames) (sym same) (some_taken turn fs among ps place v at h))
      processes (all_taken zero turn fs processes) (length_taken zero turn fs processes)
      (λ place v w a b.
      let found = taken_at zero turn fs processes place w b in
      let same : found.0 ≡ v = same_Some found.0 v (sym found.1 ∙ a) in
      let there : zero + place ≡ place = omega arith in
      subst (λ n. w ≡ taken n turn fs v) there (subst (λ x. w ≡ taken (zero + place) turn fs x) same found.2))
      run

  -- where these are all of them, or none
  pub run_come : {in_order : Type 0} (turn : ℕ) (all fs : List FrameUnderWay) → map frame_of all ≡ frames → ((fs ≡ []) × in_order) ⊎ (fs ≡ all) → (processes : List ProcessView) → IsUnderWay ops script ranks size begun (Coming now t) processes frames → IsUnderWay ops script ranks size begun (Coming now t) (all_taken zero turn fs processes) frames
  run_come turn all fs are (inl none) processes run = subst (λ gs. IsUnderWay ops script ranks size begun (Coming now t) (all_taken zero turn gs processes) frames) (sym none.0) (run_taken turn [] (λ i f e. cc e) processes run)
  run_come turn all fs are (inr same) processes run = subst (λ gs. IsUnderWay ops script ranks size begun (Coming now t) (all_taken zero turn gs processes) frames) (sym same)
      (run_taken turn all (λ i f e. (i, ap (λ bs. slice_get bs i) (sym are) ∙ slice_get-map frame_of all i ∙ ap (option_map frame_of) e)) processes run)

-- where none still came, since they had come before, or all of them
pub coming_come : {in_order last : Type 0} (turn : ℕ) (all fs : List FrameUnderWay) (old : List ProcessView) → ((fs ≡ []) × in_order) ⊎ (fs ≡ all) → (in_order ⊎ last → HaveCome turn (map frame_of all) old) → HaveCome turn (map frame_of all) (all_taken zero turn fs old)
coming_come turn all fs old (inl none) before = subst (λ gs. HaveCome turn (map frame_of all) (all_taken zero turn gs old)) (sym none.0) (subst (HaveCome turn (map frame_of all)) (sym (none_taken zero turn old)) (before (inl none.1)))
coming_come turn all fs old (inr same) before = subst (λ gs. HaveCome turn (map frame_of all) (all_taken zero turn gs old)) (sym same) (taken_come turn all old)

-- what has come stays on a board that grows
pub come_later : (turn : ℕ) (f : FrameView) (old new : List ProcessView) → length new ≡ length old → HaveGrown old new → HasCome turn old f → HasCome turn new f
come_later turn f old new same grown come is w at =
    let v = some_at old f.to (omega (arith, slice_get_within new f.to w at, same)) in
    below_through f.part v.0.node.board w.node.board (come is v.0 v.1) (grown f.to v.0 w v.1 at)

-- where one process takes a part, its board grows
pub grown_at : (old : List ProcessView) (p : ℕ) (v : ProcessView) (part : Look) → slice_get old p ≡ Some v → HaveGrown old (set old p (record { rank = v.rank; node = learn part v.node; sender = v.sender }))
grown_at old p v part here q u w at now =
    let new : ProcessView = record { rank = v.rank; node = learn part v.node; sender = v.sender } in
    set_cases old p q new w (λ x. IsBoardBelow u.node.board x.node.board) now
    (λ same.
    let is : v ≡ u = same_Some v u (sym here ∙ ap (slice_get old) (sym same) ∙ at) in
    subst (λ (x : ProcessView). IsBoardBelow x.node.board new.node.board) is (join_is_least v.node.board part).left)
    (λ before other.
    let is : u ≡ w = same_Some u w (sym at ∙ before) in
    subst (λ (x : ProcessView). IsBoardBelow u.node.board x.node.board) is (facts_below u.node.board u.node.board (under_itself u.node.board)))

pub grown_itself : (old new : List ProcessView) → new ≡ old → HaveGrown old new
grown_itself old new same p v w at now =
    let is : v ≡ w = same_Some v w (sym at ∙ ap (λ xs. slice_get xs p) (sym same) ∙ now) in
    subst (λ (x : ProcessView). IsBoardBelow v.node.board x.node.board) is (facts_below v.node.board v.node.board (under_itself v.node.board))

-- EACH GOES ON

-- one that stays as it is
pub goes_itself : (ops : List Operation) (count place : ℕ) (v : ProcessView) → GoesOn ops count place v v
goes_itself ops count place v script ranks size begun processes frames few at run = subst (λ ps. IsUnderWay ops script ranks size begun Alone ps frames) (sym (set_same processes place v at)) run

-- a rank moves, and stays in its place as it drops posts
pub goes_by : (ops : List Operation) (count place : ℕ) (old mid new : ProcessView) → place < count → Moves ops old mid → Keeps Alone ops mid new → GoesOn ops count place old new
goes_by ops count place old mid new l moves keeps script ranks size begun processes frames few at run =
    subst (λ ps. IsUnderWay ops script ranks size begun Alone ps frames) (set_twice processes place mid new)
    (keeps script ranks size begun (set processes place mid) frames place (set_has processes place old mid at) (moves script ranks size begun processes frames place (omega (arith, l, few)) at run))

pub goes_same : (ops : List Operation) (count place : ℕ) (v x w y : ProcessView) → x ≡ v → y ≡ w → GoesOn ops count place x y → GoesOn ops count place v w
goes_same ops count place v x w y e f h = subst (λ b. GoesOn ops count place v b) f (subst (λ a. GoesOn ops count place a y) e h)

pub run_gone : (ops : List Operation) (count turn : ℕ) (fs : List FrameUnderWay) (old new : List ProcessView) → AllGoOn ops count turn fs old new → (script : Script) (ranks size : ℕ) (begun : Moment) (frames : List FrameView) → count ≤ ranks
    → IsUnderWay ops script ranks size begun Alone (all_taken zero turn fs old) frames → IsUnderWay ops script ranks size begun Alone new frames
run_gone ops count turn fs old new all script ranks size begun frames few run =
    one_by_one (λ ps. IsUnderWay ops script ranks size begun Alone ps frames) (GoesOn ops count)
    (λ place ps v w goes at h. goes script ranks size begun ps frames few at h)
    (all_taken zero turn fs old) new (all.0 ∙ sym (length_taken zero turn fs old))
    (λ place v w a b.
    let found = taken_at zero turn fs old place v a in
    let there : zero + place ≡ place = omega arith in
    let same : v ≡ taken place turn fs found.0 = subst (λ n. v ≡ taken n turn fs found.0) there found.2 in
    subst (λ x. GoesOn ops count place x w) (sym same) (all.1 place found.0 w found.1 b))
    run

-- EACH MAKES ITS FRAMES

-- what is so of the frames that a process has made stays so where it stays the same process, and keeps them
pub ready_same : (old new : Process) → process_of new ≡ process_of old → new.notes.ahead ≡ old.notes.ahead → new.notes.last ≡ old.notes.last → IsReady old → IsReady new
ready_same old new same ahead last h =
    subst (λ (v : ProcessView). AreMade v.node new.notes.ahead new.notes.last) (sym same)
    (subst (λ a. AreMade (process_of old).node a new.notes.last) (sym ahead) (subst (λ l. AreMade (process_of old).node old.notes.ahead l) (sym last) h))

-- none are made ahead
pub none_ahead : (node : NodeView) (ahead : Option NewFrames) (last : Option (List ℕ)) → ahead ≡ None → IfSome last (λ frame. AreLacked 1048576 node (frame ∷ [])) → AreMade node ahead last
none_ahead node ahead last a l = subst (λ x. AreMade node x last) (sym a) (tt, l)

-- and none is kept
pub none_made : (node : NodeView) (ahead : Option NewFrames) (last : Option (List ℕ)) → ahead ≡ None → last ≡ None → AreMade node ahead last
none_made node ahead last a l = none_ahead node ahead last a (subst (λ x. IfSome x (λ frame. AreLacked 1048576 node (frame ∷ []))) (sym l) tt)

-- a frame is kept that is all of its list
pub kept_made : (node : NodeView) (list : List (List ℕ)) (last : Option (List ℕ)) → AreLacked 1048576 node list → IfSome last (λ frame. list ≡ frame ∷ []) → IfSome last (λ frame. AreLacked 1048576 node (frame ∷ []))
kept_made node list None lacked h = tt
kept_made node list (Some frame) lacked h = subst (AreLacked 1048576 node) h lacked

-- what is kept is what is lacked
pub lacked_again : (node : NodeView) (last : Option (List ℕ)) (frame : List ℕ) (list : List (List ℕ)) → last ≡ Some frame → list ≡ frame ∷ [] → IfSome last (λ x. AreLacked 1048576 node (x ∷ [])) → AreLacked 1048576 node list
lacked_again node last frame list is same h = subst (AreLacked 1048576 node) (sym same) (subst (λ o. IfSome o (λ x. AreLacked 1048576 node (x ∷ []))) is h)

-- one process more that is ready
pub ready_more : (xs : List Process) (x : Process) → AreReady xs → IsReady x → AreReady (xs ++ x ∷ [])
ready_more xs x all one place p at = slice_get-push_cases (λ y j. IsReady y) xs x place p at (all place p) (λ same last. subst IsReady same one)

-- one process is written that is ready
pub ready_set : (xs : List Process) (p : ℕ) (x : Process) → AreReady xs → IsReady x → AreReady (set xs p x)
ready_set xs p x all one q y at = set_cases xs p q x y IsReady at (λ here. one) (λ old other. all q y old)

-- each that has made its list is ready
pub ready_made : (shifts : List ℕ) (count turn : ℕ) (old new : List Process) → AllMake shifts count turn old new → AreReady new
ready_made shifts count turn old new all place q at =
    let before = some_at old place (omega (arith, slice_get_within new place q at, all.0)) in
    (all.1 place before.0 q before.1 at).ready

pub run_made : (shifts : List ℕ) (count turn : ℕ) (old new : List Process) → AllMake shifts count turn old new → (ops : List Operation) (script : Script) (ranks size : ℕ) (begun : Moment) (frames : List FrameView) → IsUnderWay ops script ranks size begun Saying (map process_of old) frames
    → IsUnderWay ops script ranks size begun Saying (map process_of new) frames
run_made shifts count turn old new all ops script ranks size begun frames run =
    one_by_one (λ ps. IsUnderWay ops script ranks size begun Saying (map process_of ps) frames) (λ place. Makes shifts count turn)
    (λ place ps p q makes at h.
    subst (λ rs. IsUnderWay ops script ranks size begun Saying rs frames) (written process_of ps place q)
    (makes.says ops script ranks size begun (map process_of ps) frames place (slice_get-map process_of ps place ∙ ap (option_map process_of) at) h))
    old new all.0 all.1 run

-- each has made a list, by how far it had come with sending, and has come further then
pub record Listed (shifts : List ℕ) (count turn : ℕ) (sender : SenderView) (v : ProcessView) (list : List FrameView) : Type 0 where
  pub is_list : IsListOf shifts count turn v.rank.me sender v.node list
  pub sender_is : v.sender ≡ then_by shifts turn (length list) sender

pub all_lists : (shifts : List ℕ) (senders : ℕ → SenderView) (count turn : ℕ) (old new : List Process) → AllMake shifts count turn old new → HaveSent senders (map process_of old) → (p : ℕ) (list : List FrameView) → slice_get (map to_send new) p ≡ Some list → (v : ProcessView) → slice_get (map process_of new) p ≡ Some v
    → Listed shifts count turn (senders p) v list
all_lists shifts senders count turn old new all have p list made v at =
    let q = mapped_at to_send new p list made in
    let u = mapped_at process_of new p v at in
    let before = some_at old p (omega (arith, slice_get_within new p q.0 q.1, all.0)) in
    let same : u.0 ≡ q.0 = same_Some u.0 q.0 (sym u.1 ∙ q.1) in
    let is : process_of q.0 ≡ v = ap process_of (sym same) ∙ u.2 in
    let makes = all.1 p before.0 q.0 before.1 q.1 in
    let sent : (process_of before.0).sender ≡ senders p = have p (process_of before.0) (slice_get-map process_of old p ∙ ap (option_map process_of) before.1) in
    let here : Listed shifts count turn (process_of before.0).sender (process_of q.0) (to_send q.0) = record { is_list = makes.list; sender_is = makes.sender } in
    subst (λ (w : ProcessView). Listed shifts count turn (senders p) w list) is (subst (Listed shifts count turn (senders p) (process_of q.0)) q.2 (subst (λ x. Listed shifts count turn x (process_of q.0) (to_send q.0)) sent here))
