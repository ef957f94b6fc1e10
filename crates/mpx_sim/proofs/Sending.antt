-- Frames, and the board whose bytes they are.
use Rattle.std.proofs.Common.{◌≡◌, ◌+◌, ◌<◌, ◌≤◌, ℕ, zero, suc, Bool, true, false, get_or, take, drop, List, [], ◌∷◌, ◌++◌, length, map, set, Option, Some, None, refl, sym, ap, ◌∙◌, inl, subst, arith}
use Rattle.std.specs.Prelude.{All, nat_eq, nat_lt, slice_get, if◌then◌else◌}
use Rattle.std.proofs.lemmas.Bool.Decides.{nat_tests}
use Rattle.std.proofs.lemmas.List.{append-nil, append_assoc}
use Rattle.std.proofs.lemmas.Option.{get_or_from_slice_get, slice_get_within}
use Rattle.std.proofs.lemmas.List.Elements.{All-append, All-nil, All-cons, All-head, All-push, All-tail, All-map}
use Rattle.rand_pcg.specs.Lcg.{Lcg}
use Rattle.mpx_num.specs.declared.own.Operation.{Operation}
use Rattle.mpx_board.specs.Boards.{Look}
use Rattle.mpx_board.specs.Contexts.{look_of}
use Rattle.mpx_board.specs.Looks.{look}
use Rattle.mpx_board.specs.Parts.{PartsView}
use Rattle.mpx_format.specs.declared.versions.Version.{Version}
use Rattle.mpx_format.specs.Decoding.{Spells, decoded}
use Rattle.mpx_format.proofs.Decoded.{decoded_again}
use Rattle.mpx_delta.specs.Facts.{OnlyFactsOf}
use Rattle.mpx_node.specs.Nodes.{NodeView}
use Rattle.mpx_post.proofs.Lists.{next_left, slice_get-append}
use Rattle.mpx_world.specs.Worlds.{Sends}
use Rattle.mpx_world.proofs.Lists.{slice_get-push}
use Rattle.mpx_world.proofs.Reached.{own_seen}
use Rattle.mpx_meaning.specs.Evaluation.{Script}
use Rattle.mpx_system.specs.Systems.{Doing, Leads, MayDo, Nets, System, does, does_all, start_system}
use Rattle.mpx_system.proofs.Leading.{coupled, leads_on}
use Rattle.mpx_system.proofs.Results.{some_at}
use Rattle.mpx_sim.specs.declared.frame_under_way.FrameUnderWay.{FrameUnderWay}
use Rattle.mpx_sim.specs.declared.schedule.Schedule.{Schedule}
use Rattle.mpx_sim.specs.Draws.{ScheduleView, draw, drawn, drawn_again, drawn_once, drawn_times}
use Rattle.mpx_sim.specs.Senders.{SenderView, first_sender, next_place, receiver, then_by}
use Rattle.mpx_sim.specs.Turns.{Coming, FrameView, IsListOf, Moment, Saying, a_list, asked, drawn_again_for, drawn_for, joined, no_list, one_a_turn, sends_each, those_out}
use Rattle.mpx_sim.specs.Running.{IsAmong, IsAt, IsUnderWay, ProcessView}
use Rattle.mpx_sim.specs.Shown.{frame_of, part_of, schedule_of, shown}
use Rattle.mpx_sim.proofs.Phases.{comes_now}
use Rattle.mpx_sim.proofs.Running.{all_more}

-- BYTES

pub spelled_shown : (version : Version) (bytes : List ℕ) (v : PartsView) → Spells version bytes v → shown (decoded bytes) ≡ look_of v
spelled_shown version bytes v s = ap shown (decoded_again version bytes v s)

-- PARTS

-- FRAMES GO OUT

pub out_append : (s : ScheduleView) (xs ys : List FrameView) → those_out s (xs ++ ys) ≡ those_out s xs ++ those_out (drawn_for xs s) ys
out_append s [] ys = refl
out_append s (f ∷ xs) ys = by_number (nat_lt (draw 100 s.draws) s.loss) (out_append (drawn_once s) xs ys) where
  by_number : (lost : Bool) → those_out (drawn_once s) (xs ++ ys) ≡ those_out (drawn_once s) xs ++ those_out (drawn_for xs (drawn_once s)) ys → (if lost then those_out (drawn_once s) (xs ++ ys) else (f ∷ those_out (drawn_once s) (xs ++ ys))) ≡ (if lost then those_out (drawn_once s) xs else (f ∷ those_out (drawn_once s) xs)) ++ those_out (drawn_for xs (drawn_once s)) ys
  by_number true rest = rest
  by_number false rest = ap (λ fs. f ∷ fs) rest

pub drawn_append : (xs ys : List FrameView) (s : ScheduleView) → drawn_for (xs ++ ys) s ≡ drawn_for ys (drawn_for xs s)
drawn_append [] ys s = refl
drawn_append (f ∷ xs) ys s = drawn_append xs ys (drawn_once s)

pub same_loss : (made : List FrameView) (s : ScheduleView) → (drawn_for made s).loss ≡ s.loss
same_loss [] s = refl
same_loss (f ∷ made) s = same_loss made (drawn_once s)

-- some frames, and then more of them
pub then_out : (frames mid new : List FrameView) (s t : ScheduleView) (xs ys : List FrameView) → mid ≡ frames ++ those_out s xs → t ≡ drawn_for xs s → new ≡ mid ++ those_out t ys → new ≡ frames ++ those_out s (xs ++ ys)
then_out frames mid new s t xs ys a b c =
    c ∙ (λ i. a i ++ those_out (b i) ys) ∙ append_assoc frames (those_out s xs) (those_out (drawn_for xs s) ys) ∙ ap (λ fs. frames ++ fs) (sym (out_append s xs ys))

-- one goes out, or is lost, by its number
pub is_out : (s : ScheduleView) (f : FrameView) → s.loss ≤ draw 100 s.draws → those_out s (f ∷ []) ≡ f ∷ []
is_out s f kept =
    let not : nat_lt (draw 100 s.draws) s.loss ≡ false = grind (arith, nat_tests, kept) in
    ap (λ lost. if lost then [] else (f ∷ [])) not

pub is_lost_out : (s : ScheduleView) (f : FrameView) → draw 100 s.draws < s.loss → those_out s (f ∷ []) ≡ []
is_lost_out s f lost =
    let is : nat_lt (draw 100 s.draws) s.loss ≡ true = grind (arith, nat_tests, lost) in
    ap (λ b. if b then [] else (f ∷ [])) is

all_out : (P : FrameView → Type 0) (s : ScheduleView) (made : List FrameView) → All P made → All P (those_out s made)
all_out P s [] h = h
all_out P s (f ∷ made) h = by_number (nat_lt (draw 100 s.draws) s.loss) (all_out P (drawn_once s) made (All-tail P f made h)) where
  by_number : (lost : Bool) → All P (those_out (drawn_once s) made) → All P (if lost then those_out (drawn_once s) made else (f ∷ those_out (drawn_once s) made))
  by_number true rest = rest
  by_number false rest = All-cons P f (those_out (drawn_once s) made) (All-head P f made h) rest

all_joined : (P : FrameView → Type 0) (lists : List (List FrameView)) → ((p : ℕ) (list : List FrameView) → slice_get lists p ≡ Some list → All P list) → All P (joined lists)
all_joined P [] h = All-nil P
all_joined P (list ∷ lists) h = All-append P list (joined lists) (h zero list refl) (all_joined P lists (λ p more e. h (suc p) more e))

-- a frame says what is on the board of its process
abbrev Says : List ProcessView → FrameView → Type 0
Says processes f = (v : ProcessView) × (slice_get processes f.from ≡ Some v) × OnlyFactsOf f.part v.node.board

parts_say : (processes : List ProcessView) (p : ℕ) (v : ProcessView) → slice_get processes p ≡ Some v → (to turn : ℕ) (parts : List Look) → All (λ part. OnlyFactsOf part v.node.board) parts → All (Says processes) (one_a_turn p to turn parts)
parts_say processes p v at to turn [] h = All-nil (Says processes)
parts_say processes p v at to turn (part ∷ parts) h =
    All-cons (Says processes) (record { from = p; to = to; turn = turn; part = part }) (one_a_turn p to (suc turn) parts) (v, at, All-head (λ b. OnlyFactsOf b v.node.board) part parts h)
    (parts_say processes p v at to (suc turn) parts (All-tail (λ b. OnlyFactsOf b v.node.board) part parts h))

list_says : (processes : List ProcessView) (shifts : List ℕ) (size turn p : ℕ) (sender : SenderView) (v : ProcessView) → slice_get processes p ≡ Some v → (list : List FrameView) → IsListOf shifts size turn p sender v.node list → All (Says processes) list
list_says processes shifts size turn p sender v at list (no_list out) = All-nil (Says processes)
list_says processes shifts size turn p sender v at list (a_list parts due facts whole fit few) = parts_say processes p v at (receiver shifts size p sender.place) turn (map look parts) (All-map (λ b. OnlyFactsOf b v.node.board) look parts facts)

module _ (ops : List Operation) (script : Script) (ranks size : ℕ) (processes : List ProcessView) where
  -- a system in which these frames are under way
  record Sent (frames : List FrameView) (s : System) : Type 0 where
    led : Leads ranks (start_system ops script ranks size) s
    each : (p : ℕ) (v : ProcessView) → slice_get processes p ≡ Some v → IsAt ranks s p v
    sent : All (λ (f : FrameView). IsAmong s.world.parts f.part) frames

  one_sent : (frames : List FrameView) (s : System) → Sent frames s → (f : FrameView) → Says processes f → Sent (frames ++ f ∷ []) (does s (Nets (Sends f.from f.part)))
  one_sent frames s h f says =
      let d : Doing = Nets (Sends f.from f.part) in
      let v = says.0 in
      let new = s.world.parts ++ f.part ∷ [] in
      let here : OnlyFactsOf f.part (s.world.each f.from).node.board = subst (λ (n : NodeView). OnlyFactsOf f.part n.board) (h.each f.from v says.1).node says.2 in
      let may : MayDo ranks s d = (tt, λ fact has. inl (own_seen s.world f.from (s.world.each f.from) fact ((coupled ops script ranks size s h.led).upheld.holds.processes f.from) (here fact has))) in
      record {
        led = leads_on ranks (start_system ops script ranks size) s d h.led may;
        each = λ q u e. let a = h.each q u e in record { me = a.me; node = a.node; stands = a.stands };
        sent = All-push (λ (g : FrameView). IsAmong new g.part) frames f
            (all_more (λ (g : FrameView). IsAmong s.world.parts g.part) (λ (g : FrameView). IsAmong new g.part) (λ g found. (found.0, slice_get-append s.world.parts (f.part ∷ []) found.0 g.part found.1)) frames h.sent)
            (length s.world.parts, slice_get-push s.world.parts f.part);
      }

  each_sent : (more frames : List FrameView) (s : System) → Sent frames s → All (Says processes) more → Sent (frames ++ more) (does_all s (sends_each more))
  each_sent [] frames s h says = subst (λ fs. Sent fs s) (sym (append-nil frames)) h
  each_sent (f ∷ more) frames s h says =
      let t = does s (Nets (Sends f.from f.part)) in
      subst (λ fs. Sent fs (does_all t (sends_each more))) (append_assoc frames (f ∷ []) more)
      (each_sent more (frames ++ f ∷ []) t (one_sent frames s h f (All-head (Says processes) f more says)) (All-tail (Says processes) f more says))

-- how far each process has come with sending
abbrev sender_at : Option ProcessView → SenderView
sender_at None = first_sender
sender_at (Some v) = v.sender

abbrev senders_at : List ProcessView → ℕ → SenderView
senders_at processes p = sender_at (slice_get processes p)

-- one whose last list isn't out stays as it is
pub asked_not_out : (shifts : List ℕ) (turn frames : ℕ) (s : SenderView) → turn < s.out → then_by shifts turn frames s ≡ s
asked_not_out shifts turn frames s early =
    let is : nat_lt turn s.out ≡ true = grind (arith, nat_tests, early) in
    ap (λ b. if b then s else record { place = next_place shifts s.place; out = turn + frames }) is

-- once processes have said what they have, the lists that they have made go out
pub run_out : (ops : List Operation) (script : Script) (ranks size : ℕ) (begun : Moment) (turn : ℕ) (processes : List ProcessView) (frames : List FrameView) (run : IsUnderWay ops script ranks size begun Saying processes frames) (lists : List (List FrameView))
    → length lists ≡ length processes → ((p : ℕ) (list : List FrameView) → slice_get lists p ≡ Some list → (v : ProcessView) → slice_get processes p ≡ Some v → IsListOf begun.schedule.shifts size turn v.rank.me (begun.senders p) v.node list × (v.sender ≡ then_by begun.schedule.shifts turn (length list) (begun.senders p)))
    → IsUnderWay ops script ranks size begun (Coming turn (drawn_for (frames ++ those_out begun.schedule (joined lists)) (drawn_for (joined lists) begun.schedule))) processes (frames ++ those_out begun.schedule (joined lists))
run_out ops script ranks size begun turn processes frames run lists many are =
    let s = run.system in
    let made = joined lists in
    let out = those_out begun.schedule made in
    let list_at = λ (p : ℕ) (list : List FrameView) (e : slice_get lists p ≡ Some list) (v : ProcessView) (at : slice_get processes p ≡ Some v). subst (λ q. IsListOf begun.schedule.shifts size turn q (begun.senders p) v.node list) (run.each p v at).me (are p list e v at).0 in
    let there = λ (p : ℕ) (list : List FrameView) (e : slice_get lists p ≡ Some list). some_at processes p (omega (arith, slice_get_within lists p list e, many)) in
    let says : All (Says processes) made = all_joined (Says processes) lists (λ p list e. let v = there p list e in list_says processes begun.schedule.shifts size turn p (begun.senders p) v.0 v.1 list (list_at p list e v.0 v.1)) in
    let h = each_sent ops script ranks size processes out frames s (record { led = run.led; each = run.each; sent = run.sent }) (all_out (Says processes) begun.schedule made says) in
    let sent : Moment = record { system = does_all s (sends_each out); frames = frames ++ out; schedule = drawn_for made begun.schedule; senders = senders_at processes } in
    record {
      system = sent.system;
      led = h.led;
      since = comes_now ranks size turn begun sent (record {
        said = s;
        before = run.since.0;
        lists = lists;
        count = many ∙ run.count;
        made = λ p list e. let v = there p list e in subst (λ n. IsListOf begun.schedule.shifts size turn p (begun.senders p) n list) (run.each p v.0 v.1).node (list_at p list e v.0 v.1);
        senders_are = λ p list e. let v = there p list e in ap sender_at v.1 ∙ (are p list e v.0 v.1).1;
        system_is = refl;
        frames_are = ap (λ fs. fs ++ out) run.since.1;
        schedule_is = refl;
      });
      count = run.count;
      each = h.each;
      sent = h.sent;
      senders = λ p v at. sym (ap sender_at at);
    }

-- THE CODE'S FRAMES

-- of which board each frame of a list is
pub parts_in_turns : (from to turn : ℕ) (parts : List Look) → map (λ (f : FrameView). f.part) (one_a_turn from to turn parts) ≡ parts
parts_in_turns from to turn [] = refl
parts_in_turns from to turn (part ∷ parts) = ap (λ bs. part ∷ bs) (parts_in_turns from to (suc turn) parts)

-- one more of a list
pub one_turn_more : (from to turn : ℕ) (parts : List Look) (part : Look) → one_a_turn from to turn (parts ++ part ∷ []) ≡ one_a_turn from to turn parts ++ record { from = from; to = to; turn = turn + length parts; part = part } ∷ []
one_turn_more from to turn [] part = let same : turn ≡ turn + 0 = omega arith in ap (λ n. let f : FrameView = record { from = from; to = to; turn = n; part = part } in f ∷ []) same
one_turn_more from to turn (first ∷ parts) part =
    let same : suc turn + length parts ≡ turn + suc (length parts) = omega arith in
    ap (λ fs. let f : FrameView = record { from = from; to = to; turn = turn; part = first } in f ∷ fs)
    (one_turn_more from to (suc turn) parts part ∙ ap (λ n. let f : FrameView = record { from = from; to = to; turn = n; part = part } in one_a_turn from to (suc turn) parts ++ f ∷ []) same)

pub length_in_turns : (from to turn : ℕ) (parts : List Look) → length (one_a_turn from to turn parts) ≡ length parts
length_in_turns from to turn [] = refl
length_in_turns from to turn (part ∷ parts) = ap suc (length_in_turns from to (suc turn) parts)

pub parts_of_frames : (frames : List FrameUnderWay) → map (λ (f : FrameView). f.part) (map frame_of frames) ≡ map part_of frames
parts_of_frames [] = refl
parts_of_frames (f ∷ frames) = ap (λ bs. part_of f ∷ bs) (parts_of_frames frames)

-- THE CODE'S LISTS

-- a write that leaves what f reads
pub kept : {A B : Type 0} (f : A → B) (xs : List A) (p : ℕ) (d x : A) → p < length xs → f x ≡ f (get_or xs p d) → map f (set xs p x) ≡ map f xs
kept f [] p d x l e = refl
kept f (y ∷ ys) zero d x l e = ap (λ z. z ∷ map f ys) e
kept f (y ∷ ys) (suc p) d x l e = ap (λ zs. f y ∷ zs) (kept f ys p d x (omega (arith, l)) e)

-- one of those that are left
pub one_left : {A : Type 0} (xs : List A) (p : ℕ) (x : A) → slice_get xs p ≡ Some x → drop p xs ≡ x ∷ drop (p + 1) xs
one_left xs p x e = next_left xs p x (slice_get_within xs p x e) (sym (get_or_from_slice_get xs p x x e))

-- a vector whose elements were lent has what was written there
pub written_back : {A : Type 0} (len : ℕ) (old new : List A) → length new ≡ length old → length old ≡ len → take len (new ++ drop (length new) old) ≡ new
written_back zero [] [] e f = refl
written_back len [] (x ∷ xs) e f = absurd (omega (arith, e))
written_back len (y ∷ ys) [] e f = absurd (omega (arith, e))
written_back zero (y ∷ ys) (x ∷ xs) e f = absurd (omega (arith, f))
written_back (suc len) [] [] e f = refl
written_back (suc len) (y ∷ ys) (x ∷ xs) e f = ap (λ zs. x ∷ zs) (written_back len ys xs (omega (arith, e)) (omega (arith, f)))

-- THE CODE'S SCHEDULE

-- once a number is drawn
pub drawn_of : (old new : Schedule) → new.loss ≡ old.loss → new.words ≡ drawn old.words → new.shifts ≡ old.shifts → schedule_of new ≡ drawn_once (schedule_of old)
drawn_of old new loss words shifts = λ i. record { loss = loss i; draws = words i; shifts = (shifts i).items }

-- one number first, and then the others
drawn_first : (n : ℕ) (g : Lcg) → drawn_times n (drawn g) ≡ drawn (drawn_times n g)
drawn_first zero g = refl
drawn_first (suc n) g = ap drawn (drawn_first n g)

pub drawn_more : (n m : ℕ) (g : Lcg) → m ≡ n + 1 → drawn_times m g ≡ drawn (drawn_times n g)
drawn_more n m g e = let same : m ≡ suc n = omega (arith, e) in ap (λ k. drawn_times k g) same

-- a number for each frame is as many as there are frames
for_each : (frames : List FrameView) (s : ScheduleView) → drawn_for frames s ≡ record { loss = s.loss; draws = drawn_times (length frames) s.draws; shifts = s.shifts }
for_each [] s = refl
for_each (f ∷ frames) s = for_each frames (drawn_once s) ∙ ap (λ g. let t : ScheduleView = record { loss = s.loss; draws = g; shifts = s.shifts } in t) (drawn_first (length frames) s.draws)

pub mixed_of : (old new : Schedule) (frames : List FrameView) (n : ℕ) → n ≡ length frames → new.loss ≡ old.loss → new.words ≡ drawn_times n old.words → new.shifts ≡ old.shifts → drawn_for frames (schedule_of old) ≡ schedule_of new
mixed_of old new frames n many loss words shifts =
    let same : new.words ≡ drawn_times (length frames) old.words = words ∙ ap (λ k. drawn_times k old.words) many in
    for_each frames (schedule_of old) ∙ (λ i. let t : ScheduleView = record { loss = sym loss i; draws = sym same i; shifts = (sym shifts i).items } in t)

-- it is drawn whether a frame comes again
pub again_is : (s : ScheduleView) → draw 4 s.draws ≡ 0 → drawn_again s ≡ drawn_once (drawn_once s)
again_is s comes =
    let is : nat_eq (draw 4 s.draws) 0 ≡ true = grind (arith, nat_tests, comes) in
    ap (λ b. if b then drawn_once (drawn_once s) else drawn_once s) is

pub again_not : (s : ScheduleView) → (draw 4 s.draws ≡ 0 → ⊥) → drawn_again s ≡ drawn_once s
again_not s gone =
    let not : nat_eq (draw 4 s.draws) 0 ≡ false = grind (arith, nat_tests, gone) in
    ap (λ b. if b then drawn_once (drawn_once s) else drawn_once s) not

again_loss : (s : ScheduleView) → (drawn_again s).loss ≡ s.loss
again_loss s = by_number (nat_eq (draw 4 s.draws) 0) where
  by_number : (comes : Bool) → (if comes then drawn_once (drawn_once s) else drawn_once s).loss ≡ s.loss
  by_number true = refl
  by_number false = refl

pub again_for_loss : (turn : ℕ) (frames : List FrameView) (s : ScheduleView) → (drawn_again_for turn frames s).loss ≡ s.loss
again_for_loss turn [] s = refl
again_for_loss turn (f ∷ frames) s = again_for_loss turn frames (asked turn f s) ∙ by_turn (nat_eq f.turn turn) where
  by_turn : (now : Bool) → (if now then drawn_again s else s).loss ≡ s.loss
  by_turn true = again_loss s
  by_turn false = refl
