-- Each step on the queue keeps the rule.
use Rattle.std.proofs.Common.{◌≡◌, ◌≢◌, ℕ, zero, suc, ◌+◌, List, [], ◌∷◌, ◌++◌, length, set, Some, None, true≢false, slice_get, refl, sym, ap, ◌∙◌, subst, ⊎_elim, arith, length-append}
use Rattle.std.proofs.lemmas.Bool.{cases_eq}
use Rattle.std.proofs.lemmas.List.{append-nil}
use mathlib.Core.Option.{some, some-injective, some-ne-none}
use mathlib.Core.List.{IsPrefix}
use lib.ListN.{get_elem?}
use Rattle.crossbeam_queue.specs.Fifo.{Pushes, Pops}
use Rattle.crossbeam_queue.proofs.Lists.{at_set, set_else}
use Rattle.mpx_board.specs.Boards.{Look}
use Rattle.mpx_board.specs.Contexts.{look_of}
use Rattle.mpx_board.specs.Parts.{PartsView}
use Rattle.mpx_format.specs.Decoding.{IsSpelled}
use Rattle.mpx_world.specs.Worlds.{ProcessView, WorldView, Happening}
use Rattle.mpx_world.proofs.Lists.{slice_get-push}
use Rattle.mpx_bus.specs.declared.act.Act.{Act}
use Rattle.mpx_bus.specs.declared.act.Act.TheVariants as A
use Rattle.mpx_bus.specs.declared.act.Setup.{Setup}
use Rattle.mpx_bus.specs.declared.act.Seen.{Seen}
use Rattle.mpx_bus.specs.declared.act.View.{View}
use Rattle.mpx_bus.specs.Acts.{DidIn, IsAhead, MaySendFrame, MayPush, at_start, process_at}
use Rattle.mpx_bus.specs.Views.{standing, standing_as, seen_as, seat_of, after_push, after_pop}
use Rattle.mpx_bus.specs.Rule.{Seating, IsSent, IsPushed, BeginsPlan, IsPlanned, planned_posts, world_of, Stood, FitsSeat, FitsView, SoundQueue}
use Rattle.mpx_bus.specs.Counted.{pushes_by, pops_by, pushes_in, pops_in}
use Rattle.mpx_bus.proofs.Counted.{ahead_moves_none, counted_moved, total_append}
use Rattle.mpx_bus.proofs.Journals.{after-append, one_of, slice_get-append_cases, did_before, did_last, did_now, did_ahead, pushed_before, popped_before, sent_later, Onward, onward, onward_sends}

-- of a list of one
pub one_seat : {A : Type 0} (a b : A) (place : ℕ) → slice_get (a ∷ []) place ≡ Some b → (place ≡ 0) × (a ≡ b)
one_seat a b zero e = (refl, cc)
one_seat a b (suc k) e = absurd (cc)

pub at_here : {A : Type 0} (l : List A) (i : ℕ) (a b : A) → get_elem? l i ≡ some a → get_elem? (set l i b) i ≡ some b
at_here [] i a b e = absurd (some-ne-none a (sym e))
at_here (x ∷ xs) zero a b e = refl
at_here (x ∷ xs) (suc i) a b e = at_here xs i a b e

-- what stands pushed in the one view stands pushed in the other
abbrev pub Keeps : View → View → Type 0
Keeps v w = (place : ℕ) (s : Seen) (bytes : List ℕ) → slice_get v.seats place ≡ Some s → DidIn s.journal (A.Pushed bytes) → (k : ℕ) × (t : Seen) × (slice_get w.seats k ≡ Some t) × DidIn t.journal (A.Pushed bytes)

pub pushed_set : (views : List View) (pass : ℕ) (v w : View) (bytes : List ℕ) → get_elem? views pass ≡ some v → Keeps v w → IsPushed views bytes → IsPushed (set views pass w) bytes
pushed_set views pass v w bytes at keeps is =
    ⊎_elim
    (λ (e : is.pass ≡ pass).
    let same : is.view ≡ v = some-injective is.view v (sym is.here ∙ (ap (λ k. get_elem? views k) e ∙ at)) in
    let k = keeps is.place is.seen bytes (subst (λ (u : View). slice_get u.seats is.place ≡ Some is.seen) same is.there) is.pushed in
    record { pass = pass; view = w; here = at_here views pass v w at; place = k.0; seen = k.1; there = k.2; pushed = k.3 })
    (λ (ne : is.pass ≢ pass). record { pass = is.pass; view = is.view; here = set_else views pass is.pass w ne ∙ is.here; place = is.place; seen = is.seen; there = is.there; pushed = is.pushed })
    (cases_eq is.pass pass)

-- the seat at which a port's pass stands
pub my_seat : (v : View) → v ≡ standing v.setup (seat_of v ∷ []) → slice_get v.seats 0 ≡ Some (seat_of v)
my_seat v is = ap (λ (u : View). slice_get u.seats 0) is

pub none_some : {A : Type 0} (a : A) → None ≡ Some a → ⊥
none_some a e = cc

pub pair_of_some : (x y : ℕ × ℕ) → Some x ≡ Some y → x ≡ y
pair_of_some x y e = cc

pub first_of_some : (x y : ℕ × ℕ) → Some x ≡ Some y → x.0 ≡ y.0
first_of_some x y e = ap (λ (z : ℕ × ℕ). z.0) (pair_of_some x y e)

-- the processes of two passes are different
pub apart : (seat : Seating) (pass q place me me' : ℕ) → seat me ≡ Some (pass, 0) → seat me' ≡ Some (q, place) → q ≢ pass → me' ≢ me
apart seat pass q place me me' mine theirs ne e = ne (first_of_some (q, place) (pass, 0) (sym theirs ∙ (ap seat e ∙ mine)))

-- the process of one pass moves on, and the parts grow
pub moved : (items new : List (List ℕ)) (views : List View) (pass : ℕ) (v : View) (journal : List Act) (more : List Look) (h : SoundQueue items views) → get_elem? views pass ≡ some v
    → v ≡ standing v.setup (seat_of v ∷ [])
    → Onward h.setup h.happenings (seat_of v).me (process_at h.setup (seat_of v).me journal) ((world_of h.setup h.happenings).parts ++ more)
    → ((bytes : List ℕ) → DidIn journal (A.Pushed bytes) → IsSent ((world_of h.setup h.happenings).parts ++ more) bytes)
    → ((bytes : List ℕ) → DidIn journal (A.Popped bytes) → IsSent ((world_of h.setup h.happenings).parts ++ more) bytes)
    → IsPlanned h.setup (seat_of v).me journal
    → ((k : ℕ) (bytes : List ℕ) → slice_get new k ≡ Some bytes → IsPushed (set views pass (standing_as v journal)) bytes)
    → pushes_in journal + pops_in (seat_of v).journal + length items ≡ pops_in journal + pushes_in (seat_of v).journal + length new
    → SoundQueue new (set views pass (standing_as v journal)) × Stood h.setup (seat_of v).me journal
moved items new views pass v journal more h at is o pushed popped plan frames moves =
    let s : Seen = seat_of v in
    let t : Seen = seen_as s.me journal in
    let w : View = standing_as v journal in
    let W : WorldView = world_of h.setup h.happenings in
    let N : WorldView = world_of h.setup o.all in
    let before = h.passes pass v at in
    let mine = (before.seats 0 s (my_seat v is)).here in
    let later : (bytes : List ℕ) → IsSent (W.parts ++ more) bytes → IsSent N.parts bytes = λ bytes x. subst (λ ps. IsSent ps bytes) (sym o.parts_are) x in
    let planned : BeginsPlan h.setup N = λ yes p. ⊎_elim
    (λ (e : p ≡ s.me). subst (λ (q : ℕ). IsPrefix ((N.each q).made) (planned_posts h.setup q)) (sym e) (subst (λ (x : ProcessView). IsPrefix (x.made) (planned_posts h.setup s.me)) (sym o.here) (plan yes)))
    (λ (ne : p ≢ s.me). subst (λ (x : ProcessView). IsPrefix (x.made) (planned_posts h.setup p)) (sym (o.others p ne)) (h.planned yes p))
    (cases_eq p s.me) in
    let Fit : ℕ → View → Type 0 = FitsView N h.seat h.named h.setup h.maker in (
      record {
        happenings = o.all;
        seat = h.seat;
        named = h.named;
        setup = h.setup;
        maker = h.maker;
        may = o.may;
        planned = planned;
        frames = frames;
        counted = counted_moved items new views pass v journal at is moves h.counted;
        passes = λ q u e. ⊎_elim
            (λ (x : (q ≡ pass) × (w ≡ u)). subst (λ (y : ℕ × View). Fit y.0 y.1) (λ i. (sym x.0 i, x.1 i))
            (record {
              makes = λ m. absurd (true≢false (sym m));
              names = λ _. before.names (ap (λ (u : View). u.named) is);
              seats = λ place u' e'. let z = one_seat t u' place e' in subst (λ (y : ℕ × Seen). FitsSeat N h.seat h.setup pass y.0 y.1) (λ i. (sym z.0 i, z.1 i))
                  (record { here = mine; process = o.here; pushed = λ bytes d. later bytes (pushed bytes d); popped = λ bytes d. later bytes (popped bytes d) });
            }))
            (λ (x : (q ≢ pass) × (get_elem? views q ≡ some u)).
            let old = h.passes q u x.1 in
            record {
              makes = λ m. let r = old.makes m in (r.0, (λ p le. let f = r.1 p le in (f.0, o.others p (λ (e' : p ≡ s.me). none_some (pass, 0) (sym f.0 ∙ (ap h.seat e' ∙ mine))) ∙ f.1)), r.2);
              names = old.names;
              seats = λ place u' e'.
                  let f = old.seats place u' e' in
                  let ne = apart h.seat pass q place s.me u'.me mine f.here x.0 in
                  record {
                    here = f.here;
                    process = o.others u'.me ne ∙ f.process;
                    pushed = λ bytes d. later bytes (sent_later W.parts more bytes (f.pushed bytes d));
                    popped = λ bytes d. later bytes (sent_later W.parts more bytes (f.popped bytes d));
                  };
            })
            (at_set views pass q w u e);
      },
      record { happenings = o.all; may = o.may; stands = o.here; sent = λ bytes d. later bytes (popped bytes d); planned = planned },
    )

keeps_more : (v : View) (journal : List Act) → v ≡ standing v.setup (seat_of v ∷ []) → ((bytes : List ℕ) → DidIn (seat_of v).journal (A.Pushed bytes) → DidIn journal (A.Pushed bytes)) → Keeps v (standing_as v journal)
keeps_more v journal is more place s bytes at has =
    let z = one_seat (seat_of v) s place (subst (λ (u : View). slice_get u.seats place ≡ Some s) is at) in
    (0, seen_as (seat_of v).me journal, refl, more bytes (subst (λ (u : Seen). DidIn u.journal (A.Pushed bytes)) (sym z.1) has))

-- a part that is pushed was sent
pub pushed_sent : (items : List (List ℕ)) (views : List View) (h : SoundQueue items views) (bytes : List ℕ) → IsPushed views bytes → IsSent (world_of h.setup h.happenings).parts bytes
pushed_sent items views h bytes is = ((h.passes is.pass is.view is.here).seats is.place is.seen is.there).pushed bytes is.pushed

-- what neither pushes nor popped changes
same_pushed : (x y : List ℕ) → A.Pushed x ≡ A.Pushed y → x ≡ y
same_pushed x y e = cc

same_popped : (x y : List ℕ) → A.Popped x ≡ A.Popped y → x ≡ y
same_popped x y e = cc

pushed_no_pop : (x y : List ℕ) → A.Pushed x ≡ A.Popped y → ⊥
pushed_no_pop x y e = cc

popped_no_push : (x y : List ℕ) → A.Popped x ≡ A.Pushed y → ⊥
popped_no_push x y e = cc

pub push_same : (setup : Setup) (p : ℕ) (journal : List Act) (bytes : List ℕ) → process_at setup p (journal ++ A.Pushed bytes ∷ []) ≡ process_at setup p journal
push_same setup p journal bytes = after-append setup.operations journal (A.Pushed bytes ∷ []) (at_start setup p)

pub pop_same : (setup : Setup) (p : ℕ) (journal : List Act) (bytes : List ℕ) → process_at setup p (journal ++ A.Popped bytes ∷ []) ≡ process_at setup p journal
pop_same setup p journal bytes = after-append setup.operations journal (A.Popped bytes ∷ []) (at_start setup p)

-- the journal grows by a step that makes no post
still_planned : (setup : Setup) (p : ℕ) (journal new : List Act) → process_at setup p new ≡ process_at setup p journal → IsPlanned setup p journal → IsPlanned setup p new
still_planned setup p journal new same plan is = subst (λ (x : ProcessView). IsPrefix (x.made) (planned_posts setup p)) (sym same) (plan is)

-- a frame that may be pushed spells a part, sent by now or before
record Pushable (setup : Setup) (hs : List Happening) (p : ℕ) (journal : List Act) (bytes : List ℕ) : Type 0 where
  more : List Look
  goes : Onward setup hs p (process_at setup p journal) ((world_of setup hs).parts ++ more)
  sent : IsSent ((world_of setup hs).parts ++ more) bytes

pushable : (setup : Setup) (hs : List Happening) (p : ℕ) (published journal : List Act) (bytes : List ℕ) → IsAhead setup p published journal
    → ((b : List ℕ) → DidIn published (A.Popped b) → IsSent (world_of setup hs).parts b)
    → Onward setup hs p (process_at setup p journal) (world_of setup hs).parts
    → MayPush setup p journal bytes → Pushable setup hs p journal bytes
pushable setup hs p published journal bytes ahead popped o may =
    let parts : List Look = (world_of setup hs).parts in
    let v : ProcessView = process_at setup p journal in
    ⊎_elim
    (λ (m : MaySendFrame setup p journal bytes). record {
      more = look_of m.view ∷ [];
      goes = onward_sends setup hs p v parts (look_of m.view) m.seen o;
      sent = record { view = m.view; spells = m.spells; place = length parts; sent = slice_get-push parts (look_of m.view) };
    })
    (λ (d : DidIn journal (A.Popped bytes)). record {
      more = [];
      goes = subst (λ ps. Onward setup hs p v ps) (sym (append-nil parts)) o;
      sent = sent_later parts [] bytes (popped bytes (popped_before published journal bytes ahead d));
    })
    may

pub pushes : (n pass : ℕ) (v : View) (journal : List Act) (bytes : List ℕ) → v ≡ standing v.setup (seat_of v ∷ []) → IsAhead v.setup (seat_of v).me (seat_of v).journal journal
    → IsPlanned v.setup (seat_of v).me journal → MayPush v.setup (seat_of v).me journal bytes
    → Pushes SoundQueue n pass v bytes (λ w. (w ≡ after_push journal bytes v) × Stood v.setup (seat_of v).me (seat_of w).journal)
pushes n pass v journal bytes is ahead plan may items views room h at =
    let s : Seen = seat_of v in
    let W : WorldView = world_of h.setup h.happenings in
    let before = h.passes pass v at in
    let mine = before.seats 0 s (my_seat v is) in
    let setup : v.setup ≡ h.setup = (before.names (ap (λ (u : View). u.named) is)).1 in
    let new : List Act = journal ++ A.Pushed bytes ∷ [] in
    let w : View = after_push journal bytes v in
    let same = push_same h.setup s.me journal bytes in
    let plan' : IsPlanned h.setup s.me journal = subst (λ (u : Setup). IsPlanned u s.me journal) setup plan in
    let may' : MayPush h.setup s.me journal bytes = subst (λ (u : Setup). MayPush u s.me journal bytes) setup may in
    let ahead' : IsAhead h.setup s.me s.journal journal = subst (λ (u : Setup). IsAhead u s.me s.journal journal) setup ahead in
    let o = onward h.setup h.happenings s.me s.journal journal h.may mine.process ahead' mine.popped in
    let x : Pushable h.setup h.happenings s.me journal bytes = pushable h.setup h.happenings s.me s.journal journal bytes ahead' mine.popped o may' in
    let goes : Onward h.setup h.happenings s.me (process_at h.setup s.me new) (W.parts ++ x.more) = subst (λ (y : ProcessView). Onward h.setup h.happenings s.me y (W.parts ++ x.more)) (sym same) x.goes in
    let keeps : Keeps v w = keeps_more v new is (λ b d. did_before journal (A.Pushed bytes ∷ []) (A.Pushed b) (did_ahead s.journal journal (A.Pushed b) ahead d)) in
    let all = moved items (items ++ bytes ∷ []) views pass v new x.more h at is goes
    (λ b d. ⊎_elim (λ (old : DidIn journal (A.Pushed b)). sent_later W.parts x.more b (mine.pushed b (pushed_before s.journal journal b ahead old)))
    (λ (last : A.Pushed bytes ≡ A.Pushed b). subst (IsSent (W.parts ++ x.more)) (same_pushed bytes b last) x.sent) (did_now journal (A.Pushed b) (A.Pushed bytes) d))
    (λ b d. ⊎_elim (λ (old : DidIn journal (A.Popped b)). sent_later W.parts x.more b (mine.popped b (popped_before s.journal journal b ahead old)))
    (λ (last : A.Pushed bytes ≡ A.Popped b). absurd (pushed_no_pop bytes b last)) (did_now journal (A.Popped b) (A.Pushed bytes) d))
    (still_planned h.setup s.me journal new same plan')
    (λ k b e. ⊎_elim (λ (old : slice_get items k ≡ Some b). pushed_set views pass v w b at keeps (h.frames k b old))
    (λ (last : (j : ℕ) × (slice_get (bytes ∷ []) j ≡ Some b)). record { pass = pass; view = w; here = at_here views pass v w at; place = 0; seen = seen_as s.me new; there = refl; pushed = subst (λ y. DidIn new (A.Pushed y)) (one_of bytes b last.0 last.1) (did_last journal (A.Pushed bytes)) })
    (slice_get-append_cases items (bytes ∷ []) k b e))
    (let none = ahead_moves_none v.setup s.me s.journal journal ahead in
    let a = none.0 in
    let b = none.1 in
    let c : pushes_in new ≡ pushes_in journal + 1 = total_append pushes_by journal (A.Pushed bytes ∷ []) in
    let d : pops_in new ≡ pops_in journal + 0 = total_append pops_by journal (A.Pushed bytes ∷ []) in
    let e : length (items ++ bytes ∷ []) ≡ length items + 1 = length-append items (bytes ∷ []) in
    omega (arith, a, b, c, d, e)) in
    (w, all.0, (refl, subst (λ (u : Setup). Stood u s.me new) (sym setup) all.1))

pub pops : (pass : ℕ) (v : View) (journal : List Act) → v ≡ standing v.setup (seat_of v ∷ []) → IsAhead v.setup (seat_of v).me (seat_of v).journal journal
    → IsPlanned v.setup (seat_of v).me journal
    → Pops SoundQueue pass v (λ x w. (w ≡ after_pop journal x v) × Stood v.setup (seat_of v).me (seat_of w).journal × ((parts : PartsView) × IsSpelled x parts))
pops pass v journal is ahead plan bytes items views h at =
    let s : Seen = seat_of v in
    let W : WorldView = world_of h.setup h.happenings in
    let before = h.passes pass v at in
    let mine = before.seats 0 s (my_seat v is) in
    let setup : v.setup ≡ h.setup = (before.names (ap (λ (u : View). u.named) is)).1 in
    let new : List Act = journal ++ A.Popped bytes ∷ [] in
    let w : View = after_pop journal bytes v in
    let same = pop_same h.setup s.me journal bytes in
    let plan' : IsPlanned h.setup s.me journal = subst (λ (u : Setup). IsPlanned u s.me journal) setup plan in
    let was : IsSent W.parts bytes = pushed_sent (bytes ∷ items) views h bytes (h.frames 0 bytes refl) in
    let ahead' : IsAhead h.setup s.me s.journal journal = subst (λ (u : Setup). IsAhead u s.me s.journal journal) setup ahead in
    let o = onward h.setup h.happenings s.me s.journal journal h.may mine.process ahead' mine.popped in
    let goes : Onward h.setup h.happenings s.me (process_at h.setup s.me new) (W.parts ++ []) =
    subst (λ (y : ProcessView × List Look). Onward h.setup h.happenings s.me y.0 y.1) (λ i. (sym same i, sym (append-nil W.parts) i)) o in
    let keeps : Keeps v w = keeps_more v new is (λ b d. did_before journal (A.Popped bytes ∷ []) (A.Pushed b) (did_ahead s.journal journal (A.Pushed b) ahead d)) in
    let all = moved (bytes ∷ items) items views pass v new [] h at is goes
    (λ b d. ⊎_elim (λ (old : DidIn journal (A.Pushed b)). sent_later W.parts [] b (mine.pushed b (pushed_before s.journal journal b ahead old)))
    (λ (last : A.Popped bytes ≡ A.Pushed b). absurd (popped_no_push bytes b last)) (did_now journal (A.Pushed b) (A.Popped bytes) d))
    (λ b d. ⊎_elim (λ (old : DidIn journal (A.Popped b)). sent_later W.parts [] b (mine.popped b (popped_before s.journal journal b ahead old)))
    (λ (last : A.Popped bytes ≡ A.Popped b). subst (IsSent (W.parts ++ [])) (same_popped bytes b last) (sent_later W.parts [] bytes was)) (did_now journal (A.Popped b) (A.Popped bytes) d))
    (still_planned h.setup s.me journal new same plan')
    (λ k b e. pushed_set views pass v w b at keeps (h.frames (suc k) b e))
    (let none = ahead_moves_none v.setup s.me s.journal journal ahead in
    let a = none.0 in
    let b = none.1 in
    let c : pushes_in new ≡ pushes_in journal + 0 = total_append pushes_by journal (A.Popped bytes ∷ []) in
    let d : pops_in new ≡ pops_in journal + 1 = total_append pops_by journal (A.Popped bytes ∷ []) in
    let e : length (bytes ∷ items) ≡ length items + 1 = omega arith in
    omega (arith, a, b, c, d, e)) in
    (w, all.0, (refl, subst (λ (u : Setup). Stood u s.me new) (sym setup) all.1, (was.view, was.spells)))
