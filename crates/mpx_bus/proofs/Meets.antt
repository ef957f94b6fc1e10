-- Two ports that meet.
use Rattle.std.proofs.Common.{◌≡◌, ◌≢◌, ℕ, zero, suc, List, [], ◌∷◌, ◌++◌, length, set, Some, true, true≢false, slice_get, sym, ap, ◌∙◌, subst, ⊎_elim, arith}
use Rattle.std.proofs.lemmas.Bool.{cases_eq}
use mathlib.Core.Option.{some, some-injective}
use lib.ListN.{get_elem?}
use Rattle.crossbeam_queue.specs.Fifo.{Merges, Learns}
use Rattle.crossbeam_queue.proofs.Lists.{at_set, set_else}
use Rattle.mpx_node.specs.Nodes.{NodeView}
use Rattle.mpx_world.specs.Worlds.{WorldView, MayGoOn}
use Rattle.atomic_table.specs.Seated.{TableId}
use Rattle.mpx_world.proofs.Steps.{sound_of}
use Rattle.mpx_world.proofs.Whole.{well_by}
use Rattle.mpx_bus.specs.declared.act.Act.{Act}
use Rattle.mpx_bus.specs.declared.act.Act.TheVariants as A
use Rattle.mpx_bus.specs.declared.act.Setup.{Setup}
use Rattle.mpx_bus.specs.declared.act.Seen.{Seen}
use Rattle.mpx_bus.specs.declared.act.View.{View}
use Rattle.mpx_bus.specs.Acts.{DidIn, IsAhead, process_at, start_of}
use Rattle.mpx_bus.specs.Views.{standing, seat_of, nobody, met}
use Rattle.mpx_bus.specs.Rule.{Seating, IsSent, IsPushed, world_of, FitsSeat, FitsView, SoundQueue, StandsForOneWorld}
use Rattle.mpx_bus.specs.Ports.{IsPort, port_view, HaveMet}
use Rattle.mpx_bus.proofs.Counted.{counted_merged}
use Rattle.mpx_bus.proofs.Journals.{onward}
use Rattle.mpx_bus.proofs.Moves.{at_here, my_seat, one_seat, none_some, pair_of_some, apart}
use Rattle.mpx_post.proofs.Lists.{slice_get-append}
use Rattle.mpx_world.proofs.Lists.{slice_get-push, slice_get-push_cases}
use Rattle.mpx_bus.proofs.Makes.{seated, seated_here, seated_else, nothing_there}

second_of_some : (x y : ℕ × ℕ) → Some x ≡ Some y → x.1 ≡ y.1
second_of_some x y e = ap (λ (z : ℕ × ℕ). z.1) (pair_of_some x y e)

-- what was pushed before two passes were joined stands pushed after it
pushed_join : (views : List View) (pass other : ℕ) (v u both : View) (bytes : List ℕ) → other ≢ pass → get_elem? views pass ≡ some v → get_elem? views other ≡ some u
    → u ≡ standing u.setup (seat_of u ∷ []) → both.seats ≡ v.seats ++ seat_of u ∷ []
    → IsPushed views bytes → IsPushed (set (set views pass both) other nobody) bytes
pushed_join views pass other v u both bytes ne at at' is' all p =
    let here : get_elem? (set (set views pass both) other nobody) pass ≡ some both = set_else (set views pass both) other pass nobody (λ e. ne (sym e)) ∙ at_here views pass v both at in
    ⊎_elim
    (λ (e : p.pass ≡ pass).
    let same : p.view ≡ v = some-injective p.view v (sym p.here ∙ (ap (λ k. get_elem? views k) e ∙ at)) in
    let there : slice_get v.seats p.place ≡ Some p.seen = subst (λ (y : View). slice_get y.seats p.place ≡ Some p.seen) same p.there in
    record { pass = pass; view = both; here = here; place = p.place; seen = p.seen; there = ap (λ xs. slice_get xs p.place) all ∙ slice_get-append v.seats (seat_of u ∷ []) p.place p.seen there; pushed = p.pushed })
    (λ (n : p.pass ≢ pass). ⊎_elim
    (λ (e : p.pass ≡ other).
    let same : p.view ≡ u = some-injective p.view u (sym p.here ∙ (ap (λ k. get_elem? views k) e ∙ at')) in
    let o = one_seat (seat_of u) p.seen p.place (subst (λ (y : View). slice_get y.seats p.place ≡ Some p.seen) (same ∙ is') p.there) in
    record { pass = pass; view = both; here = here; place = length v.seats; seen = seat_of u; there = ap (λ xs. slice_get xs (length v.seats)) all ∙ slice_get-push v.seats (seat_of u); pushed = subst (λ (y : Seen). DidIn y.journal (A.Pushed bytes)) (sym o.1) p.pushed })
    (λ (n' : p.pass ≢ other). record { pass = p.pass; view = p.view; here = set_else (set views pass both) other p.pass nobody n' ∙ (set_else views pass p.pass both n ∙ p.here); place = p.place; seen = p.seen; there = p.there; pushed = p.pushed })
    (cases_eq p.pass other))
    (cases_eq p.pass pass)

-- a pass that stands for any processes takes in one that stands for one more
pub merges : (pass : ℕ) (v : View) (other : ℕ) (u : View) → v ≡ standing v.setup v.seats → u ≡ standing u.setup (seat_of u ∷ [])
    → Merges SoundQueue pass v other u (met v u) nobody
merges pass v other u is is' items views h at ne there =
    let t : Seen = seat_of u in
    let both : View = met v u in
    let at' : get_elem? views other ≡ some u = ⊎_elim (λ (x : (other ≡ pass) × (both ≡ u)). absurd (ne x.0)) (λ (x : (other ≢ pass) × (get_elem? views other ≡ some u)). x.1) (at_set views pass other both u there) in
    let mine = h.passes pass v at in
    let theirs = h.passes other u at' in
    let ft = theirs.seats 0 t (my_seat u is') in
    let all : both.seats ≡ v.seats ++ t ∷ [] = λ i. v.seats ++ (is' i).seats in
    let last : ℕ = length v.seats in
    let now : List View = set (set views pass both) other nobody in
    let seat : Seating = seated h.seat t.me (Some (pass, last)) in
    let W : WorldView = world_of h.setup h.happenings in
    let Fit : ℕ → View → Type 0 = FitsView W seat h.named h.setup h.maker in
    record {
      happenings = h.happenings;
      seat = seat;
      named = h.named;
      setup = h.setup;
      maker = h.maker;
      may = h.may;
      planned = h.planned;
      frames = λ k bytes e. pushed_join views pass other v u both bytes ne at at' is' all (h.frames k bytes e);
      counted = counted_merged items views pass other v u at there h.counted;
      passes = λ q y e. ⊎_elim
          (λ (x : (q ≡ other) × (nobody ≡ y)). subst (λ (z : ℕ × View). Fit z.0 z.1) (λ i. (sym x.0 i, x.1 i))
          (record { makes = λ m. absurd (true≢false (sym m)); names = λ n. absurd (true≢false (sym n)); seats = λ place y' e'. absurd (nothing_there place y' e') }))
          (λ (x : (q ≢ other) × (get_elem? (set views pass both) q ≡ some y)). ⊎_elim
          (λ (x' : (q ≡ pass) × (both ≡ y)). subst (λ (z : ℕ × View). Fit z.0 z.1) (λ i. (sym x'.0 i, x'.1 i))
          (record {
            makes = λ m. absurd (true≢false (sym m));
            names = λ _. mine.names (ap (λ (z : View). z.named) is);
            seats = λ place y' e'. slice_get-push_cases (λ (s : Seen) (k : ℕ). FitsSeat W seat h.setup pass k s) v.seats t place y' (subst (λ xs. slice_get xs place ≡ Some y') all e')
                (λ (old : slice_get v.seats place ≡ Some y').
                let f = mine.seats place y' old in
                let n : y'.me ≢ t.me = apart h.seat other pass place t.me y'.me ft.here f.here (λ e2. ne (sym e2)) in
                record { here = seated_else h.seat t.me (Some (pass, last)) y'.me n ∙ f.here; process = f.process; pushed = f.pushed; popped = f.popped })
                (λ (same : t ≡ y') (k : place ≡ last). subst (λ (z : ℕ × Seen). FitsSeat W seat h.setup pass z.0 z.1) (λ i. (sym k i, same i))
                (record { here = seated_here h.seat t.me (Some (pass, last)); process = ft.process; pushed = ft.pushed; popped = ft.popped }));
          }))
          (λ (x' : (q ≢ pass) × (get_elem? views q ≡ some y)).
          let f = h.passes q y x'.1 in
          record {
            makes = λ m. let o = f.makes m in (o.0, (λ p le. let r = o.1 p le in (seated_else h.seat t.me (Some (pass, last)) p (λ (e2 : p ≡ t.me). none_some (other, 0) (sym r.0 ∙ (ap h.seat e2 ∙ ft.here))) ∙ r.0, r.1)), o.2);
            names = f.names;
            seats = λ place y' e'.
                let g = f.seats place y' e' in
                let n : y'.me ≢ t.me = apart h.seat other q place t.me y'.me ft.here g.here x.0 in
                record { here = seated_else h.seat t.me (Some (pass, last)) y'.me n ∙ g.here; process = g.process; pushed = g.pushed; popped = g.popped };
          })
          (at_set views pass q both y x.1))
          (at_set (set views pass both) other q nobody y e);
    }

-- a pass that stands for one process stands for its seats
pub one_stands : (v : View) → v ≡ standing v.setup (seat_of v ∷ []) → v ≡ standing v.setup v.seats
one_stands v is = is ∙ ap (standing v.setup) (sym (ap (λ (u : View). u.seats) is))

pub learns : (pass : ℕ) (v : View) → v.named ≡ true → Learns SoundQueue pass v (λ items. StandsForOneWorld v)
learns pass v named items views h at =
    let f = h.passes pass v at in
    let setup : v.setup ≡ h.setup = (f.names named).1 in
    record {
      happenings = h.happenings;
      may = subst (λ (u : Setup). MayGoOn (start_of u) h.happenings) (sym setup) h.may;
      each = λ place s e. subst (λ (u : Setup). (world_of u h.happenings).each s.me ≡ process_at u s.me s.journal) (sym setup) (f.seats place s e).process;
      sent = λ place s e bytes d. subst (λ (u : Setup). IsSent (world_of u h.happenings).parts bytes) (sym setup) ((f.seats place s e).popped bytes d);
      apart = λ i j s t e e' same. second_of_some (pass, i) (pass, j) (sym (f.seats i s e).here ∙ (ap h.seat same ∙ (f.seats j t e').here));
    }

-- the parts of what was learned, and what each port has done since
pub have_met : (a b : NodeView) (v u : View) (j k : List Act) (kept kept' : List (List ℕ)) (table table' : TableId) (pass pass' : ℕ) → u.setup ≡ v.setup
    → IsPort a v j → IsPort b u k → StandsForOneWorld (met v u) → HaveMet (port_view v j kept table pass) (port_view u k kept' table' pass')
have_met a b v u j k kept kept' table table' pass pass' same p p' stands =
    let s : Seen = seat_of v in
    let t : Seen = seat_of u in
    let two : (met v u).seats ≡ s ∷ t ∷ [] = λ i. (p.stands i).seats ++ (p'.stands i).seats in
    let at0 : slice_get (met v u).seats 0 ≡ Some s = ap (λ xs. slice_get xs 0) two in
    let at1 : slice_get (met v u).seats 1 ≡ Some t = ap (λ xs. slice_get xs 1) two in
    let ne : t.me ≢ s.me = λ e. let z : suc zero ≡ zero = stands.apart 1 0 t s at1 at0 e in absurd (omega (arith, z)) in
    let W : WorldView = world_of v.setup stands.happenings in
    let o = onward v.setup stands.happenings s.me s.journal j stands.may (stands.each 0 s at0) p.ahead (stands.sent 0 s at0) in
    let mid : (world_of v.setup o.all).each t.me ≡ process_at v.setup t.me t.journal = o.others t.me ne ∙ stands.each 1 t at1 in
    let q = onward v.setup o.all t.me t.journal k o.may mid (subst (λ (z : Setup). IsAhead z t.me t.journal k) same p'.ahead) (λ bytes d. subst (λ ps. IsSent ps bytes) (sym o.parts_are) (stands.sent 1 t at1 bytes d)) in
    record {
      happenings = q.all;
      may = q.may;
      first = q.others s.me (λ e. ne (sym e)) ∙ o.here;
      second = q.here ∙ ap (λ (z : Setup). process_at z t.me k) (sym same);
      apart = λ e. ne (sym e);
      sound = sound_of (world_of v.setup q.all) (well_by v.setup.operations v.setup.ranks v.setup.size q.all q.may).holds;
    }
