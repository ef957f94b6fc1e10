-- Making the queue, and handing out the passes.
use Rattle.std.proofs.Common.{◌≡◌, ◌≢◌, ◌⊎◌, ℕ, zero, suc, ◌+◌, ◌≤◌, List, [], ◌∷◌, ◌++◌, length, set, Some, None, Option, true, false, true≢false, slice_get, eqb, cond, eq-eqb, ne_eqb, refl, sym, ap, ◌∙◌, subst, ⊎_elim, inl, inr, arith, length-append}
use mathlib.Core.Option.{some, some-injective, some-ne-none}
use mathlib.Core.List.{IsPrefix}
use lib.ListN.{get_elem?}
use Rattle.atomic_table.specs.Seated.{TableId}
use Rattle.crossbeam_queue.specs.Fifo.{Forks}
use Rattle.crossbeam_queue.proofs.Lists.{at_set, at_longer}
use Rattle.mpx_world.specs.Worlds.{WorldView}
use Rattle.mpx_world.proofs.Lists.{slice_get-push, slice_get-push_cases}
use Rattle.mpx_bus.specs.declared.act.Act.{Act}
use Rattle.mpx_bus.specs.declared.act.Act.TheVariants as A
use Rattle.mpx_bus.specs.declared.act.Setup.{Setup}
use Rattle.mpx_bus.specs.declared.act.Seen.{Seen}
use Rattle.mpx_bus.specs.declared.act.View.{View}
use Rattle.mpx_bus.specs.Acts.{DidIn, at_start}
use Rattle.mpx_bus.specs.Views.{no_setup, maker, maker_of, nobody, opened, seen_as}
use Rattle.mpx_bus.specs.Rule.{Seating, IsPushed, planned_posts, world_of, FitsSeat, FitsView, SoundQueue}
use Rattle.mpx_bus.specs.Ports.{PortView, IsNew, IsFleet}
use Rattle.mpx_bus.proofs.Counted.{counted_forked}
use Rattle.mpx_bus.proofs.Moves.{one_seat, Keeps, pushed_set, none_some}
use Rattle.mpx_post.proofs.Lists.{slice_get-append}

-- who stands where, with one more
abbrev pub seated : Seating → ℕ → Option (ℕ × ℕ) → Seating
seated seat p at q = cond (eqb q p) at (seat q)

pub seated_here : (seat : Seating) (p : ℕ) (at : Option (ℕ × ℕ)) → seated seat p at p ≡ at
seated_here seat p at = ap (λ b. cond b at (seat p)) (eq-eqb p p refl)

pub seated_else : (seat : Seating) (p : ℕ) (at : Option (ℕ × ℕ)) (q : ℕ) → q ≢ p → seated seat p at q ≡ seat q
seated_else seat p at q ne = ap (λ b. cond b at (seat q)) (ne_eqb q p ne)

pub nothing_there : {A : Type 0} (k : ℕ) (a : A) → slice_get [] k ≡ Some a → ⊥
nothing_there k a e = cc

no_act : (a : Act) → DidIn [] a → ⊥
no_act a d = nothing_there d.at a d.did

pub at_push_cases : {A : Type 0} (l : List A) (a b : A) (j : ℕ) → get_elem? (l ++ a ∷ []) j ≡ some b → (get_elem? l j ≡ some b) ⊎ ((j ≡ length l) × (a ≡ b))
at_push_cases [] a b zero e = inr (refl, some-injective a b e)
at_push_cases [] a b (suc j) e = absurd (some-ne-none b (sym e))
at_push_cases (x ∷ xs) a b zero e = inl e
at_push_cases (x ∷ xs) a b (suc j) e = ⊎_elim (λ h. inl h) (λ (h : (j ≡ length xs) × (a ≡ b)). inr (ap suc h.0, h.1)) (at_push_cases xs a b j e)

one_view : {A : Type 0} (a b : A) (k : ℕ) → get_elem? (a ∷ []) k ≡ some b → (k ≡ 0) × (a ≡ b)
one_view a b zero e = (refl, some-injective a b e)
one_view a b (suc k) e = absurd (some-ne-none b (sym e))

nothing_begins : {A : Type 0} (xs : List A) → IsPrefix [] xs
nothing_begins xs = (xs, refl)

pub begins : SoundQueue [] (maker ∷ [])
begins =
    let seat : Seating = λ p. None in
    let W : WorldView = world_of no_setup [] in
    record {
      happenings = [];
      seat = seat;
      named = false;
      setup = no_setup;
      maker = 0;
      may = tt;
      planned = λ planned p. absurd (true≢false (sym planned));
      frames = λ k bytes e. absurd (nothing_there k bytes e);
      counted = refl;
      passes = λ pass v e. let o = one_view maker v pass e in subst (λ (y : ℕ × View). FitsView W seat false no_setup 0 y.0 y.1) (λ i. (sym o.0 i, o.1 i))
          (record { makes = λ _. (refl, (λ p le. (refl, refl)), refl); names = λ n. absurd (true≢false (sym n)); seats = λ place s e'. absurd (nothing_there place s e') });
    }

keeps_none : (v w : View) → v.seats ≡ [] → Keeps v w
keeps_none v w none place s bytes at has = absurd (nothing_there place s (subst (λ xs. slice_get xs place ≡ Some s) none at))

pushed_longer : (views : List View) (w : View) (bytes : List ℕ) → IsPushed views bytes → IsPushed (views ++ w ∷ []) bytes
pushed_longer views w bytes is = record { pass = is.pass; view = is.view; here = at_longer views (w ∷ []) is.pass is.view is.here; place = is.place; seen = is.seen; there = is.there; pushed = is.pushed }

pushed_fork : (views : List View) (pass : ℕ) (v w new : View) (bytes : List ℕ) → get_elem? views pass ≡ some v → v.seats ≡ [] → IsPushed views bytes → IsPushed (set views pass w ++ new ∷ []) bytes
pushed_fork views pass v w new bytes at none is = pushed_longer (set views pass w) new bytes (pushed_set views pass v w bytes at (keeps_none v w none) is)

pub names : (pass : ℕ) (v : View) (setup : Setup) → v ≡ maker → Forks SoundQueue pass v (maker_of setup 0) nobody
names pass v setup is items views h at =
    let mine = h.passes pass v at in
    let makes = mine.makes (ap (λ (u : View). u.makes) is) in
    let unnamed : h.named ≡ false = sym makes.2 ∙ ap (λ (u : View). u.named) is in
    let none : v.seats ≡ [] = ap (λ (u : View). u.seats) is in
    let low : v.made ≡ 0 = ap (λ (u : View). u.made) is in
    let w : View = maker_of setup 0 in
    let W : WorldView = world_of setup [] in
    let free : (p : ℕ) → h.seat p ≡ None = λ p. (makes.1 p (omega (arith, low))).0 in
    let Fit : ℕ → View → Type 0 = FitsView W h.seat true setup h.maker in
    let unpushed : (bytes : List ℕ) → IsPushed views bytes → ⊥ = λ bytes x.
    none_some {A = ℕ × ℕ} (x.pass, x.place) (sym (free x.seen.me) ∙ ((h.passes x.pass x.view x.here).seats x.place x.seen x.there).here) in
    record {
      happenings = [];
      seat = h.seat;
      named = true;
      setup = setup;
      maker = h.maker;
      may = tt;
      planned = λ planned p. nothing_begins (planned_posts setup p);
      frames = λ k bytes e. absurd (unpushed bytes (h.frames k bytes e));
      counted = counted_forked items views pass v w nobody at none refl refl refl h.counted;
      passes = λ q u e. ⊎_elim
          (λ (old : get_elem? (set views pass w) q ≡ some u). ⊎_elim
          (λ (x : (q ≡ pass) × (w ≡ u)). subst (λ (y : ℕ × View). Fit y.0 y.1) (λ i. (sym x.0 i, x.1 i))
          (record { makes = λ _. (makes.0, (λ p le. (free p, refl)), refl); names = λ _. (refl, refl); seats = λ place s e'. absurd (nothing_there place s e') }))
          (λ (x : (q ≢ pass) × (get_elem? views q ≡ some u)).
          let f = h.passes q u x.1 in
          record {
            makes = λ m. absurd (x.0 ((f.makes m).0 ∙ sym makes.0));
            names = λ n. absurd (true≢false (sym (f.names n).0 ∙ unnamed));
            seats = λ place s e'. absurd (none_some {A = ℕ × ℕ} (q, place) (sym (free s.me) ∙ (f.seats place s e').here));
          })
          (at_set views pass q w u old))
          (λ (new : (q ≡ length (set views pass w)) × (nobody ≡ u)). subst (λ (y : ℕ × View). Fit y.0 y.1) (λ i. (sym new.0 i, new.1 i))
          (record { makes = λ m. absurd (true≢false (sym m)); names = λ n. absurd (true≢false (sym n)); seats = λ place s e'. absurd (nothing_there place s e') }))
          (at_push_cases (set views pass w) nobody u q e);
    }

pub seats : (pass : ℕ) (v : View) (setup : Setup) (made : ℕ) → v ≡ maker_of setup made → Forks SoundQueue pass v (maker_of setup (made + 1)) (opened setup made)
seats pass v setup made is items views h at =
    let mine = h.passes pass v at in
    let makes = mine.makes (ap (λ (u : View). u.makes) is) in
    let named = mine.names (ap (λ (u : View). u.named) is) in
    let none : v.seats ≡ [] = ap (λ (u : View). u.seats) is in
    let count : v.made ≡ made = ap (λ (u : View). u.made) is in
    let same : setup ≡ h.setup = sym (ap (λ (u : View). u.setup) is) ∙ named.1 in
    let w : View = maker_of setup (made + 1) in
    let new : View = opened setup made in
    let s : Seen = seen_as made [] in
    let W : WorldView = world_of h.setup h.happenings in
    let place' : ℕ = length (set views pass w) in
    let seat : Seating = seated h.seat made (Some (place', 0)) in
    let free : (p : ℕ) → made ≤ p → (h.seat p ≡ None) × (W.each p ≡ at_start h.setup p) = λ p le. makes.1 p (omega (arith, count)) in
    let Fit : ℕ → View → Type 0 = FitsView W seat h.named h.setup h.maker in
    record {
      happenings = h.happenings;
      seat = seat;
      named = h.named;
      setup = h.setup;
      maker = h.maker;
      may = h.may;
      planned = h.planned;
      frames = λ k bytes e. pushed_fork views pass v w new bytes at none (h.frames k bytes e);
      counted = counted_forked items views pass v w new at none refl refl refl h.counted;
      passes = λ q u e. ⊎_elim
          (λ (old : get_elem? (set views pass w) q ≡ some u). ⊎_elim
          (λ (x : (q ≡ pass) × (w ≡ u)). subst (λ (y : ℕ × View). Fit y.0 y.1) (λ i. (sym x.0 i, x.1 i))
          (record {
            makes = λ _. (makes.0, (λ p le. let f = free p (omega arith) in (seated_else h.seat made (Some (place', 0)) p (λ e'. omega arith) ∙ f.0, f.1)), sym named.0);
            names = λ _. (named.0, same);
            seats = λ place u' e'. absurd (nothing_there place u' e');
          }))
          (λ (x : (q ≢ pass) × (get_elem? views q ≡ some u)).
          let f = h.passes q u x.1 in
          record {
            makes = λ m. absurd (x.0 ((f.makes m).0 ∙ sym makes.0));
            names = f.names;
            seats = λ place u' e'.
                let g = f.seats place u' e' in
                let ne : u'.me ≢ made = λ e2. none_some (q, place) (sym (free made (omega arith)).0 ∙ (sym (ap h.seat e2) ∙ g.here)) in
                record { here = seated_else h.seat made (Some (place', 0)) u'.me ne ∙ g.here; process = g.process; pushed = g.pushed; popped = g.popped };
          })
          (at_set views pass q w u old))
          (λ (x : (q ≡ place') × (new ≡ u)). subst (λ (y : ℕ × View). Fit y.0 y.1) (λ i. (sym x.0 i, x.1 i))
          (record {
            makes = λ m. absurd (true≢false (sym m));
            names = λ _. (named.0, same);
            seats = λ place u' e'. let o = one_seat s u' place e' in subst (λ (y : ℕ × Seen). FitsSeat W seat h.setup place' y.0 y.1) (λ i. (sym o.0 i, o.1 i))
                (record {
                  here = seated_here h.seat made (Some (place', 0));
                  process = (free made (omega arith)).1;
                  pushed = λ bytes d. absurd (no_act (A.Pushed bytes) d);
                  popped = λ bytes d. absurd (no_act (A.Popped bytes) d);
                });
          }))
          (at_push_cases (set views pass w) new u q e);
    }

-- the same at a view that is known
pub seats_as : (pass : ℕ) (v : View) (setup : Setup) (made : ℕ) → v ≡ maker_of setup made → Forks SoundQueue pass v (maker_of v.setup (v.made + 1)) (opened v.setup v.made)
seats_as pass v setup made is = subst (λ (u : View). Forks SoundQueue pass u (maker_of u.setup (u.made + 1)) (opened u.setup u.made)) (sym is) (seats pass (maker_of setup made) setup made refl)

pub fleet_more : (setup : Setup) (table : TableId) (me : ℕ) (ports : List PortView) (b : PortView) → IsFleet setup table me ports → IsNew setup table me b → IsFleet setup table (me + 1) (ports ++ b ∷ [])
fleet_more setup table me ports b fleet new =
    record {
      count = omega (arith, length-append ports (b ∷ []), fleet.count);
      each = λ k x e. slice_get-push_cases (λ (y : PortView) (j : ℕ). IsNew setup table j y) ports b k x e (λ old. fleet.each k x old)
          (λ same last. subst (λ (y : ℕ × PortView). IsNew setup table y.0 y.1) (λ i. (sym (last ∙ fleet.count) i, same i)) new);
    }

-- the last port of a fleet, and the one before it
pub fleet_last : (setup : Setup) (table : TableId) (n : ℕ) (ports rest : List PortView) (b : PortView) → IsFleet setup table n ports → ports ≡ rest ++ b ∷ [] → IsNew setup table (length rest) b
fleet_last setup table n ports rest b fleet is = fleet.each (length rest) b (ap (λ xs. slice_get xs (length rest)) is ∙ slice_get-push rest b)

pub fleet_before : (setup : Setup) (table : TableId) (n : ℕ) (ports rest front : List PortView) (b a : PortView) → IsFleet setup table n ports → ports ≡ rest ++ b ∷ [] → rest ≡ front ++ a ∷ [] → IsNew setup table (length front) a
fleet_before setup table n ports rest front b a fleet is is' =
    fleet.each (length front) a (ap (λ xs. slice_get xs (length front)) is ∙ slice_get-append rest (b ∷ []) (length front) a (ap (λ xs. slice_get xs (length front)) is' ∙ slice_get-push front a))
