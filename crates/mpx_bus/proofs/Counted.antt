-- What was pushed was popped or is in the queue still, by their number.
use Rattle.std.proofs.Common.{◌≡◌, ℕ, zero, suc, ◌+◌, List, [], ◌∷◌, ◌++◌, length, set, refl, sym, ap, ◌∙◌, subst, arith}
use mathlib.Core.Option.{some, some-injective, some-ne-none}
use lib.ListN.{get_elem?}
use Rattle.crossbeam_queue.specs.Fifo.{Learns}
use Rattle.mpx_num.specs.declared.own.Operation.{Operation}
use Rattle.mpx_world.specs.Worlds.{ProcessView}
use Rattle.mpx_bus.specs.declared.act.Act.{Act}
use Rattle.mpx_bus.specs.declared.act.Act.TheVariants as A
use Rattle.mpx_bus.specs.declared.act.Setup.{Setup}
use Rattle.mpx_bus.specs.declared.act.Seen.{Seen}
use Rattle.mpx_bus.specs.declared.act.View.{View}
use Rattle.mpx_bus.specs.Acts.{act_on, IsAhead, IsLocal, AreLocal}
use Rattle.mpx_bus.specs.Counted.{pushes_by, pops_by, pushes_in, pops_in, pushed_by, popped_by, all_pushed, all_popped, total}
use Rattle.mpx_bus.specs.Views.{met, nobody, seat_of, seen_as, standing, standing_as}
use Rattle.mpx_bus.specs.Rule.{IsHeldAt, SoundQueue}

-- what a refused push, and an empty pop, learn of the queue
pub held_at : (pass : ℕ) (v : View) → Learns SoundQueue pass v (IsHeldAt v)
held_at pass v items views h at = record { views = views; sound = h; pass = pass; here = at }

-- SUMS

module _ {A : Type 0} (f : A → ℕ) where
  pub total_append : (xs ys : List A) → total f (xs ++ ys) ≡ total f xs + total f ys
  total_append [] ys = omega arith
  total_append (x ∷ xs) ys = let r = total_append xs ys in omega (arith, r)

  pub total_set : (xs : List A) (i : ℕ) (v w : A) → get_elem? xs i ≡ some v → total f (set xs i w) + f v ≡ total f xs + f w
  total_set [] i v w e = absurd (some-ne-none v (sym e))
  total_set (x ∷ xs) zero v w e = let same : f x ≡ f v = ap f (some-injective x v e) in omega (arith, same)
  total_set (x ∷ xs) (suc i) v w e = let r = total_set xs i v w e in omega (arith, r)

-- JOURNALS

-- what a port does between two steps on the queue pushes nothing and pops nothing
local_moves_none : (published : List Act) (v : ProcessView) (a : Act) → IsLocal published v a → (pushes_by a ≡ 0) × (pops_by a ≡ 0)
local_moves_none published v (A.Posted name draft) h = (refl, refl)
local_moves_none published v (A.Harvested name) h = (refl, refl)
local_moves_none published v (A.Gathered parent tag ranks) h = (refl, refl)
local_moves_none published v (A.Pruned name n) h = (refl, refl)
local_moves_none published v (A.Forgot name below) h = (refl, refl)
local_moves_none published v (A.Took bytes) h = (refl, refl)
local_moves_none published v (A.StoppedTaking bytes left) h = (refl, refl)
local_moves_none published v (A.Acknowledged board) h = (refl, refl)
local_moves_none published v (A.Pushed bytes) h = absurd h
local_moves_none published v (A.Popped bytes) h = absurd h

locals_move_none : (ops : List Operation) (published : List Act) (v : ProcessView) (acts : List Act) → AreLocal ops published v acts → (pushes_in acts ≡ 0) × (pops_in acts ≡ 0)
locals_move_none ops published v [] h = (refl, refl)
locals_move_none ops published v (a ∷ acts) h =
    let one = local_moves_none published v a h.0 in
    let more = locals_move_none ops published (act_on ops a v) acts h.1 in
    let pushes = one.0 in
    let pops = one.1 in
    let pushes' = more.0 in
    let pops' = more.1 in (omega (arith, pushes, pushes'), omega (arith, pops, pops'))

-- so a journal that goes on by local events has pushed and popped what the published one has
pub ahead_moves_none : (setup : Setup) (p : ℕ) (published journal : List Act) → IsAhead setup p published journal → (pushes_in journal ≡ pushes_in published) × (pops_in journal ≡ pops_in published)
ahead_moves_none setup p published journal h =
    let none = locals_move_none setup.operations published _ h.locals h.local in
    let pushes = none.0 in
    let pops = none.1 in
    let pushes' : pushes_in journal ≡ pushes_in published + pushes_in h.locals = ap pushes_in h.whole ∙ total_append pushes_by published h.locals in
    let pops' : pops_in journal ≡ pops_in published + pops_in h.locals = ap pops_in h.whole ∙ total_append pops_by published h.locals in
    (omega (arith, pushes, pushes'), omega (arith, pops, pops'))

-- PASSES

-- of the pass of one process
seat_counts : (v : View) → v ≡ standing v.setup (seat_of v ∷ []) → (pushed_by v ≡ pushes_in (seat_of v).journal) × (popped_by v ≡ pops_in (seat_of v).journal)
seat_counts v is =
    let pushed : pushed_by v ≡ pushes_in (seat_of v).journal + 0 = ap pushed_by is in
    let popped : popped_by v ≡ pops_in (seat_of v).journal + 0 = ap popped_by is in
    (omega (arith, pushed), omega (arith, popped))

-- one pass moves on, to a journal
pub counted_moved : (items new : List (List ℕ)) (views : List View) (pass : ℕ) (v : View) (journal : List Act) → get_elem? views pass ≡ some v → v ≡ standing v.setup (seat_of v ∷ [])
    → pushes_in journal + pops_in (seat_of v).journal + length items ≡ pops_in journal + pushes_in (seat_of v).journal + length new
    → all_pushed views ≡ all_popped views + length items → all_pushed (set views pass (standing_as v journal)) ≡ all_popped (set views pass (standing_as v journal)) + length new
counted_moved items new views pass v journal at is moves counted =
    let w : View = standing_as v journal in
    let pushed = total_set pushed_by views pass v w at in
    let popped = total_set popped_by views pass v w at in
    let was = seat_counts v is in
    let pushed' = was.0 in
    let popped' = was.1 in
    let now : pushed_by w ≡ pushes_in journal = (seat_counts w refl).0 in
    let now' : popped_by w ≡ pops_in journal = (seat_counts w refl).1 in
    omega (arith, pushed, popped, pushed', popped', now, now', moves, counted)

-- a pass that stands for nobody makes another one, which has done nothing
pub counted_forked : (items : List (List ℕ)) (views : List View) (pass : ℕ) (v w new : View) → get_elem? views pass ≡ some v → v.seats ≡ [] → w.seats ≡ []
    → pushed_by new ≡ 0 → popped_by new ≡ 0
    → all_pushed views ≡ all_popped views + length items → all_pushed (set views pass w ++ new ∷ []) ≡ all_popped (set views pass w ++ new ∷ []) + length items
counted_forked items views pass v w new at none none' pushed popped counted =
    let a = total_set pushed_by views pass v w at in
    let b = total_set popped_by views pass v w at in
    let c : pushed_by v ≡ 0 = ap (total (λ (s : Seen). pushes_in s.journal)) none in
    let d : popped_by v ≡ 0 = ap (total (λ (s : Seen). pops_in s.journal)) none in
    let c' : pushed_by w ≡ 0 = ap (total (λ (s : Seen). pushes_in s.journal)) none' in
    let d' : popped_by w ≡ 0 = ap (total (λ (s : Seen). pops_in s.journal)) none' in
    let more : all_pushed (set views pass w ++ new ∷ []) ≡ all_pushed (set views pass w) + (pushed_by new + 0) = total_append pushed_by (set views pass w) (new ∷ []) in
    let more' : all_popped (set views pass w ++ new ∷ []) ≡ all_popped (set views pass w) + (popped_by new + 0) = total_append popped_by (set views pass w) (new ∷ []) in
    omega (arith, a, b, c, d, c', d', more, more', pushed, popped, counted)

-- one pass takes in another
pub counted_merged : (items : List (List ℕ)) (views : List View) (pass other : ℕ) (v u : View) → get_elem? views pass ≡ some v → get_elem? (set views pass (met v u)) other ≡ some u
    → all_pushed views ≡ all_popped views + length items
    → all_pushed (set (set views pass (met v u)) other nobody) ≡ all_popped (set (set views pass (met v u)) other nobody) + length items
counted_merged items views pass other v u at at' counted =
    let both : View = met v u in
    let a = total_set pushed_by views pass v both at in
    let b = total_set popped_by views pass v both at in
    let c = total_set pushed_by (set views pass both) other u nobody at' in
    let d = total_set popped_by (set views pass both) other u nobody at' in
    let e : pushed_by both ≡ pushed_by v + pushed_by u = total_append (λ (s : Seen). pushes_in s.journal) v.seats u.seats in
    let f : popped_by both ≡ popped_by v + popped_by u = total_append (λ (s : Seen). pops_in s.journal) v.seats u.seats in
    let none : pushed_by nobody ≡ 0 = refl in
    let none' : popped_by nobody ≡ 0 = refl in
    omega (arith, a, b, c, d, e, f, none, none', counted)
