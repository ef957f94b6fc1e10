-- Results that processes let go, and all others, which stay.
use Rattle.std.proofs.Common.{◌≡◌, ℕ, suc, ◌<◌, Bool, true, false, cond, List, [], ◌∷◌, Some, refl, sym, inl, inr}
use Rattle.std.specs.Prelude.{◌⊎◌}
use Rattle.mpx_name.specs.Name.{Name}
use Rattle.mpx_node.specs.declared.finished.Finished.{Finished}
use Rattle.mpx_node.specs.Nodes.{result_on}
use Rattle.mpx_node.proofs.Forgotten.{result_or_forgotten}
use Rattle.mpx_world.specs.declared.events.Event.{Event}
use Rattle.mpx_world.specs.declared.events.Event.TheVariants as E
use Rattle.mpx_world.specs.Worlds.{WorldView, Happening, Posts, Harvests, Gathers, Prunes, Sends, Takes, TakesPartly, Acknowledges, Forgets, goes_on, happens, lets_results_go}
use Rattle.mpx_world.specs.Forgetting.{HasForgotten}
use Rattle.mpx_world.specs.Events.{does, does_all, happening_of, is_refusal, reply}
use Rattle.mpx_world.proofs.Lists.{at_cases, names_same}
use Rattle.mpx_world.proofs.Later.{kept_happens}

abbrev Holds : WorldView → ℕ → Name → ℕ → Finished → Type 0
Holds w p name k r = result_on (w.each p).node name k ≡ Some r

-- a step of letting go leaves a result, or it is of its process and context, and goes past it
lets_or_holds : (w : WorldView) (q : ℕ) (n : Name) (below : ℕ) (p : ℕ) (name : Name) (k : ℕ) (r : Finished) → Holds w p name k r → Holds (happens w (Forgets q n below)) p name k r ⊎ ((p ≡ q) × (name ≡ n) × (k < below))
lets_or_holds w q n below p name k r = at_cases q (lets_results_go n below) w.each
    (λ j v. Holds w j name k r → (result_on v.node name k ≡ Some r) ⊎ ((j ≡ q) × (name ≡ n) × (k < below)))
    (λ e. elim (result_or_forgotten n below (w.each q).node name k r e) [
      | inl there ↦ inl there
      | inr gone ↦ inr (refl, names_same name n gone.0, gone.1)
    ])
    (λ j e. inl e) p

module _ {A : Type 0} (forget : ℕ → Name → ℕ → A) where
  first_forgets : (hs : List A) (p q : ℕ) (name n : Name) (k below : ℕ) → p ≡ q → name ≡ n → k < below → HasForgotten (forget p name) (forget q n below ∷ hs) k
  first_forgets hs p q name n k below same also l = (below, l, 0, λ i. Some (forget (sym same i) (sym also i) below))

later_forgets : {A : Type 0} (forget : ℕ → A) (h : A) (hs : List A) (k : ℕ) → HasForgotten forget hs k → HasForgotten forget (h ∷ hs) k
later_forgets forget h hs k f = (f.0, f.1, suc f.2, f.3)

-- what happens leaves a result, or it lets it go
held_happens : (w : WorldView) (h : Happening) (hs : List Happening) (p : ℕ) (name : Name) (k : ℕ) (r : Finished) → Holds w p name k r → Holds (happens w h) p name k r ⊎ HasForgotten (Forgets p name) (h ∷ hs) k
held_happens w (Posts q n given) hs p name k r e = inl ((kept_happens w (Posts q n given) tt p).results_kept name k r e)
held_happens w (Harvests q n) hs p name k r e = inl ((kept_happens w (Harvests q n) tt p).results_kept name k r e)
held_happens w (Gathers q parent tag ranks) hs p name k r e = inl ((kept_happens w (Gathers q parent tag ranks) tt p).results_kept name k r e)
held_happens w (Prunes q n m) hs p name k r e = inl ((kept_happens w (Prunes q n m) tt p).results_kept name k r e)
held_happens w (Sends q part) hs p name k r e = inl e
held_happens w (Takes q place) hs p name k r e = inl ((kept_happens w (Takes q place) tt p).results_kept name k r e)
held_happens w (TakesPartly q place left) hs p name k r e = inl ((kept_happens w (TakesPartly q place left) tt p).results_kept name k r e)
held_happens w (Acknowledges q numbers) hs p name k r e = inl ((kept_happens w (Acknowledges q numbers) tt p).results_kept name k r e)
held_happens w (Forgets q n below) hs p name k r e = elim (lets_or_holds w q n below p name k r e) [
  | inl there ↦ inl there
  | inr gone ↦ inr (first_forgets Forgets hs p q name n k below gone.0 gone.1 gone.2)
]

pub held_goes_on : (hs : List Happening) (w : WorldView) (p : ℕ) (name : Name) (k : ℕ) (r : Finished) → Holds w p name k r → Holds (goes_on w hs) p name k r ⊎ HasForgotten (Forgets p name) hs k
held_goes_on [] w p name k r e = inl e
held_goes_on (h ∷ hs) w p name k r e = elim (held_happens w h hs p name k r e) [
  | inl there ↦ elim (held_goes_on hs (happens w h) p name k r there) [
    | inl still ↦ inl still
    | inr gone ↦ inr (later_forgets (Forgets p name) h hs k gone)
  ]
  | inr gone ↦ inr gone
]

-- EVENTS

-- an event does what happens, or nothing
by_refusal : (w : WorldView) (e : Event) (p : ℕ) (name : Name) (k : ℕ) (r : Finished) (G : Type 0) → Holds w p name k r → Holds (happens w (happening_of w e)) p name k r ⊎ G → Holds (does w e) p name k r ⊎ G
by_refusal w e p name k r G held happened = by_answer (is_refusal (reply w e)) where
  by_answer : (b : Bool) → Holds (cond b w (happens w (happening_of w e))) p name k r ⊎ G
  by_answer true = inl held
  by_answer false = happened

held_does : (w : WorldView) (e : Event) (es : List Event) (p : ℕ) (name : Name) (k : ℕ) (r : Finished) → Holds w p name k r → Holds (does w e) p name k r ⊎ HasForgotten (E.Forget p name) (e ∷ es) k
held_does w e es p name k r held = by_refusal w e p name k r (HasForgotten (E.Forget p name) (e ∷ es) k) held (by_event e) where
  by_event : (x : Event) → Holds (happens w (happening_of w x)) p name k r ⊎ HasForgotten (E.Forget p name) (x ∷ es) k
  by_event (E.Post q n draft) = inl ((kept_happens w (happening_of w (E.Post q n draft)) tt p).results_kept name k r held)
  by_event (E.Harvest q n) = inl ((kept_happens w (Harvests q n) tt p).results_kept name k r held)
  by_event (E.Gather q parent tag ranks) = inl ((kept_happens w (Gathers q parent tag ranks) tt p).results_kept name k r held)
  by_event (E.Prune q n m) = inl ((kept_happens w (Prunes q n m) tt p).results_kept name k r held)
  by_event (E.Send q cut) = inl held
  by_event (E.Take q place) = inl ((kept_happens w (Takes q place) tt p).results_kept name k r held)
  by_event (E.Forget q n below) = elim (lets_or_holds w q n below p name k r held) [
    | inl there ↦ inl there
    | inr gone ↦ inr (first_forgets E.Forget es p q name n k below gone.0 gone.1 gone.2)
  ]

pub held_does_all : (es : List Event) (w : WorldView) (p : ℕ) (name : Name) (k : ℕ) (r : Finished) → Holds w p name k r → Holds (does_all w es) p name k r ⊎ HasForgotten (E.Forget p name) es k
held_does_all [] w p name k r e = inl e
held_does_all (x ∷ es) w p name k r e = elim (held_does w x es p name k r e) [
  | inl there ↦ elim (held_does_all es (does w x) p name k r there) [
    | inl still ↦ inl still
    | inr gone ↦ inr (later_forgets (E.Forget p name) x es k gone)
  ]
  | inr gone ↦ inr gone
]
