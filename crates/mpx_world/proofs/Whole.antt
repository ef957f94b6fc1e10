-- All that is kept along lists of events and of what happens.
use Rattle.std.proofs.Common.{◌≡◌, ℕ, Bool, true, false, cond, List, [], ◌∷◌, ◌++◌, Some, refl, sym, ap, ◌∙◌, subst}
use Rattle.std.specs.Prelude.{◌⊎◌, Result, Ok, Err}
use Rattle.mpx_name.specs.Name.{Name}
use Rattle.mpx_num.specs.declared.own.Operation.{Operation}
use Rattle.mpx_post.specs.Posts.{Given}
use Rattle.mpx_post.specs.declared.draft.Draft.{Draft}
use Rattle.mpx_post.specs.declared.draft.PostError.{PostError}
use Rattle.mpx_node.specs.declared.finished.Finished.{Finished}
use Rattle.mpx_node.specs.Nodes.{checked_on, result_on}
use Rattle.mpx_world.specs.declared.events.Event.{Event}
use Rattle.mpx_world.specs.declared.events.Event.TheVariants as E
use Rattle.mpx_world.specs.Worlds.{WorldView, Happening, Posts, Forgets, at_process, happens, makes, MayHappen, goes_on, MayGoOn, start, world_by}
use Rattle.mpx_world.specs.Drafted.{makes_checked, posts}
use Rattle.mpx_world.specs.Forgetting.{HasForgotten}
use Rattle.mpx_world.specs.Events.{happened, happening_of, does, does_all, is_refusal, replies, reply, world_after}
use Rattle.mpx_world.proofs.Lists.{cond_cases}
use Rattle.mpx_world.proofs.Steps.{Holds, holds_start, holds_happens}
use Rattle.mpx_world.proofs.Later.{Later, later_goes_on}
use Rattle.mpx_world.proofs.Forgetting.{held_does_all, held_goes_on}
use Rattle.mpx_world.proofs.Drafted.{at_itself, at_same, checked_may}
use Rattle.mpx_world.proofs.Reached.{may_happen, later_does_all}
use Rattle.mpx_world.proofs.Retention.{AllStore, stores_start, stores_happens}
use Rattle.mpx_world.proofs.Opened.{AllIn, in_start, in_happens}

-- a world that can be reached: all that it tells is so, own posts are stored, and processes are in what they opened
pub record IsWell (w : WorldView) : Type 0 where
  pub holds : Holds w
  pub stores : AllStore w
  pub members : AllIn w

pub well_start : (ops : List Operation) (ranks size : ℕ) → IsWell (start ops ranks size)
well_start ops ranks size = record { holds = holds_start ops ranks size; stores = stores_start ops ranks size; members = in_start ops ranks size }

pub well_happens : (w : WorldView) (h : Happening) → MayHappen w h → IsWell w → IsWell (happens w h)
well_happens w h m s = record {
  holds = holds_happens w h s.holds m;
  stores = stores_happens w h s.holds m s.stores;
  members = in_happens w h s.holds m s.members;
}

pub well_goes_on : (hs : List Happening) (w : WorldView) → MayGoOn w hs → IsWell w → IsWell (goes_on w hs)
well_goes_on [] w m s = s
well_goes_on (h ∷ hs) w m s = well_goes_on hs (happens w h) m.1 (well_happens w h m.0 s)

pub holds_goes_on : (hs : List Happening) (w : WorldView) → MayGoOn w hs → Holds w → Holds (goes_on w hs)
holds_goes_on [] w m s = s
holds_goes_on (h ∷ hs) w m s = holds_goes_on hs (happens w h) m.1 (holds_happens w h s m.0)

pub well_does : (w : WorldView) (e : Event) → IsWell w → IsWell (does w e)
well_does w e s = cond_cases IsWell (is_refusal (reply w e)) w (happens w (happening_of w e)) (λ t. s) (λ t. well_happens w (happening_of w e) (may_happen w e s.holds t) s)

pub well_does_all : (es : List Event) (w : WorldView) → IsWell w → IsWell (does_all w es)
well_does_all [] w s = s
well_does_all (e ∷ es) w s = well_does_all es (does w e) (well_does w e s)

-- after one list another
pub goes_on-append : (early late : List Happening) (w : WorldView) → goes_on w (early ++ late) ≡ goes_on (goes_on w early) late
goes_on-append [] late w = refl
goes_on-append (h ∷ early) late w = goes_on-append early late (happens w h)

pub does_all-append : (early late : List Event) (w : WorldView) → does_all w (early ++ late) ≡ does_all (does_all w early) late
does_all-append [] late w = refl
does_all-append (e ∷ early) late w = does_all-append early late (does w e)

pub may_early : (early late : List Happening) (w : WorldView) → MayGoOn w (early ++ late) → MayGoOn w early
may_early [] late w m = tt
may_early (h ∷ early) late w m = (m.0, may_early early late (happens w h) m.1)

pub may_append : (early late : List Happening) (w : WorldView) → MayGoOn w early → MayGoOn (goes_on w early) late → MayGoOn w (early ++ late)
may_append [] late w m n = n
may_append (h ∷ early) late w m n = (m.0, may_append early late (happens w h) m.1 n)

-- what can happen leads from one world to the other
pub record LeadsTo (from to : WorldView) : Type 0 where
  pub happenings : List Happening
  pub may : MayGoOn from happenings
  pub is : goes_on from happenings ≡ to

pub leads_nowhere : (w : WorldView) → LeadsTo w w
leads_nowhere w = record { happenings = []; may = tt; is = refl }

pub leads_on : (from w to : WorldView) → LeadsTo from w → LeadsTo w to → LeadsTo from to
leads_on from w to l m = record {
  happenings = l.happenings ++ m.happenings;
  may = may_append l.happenings m.happenings from l.may (subst (λ v. MayGoOn v m.happenings) (sym l.is) m.may);
  is = goes_on-append l.happenings m.happenings from ∙ ap (λ v. goes_on v m.happenings) l.is ∙ m.is;
}

pub leads_by : (w : WorldView) (h : Happening) → MayHappen w h → LeadsTo w (happens w h)
leads_by w h m = record { happenings = h ∷ []; may = (m, tt); is = refl }

-- a draft leads to its post, or nowhere
pub leads_draft : (w : WorldView) (p : ℕ) (name : Name) (draft : Draft) → LeadsTo w (at_process p (posts w.operations name draft) w)
leads_draft w p name draft = by_check (checked_on w.operations (w.each p).node name draft) refl where
  by_check : (r : Result Given PostError) → checked_on w.operations (w.each p).node name draft ≡ r → LeadsTo w (at_process p (posts w.operations name draft) w)
  by_check (Ok given) e = record {
    happenings = Posts p name given ∷ [];
    may = (checked_may w.operations (w.each p).node name draft given e, tt);
    is = at_same w p (makes name given) (posts w.operations name draft) (ap (λ r. makes_checked name r (w.each p)) (sym e));
  }
  by_check (Err refusal) e = record { happenings = []; may = tt; is = sym (at_itself w p (posts w.operations name draft) (ap (λ r. makes_checked name r (w.each p)) e)) }

-- by the events that aren't refused
pub happened_is : (es : List Event) (w : WorldView) → goes_on w (happened w es (replies w es)) ≡ does_all w es
happened_is [] w = refl
happened_is (e ∷ es) w = by_answer (is_refusal (reply w e)) (happened_is es) where
  by_answer : (b : Bool) → ((v : WorldView) → goes_on v (happened v es (replies v es)) ≡ does_all v es)
      → (let after : WorldView = cond b w (happens w (happening_of w e)) in goes_on w (cond b (happened w es (replies after es)) (happening_of w e ∷ happened (happens w (happening_of w e)) es (replies after es))) ≡ does_all after es)
  by_answer true rest = rest w
  by_answer false rest = rest (happens w (happening_of w e))

pub happened_may : (es : List Event) (w : WorldView) → IsWell w → MayGoOn w (happened w es (replies w es))
happened_may [] w s = tt
happened_may (e ∷ es) w s = by_answer (is_refusal (reply w e)) refl (happened_may es) where
  by_answer : (b : Bool) → is_refusal (reply w e) ≡ b → ((v : WorldView) → IsWell v → MayGoOn v (happened v es (replies v es)))
      → (let after : WorldView = cond b w (happens w (happening_of w e)) in MayGoOn w (cond b (happened w es (replies after es)) (happening_of w e ∷ happened (happens w (happening_of w e)) es (replies after es))))
  by_answer true t rest = rest w s
  by_answer false t rest = let m = may_happen w e s.holds t in (m, rest (happens w (happening_of w e)) (well_happens w (happening_of w e) m s))

pub leads_all : (es : List Event) (w : WorldView) → IsWell w → LeadsTo w (does_all w es)
leads_all es w s = record { happenings = happened w es (replies w es); may = happened_may es w s; is = happened_is es w }

-- FROM THE START

pub well_after : (ops : List Operation) (ranks size : ℕ) (es : List Event) → IsWell (world_after ops ranks size es)
well_after ops ranks size es = well_does_all es (start ops ranks size) (well_start ops ranks size)

pub well_by : (ops : List Operation) (ranks size : ℕ) (hs : List Happening) → MayGoOn (start ops ranks size) hs → IsWell (world_by ops ranks size hs)
well_by ops ranks size hs m = well_goes_on hs (start ops ranks size) m (well_start ops ranks size)

pub later_after : (ops : List Operation) (ranks size : ℕ) (es later : List Event) → Later (world_after ops ranks size es) (world_after ops ranks size (es ++ later))
later_after ops ranks size es later = let old = world_after ops ranks size es in subst (Later old) (sym (does_all-append es later (start ops ranks size))) (later_does_all later old)

-- each result is still held, or was let go by an event since
pub held_after : (ops : List Operation) (ranks size : ℕ) (es later : List Event) (p : ℕ) (name : Name) (k : ℕ) (r : Finished) → result_on ((world_after ops ranks size es).each p).node name k ≡ Some r
    → (result_on ((world_after ops ranks size (es ++ later)).each p).node name k ≡ Some r) ⊎ HasForgotten (E.Forget p name) later k
held_after ops ranks size es later p name k r e =
    subst (λ (w : WorldView). (result_on (w.each p).node name k ≡ Some r) ⊎ HasForgotten (E.Forget p name) later k) (sym (does_all-append es later (start ops ranks size))) (held_does_all later (world_after ops ranks size es) p name k r e)

-- or by what happened since
pub held_by : (ops : List Operation) (ranks size : ℕ) (hs later : List Happening) (p : ℕ) (name : Name) (k : ℕ) (r : Finished) → result_on ((world_by ops ranks size hs).each p).node name k ≡ Some r
    → (result_on ((world_by ops ranks size (hs ++ later)).each p).node name k ≡ Some r) ⊎ HasForgotten (Forgets p name) later k
held_by ops ranks size hs later p name k r e =
    subst (λ (w : WorldView). (result_on (w.each p).node name k ≡ Some r) ⊎ HasForgotten (Forgets p name) later k) (sym (goes_on-append hs later (start ops ranks size))) (held_goes_on later (world_by ops ranks size hs) p name k r e)

pub later_by : (ops : List Operation) (ranks size : ℕ) (hs later : List Happening) → Later (world_by ops ranks size hs) (world_by ops ranks size (hs ++ later))
later_by ops ranks size hs later = let old = world_by ops ranks size hs in subst (Later old) (sym (goes_on-append hs later (start ops ranks size))) (later_goes_on later old)
