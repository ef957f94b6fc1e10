-- Any number of ports that meet.
use Rattle.std.proofs.Common.{◌≡◌, ◌≢◌, ℕ, zero, suc, List, [], ◌∷◌, ◌++◌, map, Some, slice_get, refl, sym, ap, ◌∙◌, subst, arith}
use Rattle.std.proofs.lemmas.List.{map_push}
use Rattle.std.proofs.lemmas.Option.{same_Some}
use Rattle.mpx_node.specs.Nodes.{NodeView}
use Rattle.mpx_world.specs.Worlds.{Happening, MayGoOn}
use Rattle.mpx_world.proofs.Lists.{slice_get-push_cases}
use Rattle.mpx_world.proofs.Steps.{sound_of}
use Rattle.mpx_world.proofs.Whole.{well_by}
use Rattle.mpx_bus.specs.declared.act.Act.TheVariants as A
use Rattle.mpx_bus.specs.declared.act.Setup.{Setup}
use Rattle.mpx_bus.specs.declared.act.Seen.{Seen}
use Rattle.mpx_bus.specs.declared.act.View.{View}
use Rattle.mpx_bus.specs.Acts.{DidIn, IsAhead, process_at, start_of}
use Rattle.mpx_bus.specs.Views.{seen_as, standing, seat_of, met}
use Rattle.mpx_bus.specs.Rule.{IsSent, world_of, StandsForOneWorld}
use Rattle.mpx_bus.specs.Ports.{PortView, node_in}
use Rattle.mpx_bus.specs.Meetings.{HaveAllMet}
use Rattle.mpx_bus.proofs.Journals.{onward}

-- the process of a port, as the queue has seen it
abbrev pub seat_in : PortView → Seen
seat_in b = seen_as b.me b.published

-- a pass that stands for one process
pub stands_itself : (u : View) (setup : Setup) (s : Seen) → u ≡ standing setup (s ∷ []) → u ≡ standing u.setup (seat_of u ∷ [])
stands_itself u setup s e = e ∙ sym (ap (λ (w : View). standing w.setup (seat_of w ∷ [])) e)

-- the pass of a meeting stands for these ports, whose nodes these are
pub record IsMeeting (setup : Setup) (v : View) (nodes : List NodeView) (ports : List PortView) : Type 0 where
  pub stands : v ≡ standing setup (map seat_in ports)
  pub nodes_are : nodes ≡ map node_in ports
  pub ahead : (i : ℕ) (b : PortView) → slice_get ports i ≡ Some b → IsAhead b.setup b.me b.published b.journal

pub meeting_stands : (setup : Setup) (v : View) (nodes : List NodeView) (ports : List PortView) → IsMeeting setup v nodes ports → v ≡ standing v.setup v.seats
meeting_stands setup v nodes ports m = m.stands ∙ sym (ap (λ (w : View). standing w.setup w.seats) m.stands)

pub meeting_begins : (setup : Setup) (v : View) (node : NodeView) (b : PortView) → b.setup ≡ setup → v ≡ standing b.setup (seat_in b ∷ []) → node ≡ node_in b → IsAhead b.setup b.me b.published b.journal
    → IsMeeting setup v (node ∷ []) (b ∷ [])
meeting_begins setup v node b same stands is ahead = record {
  stands = stands ∙ ap (λ s. standing s (seat_in b ∷ [])) same;
  nodes_are = ap (λ n. n ∷ []) is;
  ahead = λ i x e. only i x e;
} where
  only : (i : ℕ) (x : PortView) → slice_get (b ∷ []) i ≡ Some x → IsAhead x.setup x.me x.published x.journal
  only zero x e = subst (λ (y : PortView). IsAhead y.setup y.me y.published y.journal) (same_Some b x e) ahead
  only (suc i) x e = cc e

pub meeting_more : (setup : Setup) (v new : View) (nodes : List NodeView) (ports : List PortView) (node : NodeView) (b : PortView) → IsMeeting setup v nodes ports
    → new ≡ met v (standing b.setup (seat_in b ∷ [])) → node ≡ node_in b → IsAhead b.setup b.me b.published b.journal
    → IsMeeting setup new (nodes ++ node ∷ []) (ports ++ b ∷ [])
meeting_more setup v new nodes ports node b m is node_is ahead = record {
  stands = is ∙ ap (λ (w : View). standing w.setup (w.seats ++ seat_in b ∷ [])) m.stands ∙ ap (standing setup) (sym (map_push seat_in ports b));
  nodes_are = (λ i. m.nodes_are i ++ node_is i ∷ []) ∙ sym (map_push node_in ports b);
  ahead = λ i x e. slice_get-push_cases (λ (y : PortView) (k : ℕ). IsAhead y.setup y.me y.published y.journal) ports b i x e (λ old. m.ahead i x old)
      (λ same k. subst (λ (y : PortView). IsAhead y.setup y.me y.published y.journal) same ahead);
}

-- WHAT ALL OF THEM DID SINCE

-- these ports as the queue has seen them, in the world to which this leads
record AreSeen (setup : Setup) (hs : List Happening) (ports : List PortView) : Type 0 where
  each : (i : ℕ) (b : PortView) → slice_get ports i ≡ Some b → (world_of setup hs).each b.me ≡ process_at setup b.me b.published
  sent : (i : ℕ) (b : PortView) → slice_get ports i ≡ Some b → (bytes : List ℕ) → DidIn b.published (A.Popped bytes) → IsSent (world_of setup hs).parts bytes
  ahead : (i : ℕ) (b : PortView) → slice_get ports i ≡ Some b → IsAhead setup b.me b.published b.journal
  apart : (i j : ℕ) (a b : PortView) → slice_get ports i ≡ Some a → slice_get ports j ≡ Some b → a.me ≡ b.me → i ≡ j

-- what can happen after this, so that these ports are as they are now, and all other processes as they were
record Brought (setup : Setup) (hs : List Happening) (ports : List PortView) : Type 0 where
  all : List Happening
  may : MayGoOn (start_of setup) all
  each : (i : ℕ) (b : PortView) → slice_get ports i ≡ Some b → (world_of setup all).each b.me ≡ process_at setup b.me b.journal
  others : (q : ℕ) → ((i : ℕ) (b : PortView) → slice_get ports i ≡ Some b → q ≢ b.me) → (world_of setup all).each q ≡ (world_of setup hs).each q

brought : (setup : Setup) (hs : List Happening) (ports : List PortView) → MayGoOn (start_of setup) hs → AreSeen setup hs ports → Brought setup hs ports
brought setup hs [] may seen = record { all = hs; may = may; each = λ i b e. cc e; others = λ q ne. refl }
brought setup hs (b ∷ bs) may seen =
    let o = onward setup hs b.me b.published b.journal may (seen.each 0 b refl) (seen.ahead 0 b refl) (seen.sent 0 b refl) in
    let rest : Brought setup o.all bs = brought setup o.all bs o.may (record {
      each = λ i x e. o.others x.me (λ (same : x.me ≡ b.me). let z : suc i ≡ zero = seen.apart (suc i) 0 x b e refl same in absurd (omega (arith, z))) ∙ seen.each (suc i) x e;
      sent = λ i x e bytes d. subst (λ ps. IsSent ps bytes) (sym o.parts_are) (seen.sent (suc i) x e bytes d);
      ahead = λ i x e. seen.ahead (suc i) x e;
      apart = λ i j x y e f same. let z : suc i ≡ suc j = seen.apart (suc i) (suc j) x y e f same in omega (arith, z);
    }) in
    let first : (world_of setup rest.all).each b.me ≡ process_at setup b.me b.journal = rest.others b.me (λ i x e same. let z : zero ≡ suc i = seen.apart 0 (suc i) b x refl e same in absurd (omega (arith, z))) ∙ o.here in
    record {
      all = rest.all;
      may = rest.may;
      each = λ i x e. by_place rest.all i x e first rest.each;
      others = λ q ne. rest.others q (λ i x e. ne (suc i) x e) ∙ o.others q (ne 0 b refl);
    } where
      by_place : (all : List Happening) (i : ℕ) (x : PortView) → slice_get (b ∷ bs) i ≡ Some x → (world_of setup all).each b.me ≡ process_at setup b.me b.journal → ((j : ℕ) (y : PortView) → slice_get bs j ≡ Some y → (world_of setup all).each y.me ≡ process_at setup y.me y.journal)
          → (world_of setup all).each x.me ≡ process_at setup x.me x.journal
      by_place all zero x e first more = subst (λ (y : PortView). (world_of setup all).each y.me ≡ process_at setup y.me y.journal) (same_Some b x e) first
      by_place all (suc i) x e first more = more i x e

-- the seat of a port at its place
seat_at : (ports : List PortView) (i : ℕ) (b : PortView) → slice_get ports i ≡ Some b → slice_get (map seat_in ports) i ≡ Some (seat_in b)
seat_at [] i b e = cc e
seat_at (x ∷ xs) zero b e = ap (λ (y : PortView). Some (seat_in y)) (same_Some x b e)
seat_at (x ∷ xs) (suc i) b e = seat_at xs i b e

-- one fact of the first and of the others
pub setups_of : (setup : Setup) (first : PortView) (others : List PortView) → first.setup ≡ setup → ((i : ℕ) (b : PortView) → slice_get others i ≡ Some b → b.setup ≡ setup)
    → (i : ℕ) (b : PortView) → slice_get (first ∷ others) i ≡ Some b → b.setup ≡ setup
setups_of setup first others is all zero b e = subst (λ (x : PortView). x.setup ≡ setup) (same_Some first b e) is
setups_of setup first others is all (suc i) b e = all i b e

-- from what the queue tells of all of them, and what each has done since
pub all_met : (setup : Setup) (v : View) (nodes : List NodeView) (ports : List PortView) → IsMeeting setup v nodes ports → ((i : ℕ) (b : PortView) → slice_get ports i ≡ Some b → b.setup ≡ setup)
    → StandsForOneWorld v → HaveAllMet setup ports
all_met setup v nodes ports m setups stands =
    let s : StandsForOneWorld (standing setup (map seat_in ports)) = subst StandsForOneWorld m.stands stands in
    let go : Brought setup s.happenings ports = brought setup s.happenings ports s.may (record {
      each = λ i b e. s.each i (seat_in b) (seat_at ports i b e);
      sent = λ i b e. s.sent i (seat_in b) (seat_at ports i b e);
      ahead = λ i b e. subst (λ (z : Setup). IsAhead z b.me b.published b.journal) (setups i b e) (m.ahead i b e);
      apart = λ i j a b e f same. s.apart i j (seat_in a) (seat_in b) (seat_at ports i a e) (seat_at ports j b f) same;
    }) in
    record {
      happenings = go.all;
      may = go.may;
      each = λ i b e. go.each i b e ∙ ap (λ (z : Setup). process_at z b.me b.journal) (sym (setups i b e));
      apart = λ i j a b e f same. s.apart i j (seat_in a) (seat_in b) (seat_at ports i a e) (seat_at ports j b f) same;
      sound = sound_of (world_of setup go.all) (well_by setup.operations setup.ranks setup.size go.all go.may).holds;
    }
