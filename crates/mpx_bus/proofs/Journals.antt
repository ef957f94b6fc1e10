-- Journals, and the worlds to which they lead.
use Rattle.std.proofs.Common.{◌≡◌, ◌≢◌, ◌⊎◌, ℕ, zero, suc, ◌≤◌, ◌==◌, cond, List, [], ◌∷◌, ◌++◌, length, Some, refl, sym, ap, ◌∙◌, subst, ⊎_elim, inl, inr, arith, append_assoc}
use Rattle.std.specs.Prelude.{slice_get}
use Rattle.std.proofs.lemmas.List.{append-nil}
use Rattle.mpx_name.specs.Name.{Name}
use Rattle.mpx_num.specs.declared.own.Operation.{Operation}
use Rattle.mpx_board.specs.declared.board.Board.{Board}
use Rattle.mpx_board.specs.Boards.{Look, Fact, Has}
use Rattle.mpx_board.specs.Looks.{look}
use Rattle.mpx_board.specs.Contexts.{look_of}
use Rattle.mpx_format.proofs.Decoded.{decoded_again}
use Rattle.mpx_delta.specs.Digests.{HasUpTo}
use Rattle.mpx_world.specs.Worlds.{ProcessView, WorldView, learns, takes, acknowledges, at_process, Happening, Harvests, Gathers, Prunes, Sends, Takes, TakesPartly, Acknowledges, Forgets, IsSeen, happens, goes_on, MayLeave, MayHappen, MayGoOn}
use Rattle.mpx_world.proofs.Lists.{itself, same_number, cond_cases, slice_get-push}
use Rattle.mpx_world.proofs.Steps.{Holds, board_so}
use Rattle.mpx_world.proofs.Drafted.{at_same}
use Rattle.mpx_world.proofs.Later.{later_goes_on}
use Rattle.mpx_world.proofs.Whole.{LeadsTo, goes_on-append, holds_goes_on, leads_by, leads_draft, may_append, well_by}
use Rattle.mpx_bus.specs.declared.act.Act.{Act}
use Rattle.mpx_bus.specs.declared.act.Act.TheVariants as A
use Rattle.mpx_bus.specs.declared.act.Setup.{Setup}
use Rattle.mpx_bus.specs.Acts.{shown, part_of, said_on, act_on, after, at_start, process_at, start_of, DidIn, SaysNoMore, IsLocal, AreLocal, IsAhead}
use Rattle.mpx_bus.specs.Rule.{IsSent, world_of}
use Rattle.mpx_post.proofs.Lists.{slice_get-append}

-- LISTS

pub slice_get-append_cases : {A : Type 0} (xs ys : List A) (k : ℕ) (a : A) → slice_get (xs ++ ys) k ≡ Some a → (slice_get xs k ≡ Some a) ⊎ ((j : ℕ) × (slice_get ys j ≡ Some a))
slice_get-append_cases [] ys k a e = inr (k, e)
slice_get-append_cases (x ∷ xs) ys zero a e = inl e
slice_get-append_cases (x ∷ xs) ys (suc k) a e = slice_get-append_cases xs ys k a e

pub one_of : {A : Type 0} (a b : A) (k : ℕ) → slice_get (a ∷ []) k ≡ Some b → a ≡ b
one_of a b zero e = cc
one_of a b (suc k) e = absurd (cc)

-- JOURNALS

pub after-append : (ops : List Operation) (early late : List Act) (v : ProcessView) → after ops (early ++ late) v ≡ after ops late (after ops early v)
after-append ops [] late v = refl
after-append ops (a ∷ early) late v = after-append ops early late (act_on ops a v)

pub did_before : (early late : List Act) (a : Act) → DidIn early a → DidIn (early ++ late) a
did_before early late a d = record { at = d.at; did = slice_get-append early late d.at a d.did }

pub did_last : (early : List Act) (a : Act) → DidIn (early ++ a ∷ []) a
did_last early a = record { at = length early; did = slice_get-push early a }

pub did_cases : (early late : List Act) (a : Act) → DidIn (early ++ late) a → DidIn early a ⊎ DidIn late a
did_cases early late a d = ⊎_elim (λ (e : slice_get early d.at ≡ Some a). inl (record { at = d.at; did = e })) (λ (e : (j : ℕ) × (slice_get late j ≡ Some a)). inr (record { at = e.0; did = e.1 })) (slice_get-append_cases early late d.at a d.did)

pub did_now : (early : List Act) (a b : Act) → DidIn (early ++ b ∷ []) a → DidIn early a ⊎ (b ≡ a)
did_now early a b d = ⊎_elim (λ (e : DidIn early a). inl e) (λ (e : DidIn (b ∷ []) a). inr (one_of b a e.at e.did)) (did_cases early (b ∷ []) a d)

-- a local event was one as the process was then
local_at : (ops : List Operation) (published : List Act) (v : ProcessView) (locals : List Act) (k : ℕ) (a : Act) → AreLocal ops published v locals → slice_get locals k ≡ Some a → (u : ProcessView) × IsLocal published u a
local_at ops published v [] k a h e = absurd (cc)
local_at ops published v (b ∷ bs) zero a h e = (v, subst (IsLocal published v) (one_of b a 0 e) h.0)
local_at ops published v (b ∷ bs) (suc k) a h e = local_at ops published (act_on ops b v) bs k a h.1 e

local_push : (ops : List Operation) (published : List Act) (v : ProcessView) (locals : List Act) (a : Act) → AreLocal ops published v locals → IsLocal published (after ops locals v) a → AreLocal ops published v (locals ++ a ∷ [])
local_push ops published v [] a h is = (is, tt)
local_push ops published v (b ∷ bs) a h is = (h.0, local_push ops published (act_on ops b v) bs a h.1 is)

pub did_ahead : {setup : Setup} {p : ℕ} (published journal : List Act) (a : Act) → IsAhead setup p published journal → DidIn published a → DidIn journal a
did_ahead published journal a h d = subst (λ xs. DidIn xs a) (sym h.whole) (did_before published h.locals a d)

-- what is pushed or popped was so when it was published
pub pushed_before : {setup : Setup} {p : ℕ} (published journal : List Act) (bytes : List ℕ) → IsAhead setup p published journal → DidIn journal (A.Pushed bytes) → DidIn published (A.Pushed bytes)
pushed_before {setup} {p} published journal bytes h d =
    ⊎_elim
    (λ (e : DidIn published (A.Pushed bytes)). e)
    (λ (e : DidIn h.locals (A.Pushed bytes)). absurd ((local_at setup.operations published (process_at setup p published) h.locals e.at (A.Pushed bytes) h.local e.did).1))
    (did_cases published h.locals (A.Pushed bytes) (subst (λ xs. DidIn xs (A.Pushed bytes)) h.whole d))

pub popped_before : {setup : Setup} {p : ℕ} (published journal : List Act) (bytes : List ℕ) → IsAhead setup p published journal → DidIn journal (A.Popped bytes) → DidIn published (A.Popped bytes)
popped_before {setup} {p} published journal bytes h d =
    ⊎_elim
    (λ (e : DidIn published (A.Popped bytes)). e)
    (λ (e : DidIn h.locals (A.Popped bytes)). absurd ((local_at setup.operations published (process_at setup p published) h.locals e.at (A.Popped bytes) h.local e.did).1))
    (did_cases published h.locals (A.Popped bytes) (subst (λ xs. DidIn xs (A.Popped bytes)) h.whole d))

-- the process after its journal, by what it did since it published
pub after_ahead : {setup : Setup} {p : ℕ} (published journal : List Act) (h : IsAhead setup p published journal) → process_at setup p journal ≡ after setup.operations h.locals (process_at setup p published)
after_ahead {setup} {p} published journal h = ap (process_at setup p) h.whole ∙ after-append setup.operations published h.locals (at_start setup p)

-- one local event more
pub ahead_more : (setup : Setup) (p : ℕ) (published journal : List Act) (a : Act) → IsAhead setup p published journal → IsLocal published (process_at setup p journal) a → IsAhead setup p published (journal ++ a ∷ [])
ahead_more setup p published journal a h is = record {
  locals = h.locals ++ a ∷ [];
  whole = ap (λ xs. xs ++ a ∷ []) h.whole ∙ append_assoc published h.locals (a ∷ []);
  local = local_push setup.operations published (process_at setup p published) h.locals a h.local (subst (λ (v : ProcessView). IsLocal published v a) (after_ahead published journal h) is);
}

pub ahead_itself : (setup : Setup) (p : ℕ) (journal : List Act) → IsAhead setup p journal journal
ahead_itself setup p journal = record { locals = []; whole = sym (append-nil journal); local = tt }

-- PARTS

pub part_is : (parts : List Look) (bytes : List ℕ) (s : IsSent parts bytes) → part_of bytes ≡ look_of s.view
part_is parts bytes s = ap shown (decoded_again s.spells.0 bytes s.view s.spells.1)

pub sent_later : (parts more : List Look) (bytes : List ℕ) → IsSent parts bytes → IsSent (parts ++ more) bytes
sent_later parts more bytes s = record { view = s.view; spells = s.spells; place = s.place; sent = slice_get-append parts more s.place (look_of s.view) s.sent }

-- ACTS IN A WORLD

-- an act of a process leads to the world after it
abbrev Step : WorldView → ℕ → Act → Type 0
Step w p a = LeadsTo w (at_process p (act_on w.operations a) w)

by_one : (w to : WorldView) (h : Happening) → MayHappen w h → happens w h ≡ to → LeadsTo w to
by_one w to h m is = record { happenings = h ∷ []; may = (m, tt); is = is }

-- a process has what its board says that it has
has_said : (w : WorldView) (p : ℕ) → Holds w → (name : Name) (m : ℕ) → HasUpTo (w.each p).node.board name m ((w.each p).node.board.acks (w.each p).node.me name m)
has_said w p s name m =
    let g = s.processes p in
    subst (λ q. HasUpTo (w.each p).node.board name m ((w.each p).node.board.acks q name m)) (sym g.me_is) ((board_so w p (w.each p) g).acks_so p name m)

says_so : (w : WorldView) (p : ℕ) (board : Board) → Holds w → SaysNoMore board (w.each p) → (name : Name) (m : ℕ) → HasUpTo (w.each p).node.board name m (said_on board (w.each p) name m)
says_so w p board s says name m k lt =
    ⊎_elim
    (λ (h : HasUpTo (w.each p).node.board name m (said_on board (w.each p) name m)). h k lt)
    (λ (le : said_on board (w.each p) name m ≤ (w.each p).node.board.acks (w.each p).node.me name m). has_said w p s name m k (omega (arith, le, lt)))
    (says name m)

step_of : (published : List Act) (w : WorldView) (p : ℕ) (a : Act) → Holds w → ((bytes : List ℕ) → DidIn published (A.Popped bytes) → IsSent w.parts bytes) → IsLocal published (w.each p) a → Step w p a
step_of published w p (A.Posted name draft) h sent is = leads_draft w p name draft
step_of published w p (A.Harvested name) h sent is = leads_by w (Harvests p name) tt
step_of published w p (A.Gathered parent tag ranks) h sent is = leads_by w (Gathers p parent tag ranks) tt
step_of published w p (A.Pruned name n) h sent is = leads_by w (Prunes p name n) tt
step_of published w p (A.Forgot name below) h sent is = leads_by w (Forgets p name below) tt
step_of published w p (A.Took bytes) h sent is =
    let s : IsSent w.parts bytes = sent bytes is in
    by_one w _ (Takes p s.place) tt (ap (λ o. at_process p (takes o) w) s.sent ∙ ap (λ b. at_process p (learns b) w) (sym (part_is w.parts bytes s)))
step_of published w p (A.StoppedTaking bytes left) h sent is =
    let s : IsSent w.parts bytes = sent bytes is.0 in
    let same : Some (part_of bytes) ≡ slice_get w.parts s.place = ap Some (part_is w.parts bytes s) ∙ sym s.sent in
    leads_by w (TakesPartly p s.place (look left)) (subst (λ o. MayLeave (w.each p).node.board o (look left)) same is.1)
step_of published w p (A.Acknowledged board) h sent is =
    let numbers = said_on board (w.each p) in
    by_one w _ (Acknowledges p numbers) (says_so w p board h is) (at_same w p (acknowledges numbers) (act_on w.operations (A.Acknowledged board)) refl)
step_of published w p (A.Pushed bytes) h sent is = absurd is
step_of published w p (A.Popped bytes) h sent is = absurd is

at_self : (w : WorldView) (p : ℕ) (f : ProcessView → ProcessView) → (at_process p f w).each p ≡ f (w.each p)
at_self w p f = ap (λ b. cond b (f (w.each p)) (w.each p)) (itself p)

at_other : (w : WorldView) (p : ℕ) (f : ProcessView → ProcessView) (q : ℕ) → q ≢ p → (at_process p f w).each q ≡ w.each q
at_other w p f q ne = cond_cases (λ x. x ≡ w.each q) (q == p) (f (w.each q)) (w.each q) (λ e. absurd (ne (same_number q p e))) (λ e. refl)

-- what happens at one process, so that it is as given
pub record Way (w : WorldView) (p : ℕ) (v : ProcessView) : Type 0 where
  pub more : List Happening
  pub may : MayGoOn w more
  pub here : (goes_on w more).each p ≡ v
  pub others : (q : ℕ) → q ≢ p → (goes_on w more).each q ≡ w.each q
  pub parts : (goes_on w more).parts ≡ w.parts

pub way : (published acts : List Act) (w : WorldView) (p : ℕ) → Holds w → ((bytes : List ℕ) → DidIn published (A.Popped bytes) → IsSent w.parts bytes) → AreLocal w.operations published (w.each p) acts → Way w p (after w.operations acts (w.each p))
way published [] w p h sent are = record { more = []; may = tt; here = refl; others = λ q ne. refl; parts = refl }
way published (a ∷ acts) w p h sent are =
    let one : Step w p a = step_of published w p a h sent are.0 in
    let w1 : WorldView = at_process p (act_on w.operations a) w in
    let h1 : Holds w1 = subst Holds one.is (holds_goes_on one.happenings w one.may h) in
    let are1 : AreLocal w.operations published (w1.each p) acts = subst (λ (v : ProcessView). AreLocal w.operations published v acts) (sym (at_self w p (act_on w.operations a))) are.1 in
    let rest : Way w1 p (after w.operations acts (w1.each p)) = way published acts w1 p h1 sent are1 in
    let there : Way (goes_on w one.happenings) p (after w.operations acts (w1.each p)) = subst (λ (u : WorldView). Way u p (after w.operations acts (w1.each p))) (sym one.is) rest in
    let all : goes_on w (one.happenings ++ there.more) ≡ goes_on (goes_on w one.happenings) there.more = goes_on-append one.happenings there.more w in
    record {
      more = one.happenings ++ there.more;
      may = may_append one.happenings there.more w one.may there.may;
      here = ap (λ (u : WorldView). u.each p) all ∙ there.here ∙ ap (after w.operations acts) (at_self w p (act_on w.operations a));
      others = λ q ne. ap (λ (u : WorldView). u.each q) all ∙ there.others q ne ∙ (ap (λ (u : WorldView). u.each q) one.is ∙ at_other w p (act_on w.operations a) q ne);
      parts = ap (λ (u : WorldView). u.parts) all ∙ there.parts ∙ ap (λ (u : WorldView). u.parts) one.is;
    }

-- what can happen after this, so that one process is as given and the parts are these
pub record Onward (setup : Setup) (happenings : List Happening) (p : ℕ) (v : ProcessView) (parts : List Look) : Type 0 where
  pub all : List Happening
  pub may : MayGoOn (start_of setup) all
  pub here : (world_of setup all).each p ≡ v
  pub others : (q : ℕ) → q ≢ p → (world_of setup all).each q ≡ (world_of setup happenings).each q
  pub parts_are : (world_of setup all).parts ≡ parts

-- a process that is as published goes on to its journal
pub onward : (setup : Setup) (hs : List Happening) (p : ℕ) (published journal : List Act) → MayGoOn (start_of setup) hs
    → (world_of setup hs).each p ≡ process_at setup p published → IsAhead setup p published journal
    → ((bytes : List ℕ) → DidIn published (A.Popped bytes) → IsSent (world_of setup hs).parts bytes)
    → Onward setup hs p (process_at setup p journal) (world_of setup hs).parts
onward setup hs p published journal m here ahead popped =
    let w : WorldView = world_of setup hs in
    let ops : w.operations ≡ setup.operations = sym (later_goes_on hs (start_of setup)).operations in
    let local : AreLocal setup.operations published (w.each p) ahead.locals = subst (λ (v : ProcessView). AreLocal setup.operations published v ahead.locals) (sym here) ahead.local in
    let are : AreLocal w.operations published (w.each p) ahead.locals = subst (λ o. AreLocal o published (w.each p) ahead.locals) (sym ops) local in
    let go : Way w p (after w.operations ahead.locals (w.each p)) = way published ahead.locals w p (well_by setup.operations setup.ranks setup.size hs m).holds popped are in
    let e : world_of setup (hs ++ go.more) ≡ goes_on w go.more = goes_on-append hs go.more (start_of setup) in
    record {
      all = hs ++ go.more;
      may = may_append hs go.more (start_of setup) m go.may;
      here = ap (λ (u : WorldView). u.each p) e ∙ go.here ∙ ap (λ o. after o ahead.locals (w.each p)) ops ∙ ap (after setup.operations ahead.locals) here ∙ sym (after_ahead published journal ahead);
      others = λ q ne. ap (λ (u : WorldView). u.each q) e ∙ go.others q ne;
      parts_are = ap (λ (u : WorldView). u.parts) e ∙ go.parts;
    }

-- and sends a part of which it has seen each fact
pub onward_sends : (setup : Setup) (hs : List Happening) (p : ℕ) (v : ProcessView) (parts : List Look) (part : Look) → ((f : Fact) → Has part f → IsSeen v f)
    → Onward setup hs p v parts → Onward setup hs p v (parts ++ part ∷ [])
onward_sends setup hs p v parts part seen o =
    let w : WorldView = world_of setup o.all in
    let e : world_of setup (o.all ++ Sends p part ∷ []) ≡ happens w (Sends p part) = goes_on-append o.all (Sends p part ∷ []) (start_of setup) in
    record {
      all = o.all ++ Sends p part ∷ [];
      may = may_append o.all (Sends p part ∷ []) (start_of setup) o.may ((λ f has. inl (subst (λ (x : ProcessView). IsSeen x f) (sym o.here) (seen f has))), tt);
      here = ap (λ (u : WorldView). u.each p) e ∙ o.here;
      others = λ q ne. ap (λ (u : WorldView). u.each q) e ∙ o.others q ne;
      parts_are = ap (λ (u : WorldView). u.parts) e ∙ ap (λ xs. xs ++ part ∷ []) o.parts_are;
    }
