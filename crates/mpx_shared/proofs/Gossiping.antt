-- What pulls and puts do.
use Rattle.std.proofs.Common.{◌≡◌, ℕ, ◌+◌, Bool, true, false, ◌<◌, List, [], ◌∷◌, ◌++◌, Option, None, Some, Result, Ok, Err, inl, inr, is_some, slice_get, refl, sym, ap, ◌∙◌, subst, arith}
use Rattle.std.specs.Prelude.{All, IfOk, OnOk, OnErr, nat_lt}
use Rattle.std.proofs.lemmas.Bool.Decides.{nat_tests}
use Rattle.std.proofs.lemmas.Option.{same_Some}
use Rattle.std.proofs.lemmas.List.Elements.{All-append, All-cons, All-nil}
use Rattle.join_core.specs.declared.memory.OutOfMemory.{OutOfMemory}
use Rattle.atomic_table.specs.Seated.{TableId}
use Rattle.mpx_name.specs.Name.{Name}
use Rattle.mpx_num.specs.declared.own.Operation.{Operation}
use Rattle.mpx_board.specs.Boards.{Look}
use Rattle.mpx_board.specs.declared.errors.PruneError.{PruneError}
use Rattle.mpx_node.specs.declared.finished.Finished.{Finished}
use Rattle.mpx_node.specs.declared.node.Harvest.{Harvest}
use Rattle.mpx_node.specs.declared.node.Harvest.TheVariants as H
use Rattle.mpx_node.specs.Nodes.{NodeView, OpenedView, children_on, front_on, next_of, next_result, posted_on, has_next as node_has_next}
use Rattle.mpx_node.specs.Harvests.{Harvests}
use Rattle.mpx_node.proofs.Nexts.{next_is_there, some_next}
use Rattle.mpx_world.proofs.Kept.{front_added, posted_added}
use Rattle.mpx_bus.specs.declared.act.Act.{Act}
use Rattle.mpx_bus.specs.declared.act.Act.TheVariants as A
use Rattle.mpx_bus.specs.declared.act.Setup.{Setup}
use Rattle.mpx_bus.specs.declared.port.Push.{Push}
use Rattle.mpx_bus.specs.Answers.{HarvestsOne, PushesNext}
use Rattle.mpx_bus.specs.Ports.{PortView, PortGoesOn, KeepsPlan, node_in}
use Rattle.mpx_bus.specs.Rule.{Stood}
use Rattle.mpx_shared.specs.declared.pull.Pull.{Pull}
use Rattle.mpx_shared.specs.declared.pull.Pull.TheVariants as L
use Rattle.mpx_shared.specs.LawfulPorts.{IsListedContext, IsHeldPort, MakesNoPost}
use Rattle.mpx_shared.specs.Gossip.{HarvestsAndPrunes, PortHarvestsNext, IsHarvestOrPruning, Prunes, Pulls, Puts, Settles, SettlesAll, SettlesEach, WantsResult, frame_limit, has_next}
use Rattle.mpx_shared.specs.Turns.{PullsThen, PutsThen, Sufficed}
use Rattle.mpx_shared.proofs.LawfulPorts.{are_passive, lawful_of, held_later, no_post_by, no_post_itself, no_post_then}

-- HARVESTS AND PRUNINGS

pub nothing_done : (a b : PortView) → b ≡ a → HarvestsAndPrunes a b
nothing_done a b e = record { no_post = no_post_itself a b e; each = All-nil IsHarvestOrPruning; kept = ap (λ (x : PortView). x.kept) e }

just_one : (a : Act) → IsHarvestOrPruning a → All IsHarvestOrPruning (a ∷ [])
just_one a is = All-cons IsHarvestOrPruning a [] is (All-nil IsHarvestOrPruning)

pub done_then : (a b c : PortView) → HarvestsAndPrunes a b → HarvestsAndPrunes b c → HarvestsAndPrunes a c
done_then a b c g h = record {
  no_post = no_post_then a b c g.no_post h.no_post;
  each = All-append IsHarvestOrPruning g.no_post.acts h.no_post.acts g.each h.each;
  kept = h.kept ∙ g.kept;
}

pub prunes_one : (name : Name) (n : ℕ) (r : Result (Unit {0}) PruneError) (a b : PortView) → PortGoesOn a b → b.kept ≡ a.kept → OnOk r (b.journal ≡ a.journal ++ A.Pruned name n ∷ []) → OnErr r (b ≡ a) → HarvestsAndPrunes a b
prunes_one name n (Ok u) a b goes kept ok err = record { no_post = no_post_by a b (A.Pruned name n ∷ []) goes ok (are_passive (A.Pruned name n ∷ []) (tt, tt) (tt, tt)); each = just_one (A.Pruned name n) tt; kept = kept }
prunes_one name n (Err e) a b goes kept ok err = nothing_done a b err

pub harvests_one : (name : Name) (r : Result Harvest OutOfMemory) (a b : PortView) → PortGoesOn a b → b.kept ≡ a.kept → HarvestsOne name r a b → HarvestsAndPrunes a b
harvests_one name (Ok (H.Done call)) a b goes kept h = record { no_post = no_post_by a b (A.Harvested name ∷ []) goes h (are_passive (A.Harvested name ∷ []) (tt, tt) (tt, tt)); each = just_one (A.Harvested name) tt; kept = kept }
harvests_one name (Ok H.NotYet) a b goes kept h = nothing_done a b h
harvests_one name (Ok H.NotOpened) a b goes kept h = nothing_done a b h
harvests_one name (Err e) a b goes kept h = nothing_done a b h

-- NEXT RESULTS

-- whether a harvest stored a result
abbrev pub is_done : Harvest → Bool
is_done (H.Done call) = true
is_done H.NotYet = false
is_done H.NotOpened = false

-- a harvest that stored none found none
no_next : (ops : List Operation) (o : Option OpenedView) (name : Name) (next : Option Finished) (h : Harvest) (old new : NodeView) → (o ≡ None → next ≡ None) → Harvests ops (is_some o) name next (Ok h) old new → is_done h ≡ false → is_some next ≡ false
no_next ops None name next h old new nothing hs stop = ap is_some (nothing refl)
no_next ops (Some o) name None h old new nothing hs stop = refl
no_next ops (Some o) name (Some f) (H.Done call) old new nothing hs stop = cc stop
no_next ops (Some o) name (Some f) H.NotYet old new nothing hs stop = absurd hs
no_next ops (Some o) name (Some f) H.NotOpened old new nothing hs stop = absurd hs

nothing_opened : (ops : List Operation) (o : Option OpenedView) (board : Look) (name : Name) (me : ℕ) → o ≡ None → next_of ops o board name me ≡ None
nothing_opened ops None board name me e = refl
nothing_opened ops (Some o) board name me e = cc e

stores_next : (ops : List Operation) (o : Option OpenedView) (name : Name) (next : Option Finished) (call : ℕ) (old new : NodeView) → old.opened name ≡ o → Harvests ops (is_some o) name next (Ok (H.Done call)) old new
    → (posted_on new name ≡ posted_on old name) × (front_on new name ≡ front_on old name + 1)
stores_next ops None name next call old new is hs = let f : Ok (H.Done call) ≡ Ok H.NotOpened = hs.0 in absurd (cc f)
stores_next ops (Some o) name None call old new is hs = absurd hs
stores_next ops (Some o) name (Some f) call old new is hs =
    let made = children_on ops old.board name (front_on old name) in (
      ap (λ (n : NodeView). posted_on n name) hs.1 ∙ posted_added name f made old name,
      ap (λ (n : NodeView). front_on n name) hs.1 ∙ front_added name f made old o is,
    )

none_stored : (ops : List Operation) (h : Harvest) (name : Name) (a b : PortView) → b ≡ a → is_done h ≡ false → Harvests ops (is_some ((node_in a).opened name)) name (next_result ops (node_in a) name) (Ok h) (node_in a) (node_in b) → PortHarvestsNext false name a b
none_stored ops h name a b same stop hs =
    let n = node_in a in record {
      posted = ap (λ (x : PortView). posted_on (node_in x) name) same;
      stored = λ (e : false ≡ true). cc e;
      none = λ e. ap (λ (x : PortView). has_next x name) same ∙ sym (next_is_there ops n name) ∙ no_next ops (n.opened name) name (next_result ops n name) h n (node_in b) (nothing_opened ops (n.opened name) n.board name n.me) hs stop;
    }

pub next_harvested : (ops : List Operation) (h : Harvest) (name : Name) (a b : PortView) → HarvestsOne name (Ok h) a b → Harvests ops (is_some ((node_in a).opened name)) name (next_result ops (node_in a) name) (Ok h) (node_in a) (node_in b) → PortHarvestsNext (is_done h) name a b
next_harvested ops (H.Done call) name a b one hs =
    let n = node_in a in
    let x = stores_next ops (n.opened name) name (next_result ops n name) call n (node_in b) refl hs in
    record { posted = x.0; stored = λ e. x.1; none = λ (e : true ≡ false). cc e }
next_harvested ops H.NotYet name a b one hs = none_stored ops H.NotYet name a b one refl hs
next_harvested ops H.NotOpened name a b one hs = none_stored ops H.NotOpened name a b one refl hs

wants_by : (ops : List Operation) (name : Name) (opened : Bool) (next : Option Finished) (e : OutOfMemory) (old new : NodeView) → next_result ops old name ≡ next → Harvests ops opened name next (Err e) old new → node_has_next new name ≡ true
wants_by ops name false next e old new is h = cc (h.0)
wants_by ops name true (Some f) e old new is h = ap (λ n. node_has_next n name) h ∙ some_next ops old name f is
wants_by ops name true None e old new is h = absurd h

-- memory is wanting only for a result that can be had
pub wants_next : (ops : List Operation) (name : Name) (e : OutOfMemory) (a b : PortView) → Harvests ops (is_some ((node_in a).opened name)) name (next_result ops (node_in a) name) (Err e) (node_in a) (node_in b) → has_next b name ≡ true
wants_next ops name e a b h = wants_by ops name (is_some ((node_in a).opened name)) (next_result ops (node_in a) name) e (node_in a) (node_in b) refl h

-- so far it has harvested: the number of the next call is that of the results
pub record IsHarvesting (name : Name) (call : ℕ) (old new : PortView) : Type 0 where
  pub done : HarvestsAndPrunes old new
  pub posted : posted_on (node_in new) name ≡ posted_on (node_in old) name
  pub front : front_on (node_in new) name ≡ call

pub harvesting_begins : (name : Name) (port : PortView) → IsHarvesting name (front_on (node_in port) name) port port
harvesting_begins name port = record { done = nothing_done port port refl; posted = refl; front = refl }

pub harvesting_more : (name : Name) (call : ℕ) (had : Bool) (a b c : PortView) → IsHarvesting name call a b → HarvestsAndPrunes b c → PortHarvestsNext had name b c → had ≡ true → IsHarvesting name (call + 1) a c
harvesting_more name call had a b c i h n e = record {
  done = done_then a b c i.done h;
  posted = n.posted ∙ i.posted;
  front = n.stored e ∙ ap (λ k. k + 1) i.front;
}

-- WHAT FOLLOWS A POP

pub settles_on : (name : Name) (a b c : PortView) → HarvestsAndPrunes a b → has_next b name ≡ false → Prunes name b c → Settles name a c
settles_on name a b c first none prunes = record { harvested = b; before = first; none_left = none; pruned = c; prunes = prunes; after = nothing_done c c refl }

pub settles_then : (name : Name) (a b c : PortView) → Settles name a b → HarvestsAndPrunes b c → Settles name a c
settles_then name a b c s more = record { harvested = s.harvested; before = s.before; none_left = s.none_left; pruned = s.pruned; prunes = s.prunes; after = done_then s.pruned b c s.after more }

pub settles_after : (name : Name) (a b c : PortView) → HarvestsAndPrunes a b → Settles name b c → Settles name a c
settles_after name a b c first s = record { harvested = s.harvested; before = done_then a b s.harvested first s.before; none_left = s.none_left; pruned = s.pruned; prunes = s.prunes; after = s.after }

settles_listed : (contexts : List Name) (a b c : PortView) → HarvestsAndPrunes a b → Settles [] a b → HarvestsAndPrunes b c → SettlesEach contexts b c → (name : Name) → IsListedContext name contexts → Settles name a c
settles_listed contexts a b c does world more each name (inl e) = subst (λ n. Settles n a c) (sym e) (settles_then [] a b c world more)
settles_listed contexts a b c does world more each name (inr there) = settles_after name a b c does (each there.0 name there.1)

pub settles_all : (contexts : List Name) (a b c : PortView) (r : Result (Unit {0}) OutOfMemory) → HarvestsAndPrunes a b → Settles [] a b → HarvestsAndPrunes b c → OnOk r (SettlesEach contexts b c) → OnOk r (SettlesAll contexts a c)
settles_all contexts a b c (Ok u) does world more each = record { each = settles_listed contexts a b c does world more each }
settles_all contexts a b c (Err e) does world more each = tt

-- so far it has settled the first so many of these contexts
pub record HasSettled (contexts : List Name) (count : ℕ) (old new : PortView) : Type 0 where
  pub done : HarvestsAndPrunes old new
  pub each : (i : ℕ) (name : Name) → i < count → slice_get contexts i ≡ Some name → Settles name old new

pub settled_none : (contexts : List Name) (a : PortView) → HasSettled contexts 0 a a
settled_none contexts a = record { done = nothing_done a a refl; each = λ i name l there. absurd (omega (arith, l)) }

pub settled_more : (contexts : List Name) (count : ℕ) (name : Name) (a b c : PortView) → HasSettled contexts count a b → slice_get contexts count ≡ Some name → HarvestsAndPrunes b c → Settles name b c → HasSettled contexts (count + 1) a c
settled_more contexts count name a b c s here done next = record { done = done_then a b c s.done done; each = λ i other l there. by_place i other there (nat_lt i count) refl l } where
  by_place : (i : ℕ) (other : Name) → slice_get contexts i ≡ Some other → (low : Bool) → nat_lt i count ≡ low → i < count + 1 → Settles other a c
  by_place i other there true t l = settles_then other a b c (s.each i other (grind (arith, nat_tests, t)) there) done
  by_place i other there false t l =
      let last : i ≡ count = grind (arith, nat_tests, t, l) in
      let same : name ≡ other = same_Some name other (sym here ∙ ap (slice_get contexts) (sym last) ∙ there) in
      settles_after other a b c s.done (subst (λ n. Settles n b c) same next)

pub wants_later : (a b c : PortView) (r : Result (Unit {0}) OutOfMemory) → HarvestsAndPrunes a b → OnErr r (WantsResult b c) → OnErr r (WantsResult a c)
wants_later a b c (Ok u) h w = tt
wants_later a b c (Err e) h w = record { harvests = done_then a b c h w.harvests; name = w.name; next = w.next }

-- TURNS

pub sufficed_by : (pull : Pull) → ((lost : Option (List ℕ)) → pull ≡ L.OutOfMemory lost → ⊥) → Sufficed pull
sufficed_by L.Took not = tt
sufficed_by L.Empty not = tt
sufficed_by (L.OutOfMemory lost) not = not lost refl

-- UNDER THE LOCK

module _ {table : TableId} {setup : Setup} {me : ℕ} {opening : List Act} {before total : ℕ} {contexts : List Name} (a b : PortView) (m : IsHeldPort table setup me opening before a total contexts) (first : KeepsPlan a → Stood a.setup a.me a.journal) (last : KeepsPlan b → Stood b.setup b.me b.journal) (n : MakesNoPost a b) where
  pub pulls_then : (pull : Pull) → Pulls pull contexts a b → PullsThen table setup me opening pull
  pulls_then pull pulls = record {
    before = a;
    after = b;
    lawful_before = lawful_of a m first;
    lawful_after = lawful_of b (held_later a b m n) last;
    gone_on = m.gone_on;
    no_post = n;
    contexts = contexts;
    listed = m.listed;
    pulls = pulls;
  }

  pub puts_then : (put : Result Push OutOfMemory) → Puts put a b → PutsThen table setup me opening put
  puts_then put puts = record {
    before = a;
    after = b;
    lawful_before = lawful_of a m first;
    lawful_after = lawful_of b (held_later a b m n) last;
    gone_on = m.gone_on;
    no_post = n;
    puts = puts;
  }

pub puts_as : (put : Result Push OutOfMemory) (a b : PortView) → IfOk put (λ push. PushesNext frame_limit push a b) → OnErr put (b ≡ a) → OnErr put (a.kept ≡ []) → Puts put a b
puts_as (Ok push) a b next err used = next
puts_as (Err e) a b next err used = (used, err)
