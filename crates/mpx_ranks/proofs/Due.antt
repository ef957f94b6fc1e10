-- What is to be dropped, and what a prune to it does.
use Rattle.std.proofs.Common.{◌≡◌, ℕ, zero, suc, ◌<◌, ◌+◌, Bool, true, false, cond, List, [], ◌∷◌, ◌++◌, length, map, get_or, Option, None, Some, Result, Ok, Err, refl, sym, ap, ◌∙◌, subst, arith, inl, inr}
use Rattle.std.specs.Prelude.{OnOk, slice_get}
use Rattle.std.specs.FinMap.{get-entries, entries}
use Rattle.std.specs.FinMap.Entries.{find}
use Rattle.std.specs.Option.{option_map}
use Rattle.std.specs.Result.{IsErr}
use Rattle.std.specs.Ordering.{eq_by_cmp, is_eq}
use Rattle.std.specs.declared.cmp.Ordering.{Ordering}
use Rattle.std.specs.declared.cmp.Ordering.TheVariants.{Less, Equal, Greater}
use Rattle.std.proofs.lemmas.Bool.{cases_eq}
use Rattle.std.proofs.lemmas.Option.{get_or_from_slice_get}
use Rattle.join_core.specs.declared.memory.OutOfMemory.{OutOfMemory}
use Rattle.join_nest.specs.Seen.{seen}
use Rattle.mpx_birth.specs.Births.{BirthView}
use Rattle.mpx_board.specs.Boards.{Context, Look, minimum, told}
use Rattle.mpx_board.specs.Changes.{pruned_on}
use Rattle.mpx_board.specs.Contexts.{look_of, or_nothing}
use Rattle.mpx_board.specs.Parts.{LiftedView, PartsView}
use Rattle.mpx_board.specs.declared.errors.PruneError.{PruneError}
use Rattle.mpx_bus.proofs.Journals.{after-append}
use Rattle.mpx_bus.specs.Acts.{after, at_start, node_at, process_at}
use Rattle.mpx_bus.specs.declared.act.Act.TheVariants as A
use Rattle.mpx_bus.specs.Ports.{IsSamePort, PortView, node_in}
use Rattle.mpx_name.specs.Name.{Name}
use Rattle.mpx_name.specs.Order.{name_cmp, name_exact}
use Rattle.mpx_node.proofs.Dropped.{drops_floor, floor_is_pruned}
use Rattle.mpx_node.specs.Nodes.{NodeView, learn_some, prune_part}
use Rattle.mpx_node.specs.Settling.{DropsAll, HasDropped, IsToDrop, KillsFreed, with_prune}
use Rattle.mpx_world.specs.Worlds.{ProcessView, drops, takes}
use Rattle.mpx_ranks.specs.Members.{DropsOne, FindsOne, HasNoneToDrop, Prunes}

-- ALL CONTEXTS

is_tied : (r : Ordering) → is_eq r ≡ true → r ≡ Equal
is_tied Less e = cc e
is_tied Equal e = refl
is_tied Greater e = cc e

-- the floor of what is known of one context
abbrev HasFloor : Context → ℕ → Type 0
HasFloor c floor = option_map (λ (birth : BirthView). minimum (map c.fronts birth.members)) (told c.birth) ≡ Some floor

none_has : (floor : ℕ) (A : Type 0) → HasFloor (or_nothing None) floor → A
none_has floor A e = cc e

-- a context with a floor has an entry
entry_found : (name : Name) (es : List (Name × LiftedView)) (floor : ℕ) → HasFloor (or_nothing (find name_cmp name es)) floor → (i : ℕ) × (slice_get (map (λ e. e.0) es) i ≡ Some name)
entry_found name [] floor has = none_has floor _ has
entry_found name (x ∷ es) floor has = by (eq_by_cmp name_cmp name x.0) refl has (λ l. entry_found name es floor l) where
  by : (b : Bool) → eq_by_cmp name_cmp name x.0 ≡ b → HasFloor (or_nothing (cond b (Some x.1) (find name_cmp name es))) floor
      → (HasFloor (or_nothing (find name_cmp name es)) floor → (i : ℕ) × (slice_get (map (λ e. e.0) es) i ≡ Some name)) → (i : ℕ) × (slice_get (map (λ e. e.0) (x ∷ es)) i ≡ Some name)
  by true t l rest = (zero, ap Some (sym (name_exact name x.0 (is_tied (name_cmp name x.0) t))))
  by false t l rest = let r = rest l in (suc r.0, r.1)

keys_seen : {V W : Type 0} (view : V → W) (es : List (Name × V)) → map (λ e. e.0) (seen view es) ≡ map (λ e. e.0) es
keys_seen view [] = refl
keys_seen view (e ∷ es) = ap (λ ks. e.0 ∷ ks) (keys_seen view es)

key_at : {V : Type 0} (es : List (Name × V)) (i : ℕ) (name : Name) → slice_get (map (λ e. e.0) es) i ≡ Some name → (e : Name × V) × ((slice_get es i ≡ Some e) × (e.0 ≡ name))
key_at [] i name e = cc e
key_at (x ∷ es) zero name e = (x, (refl, cc e))
key_at (x ∷ es) (suc i) name e = key_at es i name e

said_in : (parts : PartsView) (name : Name) → (look_of parts).contexts name ≡ or_nothing (find name_cmp name (entries parts.0))
unfolding look_of
said_in parts name = ap or_nothing (get-entries parts.0 name)

-- where none of the entries has any to drop
pub none_due : {V : Type 0} (view : V → LiftedView) (node : NodeView) (parts : PartsView) (es : List (Name × V)) → node.board ≡ look_of parts → seen view es ≡ entries parts.0
    → ((i : ℕ) (e : Name × V) → slice_get es i ≡ Some e → HasDropped e.0 node) → HasNoneToDrop node
none_due view node parts es board is each name floor has =
    let same : node.board.contexts name ≡ or_nothing (find name_cmp name (seen view es)) = ap (λ (x : Look). x.contexts name) board ∙ said_in parts name ∙ ap (λ xs. or_nothing (find name_cmp name xs)) (sym is) in
    let found = entry_found name (seen view es) floor (subst (λ (c : Context). HasFloor c floor) same has) in
    let at = key_at es found.0 name (ap (λ ks. slice_get ks found.0) (sym (keys_seen view es)) ∙ found.1) in
    subst (λ n. HasDropped n node) at.1.1 (each found.0 at.0 at.1.0) floor has

-- ONE CONTEXT AFTER ANOTHER

-- one entry more has none to drop
pub one_more : {V : Type 0} (node : NodeView) (es : List (Name × V)) (n : ℕ) (x : Name × V) → x ≡ get_or es n x → HasDropped x.0 node
    → ((i : ℕ) (e : Name × V) → i < n → slice_get es i ≡ Some e → HasDropped e.0 node)
    → (i : ℕ) (e : Name × V) → i < n + 1 → slice_get es i ≡ Some e → HasDropped e.0 node
one_more node es n x is none before i e less at = elim (cases_eq i n) [
  | inl same ↦ subst (λ (y : Name × _). HasDropped y.0 node) (is ∙ ap (λ k. get_or es k x) (sym same) ∙ get_or_from_slice_get es i e x at) none
  | inr other ↦ before i e (omega (arith, less, other)) at
]

-- memory was wanting for the name of one of which there are some
pub finds_err : (node : NodeView) (r : Result (Option (Name × ℕ)) OutOfMemory) (name : Name) → IsErr r → ¬ (HasDropped name node) → FindsOne r node
finds_err node (Ok found) name err some = cc err
finds_err node (Err e) name err some = (name, some)

pub prunes_err : (r : Result (Unit {0}) OutOfMemory) (a : PortView) → IsErr r → (name : Name) × ¬ (HasDropped name (node_in a)) → Prunes r a a
prunes_err (Ok u) a err some = cc err
prunes_err (Err e) a err some = (refl, some)

-- A PRUNE

takes_learns : (o : Option Look) (v : ProcessView) → (takes o v).node ≡ learn_some o v.node
takes_learns None v = refl
takes_learns (Some part) v = refl

-- a prune to what is to be dropped
pub drops_one : (r : Result (Unit {0}) PruneError) (name : Name) (n : ℕ) (a b : PortView) → IsSamePort a b → b.kept ≡ a.kept → IsToDrop name (node_in a) (Some n) → r ≡ pruned_on (node_in a).board name n
    → OnOk r (b.journal ≡ a.journal ++ A.Pruned name n ∷ []) → DropsOne a b
drops_one r name n a b same kept due answer ok =
    let pruned : pruned_on (node_in a).board name n ≡ Ok tt = floor_is_pruned (node_in a).board name n due.0 in
    let journal : b.journal ≡ a.journal ++ A.Pruned name n ∷ [] = subst (λ x. OnOk x (b.journal ≡ a.journal ++ A.Pruned name n ∷ [])) (answer ∙ pruned) ok in
    let v : ProcessView = process_at a.setup a.me a.journal in
    let then : node_in b ≡ (after a.setup.operations (A.Pruned name n ∷ []) v).node = (λ i. node_at (same.setup i) (same.me i) (journal i)) ∙ ap (λ (v : ProcessView). v.node) (after-append a.setup.operations a.journal (A.Pruned name n ∷ []) (at_start a.setup a.me)) in
    let is : node_in b ≡ with_prune (Some n) name (node_in a) = then ∙ ap (λ x. (drops name n x v).node) pruned ∙ takes_learns (prune_part v.node name n) v in
    let d = drops_floor name (node_in a) n due.0 in
    record { name = name; number = n; due = due; journal = journal; kept = kept; drops = subst (DropsAll name (node_in a)) (sym is) d.0; kills = subst (KillsFreed name (node_in a)) (sym is) d.1 }
