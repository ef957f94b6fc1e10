-- The contexts on which two processes have both finished calls.
use Rattle.std.proofs.Common.{◌≡◌, ℕ, zero, suc, ◌<◌, ◌≤◌, ◌⊎◌, ◌^◌, ◌-◌, min, Bool, true, false, cond, List, [], ◌∷◌, length, map, take, sum, None, Some, inl, inr, refl, sym, ap, ◌∙◌, subst, arith}
use Rattle.std.specs.Prelude.{slice_get}
use Rattle.std.specs.FinMap.{get-entries, entries}
use Rattle.std.specs.FinMap.Entries.{find, is_sorted, below_all}
use Rattle.std.specs.Ordering.{is_lt, is_eq, eq_by_cmp}
use Rattle.std.specs.Cmp.{tied_itself}
use Rattle.std.specs.declared.cmp.Ordering.{Ordering}
use Rattle.std.specs.declared.cmp.Ordering.TheVariants.{Less, Equal, Greater}
use Rattle.std.proofs.lemmas.List.{take_all}
use Rattle.std.proofs.lemmas.Option.{same_Some}
use Rattle.mpx_name.specs.Name.{Name}
use Rattle.mpx_name.specs.Order.{name_cmp, name_total, name_exact}
use Rattle.join_nest.specs.Seen.{seen}
use Rattle.mpx_board.specs.Boards.{Context, Look}
use Rattle.mpx_board.specs.Contexts.{look_of, or_nothing}
use Rattle.mpx_board.specs.Parts.{LiftedView, PartsView}
use Rattle.mpx_node.specs.Nodes.{NodeView, front_on}
use Rattle.mpx_world.proofs.Lists.{both_true}
use Rattle.mpx_bus.specs.Finished.{finished_by_both, AreApart, BothHaveFinished, TellsFronts}

module _ {V : Type 0} where
  abbrev pub keys : List (Name × V) → List Name
  keys es = map (λ e. e.0) es

  -- a name that is below all keys is none of them
  apart_below : (name : Name) (es : List (Name × V)) → below_all name_cmp name es ≡ true → (i : ℕ) → slice_get (keys es) i ≡ Some name → ⊥
  apart_below name [] h i e = cc e
  apart_below name (x ∷ es) h zero e =
      let tied : name_cmp name x.0 ≡ Equal = ap (name_cmp name) (same_Some x.0 name e) ∙ tied_itself name_total name in
      let f : false ≡ true = sym (ap is_lt tied) ∙ (both_true (is_lt (name_cmp name x.0)) (below_all name_cmp name es) h).0 in
      cc f
  apart_below name (x ∷ es) h (suc i) e = apart_below name es (both_true (is_lt (name_cmp name x.0)) (below_all name_cmp name es) h).1 i e

  -- so keys that strictly rise are apart
  pub keys_apart : (es : List (Name × V)) → is_sorted name_cmp es ≡ true → AreApart (keys es)
  keys_apart [] h = tt
  keys_apart (x ∷ es) h = let b = both_true (below_all name_cmp x.0 es) (is_sorted name_cmp es) h in (apart_below x.0 es b.0, keys_apart es b.1)

is_tied : (r : Ordering) → is_eq r ≡ true → r ≡ Equal
is_tied Less e = cc e
is_tied Equal e = refl
is_tied Greater e = cc e

none_below : (n : ℕ) → n < 0 → ⊥
none_below n lt = omega (arith, lt)

-- something is told of the context: calls that the process has harvested, or that it is dead
abbrev pub IsSaid : Context → (process : ℕ) → Type 0
IsSaid c p = (c.dead ≡ true) ⊎ (0 < c.fronts p)

none_said : (p : ℕ) (A : Type 0) → IsSaid (or_nothing None) p → A
none_said p A (inl dead) = cc dead
none_said p A (inr lt) = absurd (none_below 0 lt)

-- such a context has an entry
pub key_found : (name : Name) (es : List (Name × LiftedView)) (p : ℕ) → IsSaid (or_nothing (find name_cmp name es)) p → (i : ℕ) × (slice_get (keys es) i ≡ Some name)
key_found name [] p said = none_said p ((i : ℕ) × (slice_get (keys {V = LiftedView} []) i ≡ Some name)) said
key_found name (x ∷ es) p said = by (eq_by_cmp name_cmp name x.0) refl said (λ l. key_found name es p l) where
  by : (b : Bool) → eq_by_cmp name_cmp name x.0 ≡ b → IsSaid (or_nothing (cond b (Some x.1) (find name_cmp name es))) p
      → (IsSaid (or_nothing (find name_cmp name es)) p → (i : ℕ) × (slice_get (keys es) i ≡ Some name)) → (i : ℕ) × (slice_get (keys (x ∷ es)) i ≡ Some name)
  by true t l rest = (zero, ap Some (sym (name_exact name x.0 (is_tied (name_cmp name x.0) t))))
  by false t l rest = let r = rest l in (suc r.0, r.1)

keys_seen : {V W : Type 0} (view : V → W) (es : List (Name × V)) → keys (seen view es) ≡ keys es
keys_seen view [] = refl
keys_seen view (e ∷ es) = ap (λ ks. e.0 ∷ ks) (keys_seen view es)

said_in : (parts : PartsView) (name : Name) → (look_of parts).contexts name ≡ or_nothing (find name_cmp name (entries parts.0))
unfolding look_of
said_in parts name = ap or_nothing (get-entries parts.0 name)

less_is_some : (k l n : ℕ) → 0 < min k l → k ≤ n → 0 < n
less_is_some k l n lt le = omega (arith, lt, le)

some_said : (c : Context) (p k l : ℕ) → 0 < min k l → (c.dead ≡ true) ⊎ (k ≤ c.fronts p) → IsSaid c p
some_said c p k l lt (inl dead) = inl dead
some_said c p k l lt (inr le) = inr (less_is_some k l (c.fronts p) lt le)

-- the count over all contexts of which the first's board knows
pub have_finished : {V : Type 0} (view : V → LiftedView) (a b : NodeView) (parts : PartsView) (es : List (Name × V)) (count : ℕ) → a.board ≡ look_of parts → seen view es ≡ entries parts.0 → is_sorted name_cmp es ≡ true
    → TellsFronts a → count ≡ min (2 ^ 64 - 1) (sum (map (finished_by_both a b) (keys es))) → BothHaveFinished a b count
have_finished view a b parts es count board is rises tells counted = record {
  names = keys es;
  apart = keys_apart es rises;
  whole = λ name lt.
      let said : IsSaid (a.board.contexts name) a.me = some_said (a.board.contexts name) a.me (front_on a name) (front_on b name) lt (tells name) in
      let same : a.board.contexts name ≡ or_nothing (find name_cmp name (seen view es)) =
      ap (λ (x : Look). x.contexts name) board ∙ said_in parts name ∙ ap (λ xs. or_nothing (find name_cmp name xs)) (sym is) in
      let found = key_found name (seen view es) a.me (subst (λ (c : Context). IsSaid c a.me) same said) in
      (found.0, ap (λ ks. slice_get ks found.0) (sym (keys_seen view es)) ∙ found.1);
  counted = counted;
}

-- ONE CONTEXT MORE

pub whole_count : {V : Type 0} (f : Name → ℕ) (es : List (Name × V)) (i : ℕ) (count : ℕ) → length es ≤ i → count ≡ min (2 ^ 64 - 1) (sum (map f (keys (take i es)))) → count ≡ min (2 ^ 64 - 1) (sum (map f (keys es)))
whole_count f es i count le e = e ∙ ap (λ xs. min (2 ^ 64 - 1) (sum (map f (keys xs)))) (take_all i es le)
