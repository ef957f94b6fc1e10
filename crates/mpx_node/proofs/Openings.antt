-- Contexts that are opened, and results that are stored, in the map of opened contexts.
use Rattle.std.proofs.Common.{◌≡◌, Bool, true, false, cond, Option, Some, None, refl, sym, ap, ◌∙◌}
use Rattle.std.specs.Prelude.{not, is_some}
use Rattle.std.specs.Option.{option_map}
use Rattle.std.specs.BTreeMap.{BTreeMap, get, get_by, is_at, Updates, UpdatesBy}
use Rattle.mpx_name.specs.Order.{name_cmp}
use Rattle.mpx_name.specs.Name.{Name, same_name}
use Rattle.mpx_node.specs.declared.opened.Opened.{Opened}
use Rattle.mpx_node.specs.Nodes.{OpenedView, or_new}
use Rattle.mpx_node.specs.Opened.{opened_of, opened_by}
use Rattle.mpx_node.proofs.Nexts.{is_some-map}
use Rattle.mpx_name.proofs.Keys.{either}
use Rattle.mpx_post.proofs.Lists.{none_of}
use Rattle.mpx_node.proofs.Stepping.{same_is}

-- what is opened stays as it is
pub is_kept : (x : Option OpenedView) → is_some x ≡ true → Some (or_new x) ≡ x
is_kept None t = cc t
is_kept (Some o) t = refl

kept_where : (b : Bool) (x : Option OpenedView) → (b ≡ true → is_some x ≡ true) → x ≡ cond b (Some (or_new x)) x
kept_where true x h = sym (is_kept x (h refl))
kept_where false x h = refl

new_where : (b : Bool) (x : Option OpenedView) (o : OpenedView) → (b ≡ true → x ≡ None) → o ≡ or_new None → cond b (Some o) x ≡ cond b (Some (or_new x)) x
new_where true x o h e = ap Some (e ∙ ap or_new (sym (h refl)))
new_where false x o h e = refl

map_cond : {A B : Type 0} (f : A → B) (b : Bool) (x o : Option A) → option_map f (cond b x o) ≡ cond b (option_map f x) (option_map f o)
map_cond f true x o = refl
map_cond f false x o = refl

module _ (m : BTreeMap Name Opened) (name : Name) where
  at_name : (q : Name) → same_name q name ≡ true → opened_by m q ≡ opened_by m name
  at_name q t = ap (opened_by m) (same_is q name (sym (either q name) ∙ t))

  -- where it is open, nothing changes
  pub open_already : is_some (get_by (name_cmp name) m) ≡ true → (q : Name) → opened_by m q ≡ cond (same_name q name) (Some (or_new (opened_by m q))) (opened_by m q)
  open_already t q = kept_where (same_name q name) (opened_by m q) (λ s. ap is_some (at_name q s) ∙ is_some-map opened_of (get name_cmp m name) ∙ t)

  -- else it comes in
  pub open_new : (n : BTreeMap Name Opened) (o : Opened) → is_some (get_by (name_cmp name) m) ≡ false → opened_of o ≡ or_new None → Updates name_cmp m n name (Some o) → (q : Name) → opened_by n q ≡ cond (same_name q name) (Some (or_new (opened_by m q))) (opened_by m q)
  open_new n o f e u q =
      ap (option_map opened_of) (u.0 q)
      ∙ map_cond opened_of (is_at (name_cmp name) q) (Some o) (get name_cmp m q)
      ∙ ap (λ b. cond b (Some (opened_of o)) (opened_by m q)) (sym (either q name))
      ∙ new_where (same_name q name) (opened_by m q) (opened_of o) (λ s. at_name q s ∙ none_of (opened_by m name) (is_some-map opened_of (get name_cmp m name) ∙ f)) e

-- BACK

closed : (b : Bool) (x : Option OpenedView) → (b ≡ true → x ≡ None) → cond b None (cond b (Some (or_new x)) x) ≡ x
closed true x h = sym (h refl)
closed false x h = refl

not_some : {A : Type 0} (o : Option A) → true ≡ not (is_some o) → o ≡ None
not_some None e = refl
not_some (Some x) e = cc e

is_there : {A : Type 0} (o : Option A) → false ≡ not (is_some o) → is_some o ≡ true
is_there None e = cc e
is_there (Some x) e = refl

module _ (m mid : BTreeMap Name Opened) (name : Name) (opened : (q : Name) → opened_by mid q ≡ cond (same_name q name) (Some (or_new (opened_by m q))) (opened_by m q)) where
  -- what was opened for a while is closed
  pub closed_again : (n : BTreeMap Name Opened) → true ≡ not (is_some (opened_by m name)) → UpdatesBy name_cmp (name_cmp name) mid n None → (q : Name) → opened_by n q ≡ opened_by m q
  closed_again n new u q =
      ap (option_map opened_of) (u.0 q)
      ∙ map_cond opened_of (is_at (name_cmp name) q) None (get name_cmp mid q)
      ∙ ap (λ b. cond b None (opened_by mid q)) (sym (either q name))
      ∙ ap (cond (same_name q name) None) (opened q)
      ∙ closed (same_name q name) (opened_by m q) (λ s. at_name m name q s ∙ not_some (opened_by m name) new)

  -- what was open before is as it was
  pub open_before : false ≡ not (is_some (opened_by m name)) → (q : Name) → opened_by mid q ≡ opened_by m q
  open_before old q = opened q ∙ sym (kept_where (same_name q name) (opened_by m q) (λ s. ap is_some (at_name m name q s) ∙ is_there (opened_by m name) old))
