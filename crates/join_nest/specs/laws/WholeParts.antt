-- Proofs that joins in place of maps and of calls above a front take parts whole.
use Rattle.std.specs.Prelude.{◌≡◌, ℕ, ◌+◌, max, true, false, ◌&&◌, nat_le, Option, Some, None, refl}
use Rattle.std.proofs.Common.{inl, sym, ap, ◌∙◌, subst, cond, arith}
use Rattle.std.proofs.lemmas.Bool.Decides.{nat_tests}
use Rattle.std.specs.declared.cmp.Ordering.{Ordering}
use Rattle.std.specs.Ordering.{nat_cmp}
use Rattle.std.specs.Cmp.{IsTotalOrder, nat_cmp_total}
use Rattle.std.specs.FinMap.{FinMap, get, same_map, IsAntisymmetric, nat_cmp-IsAntisymmetric}
use Rattle.join_core.specs.Joins.{Joining, JoinLaws, TakesWholeParts}
use Rattle.join_core.specs.Max.{max_joining}
use Rattle.join_core.specs.laws.Cases.{first_true, second_true, yes, no, answer}
use Rattle.join_core.specs.laws.Max.{max_laws}
use Rattle.join_core.specs.laws.Between.{absorbs, old_or_joined-laws}
use Rattle.join_nest.specs.Between.{option_between, keyed_between, trunc_between}
use Rattle.join_nest.specs.Cut.{cut}
use Rattle.join_nest.specs.Keyed.{keyed_joining}
use Rattle.join_nest.specs.Optional.{option_join, option_joining}
use Rattle.join_nest.specs.Trunc.{TruncView, trunc_of, trunc_joining}
use Rattle.join_nest.specs.laws.Chosen.{chosen, get_chosen}
use Rattle.join_nest.specs.laws.Cut.{get_cut}
use Rattle.join_nest.specs.laws.Keyed.{get_join}
use Rattle.join_nest.specs.laws.Optional.{option_laws}
use Rattle.join_nest.specs.laws.Trunc.{max_from, get_trunc_join, get_dropped, same_trunc, no_call}

module _ {V : Type 0} (j : Joining V) where
  -- a join is nothing only where both are
  none_joined : (x y : Option V) → option_join j x y ≡ None → y ≡ None
  none_joined None y h = h
  none_joined (Some x) None h = refl
  none_joined (Some x) (Some y) h = cc

  both_none : (x y : Option V) → option_join j x y ≡ None → x ≡ None
  both_none None y h = refl
  both_none (Some x) None h = h
  both_none (Some x) (Some y) h = cc

module _ {V : Type 0} {j : Joining V} (p : JoinLaws j) {between : V → V → V → Type 0} (whole : (a b m : V) → between a b m → TakesWholeParts j a b m) where
  some_parts : (a b m : V) → TakesWholeParts j a b m → TakesWholeParts (option_joining j) (Some a) (Some b) (Some m)
  some_parts a b m t = record { rest = Some t.rest; completes = ap Some t.completes; apart = apart; least = least }
    where
      apart : (x : Option V) → option_join j x (Some m) ≡ Some m → option_join j x (Some t.rest) ≡ Some t.rest → option_join j x (Some a) ≡ Some a
      apart None u v = refl
      apart (Some x) u v =
          let in_both : j.join x m ≡ m = cc in
          let in_rest : j.join x t.rest ≡ t.rest = cc in
          ap Some (t.apart x in_both in_rest)

      least : (x : Option V) → option_join j (Some m) x ≡ Some (j.join a b) → option_join j (Some t.rest) (option_join j (Some a) x) ≡ option_join j (Some a) x
      least None u =
          let same : m ≡ j.join a b = cc in
          ap Some (sym (ap (j.join t.rest) (p.idempotent a)) ∙ t.least a (p.commutative m a ∙ ap (j.join a) same ∙ absorbs p a b) ∙ p.idempotent a)
      least (Some x) u =
          let same : j.join m x ≡ j.join a b = cc in
          ap Some (t.least x same)

  pub option_parts : (a b m : Option V) → option_between between a b m → TakesWholeParts (option_joining j) a b m
  option_parts None None m h = (old_or_joined-laws (option_laws p)).parts None None m (inl h)
  option_parts None (Some b) m h = (old_or_joined-laws (option_laws p)).parts None (Some b) m h
  option_parts (Some a) None m h = (old_or_joined-laws (option_laws p)).parts (Some a) None m (inl h)
  option_parts (Some a) (Some b) None h = absurd h
  option_parts (Some a) (Some b) (Some m) h = some_parts a b m (whole a b m h)

  module _ {K : Type 0} {R : K → K → Ordering} (o : IsTotalOrder R) (exact : IsAntisymmetric R) (a b m : FinMap R V) (h : keyed_between between a b m) where
    at_key : (q : K) → TakesWholeParts (option_joining j) (get a q) (get b q) (get m q)
    at_key q = option_parts (get a q) (get b q) (get m q) (h q)

    abbrev others : FinMap R V
    others = chosen (λ q. (at_key q).rest) ((keyed_joining j).join a b)

    other_at : (q : K) → get others q ≡ (at_key q).rest
    other_at q = get_chosen (λ x. (at_key x).rest) o exact ((keyed_joining j).join a b) q (λ n. none_joined j (get m q) (at_key q).rest ((at_key q).completes ∙ sym (get_join o j a b q) ∙ n))

    pub keyed_parts : TakesWholeParts (keyed_joining {R = R} j) a b m
    keyed_parts = record {
      rest = others;
      completes = same_map o exact _ _ (λ q. get_join o j m others q ∙ ap (option_join j (get m q)) (other_at q) ∙ (at_key q).completes ∙ sym (get_join o j a b q));
      apart = λ x u v. same_map o exact _ _ (λ q.
          get_join o j x a q
          ∙ (at_key q).apart (get x q)
          (sym (get_join o j x m q) ∙ ap (λ n. get n q) u)
          (ap (option_join j (get x q)) (sym (other_at q)) ∙ sym (get_join o j x others q) ∙ ap (λ n. get n q) v ∙ other_at q));
      least = λ x u. same_map o exact _ _ (λ q.
          get_join o j others ((keyed_joining j).join a x) q
          ∙ (λ i. option_join j (other_at q i) (get_join o j a x q i))
          ∙ (at_key q).least (get x q) (sym (get_join o j m x q) ∙ ap (λ n. get n q) u ∙ get_join o j a b q)
          ∙ sym (get_join o j a x q));
    }

-- FRONTS

-- where the rest has dropped a call that a has, b has
rest_dropped : (a b m r q : ℕ) → max m r ≡ max a b → nat_le a q ≡ true → nat_le r q ≡ false → nat_le b q ≡ false
rest_dropped a b m r q e t n = grind (arith, nat_tests)

-- what a has and m has dropped, the rest has
rest_has : (a b m q : ℕ) (f : TakesWholeParts max_joining a b m) → nat_le a q ≡ true → nat_le m q ≡ false → nat_le f.rest q ≡ true
rest_has a b m q f t n = elim (answer (nat_le f.rest q)) [
  | yes r ↦ r
  | no r ↦
      let in_m : max (q + 1) m ≡ m = grind (arith, nat_tests) in
      let in_rest : max (q + 1) f.rest ≡ f.rest = grind (arith, nat_tests) in
      let in_a : max (q + 1) a ≡ a = f.apart (q + 1) in_m in_rest in
      grind (arith, nat_tests)
]

lower_from : (a b q : ℕ) → max a b ≡ b → nat_le b q ≡ true → nat_le a q ≡ true
lower_from a b q e t = grind (arith, nat_tests)

other_from : (a b m x q : ℕ) → max m x ≡ max a b → nat_le m q ≡ true → nat_le x q ≡ true → nat_le b q ≡ true
other_from a b m x q e t u = grind (arith, nat_tests)

module _ {V : Type 0} where
  -- at or above a front nothing is cut
  pub cut_here : (d : ℕ) (a : FinMap nat_cmp V) (q : ℕ) → nat_le d q ≡ true → get (cut d a) q ≡ get a q
  cut_here d a q t = get_cut d a q ∙ ap (λ b. cond b (get a q) None) t

  only_old : (between : V → V → V → Type 0) (a b m : Option V) → b ≡ None → option_between between a b m → m ≡ a
  only_old between None None m e h = h
  only_old between None (Some b) m e h = cc
  only_old between (Some a) None m e h = h
  only_old between (Some a) (Some b) m e h = cc

  -- at a call that neither has dropped
  join_at : (j : Joining V) (a b : TruncView V) (q : ℕ) → nat_le a.dropped q ≡ true → nat_le b.dropped q ≡ true → get ((trunc_joining j).join a b).calls q ≡ option_join j (get a.calls q) (get b.calls q)
  join_at j a b q s t = get_trunc_join j a b q ∙ λ i. cond (s i && t i) (option_join j (get a.calls q) (get b.calls q)) None

-- CALLS ABOVE A FRONT

module _ {V : Type 0} {j : Joining V} (p : JoinLaws j) {between : V → V → V → Type 0} (whole : (a b m : V) → between a b m → TakesWholeParts j a b m) (a b m : TruncView V) (h : trunc_between between a b m) where
  fronts : TakesWholeParts max_joining a.dropped b.dropped m.dropped
  fronts = (old_or_joined-laws max_laws).parts a.dropped b.dropped m.dropped h.0

  at : (q : ℕ) → TakesWholeParts (option_joining j) (get (cut m.dropped a.calls) q) (get (cut m.dropped b.calls) q) (get m.calls q)
  at q = option_parts p whole (get (cut m.dropped a.calls) q) (get (cut m.dropped b.calls) q) (get m.calls q) (h.1 q)

  -- what the rest has at a call that it hasn't dropped
  abbrev value : ℕ → Option V
  value q = cond (nat_le m.dropped q) (at q).rest (get a.calls q)

  both_here : (q : ℕ) → nat_le m.dropped q ≡ true → option_join j (get (cut m.dropped a.calls) q) (get (cut m.dropped b.calls) q) ≡ option_join j (get a.calls q) (get b.calls q)
  both_here q t = λ i. option_join j (cut_here m.dropped a.calls q t i) (cut_here m.dropped b.calls q t i)

  no_value : (q : ℕ) → option_join j (get a.calls q) (get b.calls q) ≡ None → value q ≡ None
  no_value q n = elim (answer (nat_le m.dropped q)) [
    | yes t ↦ ap (λ s. cond s (at q).rest (get a.calls q)) t ∙ none_joined j (get m.calls q) (at q).rest ((at q).completes ∙ both_here q t ∙ n)
    | no f ↦ ap (λ s. cond s (at q).rest (get a.calls q)) f ∙ both_none j (get a.calls q) (get b.calls q) n
  ]

  abbrev values : FinMap nat_cmp V
  values = chosen value ((keyed_joining j).join a.calls b.calls)

  abbrev rest : TruncView V
  rest = trunc_of fronts.rest values

  rest_at : (q : ℕ) → nat_le fronts.rest q ≡ true → get rest.calls q ≡ value q
  rest_at q t =
      cut_here fronts.rest values q t
      ∙ get_chosen value nat_cmp_total nat_cmp-IsAntisymmetric ((keyed_joining j).join a.calls b.calls) q (λ n. no_value q (sym (get_join nat_cmp_total j a.calls b.calls q) ∙ n))

  rest_from : (q : ℕ) → nat_le fronts.rest q ≡ true → nat_le m.dropped q ≡ true → get rest.calls q ≡ (at q).rest
  rest_from q t u = rest_at q t ∙ ap (λ s. cond s (at q).rest (get a.calls q)) u

  rest_below : (q : ℕ) → nat_le fronts.rest q ≡ true → nat_le m.dropped q ≡ false → get rest.calls q ≡ get a.calls q
  rest_below q t u = rest_at q t ∙ ap (λ s. cond s (at q).rest (get a.calls q)) u

  same_fronts : (q : ℕ) → (nat_le m.dropped q && nat_le fronts.rest q) ≡ (nat_le a.dropped q && nat_le b.dropped q)
  same_fronts q = sym (max_from m.dropped fronts.rest q) ∙ ap (λ d. nat_le d q) fronts.completes ∙ max_from a.dropped b.dropped q

  completes : (trunc_joining j).join m rest ≡ (trunc_joining j).join a b
  completes = same_trunc _ _ fronts.completes (λ q. elim (answer (nat_le a.dropped q && nat_le b.dropped q)) [
    | yes t ↦
        let in_m : nat_le m.dropped q ≡ true = first_true (nat_le m.dropped q) (nat_le fronts.rest q) (same_fronts q ∙ t) in
        let in_rest : nat_le fronts.rest q ≡ true = second_true (nat_le m.dropped q) (nat_le fronts.rest q) (same_fronts q ∙ t) in
        join_at j m rest q in_m in_rest
        ∙ ap (option_join j (get m.calls q)) (rest_from q in_rest in_m)
        ∙ (at q).completes ∙ both_here q in_m
        ∙ sym (join_at j a b q (first_true (nat_le a.dropped q) (nat_le b.dropped q) t) (second_true (nat_le a.dropped q) (nat_le b.dropped q) t))
    | no n ↦
        get_trunc_join j m rest q
        ∙ ap (λ s. cond s (option_join j (get m.calls q) (get rest.calls q)) None) (same_fronts q ∙ n)
        ∙ sym (get_trunc_join j a b q ∙ ap (λ s. cond s (option_join j (get a.calls q) (get b.calls q)) None) n)
  ])

  module _ (x : TruncView V) (u : (trunc_joining j).join x m ≡ m) (v : (trunc_joining j).join x rest ≡ rest) (q : ℕ) (in_x : nat_le x.dropped q ≡ true) (in_a : nat_le a.dropped q ≡ true) where
    at_m : nat_le m.dropped q ≡ true → option_join j (get x.calls q) (get m.calls q) ≡ get m.calls q
    at_m t = sym (join_at j x m q in_x t) ∙ ap (λ w. get w.calls q) u

    at_rest : nat_le fronts.rest q ≡ true → option_join j (get x.calls q) (get rest.calls q) ≡ get rest.calls q
    at_rest t = sym (join_at j x rest q in_x t) ∙ ap (λ w. get w.calls q) v

    apart_at : option_join j (get x.calls q) (get a.calls q) ≡ get a.calls q
    apart_at = elim (answer (nat_le m.dropped q)) [
      | yes t ↦ elim (answer (nat_le fronts.rest q)) [
        | yes r ↦
            let in_rest : option_join j (get x.calls q) (at q).rest ≡ (at q).rest = subst (λ y. option_join j (get x.calls q) y ≡ y) (rest_from q r t) (at_rest r) in
            subst (λ y. option_join j (get x.calls q) y ≡ y) (cut_here m.dropped a.calls q t) ((at q).apart (get x.calls q) (at_m t) in_rest)
        | no n ↦
            let dropped : get (cut m.dropped b.calls) q ≡ None = cut_here m.dropped b.calls q t ∙ get_dropped b q (rest_dropped a.dropped b.dropped m.dropped fronts.rest q fronts.completes in_a n) in
            let same : get m.calls q ≡ get a.calls q = only_old between (get (cut m.dropped a.calls) q) (get (cut m.dropped b.calls) q) (get m.calls q) dropped (h.1 q) ∙ cut_here m.dropped a.calls q t in
            subst (λ y. option_join j (get x.calls q) y ≡ y) same (at_m t)
      ]
      | no n ↦
          let r : nat_le fronts.rest q ≡ true = rest_has a.dropped b.dropped m.dropped q fronts in_a n in
          subst (λ y. option_join j (get x.calls q) y ≡ y) (rest_below q r n) (at_rest r)
    ]

  apart : (x : TruncView V) → (trunc_joining j).join x m ≡ m → (trunc_joining j).join x rest ≡ rest → (trunc_joining j).join x a ≡ a
  apart x u v =
      let front : max x.dropped a.dropped ≡ a.dropped = fronts.apart x.dropped (ap (λ w. w.dropped) u) (ap (λ w. w.dropped) v) in
      same_trunc _ _ front (λ q. elim (answer (nat_le a.dropped q)) [
        | yes t ↦ let in_x : nat_le x.dropped q ≡ true = lower_from x.dropped a.dropped q front t in join_at j x a q in_x t ∙ apart_at x u v q in_x t
        | no n ↦ get_trunc_join j x a q ∙ no_call p x a q n ∙ sym (get_dropped a q n)
      ])

  module _ (x : TruncView V) (u : (trunc_joining j).join m x ≡ (trunc_joining j).join a b) (q : ℕ) (in_a : nat_le a.dropped q ≡ true) (in_x : nat_le x.dropped q ≡ true) (in_rest : nat_le fronts.rest q ≡ true) where
    least_at : option_join j (get rest.calls q) (option_join j (get a.calls q) (get x.calls q)) ≡ option_join j (get a.calls q) (get x.calls q)
    least_at = elim (answer (nat_le m.dropped q)) [
      | yes t ↦
          let in_b : nat_le b.dropped q ≡ true = other_from a.dropped b.dropped m.dropped x.dropped q (ap (λ w. w.dropped) u) t in_x in
          let made : option_join j (get m.calls q) (get x.calls q) ≡ option_join j (get (cut m.dropped a.calls) q) (get (cut m.dropped b.calls) q) = sym (join_at j m x q t in_x) ∙ ap (λ w. get w.calls q) u ∙ join_at j a b q in_a in_b ∙ sym (both_here q t) in
          ap (λ r. option_join j r (option_join j (get a.calls q) (get x.calls q))) (rest_from q in_rest t)
          ∙ subst (λ y. option_join j (at q).rest (option_join j y (get x.calls q)) ≡ option_join j y (get x.calls q)) (cut_here m.dropped a.calls q t) ((at q).least (get x.calls q) made)
      | no n ↦
          ap (λ r. option_join j r (option_join j (get a.calls q) (get x.calls q))) (rest_below q in_rest n)
          ∙ absorbs (option_laws p) (get a.calls q) (get x.calls q)
    ]

  least : (x : TruncView V) → (trunc_joining j).join m x ≡ (trunc_joining j).join a b → (trunc_joining j).join rest ((trunc_joining j).join a x) ≡ (trunc_joining j).join a x
  least x u =
      let front : max fronts.rest (max a.dropped x.dropped) ≡ max a.dropped x.dropped = fronts.least x.dropped (ap (λ w. w.dropped) u) in
      same_trunc _ _ front (λ q. elim (answer (nat_le (max a.dropped x.dropped) q)) [
        | yes t ↦
            let both : (nat_le a.dropped q && nat_le x.dropped q) ≡ true = sym (max_from a.dropped x.dropped q) ∙ t in
            let in_a : nat_le a.dropped q ≡ true = first_true (nat_le a.dropped q) (nat_le x.dropped q) both in
            let in_x : nat_le x.dropped q ≡ true = second_true (nat_le a.dropped q) (nat_le x.dropped q) both in
            let in_rest : nat_le fronts.rest q ≡ true = lower_from fronts.rest (max a.dropped x.dropped) q front t in
            join_at j rest ((trunc_joining j).join a x) q in_rest t
            ∙ ap (option_join j (get rest.calls q)) (join_at j a x q in_a in_x)
            ∙ least_at x u q in_a in_x in_rest
            ∙ sym (join_at j a x q in_a in_x)
        | no n ↦ get_trunc_join j rest ((trunc_joining j).join a x) q ∙ no_call p rest ((trunc_joining j).join a x) q n ∙ sym (get_dropped ((trunc_joining j).join a x) q n)
      ])

  pub trunc_parts : TakesWholeParts (trunc_joining j) a b m
  trunc_parts = record { rest = rest; completes = completes; apart = apart; least = least }
