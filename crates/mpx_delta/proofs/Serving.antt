-- A board without posts serves each board in which those stand.
use Rattle.std.proofs.Common.{◌≡◌, ◌≢◌, ◌||◌, ℕ, ◌<◌, max, Bool, true, false, cond, ◌⊎◌, inl, inr, refl, sym, ap, ◌∙◌, arith}
use Rattle.std.specs.Prelude.{nat_le, nat_lt}
use Rattle.std.proofs.lemmas.Bool.Decides.{nat_tests}
use Rattle.join_core.specs.Flat.{FlatView, unknown, known, clash, flat_join, flat_leq}
use Rattle.join_core.specs.laws.Flat.{flat_laws, join_unknown}
use Rattle.mpx_name.specs.Name.{Name}
use Rattle.mpx_post.specs.Posts.{Given}
use Rattle.mpx_post.specs.Equality.{same_given, given_equality}
use Rattle.mpx_birth.specs.Births.{birth_equality}
use Rattle.mpx_board.specs.Boards.{Context, Look, gone, join, join_contexts, join_live}
use Rattle.mpx_digest.specs.Digest.{Numbers}
use Rattle.mpx_delta.specs.Digests.{Covers, without, without_posts}

-- what stands adds nothing
above : (d k : ℕ) (v w : FlatView Given) → (k < d) ⊎ (flat_leq same_given v w ≡ true) → nat_le d k ≡ true → flat_join same_given w unknown ≡ flat_join same_given v w
above d k v w (inl lt) t = absurd (grind (arith, nat_tests))
above d k v w (inr le) t = join_unknown same_given w ∙ sym ((flat_laws given_equality).leq_sound v w le)

told : (da db k : ℕ) (u w : FlatView Given) → (u ≢ unknown → (k < db) ⊎ (flat_leq same_given u w ≡ true)) → nat_le (max da db) k ≡ true → flat_join same_given w unknown ≡ flat_join same_given u w
told da db k unknown w stands t = join_unknown same_given w
told da db k (known x) w stands t = above db k (known x) w (stands (λ n. cc)) (grind (arith, nat_tests, t))
told da db k clash w stands t = above db k clash w (stands (λ n. cc)) (grind (arith, nat_tests, t))

either : (da db k : ℕ) (below : Bool) (v w : FlatView Given) → (below ≡ true → v ≢ unknown → (k < db) ⊎ (flat_leq same_given v w ≡ true)) → nat_le (max da db) k ≡ true → flat_join same_given w (cond below unknown v) ≡ flat_join same_given v w
either da db k false v w stands t = (flat_laws given_equality).commutative w v
either da db k true v w stands t = told da db k v w (stands refl) t

where_kept : (t : Bool) (v w : FlatView Given) → (t ≡ true → v ≡ w) → cond t v unknown ≡ cond t w unknown
where_kept true v w h = h refl
where_kept false v w h = refl

one_post : (da db k : ℕ) (below : Bool) (v w : FlatView Given) → (below ≡ true → v ≢ unknown → (k < db) ⊎ (flat_leq same_given v w ≡ true))
    → cond (nat_le (max db da) k) (flat_join same_given w (cond below unknown v)) unknown ≡ cond (nat_le (max da db) k) (flat_join same_given v w) unknown
one_post da db k below v w stands = ap (λ d. cond (nat_le d k) (flat_join same_given w (cond below unknown v)) unknown) (swap db da) ∙ where_kept (nat_le (max da db) k) _ _ (either da db k below v w stands) where
  swap : (n m : ℕ) → max n m ≡ max m n
  swap n m = omega arith

-- dead on either side is dead, whichever side is told of the other
either_way : (s t : Bool) (x y : Context) → (s ≡ false → x ≡ y) → cond (s || t) gone x ≡ cond (t || s) gone y
either_way true true x y h = refl
either_way true false x y h = refl
either_way false true x y h = refl
either_way false false x y h = h refl

-- what stands elsewhere than in a dead context
alive : {A : Type 0} (b : Bool) → b ≡ false → (b ≡ true) ⊎ A → A
alive b n (inl t) = let no : true ≡ false = sym t ∙ n in cc
alive b n (inr h) = h

pub delta_serves : (d : Numbers) (a b : Look) → Covers d b a → join b (without d a) ≡ join a b
delta_serves d a b covers i = record {
  contexts = λ name. one_context name i;
  acks = λ q name p. swap (b.acks q name p) (a.acks q name p) i;
} where
  swap : (n m : ℕ) → max n m ≡ max m n
  swap n m = omega arith

  lower : (k n : ℕ) → nat_lt k n ≡ true → k < n
  lower k n t = grind (arith, nat_tests)

  stands : (name : Name) → (b.contexts name).dead ≡ false → (k p : ℕ) → nat_lt k (d name p) ≡ true → (a.contexts name).posts k p ≢ unknown → (k < (b.contexts name).dropped) ⊎ (flat_leq same_given ((a.contexts name).posts k p) ((b.contexts name).posts k p) ≡ true)
  stands name n k p t some = alive (b.contexts name).dead n (covers name k p ((a.contexts name).posts k p) (lower k (d name p) t) (some, refl))

  live_context : (name : Name) → (b.contexts name).dead ≡ false → join_live (b.contexts name) (without_posts (d name) (a.contexts name)) ≡ join_live (a.contexts name) (b.contexts name)
  live_context name n j = record {
    birth = (flat_laws birth_equality).commutative (b.contexts name).birth (a.contexts name).birth j;
    fronts = λ p. swap ((b.contexts name).fronts p) ((a.contexts name).fronts p) j;
    dropped = swap (b.contexts name).dropped (a.contexts name).dropped j;
    posts = λ k p. one_post (a.contexts name).dropped (b.contexts name).dropped k (nat_lt k (d name p)) ((a.contexts name).posts k p) ((b.contexts name).posts k p) (stands name n k p) j;
    dead = false;
  }

  one_context : (name : Name) → join_contexts (b.contexts name) (without_posts (d name) (a.contexts name)) ≡ join_contexts (a.contexts name) (b.contexts name)
  one_context name = either_way (b.contexts name).dead (a.contexts name).dead (join_live (b.contexts name) (without_posts (d name) (a.contexts name))) (join_live (a.contexts name) (b.contexts name)) (live_context name)
