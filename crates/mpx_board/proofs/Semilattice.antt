-- Joining what boards show is commutative, associative and idempotent.
use Rattle.std.proofs.Common.{◌≡◌, ℕ, ◌<◌, ◌&&◌, ◌||◌, max, Bool, true, false, cond, refl, sym, ◌∙◌, subst, arith}
use Rattle.std.specs.Prelude.{nat_le}
use Rattle.std.proofs.lemmas.Bool.Decides.{nat_tests}
use Rattle.join_core.specs.laws.Cases.{yes, no, answer}
use Rattle.join_core.specs.Flat.{FlatView, unknown, flat_join}
use Rattle.join_core.specs.laws.Flat.{flat_laws}
use Rattle.mpx_birth.specs.Births.{birth_equality}
use Rattle.mpx_name.specs.Name.{Name}
use Rattle.mpx_post.specs.Posts.{Given}
use Rattle.mpx_post.specs.Equality.{same_given, given_equality}
use Rattle.mpx_board.specs.Boards.{Context, Look, IsShown, empty, gone, join, join_contexts, join_live}
use Rattle.mpx_board.specs.Contexts.{look_of}
use Rattle.mpx_board.specs.Parts.{PartsView}
use Rattle.mpx_board.proofs.Looking.{from_greater, join-empty}
use Rattle.mpx_board.proofs.Telling.{joins_gone_second}

max_commutes : (n m : ℕ) → max n m ≡ max m n
max_commutes n m = omega arith

max_associates : (n m o : ℕ) → max (max n m) o ≡ max n (max m o)
max_associates n m o = omega arith

max_itself : (n : ℕ) → max n n ≡ n
max_itself n = omega arith

-- COMMUTATIVE

live_commutes : (a b : Context) → join_live a b ≡ join_live b a
live_commutes a b i = record {
  birth = (flat_laws birth_equality).commutative a.birth b.birth i;
  fronts = λ p. max_commutes (a.fronts p) (b.fronts p) i;
  dropped = max_commutes a.dropped b.dropped i;
  posts = λ k p. cond (nat_le (max_commutes a.dropped b.dropped i) k) ((flat_laws given_equality).commutative (a.posts k p) (b.posts k p) i) unknown;
  dead = false;
}

joins_gone_first : (a b : Context) → a.dead ≡ true → join_contexts a b ≡ gone
joins_gone_first a b is = rw is refl

contexts_commute : (a b : Context) → join_contexts a b ≡ join_contexts b a
contexts_commute a b = elim (answer a.dead) [
  | yes t ↦ joins_gone_first a b t ∙ sym (joins_gone_second b a t)
  | no n ↦ elim (answer b.dead) [
    | yes u ↦ joins_gone_second a b u ∙ sym (joins_gone_first b a u)
    | no m ↦ rw (n, m) (live_commutes a b)
  ]
]

pub joins_commute : (a b : Look) → join a b ≡ join b a
joins_commute a b i = record {
  contexts = λ name. contexts_commute (a.contexts name) (b.contexts name) i;
  acks = λ q name p. max_commutes (a.acks q name p) (b.acks q name p) i;
}

-- ASSOCIATIVE

kept_associate : (x y z : Bool) (u v w : FlatView Given) → cond ((x && y) && z) (flat_join same_given (cond (x && y) (flat_join same_given u v) unknown) w) unknown ≡ cond (x && (y && z)) (flat_join same_given u (cond (y && z) (flat_join same_given v w) unknown)) unknown
kept_associate true true true u v w = (flat_laws given_equality).associative u v w
kept_associate true true false u v w = refl
kept_associate true false z u v w = refl
kept_associate false y z u v w = refl

posts_associate : (a b c : Context) (k p : ℕ) → (join_live (join_live a b) c).posts k p ≡ (join_live a (join_live b c)).posts k p
posts_associate a b c k p =
    rw (from_greater (max a.dropped b.dropped) c.dropped k, from_greater a.dropped b.dropped k, from_greater a.dropped (max b.dropped c.dropped) k, from_greater b.dropped c.dropped k)
    (kept_associate (nat_le a.dropped k) (nat_le b.dropped k) (nat_le c.dropped k) (a.posts k p) (b.posts k p) (c.posts k p))

live_associate : (a b c : Context) → join_live (join_live a b) c ≡ join_live a (join_live b c)
live_associate a b c i = record {
  birth = (flat_laws birth_equality).associative a.birth b.birth c.birth i;
  fronts = λ p. max_associates (a.fronts p) (b.fronts p) (c.fronts p) i;
  dropped = max_associates a.dropped b.dropped c.dropped i;
  posts = λ k p. posts_associate a b c k p i;
  dead = false;
}

contexts_associate : (a b c : Context) → join_contexts (join_contexts a b) c ≡ join_contexts a (join_contexts b c)
contexts_associate a b c = elim (answer a.dead) [
  | yes t ↦ rw t refl
  | no n ↦ elim (answer b.dead) [
    | yes u ↦ rw (n, u) refl
    | no m ↦ elim (answer c.dead) [
      | yes v ↦ rw (n, m, v) refl
      | no l ↦ rw (n, m, l) (live_associate a b c)
    ]
  ]
]

pub joins_associate : (a b c : Look) → join (join a b) c ≡ join a (join b c)
joins_associate a b c i = record {
  contexts = λ name. contexts_associate (a.contexts name) (b.contexts name) (c.contexts name) i;
  acks = λ q name p. max_associates (a.acks q name p) (b.acks q name p) (c.acks q name p) i;
}

-- WHAT BOARDS SHOW

pub empty_is_shown : IsShown empty
empty_is_shown = record { buried = λ name dead. cc dead; cut = λ name k p below. refl }

not_from : (d k : ℕ) → k < d → nat_le d k ≡ false
not_from d k below = grind (arith, nat_tests)

pub join_is_shown : (a b : Look) → IsShown (join a b)
join_is_shown a b = record {
  buried = λ name. buried (a.contexts name) (b.contexts name);
  cut = λ name. cut (a.contexts name) (b.contexts name);
} where
  buried : (x y : Context) → (join_contexts x y).dead ≡ true → join_contexts x y ≡ gone
  buried x y = elim (answer (x.dead || y.dead)) [
    | yes t ↦ rw t (λ dead. refl)
    | no n ↦ rw n (λ dead. cc dead)
  ]

  cut : (x y : Context) (k p : ℕ) → k < (join_contexts x y).dropped → (join_contexts x y).posts k p ≡ unknown
  cut x y k p = elim (answer (x.dead || y.dead)) [
    | yes t ↦ rw t (λ below. refl)
    | no n ↦ rw n (λ below. rw (not_from (max x.dropped y.dropped) k below) refl)
  ]

pub board_is_shown : (a : PartsView) → IsShown (look_of a)
board_is_shown a = subst IsShown (join-empty a) (join_is_shown empty (look_of a))

-- IDEMPOTENT

pub joins_itself : (a : Look) → IsShown a → join a a ≡ a
joins_itself a is i = record {
  contexts = λ name. context_itself (a.contexts name) (is.buried name) (is.cut name) i;
  acks = λ q name p. max_itself (a.acks q name p) i;
} where
  post_itself : (x : Context) → ((k p : ℕ) → k < x.dropped → x.posts k p ≡ unknown) → (k p : ℕ) → (join_live x x).posts k p ≡ x.posts k p
  post_itself x cut k p = elim (answer (nat_le x.dropped k)) [
    | yes t ↦ rw (max_itself x.dropped, t) ((flat_laws given_equality).idempotent (x.posts k p))
    | no n ↦ rw (max_itself x.dropped, n) (sym (cut k p (below x.dropped k n)))
  ] where
    below : (d k : ℕ) → nat_le d k ≡ false → k < d
    below d k n = grind (arith, nat_tests)

  live_itself : (x : Context) → x.dead ≡ false → ((k p : ℕ) → k < x.dropped → x.posts k p ≡ unknown) → join_live x x ≡ x
  live_itself x alive cut i = record {
    birth = (flat_laws birth_equality).idempotent x.birth i;
    fronts = λ p. max_itself (x.fronts p) i;
    dropped = max_itself x.dropped i;
    posts = λ k p. post_itself x cut k p i;
    dead = sym alive i;
  }

  context_itself : (x : Context) → (x.dead ≡ true → x ≡ gone) → ((k p : ℕ) → k < x.dropped → x.posts k p ≡ unknown) → join_contexts x x ≡ x
  context_itself x buried cut = elim (answer x.dead) [
    | yes t ↦ joins_gone_second x x t ∙ sym (buried t)
    | no n ↦ alive x n ∙ live_itself x n cut
  ] where
    alive : (x : Context) → x.dead ≡ false → join_contexts x x ≡ join_live x x
    alive x n = rw n refl
