-- Boards that were told the same facts are one board.
use Rattle.std.proofs.Common.{◌≡◌, ℕ, ◌<◌, ◌≤◌, max, true, false, ◌||◌, List, [], ◌∷◌, inl, inr, refl, sym, ◌∙◌, arith}
use Rattle.std.specs.Prelude.{◌⊎◌, nat_le}
use Rattle.std.specs.List.{fold}
use Rattle.std.proofs.lemmas.Bool.Decides.{nat_tests}
use Rattle.join_core.specs.Flat.{FlatView, unknown, flat_leq}
use Rattle.mpx_birth.specs.Births.{BirthView, same_birth}
use Rattle.mpx_post.specs.Posts.{Given}
use Rattle.mpx_name.specs.Name.{Name}
use Rattle.mpx_board.specs.Boards.{Context, Look, IsGone, gone, join, join_all, join_live, empty, Fact, Born, Held, Front, Dropped, Dead, Acknowledged, Stands, IsBoardBelow}
use Rattle.mpx_board.proofs.Facts.{IsPostUnder, IsLiveUnder, IsContextUnder, IsUnder, looks_below, facts_below, join_all_is_least, births_order, posts_order}
use Rattle.mpx_world.specs.Soundness.{AreToldBy}
use Rattle.mpx_world.proofs.Lists.{cond_cases}

-- NO POST BELOW THE DROPPED FRONT, AND NOTHING OF A DEAD CONTEXT

record IsClear (c : Context) : Type 0 where
  blank : c.dead ≡ true → c ≡ gone
  dropped : (k p : ℕ) → k < c.dropped → c.posts k p ≡ unknown

is_dropped : (d k : ℕ) → k < d → nat_le d k ≡ false
is_dropped d k l = grind (arith, nat_tests)

clear_gone : IsClear gone
clear_gone = record { blank = λ h. refl; dropped = λ k p l. refl }

clear_live : (a b : Context) → IsClear (join_live a b)
clear_live a b = record { blank = λ h. cc h; dropped = λ k p l. rw (is_dropped (max a.dropped b.dropped) k l) refl }

clear_join : (a b : Look) (name : Name) → IsClear ((join a b).contexts name)
clear_join a b name = cond_cases IsClear ((a.contexts name).dead || (b.contexts name).dead) gone (join_live (a.contexts name) (b.contexts name)) (λ h. clear_gone) (λ h. clear_live (a.contexts name) (b.contexts name))

clear_fold : (bs : List Look) (a : Look) → ((name : Name) → IsClear (a.contexts name)) → (name : Name) → IsClear ((fold join a bs).contexts name)
clear_fold [] a h = h
clear_fold (b ∷ bs) a h = clear_fold bs (join a b) (clear_join a b)

clear_all : (bs : List Look) (name : Name) → IsClear ((join_all bs).contexts name)
clear_all bs = clear_fold bs empty (λ name. record { blank = λ h. cc h; dropped = λ k p l. refl })

-- where a context is dead on what these make together, nothing else is known of it there
pub dead_blank : (bs : List Look) (name : Name) → IsGone (join_all bs) name → (join_all bs).contexts name ≡ gone
dead_blank bs name dead = (clear_all bs name).blank dead

-- TWO BOARDS, EACH BELOW THE OTHER

from_both_sides : (n m : ℕ) → n ≤ m → m ≤ n → n ≡ m
from_both_sides n m l g = omega (arith, l, g)

same_post : (d e k : ℕ) (v w : FlatView Given) → d ≡ e → IsPostUnder e k v w → IsPostUnder d k w v → (k < d → v ≡ unknown) → (k < e → w ≡ unknown) → v ≡ w
same_post d e k v w same (inr s) (inr t) f g = posts_order.antisymmetric v w s t
same_post d e k v w same (inr s) (inl low) f g = f low ∙ sym (g (omega (arith, low, same)))
same_post d e k v w same (inl low) t f g = f (omega (arith, low, same)) ∙ sym (g low)

same_live : (x y : Context) → IsLiveUnder x y → IsLiveUnder y x → IsClear x → IsClear y → x ≡ y
same_live x y s t f g i = record {
  birth = births_order.antisymmetric x.birth y.birth s.birth t.birth i;
  fronts = λ p. from_both_sides (x.fronts p) (y.fronts p) (s.fronts p) (t.fronts p) i;
  dropped = from_both_sides x.dropped y.dropped s.dropped t.dropped i;
  posts = λ k p. same_post x.dropped y.dropped k (x.posts k p) (y.posts k p) (from_both_sides x.dropped y.dropped s.dropped t.dropped) (s.posts k p) (t.posts k p) (f.dropped k p) (g.dropped k p) i;
  dead = (s.alive ∙ sym t.alive) i;
}

same_context : (x y : Context) → IsContextUnder x y → IsContextUnder y x → IsClear x → IsClear y → x ≡ y
same_context x y (inl dead) (inl also) f g = f.blank also ∙ sym (g.blank dead)
same_context x y (inl dead) (inr t) f g = let none : true ≡ false = sym dead ∙ t.alive in cc
same_context x y (inr s) (inl dead) f g = let none : true ≡ false = sym dead ∙ s.alive in cc
same_context x y (inr s) (inr t) f g = same_live x y s t f g

same_look : (a b : Look) → IsUnder a b → IsUnder b a → ((name : Name) → IsClear (a.contexts name)) → ((name : Name) → IsClear (b.contexts name)) → a ≡ b
same_look a b s t f g i = record {
  contexts = λ name. same_context (a.contexts name) (b.contexts name) (s.contexts name) (t.contexts name) (f name) (g name) i;
  acks = λ q name p. from_both_sides (a.acks q name p) (b.acks q name p) (s.acks q name p) (t.acks q name p) i;
}

-- WHAT WAS TOLD

-- what stands in a context stands in each one above that
born_stands : (v : FlatView BirthView) (x y : Context) → IsContextUnder x y → (x.dead ≡ true) ⊎ (flat_leq same_birth v x.birth ≡ true) → (y.dead ≡ true) ⊎ (flat_leq same_birth v y.birth ≡ true)
born_stands v x y (inl dead) h = inl dead
born_stands v x y (inr u) (inl dead) = let none : true ≡ false = sym dead ∙ u.alive in cc
born_stands v x y (inr u) (inr h) = inr (births_order.transitive v x.birth y.birth h u.birth)

post_stands : (k p : ℕ) (v : FlatView Given) (x y : Context) → IsLiveUnder x y → IsPostUnder x.dropped k v (x.posts k p) → IsPostUnder y.dropped k v (y.posts k p)
post_stands k p v x y u (inl low) = let l = u.dropped in inl (omega (arith, l, low))
post_stands k p v x y u (inr s) = elim (u.posts k p) [
  | inl low ↦ inl low
  | inr t ↦ inr (posts_order.transitive v (x.posts k p) (y.posts k p) s t)
]

held_stands : (k p : ℕ) (v : FlatView Given) (x y : Context) → IsContextUnder x y → (x.dead ≡ true) ⊎ IsPostUnder x.dropped k v (x.posts k p) → (y.dead ≡ true) ⊎ IsPostUnder y.dropped k v (y.posts k p)
held_stands k p v x y (inl dead) h = inl dead
held_stands k p v x y (inr u) (inl dead) = let none : true ≡ false = sym dead ∙ u.alive in cc
held_stands k p v x y (inr u) (inr h) = inr (post_stands k p v x y u h)

front_stands : (p n : ℕ) (x y : Context) → IsContextUnder x y → (x.dead ≡ true) ⊎ (n ≤ x.fronts p) → (y.dead ≡ true) ⊎ (n ≤ y.fronts p)
front_stands p n x y (inl dead) h = inl dead
front_stands p n x y (inr u) (inl dead) = let none : true ≡ false = sym dead ∙ u.alive in cc
front_stands p n x y (inr u) (inr h) = let l = u.fronts p in inr (omega (arith, l, h))

dropped_stands : (n : ℕ) (x y : Context) → IsContextUnder x y → (x.dead ≡ true) ⊎ (n ≤ x.dropped) → (y.dead ≡ true) ⊎ (n ≤ y.dropped)
dropped_stands n x y (inl dead) h = inl dead
dropped_stands n x y (inr u) (inl dead) = let none : true ≡ false = sym dead ∙ u.alive in cc
dropped_stands n x y (inr u) (inr h) = let l = u.dropped in inr (omega (arith, l, h))

-- what stands in a board stands in each one above that
stands_above : (a b : Look) → IsUnder a b → (f : Fact) → Stands a f → Stands b f
stands_above a b u (Born name v) h = born_stands v (a.contexts name) (b.contexts name) (u.contexts name) h
stands_above a b u (Held name k p v) h = held_stands k p v (a.contexts name) (b.contexts name) (u.contexts name) h
stands_above a b u (Front name p n) h = front_stands p n (a.contexts name) (b.contexts name) (u.contexts name) h
stands_above a b u (Dropped name n) h = dropped_stands n (a.contexts name) (b.contexts name) (u.contexts name) h
stands_above a b u (Dead name) h = facts_below a b u (Dead name) h
stands_above a b u (Acknowledged q name p n) h = let l = u.acks q name p in omega (arith, l, h)

joined_below : (these those : List Look) → AreToldBy these those → IsBoardBelow (join_all these) (join_all those)
joined_below these those h =
    let all = join_all_is_least those in
    (join_all_is_least these).least (join_all those) (λ i b e f has. let told = h i b e f has in
    stands_above told.board (join_all those) (looks_below told.board (join_all those) (all.above told.place told.board told.there)) f told.stands)

pub same_joined : (these those : List Look) → AreToldBy these those → AreToldBy those these → join_all these ≡ join_all those
same_joined these those h g =
    let a = join_all these in
    let b = join_all those in
    same_look a b (looks_below a b (joined_below these those h)) (looks_below b a (joined_below those these g)) (clear_all these) (clear_all those)
