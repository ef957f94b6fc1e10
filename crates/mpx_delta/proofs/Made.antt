-- Each piece says just what it is made of.
use Rattle.std.proofs.Common.{◌≡◌, ◌≤◌, ◌<◌, ℕ, Bool, true, false, List, [], ◌∷◌, length, refl, sym, ap, ◌∙◌, subst, arith, nat_eq, nat_lt}
use Rattle.std.specs.Prelude.{All, not, ◌&&◌, ◌||◌, MatchOption, Option, Some, None}
use Rattle.std.specs.Option.{IsSome}
use Rattle.std.specs.List.{list_all}
use Rattle.std.proofs.lemmas.Bool.Decides.{nat_tests}
use Rattle.std.proofs.lemmas.List.Elements.{All-nil, All-cons, All-head}
use Rattle.std.specs.declared.cmp.Ordering.{Ordering}
use Rattle.std.specs.Ordering.{nat_cmp}
use Rattle.std.specs.FinMap.{FinMap, empty, entries, from_sorted, entries-from_sorted, len, len-entries, len-empty}
use Rattle.std.proofs.lemmas.List.{nil_from_length}
use Rattle.std.proofs.lemmas.Option.{same_Some}
use Rattle.join_core.specs.Flat.{FlatView, unknown}
use Rattle.join_core.specs.laws.Cases.{both_true, first_true}
use Rattle.join_nest.specs.Lift.{live}
use Rattle.mpx_name.specs.Name.{Name}
use Rattle.mpx_name.specs.Order.{name_cmp}
use Rattle.mpx_post.specs.Drafts.{most_calls}
use Rattle.mpx_post.specs.Posts.{Given}
use Rattle.mpx_board.specs.Boards.{Fact, Born, Held, Front, Dropped, Has, Stands}
use Rattle.mpx_board.specs.Looks.{parts_of}
use Rattle.mpx_board.specs.declared.board.Board.{Board}
use Rattle.mpx_board.specs.Parts.{OfProcesses, CallView, EntryView, LiftedView, AcksView, PartsView}
use Rattle.mpx_board.specs.Tidy.{is_unknown, is_bare, all_entries, has_no_zero, are_tidy_posts, is_tidy_call, says_nothing, is_neat_entry, is_tidy_entry, is_tidy_lifted, are_tidy_entries, is_tidy_numbers, is_tidy_acks, are_tidy_acks, is_tidy}
use Rattle.mpx_format.specs.Encoding.{length_told}
use Rattle.mpx_delta.specs.Facts.{SaysPost, SaysCall, SaysHead, SaysEntry, SaysLifted, SaysNumbers, SaysAcks, SaysParts}
use Rattle.mpx_delta.specs.Pieces.{IsPiece, has_head, most_of_piece}
use Rattle.mpx_delta.proofs.FactsSaid.{all_said, said_all}

-- MAPS OF ONE ENTRY, AND OF NONE

module _ {K V : Type 0} (R : K → K → Ordering) where
  pub one_entry : (m : FinMap R V) (k : K) (v : V) → m ≡ from_sorted ((k, v) ∷ []) → entries m ≡ (k, v) ∷ []
  one_entry m k v is = ap entries is ∙ entries-from_sorted R ((k, v) ∷ []) tt

  pub no_entry : (m : FinMap R V) → m ≡ empty → entries m ≡ []
  no_entry m is = nil_from_length (entries m) (sym (len-entries m) ∙ ap len is ∙ len-empty R V)

  len_one : (m : FinMap R V) (e : K × V) → entries m ≡ e ∷ [] → len m ≡ 1
  len_one m e is = len-entries m ∙ ap length is

All-one : {X : Type 0} (Q : X → Type 0) (x : X) (xs : List X) → xs ≡ x ∷ [] → Q x → All Q xs
All-one Q x xs is h = subst (All Q) (sym is) (All-cons Q x [] h (All-nil Q))

pub All-none : {X : Type 0} (Q : X → Type 0) (xs : List X) → xs ≡ [] → All Q xs
All-none Q xs is = subst (All Q) (sym is) (All-nil Q)

one-All : {X : Type 0} (Q : X → Type 0) (x : X) (xs : List X) → xs ≡ x ∷ [] → All Q xs → Q x
one-All Q x xs is all = All-head Q x [] (subst (All Q) is all)

all_one : {X : Type 0} (p : X → Bool) (x : X) (xs : List X) → xs ≡ x ∷ [] → p x ≡ true → list_all p xs ≡ true
all_one p x xs is h = ap (list_all p) is ∙ both_true (p x) true h refl

pub all_none : {X : Type 0} (p : X → Bool) (xs : List X) → xs ≡ [] → list_all p xs ≡ true
all_none p xs is = ap (list_all p) is

-- one context, and no acknowledgement
pub record IsContext (name : Name) (l : LiftedView) (v : PartsView) : Type 0 where
  pub context : entries v.0 ≡ (name, l) ∷ []
  pub acks : entries v.1 ≡ []

pub is_context : (name : Name) (l : LiftedView) (v : PartsView) → v ≡ (from_sorted ((name, l) ∷ []), empty) → IsContext name l v
is_context name l v is = record { context = one_entry name_cmp v.0 name l (ap (λ x. x.0) is); acks = no_entry nat_cmp v.1 (ap (λ x. x.1) is) }

module _ (name : Name) (l : LiftedView) (v : PartsView) (of : IsContext name l v) where
  pub context_tidy : is_tidy_lifted l ≡ true → is_tidy v ≡ true
  context_tidy h = both_true (are_tidy_entries v.0) (are_tidy_acks v.1) (all_one (λ x. is_tidy_lifted x.1) (name, l) (entries v.0) of.context h) (all_none (λ x. is_tidy_acks x.1) (entries v.1) of.acks)

  pub context_says : (P : Fact → Type 0) → SaysLifted P (name, l) → SaysParts P v
  context_says P h = record { contexts = All-one (SaysLifted P) (name, l) (entries v.0) of.context h; acks = All-none (SaysAcks P) (entries v.1) of.acks }

  pub says_context : (P : Fact → Type 0) → SaysParts P v → SaysLifted P (name, l)
  says_context P h = one-All (SaysLifted P) (name, l) (entries v.0) of.context h.contexts

-- a piece that says S
pub is_piece : (S : (Fact → Type 0) → Type 0) (b : Board) → ((P : Fact → Type 0) → SaysParts P (parts_of b) → S P) → ((P : Fact → Type 0) → S P → SaysParts P (parts_of b)) → length_told (parts_of b) ≤ most_of_piece → IsPiece S b
is_piece S b to from fits = record {
  covers = λ d below. to (Stands d) (said_all (Stands d) (parts_of b) b.tidy below);
  only = λ w says. all_said (Has w) (parts_of b) (from (Has w) says);
  fits = fits;
}

-- POSTS

-- one post of one call
pub record IsPosted (k p : ℕ) (w : FlatView Given) (e : EntryView) : Type 0 where
  pub birth : e.0 ≡ unknown
  pub fronts : entries e.1.0 ≡ []
  pub dropped : e.1.1.dropped ≡ 0
  pub posts : CallView
  pub call : entries e.1.1.calls ≡ (k, posts) ∷ []
  pub post : entries posts ≡ (p, w) ∷ []

pub is_posted : (k p : ℕ) (w u : FlatView Given) (e : EntryView) (c : CallView) → e.0 ≡ unknown → e.1.0 ≡ empty → e.1.1.dropped ≡ 0 → e.1.1.calls ≡ from_sorted ((k, c) ∷ []) → c ≡ from_sorted ((p, u) ∷ []) → u ≡ w → IsPosted k p w e
is_posted k p w u e c birth fronts dropped calls posts same = record {
  birth = birth;
  fronts = no_entry nat_cmp e.1.0 fronts;
  dropped = dropped;
  posts = c;
  call = one_entry nat_cmp e.1.1.calls k c calls;
  post = one_entry nat_cmp c p u posts ∙ ap (λ x. (p, x) ∷ []) same;
}

lower : (k n : ℕ) → k < n → nat_lt k n ≡ true
lower k n lt = grind (arith, nat_tests)

not_bare : (n : ℕ) → n ≡ 1 → not (nat_eq n 0) ≡ true
not_bare n is = ap (λ x. not (nat_eq x 0)) is

unsaid : (b c d e : Bool) → e ≡ false → not (b && (c && (d && e))) ≡ true
unsaid false c d e is = refl
unsaid true false d e is = refl
unsaid true true false e is = refl
unsaid true true true e is = ap not is

module _ (name : Name) (k p : ℕ) (w : FlatView Given) (e : EntryView) (of : IsPosted k p w e) where
  pub posted_tidy : k < most_calls → is_unknown w ≡ false → is_tidy_entry e ≡ true
  posted_tidy lt told =
      both_true (not (says_nothing e)) (is_neat_entry e)
      (unsaid (is_unknown e.0) (is_bare e.1.0) (not (nat_lt 0 e.1.1.dropped)) (is_bare e.1.1.calls) (ap (λ n. nat_eq n 0) (len_one nat_cmp e.1.1.calls (k, of.posts) of.call)))
      (both_true (has_no_zero e.1.0) (all_entries is_tidy_call e.1.1.calls) (all_none (λ x. nat_lt 0 x.1) (entries e.1.0) of.fronts)
      (all_one (λ x. is_tidy_call x.0 x.1) (k, of.posts) (entries e.1.1.calls) of.call
      (both_true (nat_lt k most_calls) (are_tidy_posts of.posts) (lower k most_calls lt)
      (both_true (not (is_bare of.posts)) (all_entries (λ p v. not (is_unknown v)) of.posts)
      (not_bare (len of.posts) (len_one nat_cmp of.posts (p, w) of.post))
      (all_one (λ x. not (is_unknown x.1)) (p, w) (entries of.posts) of.post (ap not told))))))

  pub posted_says : (P : Fact → Type 0) → P (Held name k p w) → SaysEntry P (name, e)
  posted_says P h = record {
    head = record {
      birth = λ told. absurd (told of.birth);
      fronts = All-none (λ x. P (Front name x.0 x.1)) (entries e.1.0) of.fronts;
      dropped = λ some. absurd (omega (arith, of.dropped, some));
    };
    calls = All-one (SaysCall P name) (k, of.posts) (entries e.1.1.calls) of.call (All-one (SaysPost P name k) (p, w) (entries of.posts) of.post h);
  }

  pub says_posted : (P : Fact → Type 0) → SaysEntry P (name, e) → P (Held name k p w)
  says_posted P h = one-All (SaysPost P name k) (p, w) (entries of.posts) of.post (one-All (SaysCall P name) (k, of.posts) (entries e.1.1.calls) of.call h.calls)

-- HEADS

-- the same without the posts
pub record IsHead (e h : EntryView) : Type 0 where
  pub birth : h.0 ≡ e.0
  pub fronts : h.1.0 ≡ e.1.0
  pub dropped : h.1.1.dropped ≡ e.1.1.dropped
  pub calls : entries h.1.1.calls ≡ []

pub is_head : (e h : EntryView) → h.0 ≡ e.0 → h.1.0 ≡ e.1.0 → h.1.1.dropped ≡ e.1.1.dropped → h.1.1.calls ≡ empty → IsHead e h
is_head e h birth fronts dropped calls = record { birth = birth; fronts = fronts; dropped = dropped; calls = no_entry nat_cmp h.1.1.calls calls }

said : (b c d e : Bool) → (not b || (not c || d)) ≡ true → not (b && (c && (not d && e))) ≡ true
said false c d e h = refl
said true false d e h = refl
said true true true e h = refl
said true true false e h = cc

module _ (name : Name) (e h : EntryView) (of : IsHead e h) where
  pub head_tidy : has_head e ≡ true → is_neat_entry e ≡ true → is_tidy_entry h ≡ true
  head_tidy some neat =
      both_true (not (says_nothing h)) (is_neat_entry h)
      (said (is_unknown h.0) (is_bare h.1.0) (nat_lt 0 h.1.1.dropped) (is_bare h.1.1.calls) ((λ i. not (is_unknown (of.birth i)) || (not (is_bare (of.fronts i)) || nat_lt 0 (of.dropped i))) ∙ some))
      (both_true (has_no_zero h.1.0) (all_entries is_tidy_call h.1.1.calls) (ap has_no_zero of.fronts ∙ first_true (has_no_zero e.1.0) (all_entries is_tidy_call e.1.1.calls) neat) (all_none (λ x. is_tidy_call x.0 x.1) (entries h.1.1.calls) of.calls))

  pub head_says : (P : Fact → Type 0) → SaysHead P name e → SaysEntry P (name, h)
  head_says P x = record {
    head = record {
      birth = subst (λ b. (b ≡ unknown → ⊥) → P (Born name b)) (sym of.birth) x.birth;
      fronts = subst (λ m. All (λ y. P (Front name y.0 y.1)) (entries m)) (sym of.fronts) x.fronts;
      dropped = subst (λ n. 0 < n → P (Dropped name n)) (sym of.dropped) x.dropped;
    };
    calls = All-none (SaysCall P name) (entries h.1.1.calls) of.calls;
  }

  pub says_head : (P : Fact → Type 0) → SaysEntry P (name, h) → SaysHead P name e
  says_head P x = record {
    birth = subst (λ b. (b ≡ unknown → ⊥) → P (Born name b)) of.birth x.head.birth;
    fronts = subst (λ m. All (λ y. P (Front name y.0 y.1)) (entries m)) of.fronts x.head.fronts;
    dropped = subst (λ n. 0 < n → P (Dropped name n)) of.dropped x.head.dropped;
  }

-- ACKNOWLEDGEMENTS

-- the numbers of one context, from one process
pub record IsNumbers (q : ℕ) (name : Name) (m : OfProcesses ℕ) (v : PartsView) : Type 0 where
  pub contexts : entries v.0 ≡ []
  pub acks : AcksView
  pub process : entries v.1 ≡ (q, acks) ∷ []
  pub context : entries acks ≡ (name, m) ∷ []

pub is_numbers : (q : ℕ) (name : Name) (m n : OfProcesses ℕ) (a : AcksView) (v : PartsView) → v ≡ (empty, from_sorted ((q, a) ∷ [])) → a ≡ from_sorted ((name, n) ∷ []) → n ≡ m → IsNumbers q name m v
is_numbers q name m n a v is of same = record {
  contexts = no_entry name_cmp v.0 (ap (λ x. x.0) is);
  acks = a;
  process = one_entry nat_cmp v.1 q a (ap (λ x. x.1) is);
  context = one_entry name_cmp a name n of ∙ ap (λ x. (name, x) ∷ []) same;
}

module _ (q : ℕ) (name : Name) (m : OfProcesses ℕ) (v : PartsView) (of : IsNumbers q name m v) where
  pub numbers_tidy : is_tidy_numbers m ≡ true → is_tidy v ≡ true
  numbers_tidy h =
      both_true (are_tidy_entries v.0) (are_tidy_acks v.1) (all_none (λ x. is_tidy_lifted x.1) (entries v.0) of.contexts)
      (all_one (λ x. is_tidy_acks x.1) (q, of.acks) (entries v.1) of.process
      (both_true (not (is_bare of.acks)) (all_entries (λ name n. is_tidy_numbers n) of.acks) (not_bare (len of.acks) (len_one name_cmp of.acks (name, m) of.context))
      (all_one (λ x. is_tidy_numbers x.1) (name, m) (entries of.acks) of.context h)))

  pub numbers_say : (P : Fact → Type 0) → SaysNumbers P q (name, m) → SaysParts P v
  numbers_say P h = record {
    contexts = All-none (SaysLifted P) (entries v.0) of.contexts;
    acks = All-one (SaysAcks P) (q, of.acks) (entries v.1) of.process (All-one (SaysNumbers P q) (name, m) (entries of.acks) of.context h);
  }

  pub say_numbers : (P : Fact → Type 0) → SaysParts P v → SaysNumbers P q (name, m)
  say_numbers P h = one-All (SaysNumbers P q) (name, m) (entries of.acks) of.context (one-All (SaysAcks P) (q, of.acks) (entries v.1) of.process h.acks)

-- a test that holds is answered by a board
pub tidy_is_some : {X : Type 0} (o : Option X) (b : Bool) (Q : X → Type 0) → MatchOption o (b ≡ false) Q → b ≡ true → IsSome o
tidy_is_some None b Q h t = absurd (cc (h, t))
tidy_is_some (Some x) b Q h t = refl

pub made_is : {X : Type 0} (o : Option X) (b : Bool) (Q : X → Type 0) (x : X) → MatchOption o (b ≡ false) Q → o ≡ Some x → Q x
made_is None b Q x h is = absurd cc
made_is (Some y) b Q x h is = subst Q (same_Some y x is) h

-- one post as the board of its context
pub post_of : (name : Name) (k p : ℕ) (w u : FlatView Given) (e : EntryView) (c : CallView) (v : PartsView) → v ≡ (from_sorted ((name, live e) ∷ []), empty) → e.0 ≡ unknown → e.1.0 ≡ empty → e.1.1.dropped ≡ 0 → e.1.1.calls ≡ from_sorted ((k, c) ∷ []) → c ≡ from_sorted ((p, u) ∷ []) → u ≡ w → IsContext name (live e) v × IsPosted k p w e
post_of name k p w u e c v is birth fronts dropped calls posts same = (is_context name (live e) v is, is_posted k p w u e c birth fronts dropped calls posts same)

-- a head as the board of its context
pub head_of : (name : Name) (e h : EntryView) (v : PartsView) → v ≡ (from_sorted ((name, live h) ∷ []), empty) → h.0 ≡ e.0 → h.1.0 ≡ e.1.0 → h.1.1.dropped ≡ e.1.1.dropped → h.1.1.calls ≡ empty → IsContext name (live h) v × IsHead e h
head_of name e h v is birth fronts dropped calls = (is_context name (live h) v is, is_head e h birth fronts dropped calls)
