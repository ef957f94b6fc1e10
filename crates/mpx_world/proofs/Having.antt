-- What a process has is so in a world, and its posts keep that.
use Rattle.std.proofs.Common.{◌≡◌, ℕ, ◌+◌, Bool, true, false, cond, ◌||◌, List, [], ◌∷◌, ◌++◌, length, Option, Some, None, refl, sym, ap, ◌∙◌, subst, arith, length-append}
use Rattle.std.specs.Prelude.{slice_get, is_some, IsTrue}
use Rattle.std.specs.List.{list_any}
use Rattle.mpx_post.specs.Posts.{Given, is_free}
use Rattle.mpx_name.specs.Name.{Name, same_name}
use Rattle.mpx_board.specs.Boards.{Look, join, join_all}
use Rattle.mpx_value.specs.declared.outcomes.Outcome.TheVariants.{NewComm}
use Rattle.mpx_value.specs.Histories.{Made, has_freed, posts_on}
use Rattle.mpx_node.specs.declared.finished.Finished.{Finished}
use Rattle.mpx_node.specs.Nodes.{NodeView, OpenedView, freed_by, posted_on, result_on, freed_on}
use Rattle.mpx_node.specs.Stored.{stored_at}
use Rattle.mpx_world.specs.Worlds.{ProcessView, WorldView, MayPost, history, learns, post_fact, makes}
use Rattle.mpx_world.specs.Soundness.{IsValue}
use Rattle.mpx_world.proofs.Lists.{any_at, any_push, cond_cases, name_itself, names_same, slice_get-push, slice_get-push_cases, join_all-push, posts_on-push}
use Rattle.mpx_world.proofs.Kept.{Kept, kept_makes, results_posted, posted_posted, freed_posted}
use Rattle.mpx_world.proofs.Later.{Later, value_later}
use Rattle.mpx_world.proofs.Truth.{LookSo, all_so, held_so, look_later}

-- a new communicator that a result gives is opened
abbrev pub HasOpened : NodeView → Finished → Type 0
HasOpened node r = (new : Name) (size rank : ℕ) → r.outcome ≡ NewComm new size rank → IsTrue (is_some (node.opened new))

-- what a process has is so in a world
pub record Good (w : WorldView) (p : ℕ) (v : ProcessView) : Type 0 where
  pub me_is : v.node.me ≡ p
  pub joined : v.node.board ≡ join_all v.learned
  pub learned_so : (i : ℕ) (b : Look) → slice_get v.learned i ≡ Some b → LookSo w b
  pub counted : (name : Name) → posted_on v.node name ≡ length (posts_on name v.made)
  pub closed : (name : Name) → freed_on v.node name ≡ has_freed name v.made
  pub ends : (name : Name) (k : ℕ) (given : Given) → slice_get (posts_on name v.made) k ≡ Some given → is_free given ≡ true → length (posts_on name v.made) ≡ k + 1
  pub values : (name : Name) (k : ℕ) (r : Finished) → result_on v.node name k ≡ Some r → IsValue w p name k r
  pub opened_given : (name : Name) (k : ℕ) (r : Finished) → result_on v.node name k ≡ Some r → HasOpened v.node r

pub record Holds (w : WorldView) : Type 0 where
  pub processes : (p : ℕ) → Good w p (w.each p)
  pub parts_so : (i : ℕ) (b : Look) → slice_get w.parts i ≡ Some b → LookSo w b

pub board_so : (w : WorldView) (p : ℕ) (v : ProcessView) → Good w p v → LookSo w v.node.board
board_so w p v g = subst (LookSo w) (sym g.joined) (all_so w v.learned g.learned_so)

pub good_later : (old new : WorldView) → Later old new → (p : ℕ) (v : ProcessView) → Good old p v → Good new p v
good_later old new l p v g = record {
  me_is = g.me_is;
  joined = g.joined;
  learned_so = λ i b e. look_later old new l b (g.learned_so i b e);
  counted = g.counted;
  closed = g.closed;
  ends = g.ends;
  values = λ name k r e. value_later old new l p name k r (g.values name k r e);
  opened_given = g.opened_given;
}

pub learned_more : (w : WorldView) (p : ℕ) (v : ProcessView) (part : Look) → Good w p v → LookSo w part → (i : ℕ) (b : Look) → slice_get (v.learned ++ part ∷ []) i ≡ Some b → LookSo w b
learned_more w p v part g s i b e = slice_get-push_cases (λ x j. LookSo w x) v.learned part i b e (λ old. g.learned_so i b old) (λ same last. subst (LookSo w) same s)

pub joined_more : (w : WorldView) (p : ℕ) (v : ProcessView) (part : Look) → Good w p v → join v.node.board part ≡ join_all (v.learned ++ part ∷ [])
joined_more w p v part g = ap (λ b. join b part) g.joined ∙ sym (join_all-push v.learned part)

pub good_learns : (w : WorldView) (p : ℕ) (v : ProcessView) (part : Look) → Good w p v → LookSo w part → Good w p (learns part v)
good_learns w p v part g s = record {
  me_is = g.me_is;
  joined = joined_more w p v part g;
  learned_so = learned_more w p v part g s;
  counted = g.counted;
  closed = g.closed;
  ends = g.ends;
  values = g.values;
  opened_given = g.opened_given;
}

-- what is opened stays so
pub opened_later : (v new : ProcessView) (r : Finished) → Kept v new → HasOpened v.node r → HasOpened new.node r
opened_later v new r l h name size rank e = l.opened_kept name (h name size rank e)

-- A POST

count_more : (b : Bool) (c : ℕ) (xs : List Given) (x : Given) → c ≡ length xs → cond b (c + 1) c ≡ length (cond b (xs ++ x ∷ []) xs)
count_more true c xs x e = simp length-append (omega (arith, e))
count_more false c xs x e = e

freed_more : (b c : Bool) (xs : List Given) (x : Given) → c ≡ list_any is_free xs → cond b (c || is_free x) c ≡ list_any is_free (cond b (xs ++ x ∷ []) xs)
freed_more true c xs x e = ap (λ d. d || is_free x) e ∙ sym (any_push is_free xs x)
freed_more false c xs x e = e

-- behind a free nothing is posted: it isn't among the posts of a context on which more may be posted
ends_push : (xs : List Given) (x : Given) → list_any is_free xs ≡ false → (k : ℕ) (given : Given) → slice_get (xs ++ x ∷ []) k ≡ Some given → is_free given ≡ true → length (xs ++ x ∷ []) ≡ k + 1
ends_push xs x none k given e = slice_get-push_cases (λ y j. is_free y ≡ true → length (xs ++ x ∷ []) ≡ j + 1) xs x k given e
    (λ old free. let some : list_any is_free xs ≡ true = any_at is_free xs k given old free in absurd (cc (none, some)))
    (λ is last free. length-append xs (x ∷ []) ∙ omega (arith, last))

-- the new post is there in the new world
made_there : (w : WorldView) (p : ℕ) (name : Name) (given : Given) (v : ProcessView) → w.each p ≡ makes name given v → Good w p v → (history w).post name (posted_on v.node name) p ≡ Some given
made_there w p name given v here g =
    let new : Made = record { name = name; given = given } in
    let k = posted_on v.node name in
    ap (λ (x : ProcessView). slice_get (posts_on name x.made) k) here
    ∙ ap (λ xs. slice_get xs k) (posts_on-push name v.made new ∙ ap (λ b. cond b (posts_on name v.made ++ given ∷ []) (posts_on name v.made)) (name_itself name))
    ∙ ap (λ j. slice_get (posts_on name v.made ++ given ∷ []) j) (g.counted name)
    ∙ slice_get-push (posts_on name v.made) given

-- who may post has opened the context, and has posted no free there
pub may_post : (x : Option OpenedView) → MayPost x → (o : OpenedView) × (x ≡ Some o) × (o.freed ≡ false)
may_post None m = absurd m
may_post (Some o) m = (o, refl, m)

pub good_makes : (w : WorldView) (p : ℕ) (name : Name) (given : Given) (v : ProcessView) → w.each p ≡ makes name given v → MayPost (v.node.opened name) → Good w p v → Good w p (makes name given v)
good_makes w p name given v here may g =
    let new : Made = record { name = name; given = given } in
    let o = may_post (v.node.opened name) may in
    let there : (history w).post name (posted_on v.node name) v.node.me ≡ Some given = ap ((history w).post name (posted_on v.node name)) g.me_is ∙ made_there w p name given v here g in
    record {
      me_is = g.me_is;
      joined = joined_more w p v (post_fact name given v.node) g;
      learned_so = learned_more w p v (post_fact name given v.node) g (held_so w name (posted_on v.node name) v.node.me given there);
      counted = λ n. posted_posted name n given v.node o.0 o.1 ∙ count_more (same_name n name) (posted_on v.node n) (posts_on n v.made) given (g.counted n) ∙ sym (ap length (posts_on-push n v.made new));
      closed = λ n. freed_posted name n given v.node o.0 o.1 ∙ freed_more (same_name n name) (freed_on v.node n) (posts_on n v.made) given (g.closed n) ∙ sym (ap (list_any is_free) (posts_on-push n v.made new));
      ends = λ n k x e free. subst (λ xs. length xs ≡ k + 1) (sym (posts_on-push n v.made new))
          (cond_cases (λ xs. slice_get xs k ≡ Some x → length xs ≡ k + 1) (same_name n name) (posts_on n v.made ++ given ∷ []) (posts_on n v.made)
          (λ t more. ends_push (posts_on n v.made) given (sym (g.closed n) ∙ ap (λ m. freed_on v.node m) (names_same n name t) ∙ ap freed_by o.1 ∙ o.2) k x more free)
          (λ t old. g.ends n k x old free)
          (subst (λ xs. slice_get xs k ≡ Some x) (posts_on-push n v.made new) e));
      values = λ n k r e. g.values n k r (subst (λ xs. stored_at xs k ≡ Some r) (results_posted name n given v.node) e);
      opened_given = λ n k r e. opened_later v (makes name given v) r (kept_makes name given v) (g.opened_given n k r (subst (λ xs. stored_at xs k ≡ Some r) (results_posted name n given v.node) e));
    }
