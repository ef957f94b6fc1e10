-- A table with a context more, and with a post more.
use Rattle.std.proofs.Common.{◌≡◌, ℕ, zero, suc, ◌<◌, ◌==◌, Bool, true, false, cond, List, [], ◌∷◌, ◌++◌, length, map, set, get_or, Option, Some, None, refl, sym, ap, ◌∙◌, subst, arith}
use Rattle.std.specs.Prelude.{Result, Ok, Err, is_some, slice_get}
use Rattle.std.specs.List.{list_any}
use Rattle.std.specs.Option.{option_map_or}
use Rattle.std.specs.BTreeMap.{BTreeMap, get, get_by, Updates, WritesThrough}
use Rattle.std.proofs.lemmas.Bool.{or_parts}
use Rattle.std.proofs.lemmas.Bool.Decides.{Decides-eqb}
use Rattle.std.proofs.lemmas.List.{get_or-map, append-nil}
use Rattle.std.proofs.lemmas.List.Folds.{list_any_at}
use Rattle.std.proofs.lemmas.List.Quantifiers.{position-Some}
use Rattle.std.proofs.lemmas.Option.{same_Some}
use Rattle.join_core.specs.laws.Cases.{is_tied}
use Rattle.mpx_num.specs.declared.own.Operation.{Operation}
use Rattle.mpx_group.specs.Group.{has, has_twice}
use Rattle.mpx_name.specs.Name.{Name, same_name}
use Rattle.mpx_name.specs.Order.{name_cmp, name_exact, name_equality}
use Rattle.mpx_name.proofs.Keys.{either}
use Rattle.mpx_post.specs.declared.draft.Draft.{Draft}
use Rattle.mpx_post.specs.declared.draft.PostError.{PostError}
use Rattle.mpx_post.specs.declared.draft.PostError.TheVariants.{NotMember}
use Rattle.mpx_birth.specs.Births.{BirthView, rank_in}
use Rattle.mpx_post.specs.Drafts.{at, checked}
use Rattle.mpx_post.specs.Posts.{Given, is_free}
use Rattle.mpx_value.specs.Histories.{Grows, Made, birth_of, has_freed, history_of, posts_on}
use Rattle.mpx_value.proofs.Growth.{birth-grows, posts_on-append}
use Rattle.mpx_meaning.specs.Ranks.{made_on, next_call, post_on}
use Rattle.mpx_eval.specs.Contexts.{ContextView, ContextPosts, added_at, checked_there, count_in, freed_in, fresh, posts_at, with_post}
use Rattle.mpx_eval.specs.Tables.{Posted, PostsOn, TableShows, Table, TableTries, freed_on, opened, or_fresh, with_made}
use Rattle.mpx_eval.proofs.Contexts.{checked_stranger}
use Rattle.mpx_post.proofs.Lists.{is_there, none_of, slice_get-append}

-- NAMES

pub same_is : (n name : Name) → same_name n name ≡ true → n ≡ name
same_is n name t = sym (name_exact name n (is_tied _ (sym (either n name) ∙ t)))

-- THE MAP

pub some_of : {A : Type 0} (o : Option A) → is_some o ≡ true → (x : A) × (o ≡ Some x)
some_of None e = cc e
some_of (Some x) e = (x, refl)

-- a write through the map
pub lent : (m n : BTreeMap Name ContextView) (name : Name) (o w : ContextView) → Some o ≡ get_by (name_cmp name) m → WritesThrough name_cmp (name_cmp name) m w n → (q : Name) → get name_cmp n q ≡ cond (same_name q name) (Some w) (get name_cmp m q)
lent m n name o w value holds q = (holds.3 (is_there _ o value)).0 q ∙ ap (λ b. cond b (Some w) (get name_cmp m q)) (sym (either q name))

module _ (m : BTreeMap Name ContextView) (name : Name) (birth : BirthView) where
  at_name : (q : Name) → same_name q name ≡ true → get name_cmp m q ≡ get name_cmp m name
  at_name q t = ap (get name_cmp m) (same_is q name t)

  -- where it is there, nothing changes
  pub open_already : is_some (get name_cmp m name) ≡ true → (q : Name) → get name_cmp m q ≡ opened name birth (get name_cmp m) q
  open_already t q = by_test (same_name q name) refl where
    by_test : (b : Bool) → same_name q name ≡ b → get name_cmp m q ≡ cond b (Some (or_fresh birth (get name_cmp m q))) (get name_cmp m q)
    by_test true s = let x = some_of (get name_cmp m name) t in let here = at_name q s ∙ x.1 in here ∙ ap (λ o. Some (or_fresh birth o)) (sym here)
    by_test false s = refl

  -- else it comes in
  pub open_new : (n : BTreeMap Name ContextView) → is_some (get name_cmp m name) ≡ false → Updates name_cmp m n name (Some (fresh birth)) → (q : Name) → get name_cmp n q ≡ opened name birth (get name_cmp m) q
  open_new n f u q = u.0 q ∙ ap (λ b. cond b (Some (fresh birth)) (get name_cmp m q)) (sym (either q name)) ∙ by_test (same_name q name) refl where
    by_test : (b : Bool) → same_name q name ≡ b → cond b (Some (fresh birth)) (get name_cmp m q) ≡ cond b (Some (or_fresh birth (get name_cmp m q))) (get name_cmp m q)
    by_test true s = ap (λ o. Some (or_fresh birth o)) (sym (at_name q s ∙ none_of (get name_cmp m name) f))
    by_test false s = refl

-- COLUMNS

same_elsewhere : {A : Type 0} (f g : ℕ → A) (me : ℕ) → ((q : ℕ) → (q == me) ≡ false → f q ≡ g q) → (ms : List ℕ) → has ms me ≡ false → map f ms ≡ map g ms
same_elsewhere f g me same [] none = refl
same_elsewhere f g me same (m ∷ ms) none = let parts = or_parts (m == me) (has ms me) none in λ i. same m parts.0 i ∷ same_elsewhere f g me same ms parts.1 i

-- the place of one member is written
set_column : {A : Type 0} (f g : ℕ → A) (me : ℕ) (y : A) → y ≡ g me → ((q : ℕ) → (q == me) ≡ false → f q ≡ g q) → (ms : List ℕ) → has_twice ms ≡ false → (i : ℕ) → i < length ms → (get_or ms i 0 == me) ≡ true → set (map f ms) i y ≡ map g ms
set_column f g me y new same [] distinct i l here = absurd (omega (arith, l))
set_column f g me y new same (m ∷ ms) distinct zero l here =
    let is : m ≡ me = (Decides-eqb m me).0 here in
    let parts = or_parts (has ms m) (has_twice ms) distinct in
    λ i. (new ∙ ap g (sym is)) i ∷ same_elsewhere f g me same ms (ap (has ms) (sym is) ∙ parts.0) i
set_column f g me y new same (m ∷ ms) distinct (suc i) l here =
    let parts = or_parts (has ms m) (has_twice ms) distinct in
    let less : i < length ms = omega (arith, l) in
    let listed : has ms me ≡ true = list_any_at (λ x. x == me) ms i 0 less here in
    let other : (m == me) ≡ false = by_test (m == me) refl listed parts.0 in
    λ j. same m other j ∷ set_column f g me y new same ms parts.1 i less here j where
      by_test : (b : Bool) → (m == me) ≡ b → has ms me ≡ true → has ms m ≡ false → (m == me) ≡ false
      by_test true e t none = let is : m ≡ me = (Decides-eqb m me).0 e in cc (ap (has ms) is, t, none)
      by_test false e t none = e

-- what stands in the place of a member is that member's
at_member : (f : ℕ → List Given) (members : List ℕ) (me i : ℕ) → rank_in me members ≡ Some i → get_or (map f members) i [] ≡ f me
at_member f members me i e =
    let at_place = position-Some (λ q. q == me) members i 0 e in
    get_or-map f members i 0 [] at_place.0 ∙ ap f ((Decides-eqb (get_or members i 0) me).0 at_place.1)

-- who is no member is none of them
not_member : (members : List ℕ) (me process i : ℕ) → rank_in me members ≡ Some i → rank_in process members ≡ None → (process == me) ≡ false
not_member members me process i member outside = by_test (process == me) refl where
  by_test : (b : Bool) → (process == me) ≡ b → (process == me) ≡ false
  by_test true e = let is : process ≡ me = (Decides-eqb process me).0 e in cc (ap (λ q. rank_in q members) is, outside, member)
  by_test false e = e

-- POSTS

with_made-here : (me : ℕ) (m : Made) (made : Posted) → with_made me m made me ≡ made me ++ m ∷ []
with_made-here me m made = ap (λ b. cond b (made me ++ m ∷ []) (made me)) ((Decides-eqb me me).1 refl)

with_made-other : (me : ℕ) (m : Made) (made : Posted) (q : ℕ) → (q == me) ≡ false → with_made me m made q ≡ made q
with_made-other me m made q f = ap (λ b. cond b (made q ++ m ∷ []) (made q)) f

-- posts are added behind those of each process
with_made-adds : (me : ℕ) (m : Made) (made : Posted) (q : ℕ) → (more : List Made) × (with_made me m made q ≡ made q ++ more)
with_made-adds me m made q = by_test (q == me) where
  by_test : (b : Bool) → (more : List Made) × (cond b (made q ++ m ∷ []) (made q) ≡ made q ++ more)
  by_test true = (m ∷ [], refl)
  by_test false = ([], sym (append-nil (made q)))

with_made-grows : (ops : List Operation) (me : ℕ) (m : Made) (made : Posted) → Grows (history_of ops made) (history_of ops (with_made me m made))
with_made-grows ops me m made = record { operations = refl; post = more_posts } where
  more_posts : (name : Name) (k p : ℕ) (given : Given) → slice_get (posts_on name (made p)) k ≡ Some given → slice_get (posts_on name (with_made me m made p)) k ≡ Some given
  more_posts name k p given e =
      let more = with_made-adds me m made p in
      ap (λ ms. slice_get (posts_on name ms) k) more.1 ∙ ap (λ ps. slice_get ps k) (posts_on-append name (made p) more.0)
      ∙ slice_get-append (posts_on name (made p)) (posts_on name more.0) k given e

posts_on-last : (name : Name) (m : Made) (ms : List Made) → same_name name m.name ≡ true → posts_on name (ms ++ m ∷ []) ≡ posts_on name ms ++ m.given ∷ []
posts_on-last name m ms t = posts_on-append name ms (m ∷ []) ∙ ap (λ b. posts_on name ms ++ cond b (m.given ∷ []) []) t

posts_on-else : (name : Name) (m : Made) (ms : List Made) → same_name name m.name ≡ false → posts_on name (ms ++ m ∷ []) ≡ posts_on name ms
posts_on-else name m ms f = posts_on-append name ms (m ∷ []) ∙ ap (λ b. posts_on name ms ++ cond b (m.given ∷ []) []) f ∙ append-nil (posts_on name ms)

-- on another context they are the same
posts_elsewhere : (me : ℕ) (m : Made) (made : Posted) (name : Name) → same_name name m.name ≡ false → (q : ℕ) → posts_on name (with_made me m made q) ≡ posts_on name (made q)
posts_elsewhere me m made name f q = by_test (q == me) where
  by_test : (b : Bool) → posts_on name (cond b (made q ++ m ∷ []) (made q)) ≡ posts_on name (made q)
  by_test true = posts_on-else name m (made q) f
  by_test false = refl

-- WHAT A TABLE SHOWS

-- whether a process has freed a context
pub freed_shown : (ops : List Operation) (ranks : ℕ) (t : Table) (made : Posted) → TableShows ops ranks t made → (me : ℕ) (name : Name) → freed_on t me name ≡ has_freed name (made me)
freed_shown ops ranks t made s me name = by_context (t name) refl where
  by_context : (o : Option ContextView) → t name ≡ o → option_map_or (λ (c : ContextView). freed_in c me) o false ≡ has_freed name (made me)
  by_context None e = ap (list_any is_free) (sym (s.none name e me))
  by_context (Some c) e = by_rank (rank_in me c.birth.members) refl where
    by_rank : (r : Option ℕ) → rank_in me c.birth.members ≡ r → freed_in c me ≡ has_freed name (made me)
    by_rank None f = ap (λ r. list_any is_free (posts_at c.posts r)) f ∙ ap (list_any is_free) (sym (s.strangers name c e me f))
    by_rank (Some i) f =
        ap (λ r. list_any is_free (posts_at c.posts r)) f
        ∙ ap (λ ps. list_any is_free (get_or ps i [])) (s.posts name c e)
        ∙ ap (list_any is_free) (at_member (λ member. posts_on name (made member)) c.birth.members me i f)

module _ (ops : List Operation) (ranks : ℕ) (t : Table) (made : Posted) (s : TableShows ops ranks t made) (name : Name) (birth : BirthView) (born : birth_of (history_of ops made) ranks name ≡ Some birth) where
  -- what is there came to be so
  birth_is : (or_fresh birth (t name)).birth ≡ birth
  birth_is = by_context (t name) refl where
    by_context : (o : Option ContextView) → t name ≡ o → (or_fresh birth o).birth ≡ birth
    by_context None e = refl
    by_context (Some c) e = same_Some c.birth birth (sym (s.born name c e) ∙ born)

  posts_are : (or_fresh birth (t name)).posts ≡ map (λ member. posts_on name (made member)) birth.members
  posts_are = by_context (t name) refl where
    empty : (ms : List ℕ) → ((q : ℕ) → posts_on name (made q) ≡ []) → map (λ (q : ℕ). let posts : List Given = [] in posts) ms ≡ map (λ q. posts_on name (made q)) ms
    empty [] none = refl
    empty (m ∷ ms) none = λ i. sym (none m) i ∷ empty ms none i

    by_context : (o : Option ContextView) → t name ≡ o → (or_fresh birth o).posts ≡ map (λ member. posts_on name (made member)) birth.members
    by_context None e = empty birth.members (s.none name e)
    by_context (Some c) e = s.posts name c e ∙ ap (λ (b : BirthView). map (λ member. posts_on name (made member)) b.members) (same_Some c.birth birth (sym (s.born name c e) ∙ born))

  -- of those who are no members there are none
  strangers_are : (process : ℕ) → rank_in process (or_fresh birth (t name)).birth.members ≡ None → posts_on name (made process) ≡ []
  strangers_are process outside = by_context (t name) refl outside where
    by_context : (o : Option ContextView) → t name ≡ o → rank_in process (or_fresh birth o).birth.members ≡ None → posts_on name (made process) ≡ []
    by_context None e f = s.none name e process
    by_context (Some c) e f = s.strangers name c e process f

  -- a context more
  pub opened_shows : (u : Table) → ((q : Name) → u q ≡ opened name birth t q) → TableShows ops ranks u made
  opened_shows u is = record {
    born = λ q c e. by_name q (λ x. (c : ContextView) → x ≡ Some c → birth_of (history_of ops made) ranks q ≡ Some c.birth)
        (λ same c e. subst (λ n. birth_of (history_of ops made) ranks n ≡ Some c.birth) (sym same) (born ∙ ap Some (sym birth_is ∙ ap (λ (x : ContextView). x.birth) (same_Some _ c (ap (λ n. Some (or_fresh birth (t n))) (sym same) ∙ e)))))
        (λ c e. s.born q c e) c (sym (is q) ∙ e);
    posts = λ q c e. by_name q (λ x. (c : ContextView) → x ≡ Some c → c.posts ≡ map (λ member. posts_on q (made member)) c.birth.members)
        (λ same c e.
        let there : or_fresh birth (t name) ≡ c = same_Some _ c (ap (λ n. Some (or_fresh birth (t n))) (sym same) ∙ e) in
        subst (λ n. c.posts ≡ map (λ member. posts_on n (made member)) c.birth.members) (sym same)
        (subst (λ (x : ContextView). x.posts ≡ map (λ member. posts_on name (made member)) x.birth.members) there
        (posts_are ∙ ap (λ (b : BirthView). map (λ member. posts_on name (made member)) b.members) (sym birth_is))))
        (λ c e. s.posts q c e) c (sym (is q) ∙ e);
    strangers = λ q c e. by_name q (λ x. (c : ContextView) → x ≡ Some c → (process : ℕ) → rank_in process c.birth.members ≡ None → posts_on q (made process) ≡ [])
        (λ same c e process outside.
        let there : or_fresh birth (t name) ≡ c = same_Some _ c (ap (λ n. Some (or_fresh birth (t n))) (sym same) ∙ e) in
        subst (λ n. posts_on n (made process) ≡ []) (sym same) (strangers_are process (ap (λ (x : ContextView). rank_in process x.birth.members) there ∙ outside)))
        (λ c e. s.strangers q c e) c (sym (is q) ∙ e);
    none = λ q e. by_name q (λ x. x ≡ None → (process : ℕ) → posts_on q (made process) ≡ []) (λ same e. cc e) (λ e. s.none q e) (sym (is q) ∙ e);
  } where
    by_name : (q : Name) (P : Option ContextView → Type 0) → (q ≡ name → P (Some (or_fresh birth (t q)))) → P (t q) → P (opened name birth t q)
    by_name q P here there = by_test (same_name q name) refl where
      by_test : (b : Bool) → same_name q name ≡ b → P (cond b (Some (or_fresh birth (t q))) (t q))
      by_test true e = here (same_is q name e)
      by_test false e = there

  -- how many posts a member has made there
  counted : (me i : ℕ) → rank_in me birth.members ≡ Some i → posts_at (or_fresh birth (t name)).posts (Some i) ≡ posts_on name (made me)
  counted me i e = ap (λ ps. get_or ps i []) posts_are ∙ at_member (λ member. posts_on name (made member)) birth.members me i e

  -- a draft comes there to what it comes to after these posts
  abbrev behind : (me : ℕ) (draft : Draft) → BirthView → List Given → Result Given PostError
  behind me draft b posts = checked ops b me (at name (length posts) (list_any is_free posts)) draft

  stranger : (me : ℕ) (draft : Draft) (posts : List Given) → rank_in me birth.members ≡ None → behind me draft birth posts ≡ Err NotMember
  stranger me draft posts e = checked_stranger ops birth me (at name (length posts) (list_any is_free posts)) draft e

  pub checked_same : (me : ℕ) (draft : Draft) → checked_there ops (or_fresh birth (t name)) me name draft ≡ checked ops birth me (at name (next_call name (made me)) (has_freed name (made me))) draft
  checked_same me draft = ap (λ (b : BirthView). behind me draft b (posts_at (or_fresh birth (t name)).posts (rank_in me b.members))) birth_is ∙ by_rank (rank_in me birth.members) refl where
    by_rank : (o : Option ℕ) → rank_in me birth.members ≡ o → behind me draft birth (posts_at (or_fresh birth (t name)).posts (rank_in me birth.members)) ≡ behind me draft birth (posts_on name (made me))
    by_rank None e = stranger me draft (posts_at (or_fresh birth (t name)).posts (rank_in me birth.members)) e ∙ sym (stranger me draft (posts_on name (made me)) e)
    by_rank (Some i) e = ap (behind me draft birth) (ap (posts_at (or_fresh birth (t name)).posts) e ∙ counted me i e)

  -- a post more of a member
  posted_shows : (me i : ℕ) (given : Given) → rank_in me birth.members ≡ Some i → has_twice birth.members ≡ false → (u : Table) → ((q : Name) → u q ≡ cond (same_name q name) (Some (with_post (or_fresh birth (t name)) me given)) (opened name birth t q)) → TableShows ops ranks u (with_made me (record { name = name; given = given }) made)
  posted_shows me i given member distinct u is =
      let m : Made = record { name = name; given = given } in
      let c = or_fresh birth (t name) in
      let new = with_made me m made in
      let s1 = opened_shows (opened name birth t) (λ q. refl) in
      let grows = with_made-grows ops me m made in
      let at_place = position-Some (λ q. q == me) birth.members i 0 member in
      let ranked : rank_in me c.birth.members ≡ Some i = ap (λ (b : BirthView). rank_in me b.members) birth_is ∙ member in
      let written : (with_post c me given).posts ≡ map (λ q. posts_on name (new q)) birth.members =
      ap (λ o. added_at c.posts o given) ranked
      ∙ (λ j. set (posts_are j) i (counted me i member j ++ given ∷ []))
      ∙ set_column (λ q. posts_on name (made q)) (λ q. posts_on name (new q)) me (posts_on name (made me) ++ given ∷ [])
      (sym (ap (posts_on name) (with_made-here me m made) ∙ posts_on-last name m (made me) (name_equality.reflexive name)))
      (λ q f. ap (posts_on name) (sym (with_made-other me m made q f)))
      birth.members distinct i at_place.0 at_place.1 in
      record {
        born = λ q x e. by_name q (λ o. (x : ContextView) → o ≡ Some x → birth_of (history_of ops new) ranks q ≡ Some x.birth)
            (λ same x e. subst (λ n. birth_of (history_of ops new) ranks n ≡ Some x.birth) (sym same) (birth-grows (history_of ops made) (history_of ops new) ranks grows name birth born ∙ ap Some (sym birth_is ∙ ap (λ (y : ContextView). y.birth) (same_Some (with_post c me given) x e))))
            (λ other x e. birth-grows (history_of ops made) (history_of ops new) ranks grows q x.birth (s1.born q x e)) x (sym (is q) ∙ e);
        posts = λ q x e. by_name q (λ o. (x : ContextView) → o ≡ Some x → x.posts ≡ map (λ member. posts_on q (new member)) x.birth.members)
            (λ same x e. subst (λ n. x.posts ≡ map (λ member. posts_on n (new member)) x.birth.members) (sym same)
            (subst (λ (y : ContextView). y.posts ≡ map (λ member. posts_on name (new member)) y.birth.members) (same_Some (with_post c me given) x e)
            (written ∙ ap (λ (b : BirthView). map (λ member. posts_on name (new member)) b.members) (sym birth_is))))
            (λ other x e. s1.posts q x e ∙ λ j. map (λ member. sym (posts_elsewhere me m made q other member) j) x.birth.members) x (sym (is q) ∙ e);
        strangers = λ q x e. by_name q (λ o. (x : ContextView) → o ≡ Some x → (process : ℕ) → rank_in process x.birth.members ≡ None → posts_on q (new process) ≡ [])
            (λ same x e process outside.
            let none_of_them : rank_in process c.birth.members ≡ None = ap (λ (y : ContextView). rank_in process y.birth.members) (same_Some (with_post c me given) x e) ∙ outside in
            subst (λ n. posts_on n (new process) ≡ []) (sym same)
            (ap (posts_on name) (with_made-other me m made process (not_member c.birth.members me process i ranked none_of_them)) ∙ strangers_are process none_of_them))
            (λ other x e process outside. posts_elsewhere me m made q other process ∙ s1.strangers q x e process outside) x (sym (is q) ∙ e);
        none = λ q e. by_name q (λ o. o ≡ None → (process : ℕ) → posts_on q (new process) ≡ []) (λ same e. cc e) (λ other e process. posts_elsewhere me m made q other process ∙ s1.none q e process) (sym (is q) ∙ e);
      } where
        by_name : (q : Name) (P : Option ContextView → Type 0) → (q ≡ name → P (Some (with_post (or_fresh birth (t name)) me given))) → (same_name q name ≡ false → P (opened name birth t q)) → P (cond (same_name q name) (Some (with_post (or_fresh birth (t name)) me given)) (opened name birth t q))
        by_name q P here there = by_test (same_name q name) refl where
          by_test : (b : Bool) → same_name q name ≡ b → P (cond b (Some (with_post (or_fresh birth (t name)) me given)) (opened name birth t q))
          by_test true e = here (same_is q name e)
          by_test false e = there e

  -- what is posted is a member's
  member_of : (me : ℕ) (draft : Draft) (given : Given) → checked_there ops (or_fresh birth (t name)) me name draft ≡ Ok given → (i : ℕ) × (rank_in me birth.members ≡ Some i)
  member_of me draft given e = by_rank (rank_in me birth.members) refl where
    by_rank : (o : Option ℕ) → rank_in me birth.members ≡ o → (i : ℕ) × (rank_in me birth.members ≡ Some i)
    by_rank None f = cc (sym (checked_same me draft) ∙ e, stranger me draft (posts_on name (made me)) f)
    by_rank (Some i) f = (i, f)

  -- a draft is tried
  pub tries_post : (me : ℕ) (draft : Draft) (u v : Table) → ((q : Name) → u q ≡ opened name birth t q) → (call : ℕ) → PostsOn ops me name draft (Ok call) (or_fresh birth (t name)) u v → TableTries ops ranks made me (post_on ops me (made me) draft name birth) (Ok (name, call)) v
  tries_post me draft u v is call p =
      let found = member_of me draft p.0 p.1 in
      let m : Made = record { name = name; given = p.0 } in
      let count : count_in (or_fresh birth (t name)) me ≡ next_call name (made me) = ap (λ (b : BirthView). length (posts_at (or_fresh birth (t name)).posts (rank_in me b.members))) birth_is ∙ ap (λ o. length (posts_at (or_fresh birth (t name)).posts o)) found.1 ∙ ap length (counted me found.0 found.1) in (
        m,
        ap (made_on name) (sym (checked_same me draft) ∙ p.1),
        refl,
        p.2 ∙ count,
        posted_shows me found.0 p.0 found.1 (ap (λ (b : BirthView). has_twice b.members) (sym birth_is) ∙ p.4) v
            (λ q. p.3 q ∙ ap (cond (same_name q name) (Some (with_post (or_fresh birth (t name)) me p.0))) (is q)),
      )

  pub tries_refused : (me : ℕ) (draft : Draft) (u v : Table) → ((q : Name) → u q ≡ opened name birth t q) → (refusal : PostError) → PostsOn ops me name draft (Err refusal) (or_fresh birth (t name)) u v → TableTries ops ranks made me (post_on ops me (made me) draft name birth) (Err refusal) v
  tries_refused me draft u v is refusal p other =
      let f = p other in
      (ap (made_on name) (sym (checked_same me draft) ∙ f.0), opened_shows v (λ q. f.1 q ∙ is q))

-- after it was opened a context is there
pub opened_here : (name : Name) (birth : BirthView) (t : Table) → opened name birth t name ≡ Some (or_fresh birth (t name))
opened_here name birth t = ap (λ b. cond b (Some (or_fresh birth (t name))) (t name)) (name_equality.reflexive name)

-- a post on a context that was lent
pub posts_lent : (ops : List Operation) (me : ℕ) (name : Name) (draft : Draft) (answer : Result ℕ PostError) (o w : ContextView) (old new : Table) → old name ≡ Some o → ((q : Name) → new q ≡ cond (same_name q name) (Some w) (old q)) → has_twice o.birth.members ≡ false → ContextPosts ops me name draft answer o w → PostsOn ops me name draft answer o old new
posts_lent ops me name draft (Ok call) o w old new here is distinct p = (p.0, p.1, p.2, λ q. is q ∙ ap (λ x. cond (same_name q name) (Some x) (old q)) p.3, distinct)
posts_lent ops me name draft (Err refusal) o w old new here is distinct p = λ other. let f = p other in (f.0, λ q. is q ∙ ap (λ x. cond (same_name q name) (Some x) (old q)) f.1 ∙ stays q) where
  stays : (q : Name) → cond (same_name q name) (Some o) (old q) ≡ old q
  stays q = by_test (same_name q name) refl where
    by_test : (b : Bool) → same_name q name ≡ b → cond b (Some o) (old q) ≡ old q
    by_test true e = sym (ap old (same_is q name e) ∙ here)
    by_test false e = refl
