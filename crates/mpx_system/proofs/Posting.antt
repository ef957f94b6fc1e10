-- What a process's post comes to in a world, and what is so of that world then.
use Rattle.std.proofs.Common.{◌≡◌, ℕ, ℤ, ◌<◌, Bool, true, false, cond, ◌==◌, List, [], ◌∷◌, ◌++◌, length, Option, Some, None, ◌⊎◌, inl, inr, refl, sym, ap, ◌∙◌, subst, arith}
use Rattle.std.specs.Prelude.{slice_get, is_some, IsTrue, Result, Ok, Err, option_and_then}
use Rattle.std.specs.Option.{option_map}
use Rattle.std.proofs.lemmas.Option.{same_Some}
use Rattle.mpx_num.specs.declared.own.Operation.{Operation}
use Rattle.mpx_name.specs.Name.{Name}
use Rattle.mpx_post.specs.Posts.{Given, is_free}
use Rattle.mpx_birth.specs.Births.{BirthView, of_members, rank_in}
use Rattle.mpx_post.specs.Drafts.{at, checked}
use Rattle.mpx_post.specs.Gatherings.{GatheringView, gathering}
use Rattle.mpx_post.specs.declared.draft.Draft.{Draft}
use Rattle.mpx_post.specs.declared.draft.PostError.{PostError}
use Rattle.mpx_post.specs.declared.draft.PostError.TheVariants.{Closed, NotMember}
use Rattle.mpx_post.proofs.Checks.{closed_there}
use Rattle.mpx_post.proofs.Gatherings.{closed_gathering}
use Rattle.mpx_board.specs.Boards.{IsGone, told}
use Rattle.mpx_value.specs.Histories.{Answer, Made, answer_with, gathered, has_freed, outcomes_by, posts_on, Within, results_of, value_for}
use Rattle.mpx_node.specs.declared.finished.Finished.{Finished}
use Rattle.mpx_node.specs.Nodes.{NodeView, OpenedView, freed_by, freed_on, posted_by, result_on, results_on, checked_by, checked_on, checked_there, gathering_name, gathers_by, gathers_on, gathers_there, open_gathering_node}
use Rattle.mpx_world.specs.Worlds.{ProcessView, WorldView, history, births, at_process, gathers, makes, opens_gathering, Happening, Posts, Gathers, happens, MayGoOn, MayHappen, MayPost, goes_on as goes_on_world}
use Rattle.mpx_world.specs.Forgetting.{IsHeldOrGone, LetsNothingGo}
use Rattle.mpx_world.specs.Soundness.{IsValue}
use Rattle.mpx_world.proofs.Complete.{HasAll, all_happens}
use Rattle.mpx_node.specs.Stored.{count_gone}
use Rattle.mpx_node.proofs.Gone.{AllThere}
use Rattle.mpx_world.proofs.Freeing.{all_of_at}
use Rattle.mpx_world.proofs.Lists.{any_at, same_number}
use Rattle.mpx_world.proofs.Later.{Later, births_grow, later_happens, later_itself, later_then, made_happens}
use Rattle.mpx_world.proofs.Drafted.{checked_may}
use Rattle.mpx_world.proofs.Steps.{Holds, board_so, holds_happens, at_here}
use Rattle.mpx_world.proofs.Opened.{AllIn, gathering_opened, in_happens, is_in, member_ranked}
use Rattle.mpx_statement.specs.declared.statement.Posting.{Posting}
use Rattle.mpx_statement.specs.Statements.{Gathers as Asked, draft_of, gathers_of}
use Rattle.mpx_meaning.specs.Ranks.{Bound, Communicator, NullCommunicator, attempt_in, attempt_on, made_on, next_call, post_gathered, post_on}
use Rattle.std.proofs.lemmas.List.{append-nil}
use Rattle.mpx_meaning.proofs.Tells.{mapped_some}
use Rattle.mpx_system.specs.Systems.{posts_bound, posts_gathered, posts_in, posts_made, world_tells}
use Rattle.mpx_value.proofs.Histories.{same_answer, gathered_there}

-- WORLDS

-- boards tell the truth, and each process is in what it has opened
pub record Upheld (w : WorldView) : Type 0 where
  pub holds : Holds w
  pub in_all : AllIn w
  pub complete : (q : ℕ) → HasAll (w.each q).node

pub upheld_happens : (w : WorldView) (h : Happening) → LetsNothingGo h → Upheld w → MayHappen w h → Upheld (happens w h)
upheld_happens w h none u m = record { holds = holds_happens w h u.holds m; in_all = in_happens w h u.holds m u.in_all; complete = all_happens w h none u.complete }

-- of a member's draft and gathering on an opened context the node asks what the birth, its posts and its free say, where it is freed or
-- the birth is told
opened_checks : (ops : List Operation) (o : Option OpenedView) (said : Option BirthView) (birth : BirthView) (me rank : ℕ) (name : Name) (draft : Draft) → IsTrue (is_some o) → rank_in me birth.members ≡ Some rank → (freed_by o ≡ true) ⊎ (said ≡ Some birth)
    → checked_by ops o said me name draft ≡ checked ops birth me (at name (posted_by o) (freed_by o)) draft
opened_checks ops None said birth me rank name draft e m known = cc e
opened_checks ops (Some o) said birth me rank name draft e m known = by_freed o.freed known where
  by_freed : (b : Bool) → (b ≡ true) ⊎ (said ≡ Some birth) → (let x : Result Given PostError = cond b (Err Closed) (checked_there ops o.posted said me name draft) in x) ≡ checked ops birth me (at name o.posted b) draft
  by_freed true k = sym (closed_there ops birth me rank (at name o.posted true) draft m refl)
  by_freed false (inl never) = cc never
  by_freed false (inr is) = ap (λ x. checked_there ops o.posted x me name draft) is

opened_gathers : (o : Option OpenedView) (said : Option BirthView) (birth : BirthView) (me rank : ℕ) (name : Name) (tag : ℤ) (ranks : List ℤ) → IsTrue (is_some o) → rank_in me birth.members ≡ Some rank → (freed_by o ≡ true) ⊎ (said ≡ Some birth)
    → gathers_by o said me name tag ranks ≡ gathering birth me (length name) (freed_by o) tag ranks
opened_gathers None said birth me rank name tag ranks e m known = cc e
opened_gathers (Some o) said birth me rank name tag ranks e m known = by_freed o.freed known where
  by_freed : (b : Bool) → (b ≡ true) ⊎ (said ≡ Some birth) → (let x : Result GatheringView PostError = cond b (Err Closed) (gathers_there said me name tag ranks) in x) ≡ gathering birth me (length name) b tag ranks
  by_freed true k = sym (closed_gathering birth me rank (length name) tag ranks m)
  by_freed false (inl never) = cc never
  by_freed false (inr is) = ap (λ x. gathers_there x me name tag ranks) is

-- an opened context: how it came to be, with the process as a member, which the process's board tells, where it isn't dead there
pub record IsThere (w : WorldView) (p : ℕ) (name : Name) : Type 0 where
  pub birth : BirthView
  pub born : births w name ≡ Some birth
  pub tells : IsGone (w.each p).node.board name ⊎ (told ((w.each p).node.board.contexts name).birth ≡ Some birth)
  pub rank : ℕ
  pub member : rank_in p birth.members ≡ Some rank

module _ (w : WorldView) (u : Upheld w) (p : ℕ) where
  pub is_there : (name : Name) → IsTrue (is_some ((w.each p).node.opened name)) → IsThere w p name
  is_there name t =
      let i = is_in w u.holds u.in_all p name t in
      let ranked = member_ranked i.birth.members i.rank p i.member in
      record {
        birth = i.birth;
        born = i.born;
        tells = elim i.tells [ inl dead ↦ inl dead | inr is ↦ inr (ap told is) ];
        rank = ranked.0;
        member = ranked.1;
      }

  -- where its board says that a context is dead the process has posted its free there
  gone_freed : (name : Name) → IsTrue (is_some ((w.each p).node.opened name)) → IsGone (w.each p).node.board name → freed_on (w.each p).node name ≡ true
  gone_freed name t dead =
      let g = u.holds.processes p in
      let i = is_in w u.holds u.in_all p name t in
      let f = ((board_so w p (w.each p) g).contexts_so name).dead_so dead in
      let same : i.birth ≡ f.birth = same_Some i.birth f.birth (sym i.born ∙ f.born) in
      let own = all_of_at ((history w).post name f.call) f.birth.members f.row f.whole i.rank p (subst (λ (b : BirthView). slice_get b.members i.rank ≡ Some p) same i.member) in
      g.closed name ∙ any_at is_free (posts_on name (w.each p).made) f.call own.0 own.1 (f.frees i.rank own.0 own.2)

  -- a context that it has opened it has freed, or its board tells the birth
  pub freed_or_told : (name : Name) (birth : BirthView) → IsTrue (is_some ((w.each p).node.opened name)) → births w name ≡ Some birth → (freed_on (w.each p).node name ≡ true) ⊎ (told ((w.each p).node.board.contexts name).birth ≡ Some birth)
  freed_or_told name birth t b =
      let x = is_there name t in
      elim x.tells [
        | inl dead ↦ inl (gone_freed name t dead)
        | inr is ↦ inr (is ∙ sym x.born ∙ b)
      ]

  ranked_in : (name : Name) (birth : BirthView) → IsTrue (is_some ((w.each p).node.opened name)) → births w name ≡ Some birth → (rank : ℕ) × (rank_in p birth.members ≡ Some rank)
  ranked_in name birth t b =
      let x = is_there name t in
      let same : x.birth ≡ birth = same_Some x.birth birth (sym x.born ∙ b) in
      (x.rank, ap (λ (y : BirthView). rank_in p y.members) (sym same) ∙ x.member)

  -- the node checks a draft as its birth and its posts say
  pub checks_so : (name : Name) (birth : BirthView) → IsTrue (is_some ((w.each p).node.opened name)) → births w name ≡ Some birth → (draft : Draft) → checked_on w.operations (w.each p).node name draft ≡ checked w.operations birth p (at name (next_call name (w.each p).made) (has_freed name (w.each p).made)) draft
  checks_so name birth t b draft =
      let node = (w.each p).node in
      let g = u.holds.processes p in
      let m = ranked_in name birth t b in
      (λ i. checked_by w.operations (node.opened name) (told (node.board.contexts name).birth) (g.me_is i) name draft)
      ∙ opened_checks w.operations (node.opened name) (told (node.board.contexts name).birth) birth p m.0 name draft t m.1 (freed_or_told name birth t b)
      ∙ λ i. checked w.operations birth p (at name (g.counted name i) (g.closed name i)) draft

  pub gathers_so : (name : Name) (birth : BirthView) → IsTrue (is_some ((w.each p).node.opened name)) → births w name ≡ Some birth → (tag : ℤ) (ranks : List ℤ) → gathers_on (w.each p).node name tag ranks ≡ gathering birth p (length name) (has_freed name (w.each p).made) tag ranks
  gathers_so name birth t b tag ranks =
      let node = (w.each p).node in
      let g = u.holds.processes p in
      let m = ranked_in name birth t b in
      (λ i. gathers_by (node.opened name) (told (node.board.contexts name).birth) (g.me_is i) name tag ranks)
      ∙ opened_gathers (node.opened name) (told (node.board.contexts name).birth) birth p m.0 name tag ranks t m.1 (freed_or_told name birth t b)
      ∙ λ i. gathering birth p (length name) (g.closed name i) tag ranks

  -- the result behind an answer
  pub tells_at : (name : Name) (k : ℕ) (answer : Answer) → world_tells w p name k ≡ Some answer → (f : Finished) × (result_on (w.each p).node name k ≡ Some f) × (answer_with (births w) f.outcome ≡ answer)
  tells_at name k answer e = mapped_some (λ (f : Finished). answer_with (births w) f.outcome) (result_on (w.each p).node name k) answer e

-- where each is there none is gone
none_gone : {A : Type 0} (xs : List (Option A)) (k : ℕ) → AllThere xs → k < count_gone xs → ⊥
none_gone [] k all l = absurd (omega (arith, l))
none_gone (None ∷ xs) k all l = let t = all 0 (omega arith) in cc t
none_gone (Some x ∷ xs) k all l = absurd (omega (arith, l))

-- where nothing was let go, what is held or gone is held
pub held_all : (node : NodeView) (name : Name) (k : ℕ) (f : Finished) → AllThere (results_on node name) → IsHeldOrGone node name k f → result_on node name k ≡ Some f
held_all node name k f all (inl held) = held
held_all node name k f all (inr gone) = absurd (none_gone (results_on node name) k all gone)

-- who holds more tells more
pub tells_on : (w new : WorldView) → Later w new → Upheld w → Upheld new → (q : ℕ) → Within (world_tells w q) (world_tells new q)
tells_on w new later u v q name k answer e =
    let found = tells_at w u q name k answer e in
    let held = held_all (new.each q).node name k found.0 (v.complete q name) ((later.kept q).results_kept name k found.0 found.1) in
    ap (option_map (λ (f : Finished). answer_with (births new) f.outcome)) held
    ∙ ap Some (same_answer (births new) (births w) found.0.outcome (λ at size rank is. let x = is_there w u q at ((u.holds.processes q).opened_given name k found.0 found.1 at size rank is) in births_grow w new later at x.birth x.born ∙ sym x.born)
    ∙ found.2)

-- a result is what the row of all posts gives
pub value_known : (w : WorldView) (p : ℕ) (name : Name) (k : ℕ) (f : Finished) → IsValue w p name k f → results_of (history w) w.ranks p name k ≡ Some (answer_with (births w) f.outcome)
value_known w p name k f v = ap (option_map (answer_with (births w)))
    (ap (option_and_then (λ birth. outcomes_by (history w) name birth p k)) v.born
    ∙ ap (option_and_then (λ row. value_for w.operations v.birth p row name k)) v.whole ∙ v.outcome)

-- A NODE'S POSTS

-- the world after a rank's move: what has happened in it, which made the posts that the rank added
pub record Follows (p : ℕ) (old new : WorldView) (added : List Made) : Type 0 where
  pub upheld : Upheld new
  pub later : Later old new
  pub here : (new.each p).made ≡ (old.each p).made ++ added
  pub others : (q : ℕ) → (q == p) ≡ false → (new.each q).made ≡ (old.each q).made

abbrev pub added_by : Result Made PostError → List Made
added_by (Ok m) = m ∷ []
added_by (Err refusal) = []

-- these happenings come of a statement
pub record Driven (w : WorldView) (p : ℕ) (hs : List Happening) (o : Result Made PostError) : Type 0 where
  pub follows : Follows p w (goes_on_world w hs) (added_by o)
  pub nodes : (q : ℕ) → (q ≡ p → ⊥) → ((goes_on_world w hs).each q).node ≡ (w.each q).node
  pub parts : (goes_on_world w hs).parts ≡ w.parts
  pub may : MayGoOn w hs

pub not_same : (q p : ℕ) → (q ≡ p → ⊥) → (q == p) ≡ false
not_same q p other = by_test (q == p) refl where
  by_test : (b : Bool) → (q == p) ≡ b → b ≡ false
  by_test true e = absurd (other (same_number q p e))
  by_test false e = refl

pub each_other : (w : WorldView) (p : ℕ) (f : ProcessView → ProcessView) (q : ℕ) → (q ≡ p → ⊥) → (at_process p f w).each q ≡ w.each q
each_other w p f q other = ap (λ b. cond b (f (w.each q)) (w.each q)) (not_same q p other)

-- nothing happens
pub follows_itself : (w : WorldView) → Upheld w → (p : ℕ) → Follows p w w []
follows_itself w u p = record { upheld = u; later = later_itself w; here = sym (append-nil (w.each p).made); others = λ q d. refl }

driven_nothing : (w : WorldView) → Upheld w → (p : ℕ) (refusal : PostError) → Driven w p [] (Err refusal)
driven_nothing w u p refusal = record { follows = follows_itself w u p; nodes = λ q other. refl; parts = refl; may = tt }

module _ (w : WorldView) (u : Upheld w) (p : ℕ) (name : Name) where
  driven_made : (given : Given) → MayPost ((w.each p).node.opened name) → Driven w p (Posts p name given ∷ []) (Ok (record { name = name; given = given }))
  driven_made given may = record {
    follows = record {
      upheld = upheld_happens w (Posts p name given) tt u may;
      later = later_happens w (Posts p name given);
      here = ap (λ (x : ProcessView). x.made) (at_here w p (makes name given));
      others = λ q d. ap (λ b. (cond b (makes name given (w.each q)) (w.each q)).made) d;
    };
    nodes = λ q other. ap (λ (x : ProcessView). x.node) (each_other w p (makes name given) q other);
    parts = refl;
    may = (may, tt);
  }

  driven_checked : (draft : Draft) (r : Result Given PostError) → checked_on w.operations (w.each p).node name draft ≡ r → Driven w p (posts_made p (made_on name r)) (made_on name r)
  driven_checked draft (Ok given) e = driven_made given (checked_may w.operations (w.each p).node name draft given e)
  driven_checked draft (Err refusal) e = driven_nothing w u p refusal

  driven_post : (birth : BirthView) → IsTrue (is_some ((w.each p).node.opened name)) → births w name ≡ Some birth → (draft : Draft)
      → Driven w p (posts_made p (post_on w.operations p (w.each p).made draft name birth)) (post_on w.operations p (w.each p).made draft name birth)
  driven_post birth t b draft = driven_checked draft (checked w.operations birth p (at name (next_call name (w.each p).made) (has_freed name (w.each p).made)) draft) (checks_so w u p name birth t b draft)

-- A GATHERING, AND THE POST THERE

-- a gathering that the process opens on a context, and the world then
pub record IsGathered (w : WorldView) (p : ℕ) (name : Name) (asked : Asked) (g : GatheringView) : Type 0 where
  pub upheld : Upheld (happens w (Gathers p name asked.tag asked.ranks))
  pub node : ((happens w (Gathers p name asked.tag asked.ranks)).each p).node ≡ open_gathering_node name g (w.each p).node
  pub made : ((happens w (Gathers p name asked.tag asked.ranks)).each p).made ≡ (w.each p).made
  pub there : IsTrue (is_some (((happens w (Gathers p name asked.tag asked.ranks)).each p).node.opened (gathering_name name g)))
  pub born : births (happens w (Gathers p name asked.tag asked.ranks)) (gathering_name name g) ≡ Some (of_members g.members)

module _ (w : WorldView) (u : Upheld w) (p : ℕ) (name : Name) (birth : BirthView) (t : IsTrue (is_some ((w.each p).node.opened name))) (b : births w name ≡ Some birth) where
  pub is_gathered : (asked : Asked) (g : GatheringView) → gathering birth p (length name) (has_freed name (w.each p).made) asked.tag asked.ranks ≡ Ok g → IsGathered w p name asked g
  is_gathered asked g e =
      let h : Happening = Gathers p name asked.tag asked.ranks in
      let accepted : gathers_on (w.each p).node name asked.tag asked.ranks ≡ Ok g = gathers_so w u p name birth t b asked.tag asked.ranks ∙ e in
      record {
        upheld = upheld_happens w h tt u tt;
        node = ap (λ (x : ProcessView). x.node) (at_here w p (gathers name asked.tag asked.ranks)) ∙ ap (λ r. (opens_gathering name r (w.each p)).node) accepted;
        made = made_happens w h tt p;
        there = gathering_opened w p name asked.tag asked.ranks g accepted;
        born = ap (option_and_then (gathered g.members)) (births_grow w (happens w h) (later_happens w h) name birth b) ∙ gathered_there birth p (length name) (has_freed name (w.each p).made) asked.tag asked.ranks g e;
      }

  driven_gathering : (draft : Draft) (asked : Asked) (g : GatheringView) → IsGathered w p name asked g → Driven w p (posts_gathered w.operations p (w.each p).made draft name asked (Ok g)) (post_gathered w.operations p (w.each p).made draft name (Ok g))
  driven_gathering draft asked g is =
      let h : Happening = Gathers p name asked.tag asked.ranks in
      let new = happens w h in
      let at_new = gathering_name name g in
      let post = post_gathered w.operations p (w.each p).made draft name (Ok g) in
      let d : Driven new p (posts_made p post) post = subst (λ ms. let o = post_on w.operations p ms draft at_new (of_members g.members) in Driven new p (posts_made p o) o) is.made
      (driven_post new is.upheld p at_new (of_members g.members) is.there is.born draft) in
      record {
        follows = record {
          upheld = d.follows.upheld;
          later = later_then w new (goes_on_world new (posts_made p post)) (later_happens w h) d.follows.later;
          here = d.follows.here ∙ ap (λ ms. ms ++ added_by post) is.made;
          others = λ q apart. d.follows.others q apart ∙ made_happens w h tt q;
        };
        nodes = λ q other. d.nodes q other ∙ ap (λ (x : ProcessView). x.node) (each_other w p (gathers name asked.tag asked.ranks) q other);
        parts = d.parts;
        may = (tt, d.may);
      }

  driven_gathers : (draft : Draft) (asked : Asked) (x : Result GatheringView PostError) → gathering birth p (length name) (has_freed name (w.each p).made) asked.tag asked.ranks ≡ x
      → Driven w p (posts_gathered w.operations p (w.each p).made draft name asked x) (post_gathered w.operations p (w.each p).made draft name x)
  driven_gathers draft asked (Ok g) e = driven_gathering draft asked g (is_gathered asked g e)
  driven_gathers draft asked (Err refusal) e = driven_nothing w u p refusal

  driven_in : (draft : Draft) (asked : Option Asked) → Driven w p (posts_in w.operations p (w.each p).made draft asked name birth) (attempt_in w.operations p (w.each p).made draft asked name birth)
  driven_in draft None = driven_post w u p name birth t b draft
  driven_in draft (Some asked) = driven_gathers draft asked (gathering birth p (length name) (has_freed name (w.each p).made) asked.tag asked.ranks) refl

-- a word's communicator is opened, and came to be as its binding says
abbrev pub IsBoundSo : WorldView → (p : ℕ) → Option Bound → Type 0
IsBoundSo w p bound = (name : Name) (birth : BirthView) → bound ≡ Some (Communicator name birth) → IsTrue (is_some ((w.each p).node.opened name)) × (births w name ≡ Some birth)

-- a statement on what its word is bound to
pub driven_bound : (w : WorldView) → Upheld w → (p : ℕ) (posting : Posting) (bound : Option Bound) → IsBoundSo w p bound → Driven w p (posts_bound w.operations p (w.each p).made posting bound) (attempt_on w.operations p (w.each p).made posting bound)
driven_bound w u p posting None h = driven_nothing w u p NotMember
driven_bound w u p posting (Some NullCommunicator) h = driven_nothing w u p NotMember
driven_bound w u p posting (Some (Communicator name birth)) h = let x = h name birth refl in driven_in w u p name birth x.0 x.1 (draft_of posting) (gathers_of posting)
