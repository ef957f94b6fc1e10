-- What a statement that posts comes to at a process of a run.
use Rattle.std.proofs.Common.{◌≡◌, ℕ, List, [], length, Option, Some, None, refl, sym, ap, ◌∙◌, subst, inl, inr}
use Rattle.std.specs.Prelude.{is_some, IsTrue, Bool, true, false, ◌⊎◌, Result, Ok, Err}
use Rattle.std.specs.Option.{option_map}
use Rattle.mpx_name.specs.Name.{Name}
use Rattle.mpx_post.specs.Posts.{Given}
use Rattle.mpx_birth.specs.Births.{BirthView, of_members}
use Rattle.mpx_post.specs.Gatherings.{GatheringView, gathering}
use Rattle.mpx_post.specs.declared.draft.Draft.{Draft}
use Rattle.mpx_post.specs.declared.draft.PostError.{PostError}
use Rattle.mpx_post.specs.declared.draft.PostError.TheVariants.{NotMember}
use Rattle.mpx_board.specs.Boards.{told}
use Rattle.mpx_value.specs.Histories.{Made, has_freed}
use Rattle.mpx_node.specs.Nodes.{checked_on, freed_on, gathering_name, posted_on}
use Rattle.mpx_statement.specs.declared.statement.Posting.{Posting}
use Rattle.mpx_statement.specs.Statements.{Gathers as Asked, draft_of, gathers_of}
use Rattle.mpx_meaning.specs.Ranks.{Bound, Communicator, NullCommunicator, attempt_in, attempt_on, communicator_of, found_as, made_on, next_call, post_gathered, post_on}
use Rattle.mpx_world.specs.Worlds.{WorldView, Happening, Gathers, births, goes_on, happens, makes, ProcessView as InWorld}
use Rattle.mpx_world.proofs.Steps.{at_here}
use Rattle.mpx_system.specs.Systems.{posts_bound, posts_gathered, posts_in, posts_made}
use Rattle.mpx_system.proofs.Posting.{IsBoundSo, IsGathered, Upheld, checks_so, freed_or_told, gathers_so, is_gathered}
use Rattle.mpx_sim.specs.Carrying.{Tried, known_to, tried_gathered, tried_in, tried_on, tried_post}
use Rattle.mpx_sim.specs.Running.{name_of}

-- the context and the number of the call
abbrev pub answered : List Made → Result Made PostError → Result (Name × ℕ) PostError
answered made (Ok m) = Ok (m.name, next_call m.name made)
answered made (Err refusal) = Err refusal

-- the post behind an answer
pub answered_ok : (made : List Made) (o : Result Made PostError) (name : Name) (call : ℕ) → answered made o ≡ Ok (name, call) → (m : Made) × (o ≡ Ok m) × (name ≡ m.name) × (call ≡ next_call m.name made)
answered_ok made (Ok m) name call e =
    let pair : (m.name, next_call m.name made) ≡ (name, call) = cc e in
    (m, refl, sym (ap (λ (x : Name × ℕ). x.0) pair), sym (ap (λ (x : Name × ℕ). x.1) pair))
answered_ok made (Err refusal) name call e = cc e

pub answered_err : (made : List Made) (o : Result Made PostError) (refusal : PostError) → answered made o ≡ Err refusal → o ≡ Err refusal
answered_err made (Ok m) refusal e = cc e
answered_err made (Err other) refusal e = let same : other ≡ refusal = cc e in ap (λ x. let r : Result Made PostError = Err x in r) same

-- after these happenings the node is the one that the statement leaves, and it is answered what they come to
pub record IsTried (w : WorldView) (p : ℕ) (hs : List Happening) (o : Result Made PostError) (t : Tried) : Type 0 where
  pub node : t.node ≡ ((goes_on w hs).each p).node
  pub answer : t.answer ≡ answered (w.each p).made o

refused_so : (w : WorldView) (p : ℕ) (refusal : PostError) → IsTried w p [] (Err refusal) (record { node = (w.each p).node; answer = Err refusal })
refused_so w p refusal = record { node = refl; answer = refl }

tries_node : (w : WorldView) (p : ℕ) (name : Name) (r : Result Given PostError) → (tried_post name r (w.each p).node).node ≡ ((goes_on w (posts_made p (made_on name r))).each p).node
tries_node w p name (Ok given) = ap (λ (x : InWorld). x.node) (sym (at_here w p (makes name given)))
tries_node w p name (Err refusal) = refl

answers_so : (name : Name) (r : Result Given PostError) (v : InWorld) → posted_on v.node name ≡ next_call name v.made → (tried_post name r v.node).answer ≡ answered v.made (made_on name r)
answers_so name (Ok given) v e = ap (λ k. let a : Result (Name × ℕ) PostError = Ok (name, k) in a) e
answers_so name (Err refusal) v e = refl

posted_so : (w : WorldView) → Upheld w → (p : ℕ) (name : Name) (birth : BirthView) → IsTrue (is_some ((w.each p).node.opened name)) → births w name ≡ Some birth → (draft : Draft)
    → IsTried w p (posts_made p (post_on w.operations p (w.each p).made draft name birth)) (post_on w.operations p (w.each p).made draft name birth) (tried_post name (checked_on w.operations (w.each p).node name draft) (w.each p).node)
posted_so w u p name birth t b draft =
    let r = checked_on w.operations (w.each p).node name draft in
    subst (λ x. IsTried w p (posts_made p (made_on name x)) (made_on name x) (tried_post name r (w.each p).node)) (checks_so w u p name birth t b draft) (record {
      node = tries_node w p name r;
      answer = answers_so name r (w.each p) ((u.holds.processes p).counted name);
    })

gathered_so : (w : WorldView) (p : ℕ) (name : Name) (draft : Draft) (asked : Asked) (g : GatheringView) → IsGathered w p name asked g
    → IsTried w p (posts_gathered w.operations p (w.each p).made draft name asked (Ok g)) (post_gathered w.operations p (w.each p).made draft name (Ok g)) (tried_gathered w.operations name draft (Ok g) (w.each p).node)
gathered_so w p name draft asked g is =
    let at_new = gathering_name name g in
    let new = happens w (Gathers p name asked.tag asked.ranks) in
    let d = posted_so new is.upheld p at_new (of_members g.members) is.there is.born draft in
    record {
      node = (λ i. (tried_post at_new (checked_on w.operations (sym is.node i) at_new draft) (sym is.node i)).node) ∙ d.node
          ∙ ap (λ ms. ((goes_on new (posts_made p (post_on w.operations p ms draft at_new (of_members g.members)))).each p).node) is.made;
      answer = (λ i. (tried_post at_new (checked_on w.operations (sym is.node i) at_new draft) (sym is.node i)).answer) ∙ d.answer ∙ (λ i. answered (is.made i) (post_on w.operations p (is.made i) draft at_new (of_members g.members)));
    }

module _ (w : WorldView) (u : Upheld w) (p : ℕ) (name : Name) (birth : BirthView) (t : IsTrue (is_some ((w.each p).node.opened name))) (b : births w name ≡ Some birth) where
  gathers_then : (draft : Draft) (asked : Asked) (x : Result GatheringView PostError) → gathering birth p (length name) (has_freed name (w.each p).made) asked.tag asked.ranks ≡ x
      → IsTried w p (posts_gathered w.operations p (w.each p).made draft name asked x) (post_gathered w.operations p (w.each p).made draft name x) (tried_gathered w.operations name draft x (w.each p).node)
  gathers_then draft asked (Ok g) e = gathered_so w p name draft asked g (is_gathered w u p name birth t b asked g e)
  gathers_then draft asked (Err refusal) e = refused_so w p refusal

  tried_there : (draft : Draft) (asked : Option Asked) → IsTried w p (posts_in w.operations p (w.each p).made draft asked name birth) (attempt_in w.operations p (w.each p).made draft asked name birth) (tried_in w.operations draft asked name (w.each p).node)
  tried_there draft None = posted_so w u p name birth t b draft
  tried_there draft (Some asked) =
      let x = gathering birth p (length name) (has_freed name (w.each p).made) asked.tag asked.ranks in
      subst (λ y. IsTried w p (posts_gathered w.operations p (w.each p).made draft name asked x) (post_gathered w.operations p (w.each p).made draft name x) (tried_gathered w.operations name draft y (w.each p).node)) (sym (gathers_so w u p name birth t b asked.tag asked.ranks)) (gathers_then draft asked x refl)

  -- a question finds the context freed, or how it came to be
  pub found_there : found_as (freed_on (w.each p).node name) (known_to (w.each p).node name) ≡ found_as (freed_on (w.each p).node name) (Some (name, birth))
  found_there = by_freed (freed_on (w.each p).node name) (freed_or_told w u p name birth t b) where
    by_freed : (freed : Bool) → (freed ≡ true) ⊎ (told ((w.each p).node.board.contexts name).birth ≡ Some birth) → found_as freed (known_to (w.each p).node name) ≡ found_as freed (Some (name, birth))
    by_freed true k = refl
    by_freed false (inl never) = cc never
    by_freed false (inr is) = ap (λ o. found_as false (option_map (λ (x : BirthView). (name, x)) o)) is

-- what a statement comes to on what its word is bound to
pub tried_bound : (w : WorldView) → Upheld w → (p : ℕ) (posting : Posting) (bound : Option Bound) → IsBoundSo w p bound
    → IsTried w p (posts_bound w.operations p (w.each p).made posting bound) (attempt_on w.operations p (w.each p).made posting bound) (tried_on w.operations posting (name_of (communicator_of bound)) (w.each p).node)
tried_bound w u p posting None h = refused_so w p NotMember
tried_bound w u p posting (Some NullCommunicator) h = refused_so w p NotMember
tried_bound w u p posting (Some (Communicator name birth)) h = let x = h name birth refl in tried_there w u p name birth x.0 x.1 (draft_of posting) (gathers_of posting)
