-- A draft that a node accepts.
use Rattle.std.proofs.Common.{◌≡◌, ℕ, Bool, true, false, cond, List, Option, Some, None, refl, sym, ap}
use Rattle.std.specs.Prelude.{Result, Ok, Err}
use Rattle.mpx_num.specs.declared.own.Operation.{Operation}
use Rattle.mpx_name.specs.Name.{Name}
use Rattle.mpx_birth.specs.Births.{BirthView, rank_in}
use Rattle.mpx_post.specs.Posts.{Given}
use Rattle.mpx_post.specs.Drafts.{at, checked, checked_as, checked_at, given_by, unless}
use Rattle.mpx_post.specs.declared.draft.At.{At}
use Rattle.mpx_post.specs.declared.draft.Draft.{Draft}
use Rattle.mpx_post.specs.declared.draft.PostError.{PostError}
use Rattle.mpx_post.specs.declared.draft.PostError.TheVariants.{Closed}
use Rattle.mpx_board.specs.Boards.{told}
use Rattle.mpx_node.specs.Nodes.{NodeView, OpenedView, checked_by, checked_on, checked_there}

-- an answer's post, and another in place of a refusal
given_in : Given → Result Given PostError → Given
given_in other (Ok given) = given
given_in other (Err e) = other

drafted : (e : Option PostError) (x y : Given) → unless e x ≡ Ok y → y ≡ x
unfolding given_in
drafted None x y f = ap (given_in x) (sym f)
drafted (Some r) x y f = cc f

given_drafted : (ops : List Operation) (birth : BirthView) (me : ℕ) (at : At) (draft : Draft) (given : Given) → checked ops birth me at draft ≡ Ok given → given ≡ given_by draft
unfolding checked
given_drafted ops birth me at draft given e = by_rank (rank_in me birth.members) e where
  by_test : (b : Bool) (x y : Option PostError) → cond b (unless x (given_by draft)) (unless y (given_by draft)) ≡ Ok given → given ≡ given_by draft
  by_test true x y f = drafted x (given_by draft) given f
  by_test false x y f = drafted y (given_by draft) given f

  by_closed : (rank : ℕ) (b : Bool) → (let x : Result Given PostError = cond b (Err Closed) (checked_as ops rank birth at draft) in x) ≡ Ok given → given ≡ given_by draft
  by_closed rank true f = cc f
  by_closed rank false f = by_test _ _ _ f

  by_rank : (o : Option ℕ) → checked_at ops o birth at draft ≡ Ok given → given ≡ given_by draft
  by_rank None f = cc f
  by_rank (Some rank) f = by_closed rank at.closed f

given_there : (ops : List Operation) (posted : ℕ) (birth : Option BirthView) (me : ℕ) (name : Name) (draft : Draft) (given : Given) → checked_there ops posted birth me name draft ≡ Ok given → given ≡ given_by draft
given_there ops posted None me name draft given e = cc e
given_there ops posted (Some birth) me name draft given e = given_drafted ops birth me (at name posted false) draft given e

-- the context is opened, no free is posted there, and what is given is the draft's
pub record IsAccepted (node : NodeView) (name : Name) (draft : Draft) (given : Given) : Type 0 where
  pub opened : OpenedView
  pub is : node.opened name ≡ Some opened
  pub unfreed : opened.freed ≡ false
  pub gives : given ≡ given_by draft

pub accepted : (ops : List Operation) (node : NodeView) (name : Name) (draft : Draft) (given : Given) → checked_on ops node name draft ≡ Ok given → IsAccepted node name draft given
accepted ops node name draft given e = by_opened (node.opened name) refl e where
  birth : Option BirthView
  birth = told (node.board.contexts name).birth

  by_freed : (o : OpenedView) (b : Bool) → node.opened name ≡ Some o → o.freed ≡ b → (let x : Result Given PostError = cond b (Err Closed) (checked_there ops o.posted birth node.me name draft) in x) ≡ Ok given → IsAccepted node name draft given
  by_freed o true is free f = cc f
  by_freed o false is free f = record { opened = o; is = is; unfreed = free; gives = given_there ops o.posted birth node.me name draft given f }

  by_opened : (x : Option OpenedView) → node.opened name ≡ x → checked_by ops x birth node.me name draft ≡ Ok given → IsAccepted node name draft given
  by_opened None is f = cc f
  by_opened (Some o) is f = by_freed o o.freed is refl f
