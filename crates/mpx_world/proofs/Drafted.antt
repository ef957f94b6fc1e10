-- A draft that is accepted, and steps that come to the same.
use Rattle.std.proofs.Common.{◌≡◌, ℕ, Bool, true, false, cond, ◌==◌, List, refl, sym, subst}
use Rattle.std.specs.Prelude.{Ok, Err, Result}
use Rattle.mpx_num.specs.declared.own.Operation.{Operation}
use Rattle.mpx_name.specs.Name.{Name}
use Rattle.mpx_post.specs.Posts.{Given}
use Rattle.mpx_post.specs.declared.draft.Draft.{Draft}
use Rattle.mpx_post.specs.declared.draft.PostError.{PostError}
use Rattle.mpx_node.specs.Nodes.{NodeView, checked_on}
use Rattle.mpx_node.proofs.Drafted.{accepted}
use Rattle.mpx_world.specs.Worlds.{MayPost, ProcessView, WorldView, at_process}
use Rattle.mpx_world.specs.Drafted.{makes_checked}
use Rattle.mpx_world.proofs.Kept.{Kept, kept_itself, kept_makes}
use Rattle.mpx_world.proofs.Lists.{same_number}

-- the post of a draft that isn't refused may be made
pub checked_may : (ops : List Operation) (node : NodeView) (name : Name) (draft : Draft) (given : Given) → checked_on ops node name draft ≡ Ok given → MayPost (node.opened name)
checked_may ops node name draft given e = let a = accepted ops node name draft given e in subst MayPost (sym a.is) a.unfreed

pub kept_checked : (name : Name) (r : Result Given PostError) (v : ProcessView) → Kept v (makes_checked name r v)
kept_checked name (Ok given) v = kept_makes name given v
kept_checked name (Err refusal) v = kept_itself v

-- two steps of a process that come to the same where it stands
pub at_same : (w : WorldView) (p : ℕ) (f g : ProcessView → ProcessView) → f (w.each p) ≡ g (w.each p) → at_process p f w ≡ at_process p g w
at_same w p f g e i = record w { each = λ q. by q (q == p) refl i } where
  by : (q : ℕ) (b : Bool) → (q == p) ≡ b → cond b (f (w.each q)) (w.each q) ≡ cond b (g (w.each q)) (w.each q)
  by q true t = subst (λ r. f (w.each r) ≡ g (w.each r)) (sym (same_number q p t)) e
  by q false t = refl

-- a step that leaves the process as it is
pub at_itself : (w : WorldView) (p : ℕ) (f : ProcessView → ProcessView) → f (w.each p) ≡ w.each p → at_process p f w ≡ w
at_itself w p f e i = record w { each = λ q. by q (q == p) refl i } where
  by : (q : ℕ) (b : Bool) → (q == p) ≡ b → cond b (f (w.each q)) (w.each q) ≡ w.each q
  by q true t = subst (λ r. f (w.each r) ≡ w.each r) (sym (same_number q p t)) e
  by q false t = refl
