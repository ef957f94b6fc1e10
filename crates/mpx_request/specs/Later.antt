-- What stays of a node as time passes without posts of its own.
use Rattle.std.specs.Prelude.{◌≡◌, ℕ, ◌<◌, ◌≤◌, ◌⊎◌, Bool, IsTrue, is_some, true, false, Option, Some, None, slice_get}
use Rattle.join_core.specs.Flat.{known, unknown, flat_leq}
use Rattle.mpx_name.specs.Name.{Name}
use Rattle.mpx_post.specs.Posts.{Given}
use Rattle.mpx_post.specs.Equality.{same_given}
use Rattle.mpx_board.specs.Boards.{Context}
use Rattle.mpx_node.specs.declared.finished.Finished.{Finished}
use Rattle.mpx_node.specs.Nodes.{NodeView, front_on, has_next, posted_on, result_on, results_on}

-- the stored result of a call
abbrev pub result_at : NodeView → Name → (call : ℕ) → Option Finished
result_at node name call = result_on node name call

-- there is a place for it, and nothing stands there
abbrev pub is_empty : Option (Option Finished) → Bool
is_empty None = false
is_empty (Some None) = true
is_empty (Some (Some finished)) = false

-- whether the call was harvested, and its result let go
abbrev pub is_let_go : NodeView → Name → (call : ℕ) → Bool
is_let_go node name call = is_empty (slice_get (results_on node name) call)

-- the process's post of the call is there, or something else was told beside it; or it is dropped, or gone with a dead context
pub record IsHeld (context : Context) (call process : ℕ) (given : Given) : Type 0 where
  pub held : context.dead ≡ false → context.dropped ≤ call → flat_leq same_given (known given) (context.posts call process) ≡ true
  pub lost : (context.dead ≡ true) ⊎ (call < context.dropped) → context.posts call process ≡ unknown

-- what the process posted as this call is this, and so its result says
pub record IsOwn (node : NodeView) (name : Name) (call : ℕ) (given : Given) : Type 0 where
  pub held : IsHeld (node.board.contexts name) call node.me given
  pub mine : (finished : Finished) → result_at node name call ≡ Some finished → finished.mine ≡ given

-- it has posted nothing and let no result go, what was stored is stored, and what was its post is its post
pub record Later (old new : NodeView) : Type 0 where
  pub me : new.me ≡ old.me
  pub posted : (name : Name) → posted_on new name ≡ posted_on old name
  pub stored : (name : Name) (call : ℕ) (finished : Finished) → result_at old name call ≡ Some finished → result_at new name call ≡ Some finished
  pub let_go : (name : Name) (call : ℕ) → is_let_go new name call ≡ is_let_go old name call
  pub own : (name : Name) (call : ℕ) (given : Given) → IsOwn old name call given → IsOwn new name call given

-- the call isn't harvested, and the next one on its context can't be had
pub record IsPending (node : NodeView) (name : Name) (call : ℕ) : Type 0 where
  pub ahead : front_on node name ≤ call
  pub next : has_next node name ≡ false

-- the call has a result; or it isn't harvested, and the next one on its context can be had: here alone may a look want memory
abbrev pub IsAtHand : NodeView → Name → (call : ℕ) → Type 0
IsAtHand node name call = IsTrue (is_some (result_at node name call)) ⊎ ((front_on node name ≤ call) × IsTrue (has_next node name))
