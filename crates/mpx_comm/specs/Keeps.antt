-- What no call and no turn takes back, and what a process itself lets go.
use Rattle.std.specs.Prelude.{◌≡◌, ◌⊎◌, ℕ, Some, true}
use Rattle.mpx_name.specs.Name.{Name}
use Rattle.mpx_post.specs.Posts.{Given}
use Rattle.mpx_node.specs.declared.finished.Finished.{Finished}
use Rattle.mpx_node.specs.Nodes.{NodeView}
use Rattle.mpx_request.specs.Later.{result_at, is_let_go, IsOwn}

-- what was stored is stored, and what was the own post is it
pub record NodeKeeps (old new : NodeView) : Type 0 where
  pub stored : (name : Name) (call : ℕ) (finished : Finished) → result_at old name call ≡ Some finished → result_at new name call ≡ Some finished
  pub own : (name : Name) (call : ℕ) (given : Given) → IsOwn old name call given → IsOwn new name call given

-- what was stored is stored, or the process has let it go, for good; and what was the own post is it
pub record NodeHolds (old new : NodeView) : Type 0 where
  pub stored : (name : Name) (call : ℕ) (finished : Finished) → result_at old name call ≡ Some finished → (result_at new name call ≡ Some finished) ⊎ (is_let_go new name call ≡ true)
  pub gone : (name : Name) (call : ℕ) → is_let_go old name call ≡ true → is_let_go new name call ≡ true
  pub own : (name : Name) (call : ℕ) (given : Given) → IsOwn old name call given → IsOwn new name call given
