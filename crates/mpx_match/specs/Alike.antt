-- Posts that say nothing of a new communicator, and of which the verdict asks for nothing more than their amounts.
use Rattle.std.specs.Prelude.{◌≡◌, ℕ, ◌<◌, Bool, true, false, ◌&&◌, List, length, Option, None}
use Rattle.mpx_num.specs.declared.own.Operation.{Operation}
use Rattle.mpx_birth.specs.Topologies.{TopologyView}
use Rattle.mpx_post.specs.declared.making.Making.{Making}
use Rattle.mpx_post.specs.declared.making.Making.TheVariants.{Nothing}
use Rattle.mpx_post.specs.Posts.{Given}
use Rattle.mpx_post.specs.Equality.{same_kind, same_mode, same_root, same_operations, same_types}
use Rattle.mpx_post.specs.Rows.{RowView}
use Rattle.mpx_post.specs.Agreement.{first_of, post_at}
use Rattle.mpx_match.specs.declared.verdicts.RowQuestion.{RowQuestion}
use Rattle.mpx_match.specs.Questions.{is_faulty, least_rank}

-- nothing is said of a new communicator
abbrev pub says_nothing : Making → Bool
says_nothing Nothing = true
says_nothing making = false

-- the post has the first one's kind, mode, root, operation and type, and says nothing of a new communicator
abbrev pub is_alike : (first given : Given) → Bool
is_alike first given =
    same_kind given.kind first.kind && (same_mode given.mode first.mode && (same_root given.root first.root && (same_operations given.op first.op && (same_types given.items first.items && says_nothing given.making))))

-- so do all posts of the row
abbrev pub AreAlike : RowView → Type 0
AreAlike row = (rank : ℕ) → rank < length row → is_alike (first_of row) (post_at row rank) ≡ true

-- no post of the row fails this, whatever the topology and the job's own operations
abbrev pub IsSettled : RowQuestion → RowView → Type 0
IsSettled question row = (ops : List Operation) (topology : Option TopologyView) → least_rank (is_faulty ops topology question row) row ≡ None
