-- Tests that decide in what the posts of a row differ.
use Rattle.std.specs.Prelude.{ℕ, ◌+◌, ◌==◌, nat_eq, Bool, false, not, ◌&&◌, List, [], ◌∷◌, length, cond, Option, Some, None, is_some}
use Rattle.std.specs.List.{list_any}
use Rattle.std.specs.Bool.{beq}
use lib.Pointwise.{pointwise}
use Rattle.mpx_num.specs.declared.own.Operation.{Operation}
use Rattle.mpx_birth.specs.Births.{upto}
use Rattle.mpx_birth.specs.Edges.{weights_of}
use Rattle.mpx_birth.specs.Topologies.{TopologyView}
use Rattle.mpx_post.specs.Posts.{Given, destinations_in, group_in, sources_in, suits, weighted_in}
use Rattle.mpx_post.specs.Equality.{same_kind, same_mode, same_root, same_operations, same_types}
use Rattle.mpx_post.specs.Rows.{RowView}
use Rattle.mpx_post.specs.Agreement.{Asked, Any, Same, SameCounts, SameAtEach, asked_of, first_of, is_fit, post_at}
use Rattle.mpx_match.specs.declared.faults.FaultKind.{FaultKind}
use Rattle.mpx_match.specs.declared.faults.FaultKind.TheVariants as F
use Rattle.mpx_match.specs.declared.verdicts.RowQuestion.{RowQuestion}
use Rattle.mpx_match.specs.declared.verdicts.RowQuestion.TheVariants.{Fit, Agree}

-- the least rank from this one on at which the test holds of the member's post
abbrev pub least_from : (ℕ → Given → Bool) → ℕ → RowView → Option ℕ
least_from test i [] = None
least_from test i (given ∷ rest) = cond (test i given) (Some i) (least_from test (i + 1) rest)

-- the same of all ranks
abbrev pub least_rank : (ℕ → Given → Bool) → RowView → Option ℕ
least_rank test row = least_from test 0 row

-- what is asked is not given
abbrev pub is_missed : Asked → Bool
is_missed Any = false
is_missed (Same given asked) = not (given == asked)
is_missed (SameCounts given asked) = not (pointwise nat_eq given asked)
is_missed (SameAtEach places given asked) = list_any (λ place. not (given place == asked place)) (upto places)

-- the edges from this member to some other have other weights by the other's post
abbrev pub edges_differ : RowView → ℕ → Given → Bool
edges_differ row rank given = is_some (least_from (λ other theirs. not (pointwise nat_eq (weights_of other (destinations_in given.making)) (weights_of rank (sources_in theirs.making)))) 0 row)

-- some member of the group that the post gives gives another one
abbrev pub groups_differ : RowView → Given → Bool
groups_differ row given = list_any (λ member. not (pointwise nat_eq (group_in (post_at row member).making) (group_in given.making))) (group_in given.making)

-- the post fits the communicator, and its operation is for its type by the job's own operations
abbrev pub fits_there : List Operation → Option TopologyView → (size rank : ℕ) → Given → Bool
fits_there ops topology size rank given = is_fit topology size rank given && suits ops given

-- the member's post differs in this
abbrev pub differs_in : FaultKind → Option TopologyView → RowView → (rank : ℕ) → Given → Bool
differs_in F.Kind topology row rank given = not (same_kind given.kind (first_of row).kind)
differs_in F.Mode topology row rank given = not (same_mode given.mode (first_of row).mode)
differs_in F.Root topology row rank given = not (same_root given.root (first_of row).root)
differs_in F.Op topology row rank given = not (same_operations given.op (first_of row).op)
differs_in F.ItemType topology row rank given = not (same_types given.items (first_of row).items)
differs_in F.Amount topology row rank given = is_missed (asked_of topology (first_of row).kind row rank given)
differs_in F.Weights topology row rank given = not (beq (weighted_in given.making) (weighted_in (first_of row).making))
differs_in F.Edges topology row rank given = edges_differ row rank given
differs_in F.Groups topology row rank given = groups_differ row given

-- the answer for the post of the member with this rank
abbrev pub is_faulty : List Operation → Option TopologyView → RowQuestion → RowView → ℕ → Given → Bool
is_faulty ops topology Fit row rank given = not (fits_there ops topology (length row) rank given)
is_faulty ops topology (Agree what) row rank given = differs_in what topology row rank given
