-- In what the posts of a row differ.
use Rattle.std.specs.Prelude.{◌≡◌, ℕ, List, true, length, Option}
use Rattle.mpx_num.specs.declared.own.Operation.{Operation}
use Rattle.mpx_post.specs.Posts.{weighted_of}
use Rattle.mpx_post.specs.Rows.{RowView}
use Rattle.mpx_birth.specs.Topologies.{TopologyView}
use Rattle.mpx_post.specs.Agreement.{post_at, first_of, type_given, AmountsAgree, EdgesAgree, GroupsAgree}
use Rattle.mpx_match.specs.declared.faults.FaultKind.TheVariants as F
use Rattle.mpx_match.specs.declared.verdicts.RowQuestion.{RowQuestion}
use Rattle.mpx_match.specs.declared.verdicts.RowQuestion.TheVariants.{Fit, Agree}
use Rattle.mpx_match.specs.Questions.{fits_there}

-- the post of the member with this rank fits a communicator with this topology and the job's own operations, or agrees with
-- the others in this
abbrev pub AgreesIn : List Operation → Option TopologyView → RowQuestion → RowView → ℕ → Type 0
AgreesIn ops topology Fit row rank = fits_there ops topology (length row) rank (post_at row rank) ≡ true
AgreesIn ops topology (Agree F.Kind) row rank = (post_at row rank).kind ≡ (first_of row).kind
AgreesIn ops topology (Agree F.Mode) row rank = (post_at row rank).mode ≡ (first_of row).mode
AgreesIn ops topology (Agree F.Root) row rank = (post_at row rank).root ≡ (first_of row).root
AgreesIn ops topology (Agree F.Op) row rank = (post_at row rank).op ≡ (first_of row).op
AgreesIn ops topology (Agree F.ItemType) row rank = type_given (post_at row rank) ≡ type_given (first_of row)
AgreesIn ops topology (Agree F.Amount) row rank = AmountsAgree topology (first_of row).kind row rank (post_at row rank)
AgreesIn ops topology (Agree F.Weights) row rank = weighted_of (post_at row rank) ≡ weighted_of (first_of row)
AgreesIn ops topology (Agree F.Edges) row rank = EdgesAgree row rank (post_at row rank)
AgreesIn ops topology (Agree F.Groups) row rank = GroupsAgree row (post_at row rank)

-- and differs
abbrev pub Differs : List Operation → Option TopologyView → RowQuestion → RowView → ℕ → Type 0
Differs ops topology question row rank = AgreesIn ops topology question row rank → ⊥
