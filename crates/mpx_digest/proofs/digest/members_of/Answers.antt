use Rattle.std.proofs.Common.{false, replicate, subst, sym}
use Rattle.join_core.specs.FlatSeen.{flat_view}
use Rattle.mpx_board.specs.Boards.{told}
use Rattle.mpx_digest.specs.Reach.{AreMarks, is_member_of}
use Rattle.mpx_digest.proofs.Reaching.{no_marks}
use Rattle.mpx_digest.proofs.digest.members_of.Goals as goal

pub returns-in-Unknown : goal.returns-in-Unknown
returns-in-Unknown c = subst (λ b. AreMarks (λ p. is_member_of p (told (flat_view (λ v. v) b))) (replicate 64 false)) (sym c.in-Unknown.is) no_marks

pub returns-in-Clash : goal.returns-in-Clash
returns-in-Clash c = subst (λ b. AreMarks (λ p. is_member_of p (told (flat_view (λ v. v) b))) (replicate 64 false)) (sym c.in-Clash.is) no_marks
