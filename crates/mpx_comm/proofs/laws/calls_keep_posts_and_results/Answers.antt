use Rattle.mpx_node.specs.Nodes.{NodeView, gathers_on, learn}
use Rattle.mpx_comm.specs.Keeps.{NodeKeeps}
use Rattle.mpx_request.specs.Later.{Later}
use Rattle.mpx_request.proofs.Steps.{later_harvest, later_learns}
use Rattle.mpx_comm.proofs.Steps.{later_gathers, later_stops}
use Rattle.mpx_comm.proofs.laws.calls_keep_posts_and_results.Goals as goal

keeps : (old now : NodeView) → Later old now → NodeKeeps old now
keeps old now l = record { stored = l.stored; own = l.own }

pub returns-clause-later : goal.returns-clause-later
returns-clause-later c old now l = keeps old now l

pub returns-clause-posts : goal.returns-clause-posts
returns-clause-posts c ops old now name draft h = record { stored = h.stored; own = h.kept }

pub returns-clause-gatherings : goal.returns-clause-gatherings
returns-clause-gatherings c old now parent tag ranks answer h = keeps old now (later_gathers parent (gathers_on old parent tag ranks) answer old now h)

pub returns-clause-harvests : goal.returns-clause-harvests
returns-clause-harvests c ops old now name answer h = keeps old now (later_harvest ops old now name answer h)

pub returns-clause-boards : goal.returns-clause-boards
returns-clause-boards c old part = keeps old (learn part old) (later_learns part old)

pub returns-clause-stopped : goal.returns-clause-stopped
returns-clause-stopped c old now part h = keeps old now (later_stops part old now h)

pub returns-clause-chain : goal.returns-clause-chain
returns-clause-chain c old between now x y = record { stored = λ n k f e. y.stored n k f (x.stored n k f e); own = λ n k g o. y.own n k g (x.own n k g o) }
