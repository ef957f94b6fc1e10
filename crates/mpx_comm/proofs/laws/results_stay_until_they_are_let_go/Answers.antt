use Rattle.std.proofs.Common.{inl, ◌∙◌}
use Rattle.mpx_node.specs.Nodes.{NodeView, gathers_on, learn, posted_on}
use Rattle.mpx_post.specs.Drafts.{given_by}
use Rattle.mpx_comm.specs.Keeps.{NodeHolds}
use Rattle.mpx_request.specs.Later.{Later}
use Rattle.mpx_comm.proofs.Forgets.{gone_forgets, own_kept, stored_forgets}
use Rattle.mpx_comm.proofs.Posting.{holds_posted, same_or_gone, stored_then}
use Rattle.mpx_request.proofs.Steps.{later_harvest, later_learns}
use Rattle.mpx_comm.proofs.Steps.{later_gathers, later_stops}
use Rattle.mpx_comm.proofs.laws.results_stay_until_they_are_let_go.Goals as goal

holds : (old now : NodeView) → Later old now → NodeHolds old now
holds old now l = record { stored = λ n k f e. inl (l.stored n k f e); gone = λ n k g. l.let_go n k ∙ g; own = l.own }

pub returns-clause-later : goal.returns-clause-later
returns-clause-later c old now l = holds old now l

pub returns-clause-gatherings : goal.returns-clause-gatherings
returns-clause-gatherings c old now parent tag ranks answer h = holds old now (later_gathers parent (gathers_on old parent tag ranks) answer old now h)

pub returns-clause-harvests : goal.returns-clause-harvests
returns-clause-harvests c ops old now name answer h = holds old now (later_harvest ops old now name answer h)

pub returns-clause-boards : goal.returns-clause-boards
returns-clause-boards c old part = holds old (learn part old) (later_learns part old)

pub returns-clause-stopped : goal.returns-clause-stopped
returns-clause-stopped c old now part h = holds old now (later_stops part old now h)

pub returns-clause-posts : goal.returns-clause-posts
returns-clause-posts c old name given = holds_posted old name given

pub returns-clause-calls : goal.returns-clause-calls
returns-clause-calls c ops old now name draft h = record { stored = λ n k f e. inl (h.stored n k f e); gone = λ n k g. h.let_go n k ∙ g; own = h.kept }

pub returns-clause-forgets : goal.returns-clause-forgets
returns-clause-forgets c old name below = record { stored = stored_forgets name below old; gone = gone_forgets name below old; own = own_kept name below old }

pub returns-clause-chain : goal.returns-clause-chain
returns-clause-chain c old between now x y = record {
  stored = λ n k f e. stored_then between now y n k f (x.stored n k f e);
  gone = λ n k g. y.gone n k (x.gone n k g);
  own = λ n k g o. y.own n k g (x.own n k g o);
}

pub returns-clause-again : goal.returns-clause-again
returns-clause-again c tested now request first again before after then_open last_open t kept u = same_or_gone now request.name request.call first again (kept.stored request.name request.call first t.0) u.0

pub returns-clause-mine : goal.returns-clause-mine
returns-clause-mine c ops old posted now name draft finished h kept e = (kept.own name (posted_on old name) (given_by draft) h.own).mine finished e
