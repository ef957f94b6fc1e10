use Rattle.mpx_meaning.specs.Evaluation.{known}
use Rattle.mpx_meaning.proofs.Ways.{way-adds}
use Rattle.mpx_meaning.proofs.Ahead.{on_way-reached, finished}
use Rattle.mpx_meaning.proofs.evaluation.whatever_is_reached_is_a_beginning.Goals as goal

pub returns-clause-lines : goal.returns-clause-lines
returns-clause-lines c ops script ranks end s e r p = (way-adds ops (known ops ranks end p) _ _ ((on_way-reached ops script ranks end s e r).each p)).1

pub returns-clause-posts : goal.returns-clause-posts
returns-clause-posts c ops script ranks end s e r p = (way-adds ops (known ops ranks end p) _ _ ((on_way-reached ops script ranks end s e r).each p)).0

pub returns-clause-whole : goal.returns-clause-whole
returns-clause-whole c ops script ranks end s e r p = finished ops (known ops ranks end p) _ _ ((on_way-reached ops script ranks end s e r).each p)
