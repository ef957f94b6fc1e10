use Rattle.mpx_node.proofs.Forgotten.{front_forgotten, newest_forgotten, nothing_elsewhere, posted_forgotten, rest_forgotten}
use Rattle.mpx_node.proofs.laws.newest_results_stay.Goals as goal

pub returns-clause-kept : goal.returns-clause-kept
returns-clause-kept c name n below node = record {
  posted = posted_forgotten name below node n;
  front = front_forgotten name below node n;
  newest = newest_forgotten name below node n;
  rest = rest_forgotten name below node n;
}

pub returns-clause-elsewhere : goal.returns-clause-elsewhere
returns-clause-elsewhere c name n below node other = nothing_elsewhere name below node n other
