use Rattle.mpx_shared.proofs.Plans.{birth_is_planned, result_is_planned}
use Rattle.mpx_shared.proofs.LawfulPorts.{lawful_birth, lawful_closed, lawful_mine, lawful_posts, lawful_result}
use Rattle.mpx_shared.proofs.laws.lawful_ports_hold_what_is_so.Goals as goal

pub returns-clause-results : goal.returns-clause-results
returns-clause-results c = lawful_result

pub returns-clause-mine : goal.returns-clause-mine
returns-clause-mine c = lawful_mine

pub returns-clause-planned_results : goal.returns-clause-planned_results
returns-clause-planned_results c = result_is_planned

pub returns-clause-frees : goal.returns-clause-frees
returns-clause-frees c = lawful_closed

pub returns-clause-births : goal.returns-clause-births
returns-clause-births c = lawful_birth

pub returns-clause-planned_births : goal.returns-clause-planned_births
returns-clause-planned_births c = birth_is_planned

pub returns-clause-planned_posts : goal.returns-clause-planned_posts
returns-clause-planned_posts c = lawful_posts
