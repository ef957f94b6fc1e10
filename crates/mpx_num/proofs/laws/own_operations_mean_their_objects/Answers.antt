use Rattle.mpx_num.proofs.OwnTables.{own_combined-of, own_fits-of}
use Rattle.mpx_num.proofs.laws.own_operations_mean_their_objects.Goals as goal

pub returns-clause-fits : goal.returns-clause-fits
returns-clause-fits c = own_fits-of

pub returns-clause-combined : goal.returns-clause-combined
returns-clause-combined c = own_combined-of
