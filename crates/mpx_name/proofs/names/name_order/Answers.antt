use Rattle.mpx_name.specs.Order.{name_total, name_exact}
use Rattle.mpx_name.proofs.NameOrder.{name_cmp-extension}
use Rattle.mpx_name.proofs.names.name_order.Goals as goal

pub returns-clause-total : goal.returns-clause-total
returns-clause-total c = name_total

pub returns-clause-exact : goal.returns-clause-exact
returns-clause-exact c = name_exact

pub returns-clause-extension : goal.returns-clause-extension
returns-clause-extension c = name_cmp-extension
