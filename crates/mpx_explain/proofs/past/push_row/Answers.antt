use Rattle.std.proofs.Common.{ap}
use Rattle.mpx_explain.specs.Overflows.{taken}
use Rattle.mpx_explain.proofs.Summing.{taken_all}
use Rattle.mpx_explain.proofs.past.push_row.Goals as goal

pub push_scanned-requires-clause-taken : goal.push_scanned-requires-clause-taken
push_scanned-requires-clause-taken c ranks rank = ap (λ r. taken r ranks rank) c.in-Scan.is

pub push_scanned_before-requires-clause-taken : goal.push_scanned_before-requires-clause-taken
push_scanned_before-requires-clause-taken c ranks rank = ap (λ r. taken r ranks rank) c.in-Exscan.is

pub push_reduced-requires-clause-taken : goal.push_reduced-requires-clause-taken
push_reduced-requires-clause-taken c ranks rank = taken_all c.args.row.now.reduction ranks rank c.in_default.not-Scan c.in_default.not-Exscan
