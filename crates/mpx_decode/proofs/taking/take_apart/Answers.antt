use Rattle.std.proofs.Common.{◌++◌}
use Rattle.mpx_format.specs.Contexts.{parts}
use Rattle.mpx_decode.proofs.Taken.{parts_tidy}
use Rattle.mpx_decode.proofs.taking.take_apart.Goals as goal

pub from_tidy-requires : goal.from_tidy-requires
from_tidy-requires c = parts_tidy c.take_both-taken.result (λ x. x.now ++ c.take_both-taken.new.beyond) (parts c.args.version) (c.args.bytes.now ++ c.args.beyond.now) _ _ c.into_pair-first.ensures.tidy c.requires.spelled c.take_both-taken.ensures.ok c.take_both-taken.ensures.err

pub take_both-taken-requires-clause-spelled : goal.take_both-taken-requires-clause-spelled
take_both-taken-requires-clause-spelled c = (c.requires.spelled.0, c.requires.spelled.1)
