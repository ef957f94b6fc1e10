use Rattle.mpx_rank.specs.Shown.{rank_of}
use Rattle.mpx_sim.specs.Shown.{call_of, sender_of}
use Rattle.mpx_sim.proofs.process.Process.prune.Goals as goal

pub returns : goal.returns
returns c ops = c.prune.ensures ops (rank_of call_of c.args.self.now.rank) (sender_of c.args.self.now.sender)
