use Rattle.std.proofs.Common.{FitsSigned, rules}
use Rattle.std.specs.Prelude.{Ok}
use Rattle.std.specs.Int.{w128}
use Rattle.mpx_world.proofs.Showing.{done_as, done_with, gather_as}
use Rattle.mpx_world.proofs.processes.Processes.step.Goals as goal

pub returns-in-Post : goal.returns-in-Post
returns-in-Post g c = done_as _ _ _ c.post.result c.args.self.now c.post.new.self c.in-Post.is c.post.ensures

pub returns-in-Harvest : goal.returns-in-Harvest
returns-in-Harvest g c = done_as _ _ _ c.harvest.result c.args.self.now c.harvest.new.self c.in-Harvest.is c.harvest.ensures

pub returns-in-Gather : goal.returns-in-Gather
returns-in-Gather g c =
    let fits : FitsSigned w128 c.in-Gather.tag = search rules in
    gather_as _ _ c.in-Gather.proc c.in-Gather.parent c.in-Gather.tag c.in-Gather.ranks c.gather.result c.args.self.now c.gather.new.self fits c.in-Gather.is c.gather.ensures

pub returns-in-Prune : goal.returns-in-Prune
returns-in-Prune g c = done_with _ _ _ (Ok c.prune.result) c.args.self.now c.prune.new.self c.in-Prune.is c.prune.ensures

pub returns-in-Send : goal.returns-in-Send
returns-in-Send g c = done_with _ _ _ c.send.result c.args.self.now c.send.new.self c.in-Send.is c.send.ensures

pub returns-in-Take : goal.returns-in-Take
returns-in-Take g c = done_with _ _ _ c.take.result c.args.self.now c.take.new.self c.in-Take.is c.take.ensures

pub returns-in-Forget : goal.returns-in-Forget
returns-in-Forget g c = done_with _ _ _ (Ok c.forget.result) c.args.self.now c.forget.new.self c.in-Forget.is c.forget.ensures
