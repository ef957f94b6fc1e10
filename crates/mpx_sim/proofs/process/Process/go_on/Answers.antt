use Rattle.mpx_node.specs.Shown.{node_of}
use Rattle.mpx_rank.specs.Shown.{rank_of}
use Rattle.mpx_sim.specs.Running.{ProcessView}
use Rattle.mpx_sim.specs.Shown.{call_of, process_of}
use Rattle.mpx_sim.proofs.Carried.{goes_is}
use Rattle.mpx_sim.proofs.Running.{moves_node, moves_then}
use Rattle.mpx_sim.proofs.Tried.{on_if_ok}
use Rattle.mpx_sim.proofs.process.Process.go_on.Goals as goal

pub returns : goal.returns
returns g c =
    let old = process_of c.args.self.now in
    let rank = rank_of call_of c.args.self.now.rank in
    let desk = c.harvest.new.self in
    let mid : ProcessView = record { rank = rank; node = node_of desk.desk.host; sender = old.sender } in
    on_if_ok c.go_on.result (λ moved goes. moves_then _ old mid _ (moves_node _ rank old.sender old.node mid.node c.in_ok-harvest.ensures.0) (goes_is _ old.sender rank desk (rank_of call_of c.go_on.new.self) c.go_on.new.carrier moved goes)) c.go_on.ensures.goes

pub go_on-requires : goal.go_on-requires
go_on-requires g c = λ s d moved ran posting rest waits todo. tt
