use Rattle.std.proofs.Common.{◌≡◌, ℕ, List, OnOk, ap, subst, sym}
use Rattle.mpx_board.specs.Parts.{PartsView}
use Rattle.mpx_format.specs.declared.versions.Version.TheVariants.{Two}
use Rattle.mpx_format.specs.Decoding.{IsSpelled, decoded, shown}
use Rattle.mpx_node.specs.Nodes.{learn}
use Rattle.mpx_node.specs.Shown.{node_of}
use Rattle.mpx_sim.specs.Frames.{parts_in}
use Rattle.mpx_sim.specs.Running.{ProcessView}
use Rattle.mpx_sim.specs.Shown.{process_of}
use Rattle.mpx_sim.proofs.Tried.{on_each_ok}
use Rattle.mpx_sim.proofs.process.Process.receive.Goals as goal

pub take_rope-requires : goal.take_rope-requires
take_rope-requires c =
    record { spelled = subst (λ (b : List ℕ). (parts : PartsView) × IsSpelled b parts) (sym c.lent.ensures) (parts_in (decoded c.args.frame.now.bytes), (Two, c.args.frame.now.spelled)) }

pub returns-clause-took : goal.returns-clause-took
returns-clause-took c =
    let old = process_of c.args.self.now in
    let taken = subst (λ (b : List ℕ). OnOk c.take_rope.result (node_of c.take_rope.new.self.host ≡ learn (shown (decoded b)) old.node)) c.lent.ensures c.take_rope.ensures.ok in
    on_each_ok c.take_rope.result (λ took. ap (λ n. let v : ProcessView = record { rank = old.rank; node = n; sender = old.sender } in v) took) taken
