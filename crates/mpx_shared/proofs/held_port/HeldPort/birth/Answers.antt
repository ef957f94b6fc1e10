use Rattle.std.proofs.Common.{◌∙◌, ap, sym}
use Rattle.mpx_board.specs.Boards.{Look, told}
use Rattle.mpx_node.specs.Nodes.{NodeView}
use Rattle.join_nest.proofs.Fronts.{on_err}
use Rattle.mpx_shared.proofs.LawfulPorts.{lawful_of}
use Rattle.mpx_shared.proofs.held_port.HeldPort.birth.Goals as goal

pub returns-in_err-copy-in-Some-clause-wanted : goal.returns-in_err-copy-in-Some-clause-wanted
returns-in_err-copy-in-Some-clause-wanted g c =
    on_err c.from_residual.result (record {
      birth = c.in-Some.birth.now;
      tells = record {
        port = c.self.inside.port;
        lawful = lawful_of c.self.inside.port c.self.invariant.1 c.node.ensures.stood;
        gone_on = c.self.invariant.1.gone_on;
        told = ap (λ (n : NodeView). told ((n.board.contexts c.args.name.now).birth)) (sym c.node.ensures.node) ∙ ap (λ (b : Look). told ((b.contexts c.args.name.now).birth)) (sym c.board.ensures) ∙ sym c.in-Some.ensures;
      };
    })
