use Rattle.std.proofs.Common.{◌∙◌, arith, sym}
use Rattle.mpx_node.specs.Shown.{node_of}
use Rattle.mpx_node.proofs.Harvested.{on_err}
use Rattle.mpx_board.specs.Looks.{look}
use Rattle.mpx_ticket.proofs.Answering.{answer_done, answer_held, answer_kept, answer_let_go, answer_not_yet, answer_other, answer_unknown}
use Rattle.mpx_ticket.proofs.asking.answer_to.Goals as goal

pub returns-then-not-same-clause-answer : goal.returns-then-not-same-clause-answer
returns-then-not-same-clause-answer c =
    answer_other c.args.port.now c.args.ticket.now (node_of c.node-node.result.now) (c.node-node.ensures.stood c.requires.plan) c.node-node.ensures.node c.in-Some.finished.now (sym c.in-Some.ensures) (sym c.same.ensures ∙ c.if-not-same.true)

pub returns-in-Some-clause-answer : goal.returns-in-Some-clause-answer
returns-in-Some-clause-answer c =
    answer_done c.args.port.now c.args.ticket.now (node_of c.node-node.result.now) (c.node-node.ensures.stood c.requires.plan) c.node-node.ensures.node c.in-Some.finished.now c.in_ok-copy.field-0 (sym c.in-Some.ensures) (sym c.same.ensures ∙ c.if-not-same.false) c.in_ok-copy.ensures

pub returns-then-ticket-front-clause-answer : goal.returns-then-ticket-front-clause-answer
returns-then-ticket-front-clause-answer c =
    answer_let_go c.args.port.now c.args.ticket.now (node_of c.node-node.result.now) (c.node-node.ensures.stood c.requires.plan) c.node-node.ensures.node (sym c.in_default.ensures) (omega (arith, c.front.ensures, c.if-ticket-front.true))

pub returns-in_default-holds-clause-answer : goal.returns-in_default-holds-clause-answer
returns-in_default-holds-clause-answer c =
    answer_unknown c.args.port.now c.args.ticket.now (node_of c.node-node.result.now) (c.node-node.ensures.stood c.requires.plan) c.node-node.ensures.node (look c.board.result.now) c.args.me (omega (arith, c.front.ensures, c.if-ticket-front.false)) c.board.ensures c.requires.me c.in_default-holds.ensures

pub returns-then-not-same-2-clause-answer : goal.returns-then-not-same-2-clause-answer
returns-then-not-same-2-clause-answer c =
    answer_kept c.args.port.now c.args.ticket.now (node_of c.node-node.result.now) (c.node-node.ensures.stood c.requires.plan) c.node-node.ensures.node (look c.board.result.now) c.args.me (omega (arith, c.front.ensures, c.if-ticket-front.false)) c.board.ensures c.requires.me c.in-Some-holds.mine.now c.in-Some-holds.ensures (sym c.same-2.ensures ∙ c.if-not-same-2.true)

pub returns-clause-answer : goal.returns-clause-answer
returns-clause-answer c =
    answer_not_yet c.args.port.now c.args.ticket.now (node_of c.node-node.result.now) (c.node-node.ensures.stood c.requires.plan) c.node-node.ensures.node (look c.board.result.now) c.args.me (omega (arith, c.front.ensures, c.if-ticket-front.false)) c.board.ensures c.requires.me c.in-Some-holds.mine.now c.in-Some-holds.ensures (sym c.same-2.ensures ∙ c.if-not-same-2.false)

pub returns-in_err-copy-clause-memory : goal.returns-in_err-copy-clause-memory
returns-in_err-copy-clause-memory c =
    on_err c.from_residual.result _ (answer_held c.args.port.now c.args.ticket.now (node_of c.node-node.result.now) (c.node-node.ensures.stood c.requires.plan) c.node-node.ensures.node c.in-Some.finished.now (sym c.in-Some.ensures) (sym c.same.ensures ∙ c.if-not-same.false))
