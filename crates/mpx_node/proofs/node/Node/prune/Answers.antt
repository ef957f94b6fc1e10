use Rattle.std.proofs.Common.{refl, sym, ap, ◌∙◌}
use Rattle.mpx_board.specs.Boards.{Dead, Dropped, Look, only}
use Rattle.mpx_node.specs.Keeping.{named}
use Rattle.mpx_node.specs.Shown.{node_of}
use Rattle.mpx_node.proofs.Frames.{mapped_ok}
use Rattle.mpx_node.proofs.Prunes.{prunes_nothing, prunes_dead, prunes_dropped, pruned_alive, pruned_gone}
use Rattle.mpx_node.proofs.Keeping.{kept_either}
use Rattle.mpx_node.proofs.node.Node.prune.Goals as goal

pub invariant_of-self : goal.invariant_of-self
invariant_of-self c =
    let node = c.args.self.now in
    record { some = node.some; few = node.few; kept_right = named _ _ (kept_either node c.bury.new.board c.bury.result (only (Dead c.args.name.now)) c.bury.ensures.ok c.bury.ensures.err (λ q n p. refl)) }

pub invariant_of-self-2 : goal.invariant_of-self-2
invariant_of-self-2 c =
    let node = c.args.self.now in
    record { some = node.some; few = node.few; kept_right = named _ _ (kept_either node c.prune.new.self c.prune.result (only (Dropped c.args.name.now c.args.number)) c.prune.ensures.ok c.prune.ensures.err (λ q n p. refl)) }

pub returns-then-is_dead-clause-answer : goal.returns-then-is_dead-clause-answer
returns-then-is_dead-clause-answer c = pruned_gone (node_of c.args.self.now) c.args.name.now c.args.number (sym c.is_dead.ensures ∙ c.if-is_dead.true)

pub returns-then-is_dead-clause-ok : goal.returns-then-is_dead-clause-ok
returns-then-is_dead-clause-ok c = prunes_nothing (node_of c.args.self.now) c.args.name.now c.args.number (sym c.is_dead.ensures ∙ c.if-is_dead.true)

pub bury-requires : goal.bury-requires
bury-requires c = sym c.is_dead.ensures ∙ c.if-is_dead.false

pub returns-then-is_past_free-clause-answer : goal.returns-then-is_past_free-clause-answer
returns-then-is_past_free-clause-answer c = c.bury.ensures.answer ∙ pruned_alive (node_of c.args.self.now) c.args.name.now c.args.number (sym c.is_dead.ensures ∙ c.if-is_dead.false)

pub returns-then-is_past_free-clause-ok : goal.returns-then-is_past_free-clause-ok
returns-then-is_past_free-clause-ok c =
    let old = node_of c.args.self.now in
    mapped_ok c.bury.result (λ e. ap (λ (b : Look). record old { board = b }) e ∙ prunes_dead old c.args.name.now c.args.number (sym c.is_dead.ensures ∙ c.if-is_dead.false) (sym c.is_past_free.ensures ∙ c.if-is_past_free.true)) c.bury.ensures.ok

pub returns-clause-ok : goal.returns-clause-ok
returns-clause-ok c =
    let old = node_of c.args.self.now in
    mapped_ok c.prune.result (λ e. ap (λ (b : Look). record old { board = b }) e ∙ prunes_dropped old c.args.name.now c.args.number (sym c.is_dead.ensures ∙ c.if-is_dead.false) (sym c.is_past_free.ensures ∙ c.if-is_past_free.false)) c.prune.ensures.ok
