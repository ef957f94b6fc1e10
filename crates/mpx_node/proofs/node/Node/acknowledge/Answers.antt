use Rattle.std.proofs.Common.{◌∙◌}
use Rattle.mpx_node.specs.Keeping.{named}
use Rattle.mpx_node.specs.Shown.{node_of}
use Rattle.mpx_node.proofs.Keeping.{kept_said}
use Rattle.mpx_node.proofs.node.Node.acknowledge.Goals as goal

pub invariant_of-self : goal.invariant_of-self
invariant_of-self c =
    let node = c.args.self.now in
    let made = c.requires.made.1.raises in
    record { some = node.some; few = node.few; kept_right = named _ _ (kept_said node c.args.said c.forget_said.new.self.of.items c.store.new.self c.requires.made.0.board made (c.store.ensures.gives _ made) c.forget_said.ensures.stored) }

pub store-requires : goal.store-requires
store-requires c = record { made = (c.requires.made.0.board, c.requires.made.1.raises) }

pub returns : goal.returns
returns c = record { gives = λ new stores. (λ i. record (node_of c.args.self.now) { board = c.store.ensures.gives new.board stores.raises i }) ∙ stores.rest }
