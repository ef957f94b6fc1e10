-- Only the board changes.
use Rattle.std.proofs.Common.{refl}
use Rattle.std.proofs.lemmas.Result.{IfOk-weaker}
use Rattle.mpx_node.specs.Shown.{node_of}
use Rattle.mpx_node.proofs.node.Node.lacking.Goals as goal

pub returns : goal.returns
returns c = IfOk-weaker c.new_list.result _ _ (λ made l. record {
  after = record (node_of c.args.self.now) { board = l.after };
  stores = record { raises = l.raises; rest = refl };
  own = record {
    numbers = l.own.numbers;
    digest = l.own.digest;
    learnt = λ i. record (node_of c.args.self.now) { board = l.own.learnt i };
    own = l.own.own;
  };
  facts = l.facts;
  fit = l.fit;
  join = l.join;
  few = l.few;
}) c.new_list.ensures
