-- Only the board changes.
use Rattle.std.proofs.Common.{refl}
use Rattle.std.proofs.lemmas.Result.{IfOk-weaker}
use Rattle.mpx_node.specs.Keeping.{named, told}
use Rattle.mpx_node.specs.Shown.{node_of}
use Rattle.mpx_node.proofs.node.Node.lacking_frames.Goals as goal

pub returns-clause-made : goal.returns-clause-made
returns-clause-made c = IfOk-weaker c.new_frames.result _ _ (λ made m.
    let l = m.lacking in
    record {
      parts = m.parts;
      lacks = record {
        after = record (node_of c.args.self.now) { board = l.after };
        stores = record { raises = l.raises; rest = refl };
        own = record {
          numbers = l.own.numbers;
          digest = l.own.digest;
          learnt = λ i. record (node_of c.args.self.now) { board = l.own.learnt i };
          own = l.own.own;
        };
        facts = l.facts;
        fit = l.fit;
        join = l.join;
        few = l.few;
      };
      spelled = m.spelled;
    }) c.new_frames.ensures.made

pub new_frames-requires-clause-kept : goal.new_frames-requires-clause-kept
new_frames-requires-clause-kept c = told _ _ c.args.self.now.kept_right

pub invariant_of-self : goal.invariant_of-self
invariant_of-self c =
    let node = c.args.self.now in
    record { some = node.some; few = node.few; kept_right = named _ _ c.new_frames.ensures.kept }
