use Rattle.std.proofs.Common.{refl, sym, ap, ◌∙◌}
use Rattle.std.specs.Option.{option_map}
use Rattle.std.proofs.lemmas.Option.{slice_get_read}
use Rattle.mpx_node.specs.Shown.{node_of}
use Rattle.mpx_sim.specs.Carrying.{harvests_none, harvests_then}
use Rattle.mpx_sim.specs.Shown.{call_of}
use Rattle.mpx_sim.proofs.desk.RunDesk.one_is_open.Goals as goal

pub loop-word-init : goal.loop-word-init
loop-word-init g c = harvests_none _ (node_of c.args.self.now.desk.host)

pub loop-word-preserved : goal.loop-word-preserved
loop-word-preserved g c = harvests_then _ (node_of c.args.self.now.desk.host) (node_of c.loop-word.self.desk.host) (node_of c.some_is_open.new.self.desk.host) c.loop-word.invariant c.in_ok-pends.ensures.harvested

pub returns-then-pends-clause-harvested : goal.returns-then-pends-clause-harvested
returns-then-pends-clause-harvested g c = harvests_then _ (node_of c.args.self.now.desk.host) (node_of c.loop-word.self.desk.host) (node_of c.some_is_open.new.self.desk.host) c.loop-word.invariant c.in_ok-pends.ensures.harvested

pub returns-then-pends-clause-pending : goal.returns-then-pends-clause-pending
returns-then-pends-clause-pending g c e =
    let h = c.in_ok-pends.ensures.pending c.if-pends.true in
    record {
      place = c.loop-word.word-index;
      word = c.word-item.result;
      name = h.0.name;
      call = h.0.call;
      at = slice_get_read _ _ c.loop-word.word-index _ refl c.loop-word-test.true c.word-item.is;
      stands_for = ap (option_map call_of) (sym c.get.ensures.value ∙ h.1);
      is_open = h.2;
    }

pub returns-clause-harvested : goal.returns-clause-harvested
returns-clause-harvested g c = c.loop-word.invariant
