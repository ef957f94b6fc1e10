use Rattle.std.proofs.Common.{arith}
use Rattle.mpx_node.specs.Shown.{node_of}
use Rattle.mpx_node.proofs.Harvested.{arrives, gives_up, goes_on, has_none, is_behind, less_left, not_opened, not_yet, on_err, sets_out, stops, wanted}
use Rattle.mpx_node.proofs.node.Node.harvest_to.Goals as goal

pub loop-alloc-init : goal.loop-alloc-init
loop-alloc-init g c =
    sets_out _ c.args.name.now c.args.call (node_of c.args.self.now)

pub loop-alloc-smaller : goal.loop-alloc-smaller
loop-alloc-smaller g c =
    less_left _ c.args.name.now c.args.call (node_of c.args.self.now) (node_of c.loop-alloc.self) (node_of c.harvest.new.self) c.loop-alloc.invariant _ _ c.in-Done.is (omega (arith, c.front.ensures, c.if-call-front.false)) c.in_ok-harvest.ensures

pub loop-alloc-preserved : goal.loop-alloc-preserved
loop-alloc-preserved g c =
    goes_on _ c.args.name.now c.args.call (node_of c.args.self.now) (node_of c.loop-alloc.self) (node_of c.harvest.new.self) c.loop-alloc.invariant _ _ c.in-Done.is (omega (arith, c.front.ensures, c.if-call-front.false)) c.in_ok-harvest.ensures

pub returns-then-call-front-clause-ok : goal.returns-then-call-front-clause-ok
returns-then-call-front-clause-ok g c =
    arrives _ c.args.name.now c.args.call (node_of c.args.self.now) (node_of c.loop-alloc.self) (node_of c.loop-alloc.self) c.loop-alloc.invariant (omega (arith, c.front.ensures, c.if-call-front.true))

pub returns-in_err-harvest-clause-err : goal.returns-in_err-harvest-clause-err
returns-in_err-harvest-clause-err g c =
    on_err _ _ (gives_up _ c.args.name.now c.args.call (node_of c.args.self.now) (node_of c.loop-alloc.self) (node_of c.harvest.new.self) c.loop-alloc.invariant _ (omega (arith, c.front.ensures, c.if-call-front.false)) c.in_err-harvest.ensures)

pub returns-in_err-harvest-clause-wanted : goal.returns-in_err-harvest-clause-wanted
returns-in_err-harvest-clause-wanted g c =
    on_err _ _ (wanted _ c.args.name.now c.args.call (node_of c.args.self.now) (node_of c.loop-alloc.self) (node_of c.harvest.new.self) c.loop-alloc.invariant _ c.in_err-harvest.ensures)

pub returns-in-NotYet-clause-ok : goal.returns-in-NotYet-clause-ok
returns-in-NotYet-clause-ok g c =
    let none = not_yet _ c.args.name.now (node_of c.loop-alloc.self) (node_of c.harvest.new.self) _ c.in-NotYet.is c.in_ok-harvest.ensures in
    stops _ c.args.name.now c.args.call (node_of c.args.self.now) (node_of c.loop-alloc.self) (node_of c.harvest.new.self) c.loop-alloc.invariant none.0 none.1

pub returns-in-NotYet-clause-done : goal.returns-in-NotYet-clause-done
returns-in-NotYet-clause-done g c =
    let none = not_yet _ c.args.name.now (node_of c.loop-alloc.self) (node_of c.harvest.new.self) _ c.in-NotYet.is c.in_ok-harvest.ensures in
    is_behind _ c.args.name.now c.args.call (node_of c.args.self.now) (node_of c.loop-alloc.self) (node_of c.harvest.new.self) c.loop-alloc.invariant none.0 none.1 (omega (arith, c.front.ensures, c.if-call-front.false))

pub returns-in-NotYet-clause-rest : goal.returns-in-NotYet-clause-rest
returns-in-NotYet-clause-rest g c =
    let none = not_yet _ c.args.name.now (node_of c.loop-alloc.self) (node_of c.harvest.new.self) _ c.in-NotYet.is c.in_ok-harvest.ensures in
    λ _. has_none _ c.args.name.now c.args.call (node_of c.args.self.now) (node_of c.loop-alloc.self) (node_of c.harvest.new.self) c.loop-alloc.invariant none.0 none.1

pub returns-in-NotOpened-clause-ok : goal.returns-in-NotOpened-clause-ok
returns-in-NotOpened-clause-ok g c =
    let none = not_opened _ c.args.name.now (node_of c.loop-alloc.self) (node_of c.harvest.new.self) _ c.in-NotOpened.is c.in_ok-harvest.ensures in
    stops _ c.args.name.now c.args.call (node_of c.args.self.now) (node_of c.loop-alloc.self) (node_of c.harvest.new.self) c.loop-alloc.invariant none.0 none.1

pub returns-in-NotOpened-clause-done : goal.returns-in-NotOpened-clause-done
returns-in-NotOpened-clause-done g c =
    let none = not_opened _ c.args.name.now (node_of c.loop-alloc.self) (node_of c.harvest.new.self) _ c.in-NotOpened.is c.in_ok-harvest.ensures in
    is_behind _ c.args.name.now c.args.call (node_of c.args.self.now) (node_of c.loop-alloc.self) (node_of c.harvest.new.self) c.loop-alloc.invariant none.0 none.1 (omega (arith, c.front.ensures, c.if-call-front.false))

pub returns-in-NotOpened-clause-rest : goal.returns-in-NotOpened-clause-rest
returns-in-NotOpened-clause-rest g c =
    let none = not_opened _ c.args.name.now (node_of c.loop-alloc.self) (node_of c.harvest.new.self) _ c.in-NotOpened.is c.in_ok-harvest.ensures in
    λ _. has_none _ c.args.name.now c.args.call (node_of c.args.self.now) (node_of c.loop-alloc.self) (node_of c.harvest.new.self) c.loop-alloc.invariant none.0 none.1
