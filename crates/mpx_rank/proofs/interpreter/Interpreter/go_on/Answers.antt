use Rattle.std.proofs.Common.{sym, subst}
use Rattle.mpx_rank.specs.Moves.{Moves, Ran, RankView, Still, StopsShort, moved_on, stayed}
use Rattle.mpx_rank.specs.Shown.{rank_of}
use Rattle.mpx_rank.proofs.Moving.{move_leaves, on_err}
use Rattle.mpx_rank.proofs.interpreter.Interpreter.go_on.Goals as goal

pub loop-moved-init : goal.loop-moved-init
loop-moved-init g c = stayed

pub loop-moved-preserved : goal.loop-moved-preserved
loop-moved-preserved g c = moved_on c.loop-moved.invariant (subst (Moves (g.C.Carrier.terms _) (rank_of g.C.Carrier.place c.loop-moved.self) c.loop-moved.carrier (rank_of g.C.Carrier.place c.move_on.new.self) c.move_on.new.carrier) c.if-branch.true c.in_ok-move_on.ensures.moves)

pub loop-moved-smaller : goal.loop-moved-smaller
loop-moved-smaller g c =
    let place = g.C.Carrier.place in
    let moves = subst (Moves (g.C.Carrier.terms _) (rank_of place c.loop-moved.self) c.loop-moved.carrier (rank_of place c.move_on.new.self) c.move_on.new.carrier) c.if-branch.true c.in_ok-move_on.ensures.moves in
    move_leaves (g.C.Carrier.terms _) (rank_of place c.loop-moved.self) c.loop-moved.carrier (rank_of place c.move_on.new.self) c.move_on.new.carrier moves

pub returns-clause-goes : goal.returns-clause-goes
returns-clause-goes g c =
    let terms = g.C.Carrier.terms _ in
    let place = g.C.Carrier.place in
    let old : RankView g.row.C-Communicator.Denot = rank_of place c.args.self.now in
    let mid : RankView g.row.C-Communicator.Denot = rank_of place c.loop-moved.self in
    let stays = subst (Moves terms mid c.loop-moved.carrier (rank_of place c.move_on.new.self) c.move_on.new.carrier) c.if-branch.false c.in_ok-move_on.ensures.moves in (
      c.loop-moved.carrier,
      subst (λ (r : RankView g.row.C-Communicator.Denot). Ran terms old c.args.carrier.now r c.loop-moved.carrier c.loop-moved.moved) (sym stays.0) c.loop-moved.invariant,
      subst (λ (r : RankView g.row.C-Communicator.Denot). Still terms r c.loop-moved.carrier c.move_on.new.carrier) (sym stays.0) stays.1,
    )

pub move_on-requires : goal.move_on-requires
move_on-requires g c = c.requires (rank_of g.C.Carrier.place c.loop-moved.self) c.loop-moved.carrier c.loop-moved.moved c.loop-moved.invariant

pub returns-in_err-move_on-clause-memory : goal.returns-in_err-move_on-clause-memory
returns-in_err-move_on-clause-memory g c =
    let place = g.C.Carrier.place in
    on_err c.from_residual.result (StopsShort (g.C.Carrier.terms _) (rank_of place c.args.self.now) c.args.carrier.now)
    (rank_of place c.loop-moved.self, c.loop-moved.carrier, c.loop-moved.moved, c.loop-moved.invariant, c.in_err-move_on.ensures.memory)
