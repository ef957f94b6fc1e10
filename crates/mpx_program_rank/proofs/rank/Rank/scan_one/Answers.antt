use Rattle.std.proofs.Common.{[], subst}
use Rattle.mpx_kind.specs.declared.kinds.Mode.TheVariants.{Blocking}
use Rattle.mpx_comm.specs.Lines as line
use Rattle.mpx_program_rank.specs.Gives.{Gives, IsRead}
use Rattle.mpx_program_rank.proofs.rank.Rank.scan_one.Goals as goal

pub returns-clause-gives : goal.returns-clause-gives
returns-clause-gives g c =
    let host = g.H.Host in
    let numbers = g.T.Item.numbers in
    let old = c.args.self.now.desk.now in
    let list = c.one_scan-list in
    let gives = subst (λ items. Gives (host.goes_by old.host []) host.node host.turned host.turn_refused c.args.comm.now.name (line.scan Blocking c.args.op g.T.Item.ty (numbers items)) c.args.self.now.turns (IsRead numbers) list.result old list.new.self.desk.now) c.one.ensures list.ensures.gives in
    (list.result, gives, c.only.ensures)
