use Rattle.std.proofs.Common.{[], ap, pos, subst, ◌∙◌}
use Rattle.mpx_kind.specs.declared.kinds.Mode.TheVariants.{Blocking}
use Rattle.mpx_comm.specs.Lines as line
use Rattle.mpx_program_rank.specs.Gives.{Gives, IsRead, root_items}
use Rattle.mpx_program_rank.proofs.rank.Rank.bcast_one.Goals as goal

pub returns-clause-gives : goal.returns-clause-gives
returns-clause-gives g c =
    let host = g.H.Host in
    let numbers = g.T.Item.numbers in
    let old = c.args.self.now.desk.now in
    let list = c.one_bcast-list in
    let items = c.at_root.ensures ∙ ap (root_items c.args.comm.now.rank c.args.root) c.one.ensures in
    let gives = subst (λ items. Gives (host.goes_by old.host []) host.node host.turned host.turn_refused c.args.comm.now.name (line.bcast Blocking (pos c.args.root) g.T.Item.ty (pos 1) (numbers items)) c.args.self.now.turns (IsRead numbers) list.result old list.new.self.desk.now) items list.ensures.gives in
    (list.result, gives, c.only.ensures)
