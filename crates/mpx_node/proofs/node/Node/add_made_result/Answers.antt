use Rattle.std.proofs.Common.{◌≡◌, ◌∙◌, ◌+◌, ◌∷◌}
use Rattle.mpx_board.specs.Boards.{join, join_all, only, Front}
use Rattle.mpx_board.specs.Looks.{look}
use Rattle.mpx_node.specs.Keeping.{named}
use Rattle.mpx_node.specs.Nodes.{births_of, harvest_part}
use Rattle.mpx_node.specs.Shown.{node_of}
use Rattle.mpx_node.proofs.Keeping.{harvest_says_none, kept_joined, kept_same}
use Rattle.mpx_node.proofs.node.Node.add_made_result.Goals as goal

pub invariant_of-self : goal.invariant_of-self
invariant_of-self c =
    let node = c.args.self.now in
    record { some = node.some; few = node.few; kept_right = named _ _ (kept_same node c.prepared_harvest.new.board c.prepared_harvest.ensures.same) }

pub invariant_of-self-in-Ok-store_and_open : goal.invariant_of-self-in-Ok-store_and_open
invariant_of-self-in-Ok-store_and_open c =
    let node = c.args.self.now in
    let number = c.args.call + 1 in
    record { some = node.some; few = node.few; kept_right = named _ _ (kept_joined node c.put_prepared.new.self _ (c.put_prepared.ensures _ c.in-Ok.ensures.ready) (harvest_says_none c.args.name.now node.me number c.args.made.now)) }

pub invariant_of-self-in-Err-store_and_open : goal.invariant_of-self-in-Err-store_and_open
invariant_of-self-in-Err-store_and_open c =
    let node = c.args.self.now in
    record { some = node.some; few = node.few; kept_right = named _ _ (kept_same node c.prepared_harvest.new.board c.prepared_harvest.ensures.same) }

pub returns-in-Err-store_and_open-clause-err : goal.returns-in-Err-store_and_open-clause-err
returns-in-Err-store_and_open-clause-err c =
    let old = node_of c.args.self.now in
    λ i. record { me = old.me; processes = old.processes; board = c.prepared_harvest.ensures.same i; opened = λ q. c.in-Err-store_and_open.ensures.err q i }

pub put_prepared-requires : goal.put_prepared-requires
put_prepared-requires c = (_, c.in-Ok.ensures.ready)

pub returns-in-Ok-store_and_open-clause-ok : goal.returns-in-Ok-store_and_open-clause-ok
returns-in-Ok-store_and_open-clause-ok c =
    let old = node_of c.args.self.now in
    let name = c.args.name.now in
    let made = c.args.made.now in
    let board : look c.put_prepared.new.self ≡ join old.board (harvest_part name made old) = c.put_prepared.ensures _ c.in-Ok.ensures.ready ∙ (λ i. join old.board (join_all (only (Front name old.me (c.requires.front i + 1)) ∷ births_of made))) in
    λ i. record { me = old.me; processes = old.processes; board = board i; opened = λ q. c.in-Ok-store_and_open.ensures.ok q i }
