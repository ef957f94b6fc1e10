use Rattle.std.proofs.Common.{◌≡◌, ◌∙◌, ◌∷◌, refl, ap}
use Rattle.join_core.specs.Flat.{known}
use Rattle.mpx_name.specs.Name.{same_name}
use Rattle.mpx_name.specs.declared.steps.Step.TheVariants.{Gathering}
use Rattle.mpx_board.specs.Boards.{join, only, Born}
use Rattle.mpx_board.specs.Looks.{look}
use Rattle.mpx_node.specs.Keeping.{named}
use Rattle.mpx_node.specs.Nodes.{gathering_name, gathering_fact, opens}
use Rattle.mpx_node.specs.Shown.{node_of}
use Rattle.mpx_node.proofs.Keeping.{kept_joined, kept_same}
use Rattle.mpx_node.proofs.node.Node.gather.Goals as goal
use Rattle.mpx_birth.specs.Births.{of_members}

pub invariant_of-self : goal.invariant_of-self
invariant_of-self c =
    let node = c.args.self.now in
    record { some = node.some; few = node.few; kept_right = named _ _ (kept_same node c.prepared_gathering.new.board c.prepared_gathering.ensures.same) }

pub invariant_of-self-in-Ok-open : goal.invariant_of-self-in-Ok-open
invariant_of-self-in-Ok-open c =
    let node = c.args.self.now in
    record { some = node.some; few = node.few; kept_right = named _ _ (kept_joined node c.put_prepared.new.self _ (c.put_prepared.ensures _ c.in-Ok-prepared_gathering.ensures.ready) (λ q n p. refl)) }

pub invariant_of-self-in-Err-open : goal.invariant_of-self-in-Err-open
invariant_of-self-in-Err-open c =
    let node = c.args.self.now in
    record { some = node.some; few = node.few; kept_right = named _ _ (kept_same node c.prepared_gathering.new.board c.prepared_gathering.ensures.same) }

pub put_prepared-requires : goal.put_prepared-requires
put_prepared-requires c = (_, c.in-Ok-prepared_gathering.ensures.ready)

pub returns-in-Ok-open-clause-ok : goal.returns-in-Ok-open-clause-ok
returns-in-Ok-open-clause-ok c =
    let old = node_of c.args.self.now in
    let g = c.args.gathering.now in
    let name : c.in-Ok.name ≡ gathering_name c.args.parent.now g = c.in-Ok.ensures.gathering ∙ (λ i. Gathering (c.tag.ensures.value i) (c.members.ensures.value i) ∷ c.args.parent.now) in
    let board : look c.put_prepared.new.self ≡ join old.board (gathering_fact c.args.parent.now g) = c.put_prepared.ensures _ c.in-Ok-prepared_gathering.ensures.ready ∙ ap (λ n. join old.board (only (Born n (known (of_members g.members))))) name in
    (name, λ i. record { me = old.me; processes = old.processes; board = board i; opened = λ q. (c.in-Ok-open.ensures.ok q ∙ ap (λ n. (opens (λ m. same_name m n) old).opened q) name) i })
