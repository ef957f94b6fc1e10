use Rattle.std.proofs.Common.{◌++◌, [], ◌∷◌, map, take, ap, sym, ◌∙◌, subst}
use Rattle.std.proofs.lemmas.List.{map_more, take_all}
use Rattle.mpx_format.proofs.PiecesAt.{Forgotten, none_forgotten, one_forgotten}
use Rattle.mpx_format.proofs.kept.KeptAcks.forget_all_at.Goals as goal

pub loop-change-init : goal.loop-change-init
loop-change-init c = none_forgotten c.args.self.now.pieces.items

pub loop-change-preserved : goal.loop-change-preserved
loop-change-preserved c =
    let old = c.args.self.now.pieces.items in
    let now = c.loop-change.self.pieces.items in
    let new = c.forget.new.self.pieces.items in
    let changes = c.args.changes.now in
    let change = c.change-item.result in
    let places = map (λ c. c.0) (take c.loop-change.change-index changes) in
    let more = map_more (λ c. c.0) changes c.loop-change.change-index change c.loop-change-test.true ∙ ap (λ x. places ++ x.0 ∷ []) (sym c.change-item.is) in
    subst (Forgotten old new) (sym more) (one_forgotten old now new places change.0 c.loop-change.invariant c.forget.ensures)

pub returns : goal.returns
returns c =
    let changes = c.args.changes.now in
    subst (λ l. Forgotten c.args.self.now.pieces.items c.loop-change.self.pieces.items (map (λ c. c.0) l)) (take_all c.loop-change.change-index changes c.loop-change-test.false) c.loop-change.invariant
