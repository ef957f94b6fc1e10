use Rattle.std.proofs.Common.{map, ap, sym, ◌∙◌}
use Rattle.std.specs.FinMap.{get}
use Rattle.join_nest.specs.Seen.{seen}
use Rattle.join_nest.proofs.RaisedPlaces.{seen_rising}
use Rattle.mpx_board.specs.Raised.{stored, view_of_raised}
use Rattle.mpx_board.specs.Views.{view_of_acks, view_of_numbers}
use Rattle.mpx_format.proofs.Pieces.{nothing_kept, others_kept, others_replaced}
use Rattle.mpx_format.proofs.PiecesAt.{places_stored, places_unstored, seen_places}
use Rattle.mpx_format.proofs.kept.Kept.forget_said.Goals as goal

pub returns-in-Row-clause-stored : goal.returns-in-Row-clause-stored
returns-in-Row-clause-stored c old new is h =
    let made = is ∙ ap (λ r. stored (view_of_raised r) old) c.in-Row.is in
    others_kept old new c.args.self.now.of.items c.forget.new.self.of.items c.in-Row.process c.forget.ensures
    (λ q n. ap (λ m. get m q) made ∙ others_replaced old c.in-Row.process (view_of_acks c.in-Row.field-1) q n) h

pub returns-in-Row-clause-back : goal.returns-in-Row-clause-back
returns-in-Row-clause-back c old new is h =
    let made = is ∙ ap (λ r. stored (view_of_raised r) new) c.in-Row.is in
    others_kept old new c.args.self.now.of.items c.forget.new.self.of.items c.in-Row.process c.forget.ensures
    (λ q n. sym (ap (λ m. get m q) made ∙ others_replaced new c.in-Row.process (view_of_acks c.in-Row.field-1) q n)) h

pub returns-in-All-clause-stored : goal.returns-in-All-clause-stored
returns-in-All-clause-stored c old new is h = nothing_kept c.forget_all.new.self.of.items new c.forget_all.ensures

pub returns-in-All-clause-back : goal.returns-in-All-clause-back
returns-in-All-clause-back c old new is h = nothing_kept c.forget_all.new.self.of.items new c.forget_all.ensures

pub returns-in-Places-clause-stored : goal.returns-in-Places-clause-stored
returns-in-Places-clause-stored c old new is h =
    let made = is ∙ ap (λ r. stored (view_of_raised r) old) c.in-Places.is in
    let changes = c.in-Places.changes.values.items in
    places_stored c.args.self.now.of.items c.forget_places.new.self.of.items c.in-Places.process (seen view_of_numbers changes)
    (λ rows values same. c.forget_places.ensures.rows rows values (same ∙ seen_places view_of_numbers changes ∙ ap (map (λ c. c.0)) (sym c.values.ensures)))
    c.forget_places.ensures.others old new made h

pub returns-in-Places-clause-back : goal.returns-in-Places-clause-back
returns-in-Places-clause-back c old new is h =
    let made = is ∙ ap (λ r. stored (view_of_raised r) new) c.in-Places.is in
    let changes = c.in-Places.changes.values.items in
    places_unstored c.args.self.now.of.items c.forget_places.new.self.of.items c.in-Places.process (seen view_of_numbers changes)
    (λ rows values same. c.forget_places.ensures.rows rows values (same ∙ seen_places view_of_numbers changes ∙ ap (map (λ c. c.0)) (sym c.values.ensures)))
    c.forget_places.ensures.others (seen_rising view_of_numbers 0 changes ∙ c.in-Places.changes.rising) old new made h
