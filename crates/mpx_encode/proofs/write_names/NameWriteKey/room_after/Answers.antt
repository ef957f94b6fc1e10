use Rattle.std.proofs.Common.{◌≡◌, reverse, [], ◌∷◌, length, Some, None, sym, ap, ◌∙◌, rules}
use Rattle.std.specs.List.{flat_map, list_all}
use Rattle.mpx_format.specs.Fields.{step}
use Rattle.mpx_format.proofs.Spelled.{name_fits}
use Rattle.mpx_encode.specs.Room.{room_left}
use Rattle.mpx_encode.proofs.Rooms.{room_stops_at, room_behind}
use Rattle.mpx_encode.proofs.Births.{name_spelled, name_steps}
use Rattle.mpx_encode.proofs.Maps.{where_left}
use Rattle.mpx_encode.proofs.write_names.NameWriteKey.room_after.Goals as goal

pub room_after_steps-requires : goal.room_after_steps-requires
room_after_steps-requires c = ap (list_all step.fits) c.steps-steps.ensures.value ∙ name_steps c.args.self.now (name_fits c.args.self.now c.depth-depth.ensures.name)

pub returns-in_err-left-clause-value : goal.returns-in_err-left-clause-value
returns-in_err-left-clause-value c =
    let n = c.args.self.now in
    let none : c.from_residual.result ≡ None = search rules in
    let short : room_left 1 c.args.room ≡ None = search rules in
    none ∙ sym (ap (λ l. room_left (length l) c.args.room) (name_spelled n) ∙ room_stops_at (length (reverse n) ∷ []) (flat_map step.spelling (reverse n)) c.args.room short)

pub returns-clause-value : goal.returns-clause-value
returns-clause-value c =
    let n = c.args.self.now in
    let left : room_left 1 c.args.room ≡ Some c.in_ok-left.left = search rules in
    c.room_after_steps.ensures.value ∙ ap (λ l. room_left (length (flat_map step.spelling l)) c.in_ok-left.left) c.steps-steps.ensures.value
    ∙ sym (ap (λ l. room_left (length l) c.args.room) (name_spelled n) ∙ room_behind (length (reverse n) ∷ []) (flat_map step.spelling (reverse n)) c.args.room c.in_ok-left.left left)

pub returns-clause-fits : goal.returns-clause-fits
returns-clause-fits c = where_left c.room_after_steps.result (λ h. name_fits c.args.self.now c.depth-depth.ensures.name) c.room_after_steps.ensures.fits
