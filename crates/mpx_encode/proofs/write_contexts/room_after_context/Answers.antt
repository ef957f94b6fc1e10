use Rattle.std.proofs.Common.{◌≡◌, true, not, ◌++◌, length, Some, None, sym, ap, ◌∙◌, rules}
use Rattle.join_core.specs.laws.Cases.{first_true, second_true}
use Rattle.mpx_board.specs.Tidy.{all_entries, is_tidy_call, says_nothing, is_neat_entry, has_no_zero}
use Rattle.mpx_board.specs.Views.{view_of_entry}
use Rattle.mpx_encode.specs.Room.{room_left}
use Rattle.mpx_format.specs.declared.versions.Version.TheVariants.{Two}
use Rattle.mpx_format.specs.Births.{birth}
use Rattle.mpx_format.specs.Fields.{fronts}
use Rattle.mpx_format.specs.Contexts.{told, held}
use Rattle.mpx_encode.proofs.Rooms.{room_stops_at, room_behind}
use Rattle.mpx_encode.proofs.Contexts.{context_spelled, context_fits}
use Rattle.mpx_encode.proofs.Maps.{where_left}
use Rattle.mpx_encode.proofs.write_contexts.room_after_context.Goals as goal

pub room_after_fronts-requires : goal.room_after_fronts-requires
room_after_fronts-requires c =
    let e = view_of_entry c.args.entry.now in
    first_true (has_no_zero e.1.0) (all_entries is_tidy_call e.1.1.calls) (second_true (not (says_nothing e)) (is_neat_entry e) c.requires)

pub room_after_held-requires : goal.room_after_held-requires
room_after_held-requires c =
    let e = view_of_entry c.args.entry.now in
    second_true (has_no_zero e.1.0) (all_entries is_tidy_call e.1.1.calls) (second_true (not (says_nothing e)) (is_neat_entry e) c.requires)

pub returns-in_err-behind_birth-clause-value : goal.returns-in_err-behind_birth-clause-value
returns-in_err-behind_birth-clause-value c =
    let e = view_of_entry c.args.entry.now in
    let b = (told birth).spelling e.0 in
    let f = fronts.spelling e.1.0 in
    let h = (held Two).spelling e.1.1 in
    let none : c.from_residual.result ≡ None = search rules in
    let short : room_left (length b) c.args.room ≡ None = search rules in
    none ∙ sym (ap (λ l. room_left (length l) c.args.room) (context_spelled e) ∙ room_stops_at (b ++ f) h c.args.room (room_stops_at b f c.args.room short))

pub returns-in_err-behind_fronts-clause-value : goal.returns-in_err-behind_fronts-clause-value
returns-in_err-behind_fronts-clause-value c =
    let e = view_of_entry c.args.entry.now in
    let b = (told birth).spelling e.0 in
    let f = fronts.spelling e.1.0 in
    let h = (held Two).spelling e.1.1 in
    let none : c.from_residual-in_err-behind_fronts.result ≡ None = search rules in
    let left : room_left (length b) c.args.room ≡ Some c.in_ok-behind_birth.behind_birth = search rules in
    let short : room_left (length f) c.in_ok-behind_birth.behind_birth ≡ None = search rules in
    none ∙ sym (ap (λ l. room_left (length l) c.args.room) (context_spelled e) ∙ room_stops_at (b ++ f) h c.args.room (room_behind b f c.args.room c.in_ok-behind_birth.behind_birth left ∙ short))

pub returns-clause-value : goal.returns-clause-value
returns-clause-value c =
    let e = view_of_entry c.args.entry.now in
    let b = (told birth).spelling e.0 in
    let f = fronts.spelling e.1.0 in
    let h = (held Two).spelling e.1.1 in
    let left : room_left (length b) c.args.room ≡ Some c.in_ok-behind_birth.behind_birth = search rules in
    let next : room_left (length f) c.in_ok-behind_birth.behind_birth ≡ Some c.in_ok-behind_fronts.behind_fronts = search rules in
    c.room_after_held.ensures.value
    ∙ sym (ap (λ l. room_left (length l) c.args.room) (context_spelled e) ∙ room_behind (b ++ f) h c.args.room c.in_ok-behind_fronts.behind_fronts (room_behind b f c.args.room c.in_ok-behind_birth.behind_birth left ∙ next))

pub returns-clause-fits : goal.returns-clause-fits
returns-clause-fits c =
    let e = view_of_entry c.args.entry.now in
    let b : (told birth).fits e.0 ≡ true = search rules in
    let f : fronts.fits e.1.0 ≡ true = search rules in
    where_left c.room_after_held.result (λ h. context_fits e b f h) c.room_after_held.ensures.fits
