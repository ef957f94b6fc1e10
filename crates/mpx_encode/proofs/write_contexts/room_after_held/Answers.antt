use Rattle.std.proofs.Common.{◌≡◌, ◌+◌, true, length, sym, ap, ◌∙◌, arith}
use Rattle.std.specs.Ordering.{nat_cmp}
use Rattle.std.specs.FinMap.{is_sorted, entries}
use Rattle.std.specs.List.{list_all}
use Rattle.join_nest.specs.Seen.{sorted_seen}
use Rattle.mpx_board.specs.Tidy.{is_tidy_call}
use Rattle.mpx_board.specs.Views.{view_of_call, view_of_calls}
use Rattle.mpx_encode.specs.Room.{room_left}
use Rattle.mpx_format.specs.declared.versions.Version.TheVariants.{Two}
use Rattle.mpx_format.specs.Fields.{call}
use Rattle.mpx_format.specs.Contexts.{call_posts}
use Rattle.mpx_encode.specs.Entries.{entries_spelled, both_pass}
use Rattle.mpx_encode.proofs.Contexts.{held_length, held_fits}
use Rattle.mpx_encode.proofs.Maps.{where_left}
use Rattle.mpx_encode.proofs.write_contexts.room_after_held.Goals as goal

pub room_after_counted-requires : goal.room_after_counted-requires
room_after_counted-requires c = ap (list_all (λ e. is_tidy_call e.0 e.1)) c.entries.ensures.entries ∙ c.requires

pub returns-clause-value : goal.returns-clause-value
returns-clause-value c =
    let t = view_of_calls c.args.held.now in
    c.room_after_counted.ensures.value ∙ ap (λ es. room_left (8 + length (entries_spelled call (call_posts Two) es)) c.args.room) c.entries.ensures.entries ∙ ap (λ n. room_left n c.args.room) (sym (held_length t))

pub returns-clause-fits : goal.returns-clause-fits
returns-clause-fits c =
    let t = view_of_calls c.args.held.now in
    let sorted : is_sorted nat_cmp (entries t.calls) ≡ true = ap (is_sorted nat_cmp) (sym c.entries.ensures.entries) ∙ sorted_seen nat_cmp view_of_call c.entries.result.now ∙ c.entries.ensures.rising in
    where_left c.room_after_counted.result
    (λ pass. held_fits t (omega (arith, c.dropped-dropped.ensures, c.dropped-dropped.type_inv)) sorted (ap (both_pass call.fits (call_posts Two).fits) (sym c.entries.ensures.entries) ∙ pass))
    c.room_after_counted.ensures.fits
