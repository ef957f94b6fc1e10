use Rattle.std.proofs.Common.{◌≡◌, true, not, length, refl, sym, ap, ◌∙◌, arith}
use Rattle.std.specs.Prelude.{nat_le}
use Rattle.std.specs.FinMap.{is_sorted, len, len-entries}
use Rattle.std.specs.List.{list_all}
use Rattle.std.proofs.lemmas.Bool.{leb-true}
use Rattle.join_core.specs.laws.Cases.{first_true, second_true}
use Rattle.join_nest.specs.Seen.{seen, sorted_seen}
use Rattle.mpx_name.specs.Order.{name_cmp}
use Rattle.mpx_board.specs.Tidy.{is_bare, all_entries, is_tidy_numbers, is_tidy_acks}
use Rattle.mpx_board.specs.Views.{view_of_numbers, view_of_acks}
use Rattle.mpx_format.specs.Rising.{always}
use Rattle.mpx_format.specs.Encoding.{most_names}
use Rattle.mpx_encode.specs.Room.{room_left}
use Rattle.mpx_encode.proofs.Rising.{always_says}
use Rattle.mpx_format.specs.Fields.{acks, name, numbers, name_count, some_names}
use Rattle.mpx_encode.proofs.Contexts.{few_some_names}
use Rattle.mpx_encode.proofs.Maps.{keyed_length, keyed_fits, some_entries, where_left}
use Rattle.mpx_encode.proofs.write_contexts.DigestWriteValue.room_after.Goals as goal

pub room_after_counted-requires : goal.room_after_counted-requires
room_after_counted-requires c =
    let m = view_of_acks c.args.self.now in
    ap (list_all (λ e. is_tidy_numbers e.1)) c.entries.ensures.entries ∙ second_true (not (is_bare m)) (all_entries (λ n v. is_tidy_numbers v) m) (first_true (is_tidy_acks m) (nat_le (len m) most_names) c.requires)

pub returns-clause-value : goal.returns-clause-value
unfolding acks some_names name_count
returns-clause-value c =
    let m = view_of_acks c.args.self.now in
    let es = seen view_of_numbers c.entries.result.now in
    c.room_after_counted.ensures.value ∙ ap (λ n. room_left n c.args.room) (sym (keyed_length name_cmp some_names name numbers always m es 2 c.entries.ensures.entries refl))

pub returns-clause-fits : goal.returns-clause-fits
unfolding acks
returns-clause-fits c =
    let m = view_of_acks c.args.self.now in
    let es = seen view_of_numbers c.entries.result.now in
    let sorted : is_sorted name_cmp es ≡ true = sorted_seen name_cmp view_of_numbers c.entries.result.now ∙ c.entries.ensures.rising in
    let tidy = first_true (is_tidy_acks m) (nat_le (len m) most_names) c.requires in
    let few = leb-true (len m) most_names (second_true (is_tidy_acks m) (nat_le (len m) most_names) c.requires) in
    let some = some_entries m (first_true (not (is_bare m)) (all_entries (λ n v. is_tidy_numbers v) m) tidy) in
    let is = ap length c.entries.ensures.entries in
    where_left c.room_after_counted.result
    (λ pass. keyed_fits name_cmp some_names name numbers always m es c.entries.ensures.entries sorted (few_some_names (length es) (omega (arith, is, some)) (omega (arith, is, few, len-entries m))) pass (always_says es))
    c.room_after_counted.ensures.fits
