use Rattle.std.proofs.Common.{◌≡◌, ℕ, ◌<◌, true, not, length, refl, sym, ap, ◌∙◌, arith}
use Rattle.std.specs.Ordering.{nat_cmp}
use Rattle.std.specs.FinMap.{is_sorted}
use Rattle.std.specs.List.{list_all}
use Rattle.std.specs.Prelude.{nat_lt}
use Rattle.join_core.specs.laws.Cases.{first_true, second_true}
use Rattle.join_core.specs.declared.max.Max.{Max}
use Rattle.join_nest.specs.Seen.{seen, keyed_view, sorted_seen}
use Rattle.mpx_board.specs.Tidy.{is_bare, has_no_zero}
use Rattle.mpx_format.specs.Fields.{numbers, process, some_calls, some_byte}
use Rattle.mpx_format.specs.Rising.{always}
use Rattle.mpx_encode.specs.Room.{room_left}
use Rattle.mpx_encode.proofs.Rising.{always_says}
use Rattle.mpx_encode.proofs.Maps.{keyed_length, keyed_fits, few_processes, some_byte_count, some_entries, where_left}
use Rattle.mpx_encode.proofs.write_process_numbers.VersionVectorWriteValue.room_after.Goals as goal

abbrev says : Max → ℕ
says n = n.0

pub room_after_rows-requires-clause-some : goal.room_after_rows-requires-clause-some
room_after_rows-requires-clause-some c =
    let m = keyed_view nat_cmp says c.args.self.now.entries.items in
    ap (list_all (λ e. nat_lt 0 e.1)) c.entries.ensures.entries ∙ second_true (not (is_bare m)) (has_no_zero m) c.requires

pub returns-clause-value : goal.returns-clause-value
unfolding numbers some_byte
returns-clause-value c =
    let m = keyed_view nat_cmp says c.args.self.now.entries.items in
    let es = seen says c.entries.result.now in
    c.room_after_rows.ensures.value ∙ ap (λ n. room_left n c.args.room) (sym (keyed_length nat_cmp some_byte process some_calls always m es 1 c.entries.ensures.entries refl))

pub returns-clause-fits : goal.returns-clause-fits
unfolding numbers
returns-clause-fits c =
    let m = keyed_view nat_cmp says c.args.self.now.entries.items in
    let es = seen says c.entries.result.now in
    let sorted : is_sorted nat_cmp es ≡ true = sorted_seen nat_cmp says c.entries.result.now ∙ c.entries.ensures.rising in
    let some : 0 < length es = omega (arith, ap length c.entries.ensures.entries, some_entries m (first_true (not (is_bare m)) (has_no_zero m) c.requires)) in
    where_left c.room_after_rows.result
    (λ pass. keyed_fits nat_cmp some_byte process some_calls always m es c.entries.ensures.entries sorted (some_byte_count (length es) some (few_processes some_calls.fits es sorted pass)) pass (always_says es))
    c.room_after_rows.ensures.fits
