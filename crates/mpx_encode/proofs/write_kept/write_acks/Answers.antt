use Rattle.std.proofs.Common.{◌≡◌, ◌<◌, ◌^◌, ◌++◌, length, arith, rules}
use Rattle.std.specs.Int.{w16, to_be_bytes}
use Rattle.join_nest.specs.Seen.{seen}
use Rattle.join_nest.proofs.Steps.{length_seen}
use Rattle.mpx_name.specs.Order.{name_cmp}
use Rattle.mpx_board.specs.Views.{view_of_numbers, view_of_acks}
use Rattle.mpx_format.specs.Rising.{always}
use Rattle.mpx_format.specs.Fields.{acks, name, numbers, name_count, some_names}
use Rattle.mpx_encode.proofs.Contexts.{some_names_below}
use Rattle.mpx_encode.proofs.Maps.{keyed_count, keyed_pass, keyed_spelling, told_behind}
use Rattle.mpx_encode.proofs.write_kept.write_acks.Goals as goal

pub overflow_cast-rows : goal.overflow_cast-rows
unfolding acks
overflow_cast-rows c =
    let m = view_of_acks c.args.acks.now in
    let es = seen view_of_numbers c.entries-rows.result.now in
    let few : length es < 256 ^ 2 = some_names_below (length es) (keyed_count name_cmp some_names name numbers always m es c.entries-rows.ensures.entries c.requires.fits) in
    omega (arith, few, length_seen view_of_numbers c.entries-rows.result.now)

pub write_rows-requires-clause-fits : goal.write_rows-requires-clause-fits
unfolding acks
write_rows-requires-clause-fits c =
    let m = view_of_acks c.args.acks.now in
    keyed_pass name_cmp some_names name numbers always m (seen view_of_numbers c.entries-rows.result.now) c.entries-rows.ensures.entries c.requires.fits

pub returns : goal.returns
unfolding acks some_names name_count
returns c =
    let m = view_of_acks c.args.acks.now in
    let es = seen view_of_numbers c.entries-rows.result.now in
    let first : c.write_u16.new.out ≡ c.args.out.now ++ to_be_bytes w16 (length es) = rw (length_seen view_of_numbers c.entries-rows.result.now) (search rules) in
    told_behind c.write_rows.result c.args.out.now c.write_u16.new.out c.write_rows.new.out _ _ _ (keyed_spelling name_cmp some_names name numbers always m es c.entries-rows.ensures.entries) first (search rules)
