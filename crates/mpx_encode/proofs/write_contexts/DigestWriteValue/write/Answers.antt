use Rattle.std.proofs.Common.{◌≡◌, ◌<◌, ◌^◌, ◌++◌, length, arith, rules}
use Rattle.std.specs.Int.{w16, to_be_bytes}
use Rattle.join_nest.specs.Seen.{seen}
use Rattle.join_nest.proofs.Steps.{length_seen}
use Rattle.mpx_name.specs.Order.{name_cmp}
use Rattle.mpx_board.specs.Views.{view_of_numbers, view_of_acks}
use Rattle.mpx_format.specs.Rising.{always}
use Rattle.mpx_format.specs.Fields.{acks, name, numbers, name_count, some_names}
use Rattle.mpx_encode.proofs.Contexts.{some_names_below}
use Rattle.mpx_encode.proofs.Maps.{keyed_count, keyed_pass, keyed_spelling, told_behind}
use Rattle.mpx_encode.proofs.write_contexts.DigestWriteValue.write.Goals as goal

pub overflow_cast-entries : goal.overflow_cast-entries
unfolding acks
overflow_cast-entries c =
    let m = view_of_acks c.args.self.now in
    let es = seen view_of_numbers c.entries-entries.result.now in
    let few : length es < 256 ^ 2 = some_names_below (length es) (keyed_count name_cmp some_names name numbers always m es c.entries-entries.ensures.entries c.requires) in
    omega (arith, few, length_seen view_of_numbers c.entries-entries.result.now)

pub write_entries-requires : goal.write_entries-requires
unfolding acks
write_entries-requires c =
    let m = view_of_acks c.args.self.now in
    keyed_pass name_cmp some_names name numbers always m (seen view_of_numbers c.entries-entries.result.now) c.entries-entries.ensures.entries c.requires

pub returns : goal.returns
unfolding acks some_names name_count
returns c =
    let m = view_of_acks c.args.self.now in
    let es = seen view_of_numbers c.entries-entries.result.now in
    let first : c.write_u16.new.out ≡ c.args.out.now ++ to_be_bytes w16 (length es) = rw (length_seen view_of_numbers c.entries-entries.result.now) (search rules) in
    told_behind c.write_entries.result c.args.out.now c.write_u16.new.out c.write_entries.new.out _ _ _ (keyed_spelling name_cmp some_names name numbers always m es c.entries-entries.ensures.entries) first (search rules)
