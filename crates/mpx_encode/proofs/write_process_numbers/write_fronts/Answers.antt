use Rattle.std.proofs.Common.{◌≡◌, ℕ, ◌<◌, [], ◌∷◌, ◌++◌, length, arith, rules}
use Rattle.std.specs.Ordering.{nat_cmp}
use Rattle.join_core.specs.declared.max.Max.{Max}
use Rattle.join_nest.specs.Seen.{seen, keyed_view}
use Rattle.join_nest.proofs.Steps.{length_seen}
use Rattle.mpx_format.specs.Fields.{fronts, process, some_calls}
use Rattle.mpx_format.specs.Format.{byte}
use Rattle.mpx_format.specs.Rising.{always}
use Rattle.mpx_encode.proofs.Maps.{keyed_count, keyed_spelling, byte_below, told_behind}
use Rattle.mpx_encode.proofs.write_process_numbers.write_fronts.Goals as goal

abbrev says : Max → ℕ
says n = n.0

pub overflow_cast-entries : goal.overflow_cast-entries
unfolding fronts
overflow_cast-entries c =
    let m = keyed_view nat_cmp says c.args.numbers.now.entries.items in
    let es = seen says c.entries-entries.result.now in
    let few : length es < 256 = byte_below (length es) (keyed_count nat_cmp byte process some_calls always m es c.entries-entries.ensures.entries c.requires) in
    omega (arith, length_seen says c.entries-entries.result.now)

pub returns : goal.returns
unfolding fronts
returns c =
    let m = keyed_view nat_cmp says c.args.numbers.now.entries.items in
    let es = seen says c.entries-entries.result.now in
    let first : c.write_u8.new.out ≡ c.args.out.now ++ length es ∷ [] = rw (length_seen says c.entries-entries.result.now) (search rules) in
    told_behind c.write_rows.result c.args.out.now c.write_u8.new.out c.write_rows.new.out _ _ _ (keyed_spelling nat_cmp byte process some_calls always m es c.entries-entries.ensures.entries) first (search rules)
