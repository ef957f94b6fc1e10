use Rattle.std.proofs.Common.{◌≡◌, [], ◌∷◌, ◌++◌, length, arith, rules}
use Rattle.std.specs.Int.{w16, to_be_bytes}
use Rattle.std.specs.Ordering.{nat_cmp}
use Rattle.join_nest.specs.Seen.{seen}
use Rattle.join_nest.proofs.Steps.{length_seen}
use Rattle.mpx_name.specs.Order.{name_cmp}
use Rattle.mpx_board.specs.Views.{view_of_acks, view_of_lifted, view_of_parts}
use Rattle.mpx_format.specs.Rising.{always}
use Rattle.mpx_format.specs.declared.versions.Version.TheVariants.{Two}
use Rattle.mpx_format.specs.Format.{byte}
use Rattle.mpx_format.specs.Fields.{process, name, name_count, acks}
use Rattle.mpx_format.specs.Contexts.{lifted, says_something}
use Rattle.mpx_encode.specs.Entries.{entries_spelled}
use Rattle.mpx_encode.proofs.Frames.{magic, names_part, frame_spelled, frame_names, frame_acks}
use Rattle.mpx_encode.proofs.Contexts.{names_below}
use Rattle.mpx_encode.proofs.Keeping.{entries_kept}
use Rattle.mpx_encode.proofs.Maps.{told_behind, written_behind, keyed_count, keyed_pass, byte_below}
use Rattle.mpx_encode.proofs.write_contexts.write_frame.Goals as goal

pub overflow_cast-names : goal.overflow_cast-names
overflow_cast-names c =
    let v = view_of_parts c.args.parts.now in
    let es = seen view_of_lifted c.entries-names.result.now in
    let few = names_below (length es) (keyed_count name_cmp name_count name (lifted Two) says_something v.0 es c.entries-names.ensures.entries (frame_names v [] [] c.requires.fits)) in
    omega (arith, few, length_seen view_of_lifted c.entries-names.result.now)

pub overflow_cast-processes : goal.overflow_cast-processes
overflow_cast-processes c =
    let v = view_of_parts c.args.parts.now in
    let ps = seen view_of_acks c.entries-processes.result.now in
    let few = byte_below (length ps) (keyed_count nat_cmp byte process acks always v.1 ps c.entries-processes.ensures.entries (frame_acks v [] [] c.requires.fits)) in
    omega (arith, few, length_seen view_of_acks c.entries-processes.result.now)

pub write_entries-requires : goal.write_entries-requires
write_entries-requires c =
    let v = view_of_parts c.args.parts.now in
    keyed_pass name_cmp name_count name (lifted Two) says_something v.0 (seen view_of_lifted c.entries-names.result.now) c.entries-names.ensures.entries (frame_names v [] [] c.requires.fits)

pub write_kept-requires-clause-fits : goal.write_kept-requires-clause-fits
write_kept-requires-clause-fits c =
    let v = view_of_parts c.args.parts.now in
    keyed_pass nat_cmp byte process acks always v.1 (seen view_of_acks c.entries-processes.result.now) c.entries-processes.ensures.entries (frame_acks v [] [] c.requires.fits)

pub write_kept-requires-clause-kept : goal.write_kept-requires-clause-kept
write_kept-requires-clause-kept c =
    let v = view_of_parts c.args.parts.now in
    entries_kept v.1 c.args.kept.now.of.items (seen view_of_acks c.entries-processes.result.now) c.entries-processes.ensures.entries c.requires.kept

pub returns : goal.returns
returns c =
    let v = view_of_parts c.args.parts.now in
    let es = seen view_of_lifted c.entries-names.result.now in
    let ps = seen view_of_acks c.entries-processes.result.now in
    let old = c.args.out.now in
    let mark : c.extend_from_slice.new.self ≡ old ++ magic = search rules in
    let number : c.write_u16.new.out ≡ c.extend_from_slice.new.self ++ to_be_bytes w16 (length es) = rw (length_seen view_of_lifted c.entries-names.result.now) (search rules) in
    let names : c.write_entries.new.out ≡ c.write_u16.new.out ++ entries_spelled name (lifted Two) es = search rules in
    let many : c.write_u8.new.out ≡ c.write_entries.new.out ++ length ps ∷ [] = rw (length_seen view_of_acks c.entries-processes.result.now) (search rules) in
    let one = written_behind old c.extend_from_slice.new.self c.write_u16.new.out magic (to_be_bytes w16 (length es)) mark number in
    let two = written_behind old c.write_u16.new.out c.write_entries.new.out (magic ++ to_be_bytes w16 (length es)) (entries_spelled name (lifted Two) es) one names in
    let first = written_behind old c.write_entries.new.out c.write_u8.new.out (names_part v es ps) (length ps ∷ []) two many in
    told_behind c.write_kept.result old c.write_u8.new.out c.write_kept.new.out _ _ _ (frame_spelled v es ps c.entries-names.ensures.entries c.entries-processes.ensures.entries) first (search rules)
