use Rattle.std.proofs.Common.{◌≡◌, ◌++◌, length, sym, ap, ◌∙◌, arith}
use Rattle.std.specs.Int.{w32, to_be_bytes}
use Rattle.std.specs.FinMap.{entries}
use Rattle.join_nest.proofs.Steps.{length_seen}
use Rattle.mpx_board.specs.Views.{view_of_call, view_of_calls}
use Rattle.mpx_format.specs.declared.versions.Version.TheVariants.{Two}
use Rattle.mpx_format.specs.Fields.{call}
use Rattle.mpx_format.specs.Contexts.{call_posts}
use Rattle.mpx_encode.specs.Entries.{both_pass}
use Rattle.mpx_encode.proofs.Contexts.{held_spelled, held_below, held_pass}
use Rattle.mpx_encode.proofs.Maps.{told_behind, written_behind}
use Rattle.mpx_encode.proofs.write_contexts.write_held.Goals as goal

pub overflow_cast-entries : goal.overflow_cast-entries
overflow_cast-entries c =
    let t = view_of_calls c.args.held.now in
    omega (arith, held_below t c.requires, ap length c.entries-entries.ensures.entries, length_seen view_of_call c.entries-entries.result.now)

pub write_entries-requires : goal.write_entries-requires
write_entries-requires c = ap (both_pass call.fits (call_posts Two).fits) c.entries-entries.ensures.entries ∙ held_pass (view_of_calls c.args.held.now) c.requires

pub returns : goal.returns
returns c =
    let t = view_of_calls c.args.held.now in
    let old = c.args.out.now in
    let long = sym (length_seen view_of_call c.entries-entries.result.now) ∙ ap length c.entries-entries.ensures.entries in
    let dropped : c.write_u32.new.out ≡ old ++ to_be_bytes w32 t.dropped = rw c.dropped.ensures at c.in_ok-write_u32.ensures in
    let number : c.write_u32-2.new.out ≡ c.write_u32.new.out ++ to_be_bytes w32 (length (entries t.calls)) = rw long at c.in_ok-write_u32-2.ensures in
    let first = written_behind old c.write_u32.new.out c.write_u32-2.new.out (to_be_bytes w32 t.dropped) (to_be_bytes w32 (length (entries t.calls))) dropped number in
    told_behind c.write_entries.result old c.write_u32-2.new.out c.write_entries.new.out _ _ _ (held_spelled t) first (rw c.entries-entries.ensures.entries at c.write_entries.ensures)
