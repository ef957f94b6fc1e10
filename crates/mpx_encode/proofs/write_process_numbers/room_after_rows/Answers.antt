use Rattle.std.proofs.Common.{◌≡◌, ◌≤◌, ◌+◌, ◌*◌, ℕ, length, ap, arith, ◌∙◌}
use Rattle.std.specs.Ordering.{nat_cmp}
use Rattle.join_core.specs.declared.max.Max.{Max}
use Rattle.join_nest.specs.Seen.{seen, sorted_seen}
use Rattle.join_nest.proofs.Steps.{length_seen}
use Rattle.mpx_format.specs.Fields.{process, some_calls}
use Rattle.mpx_encode.specs.Entries.{entries_spelled}
use Rattle.mpx_encode.specs.Room.{room_left}
use Rattle.mpx_encode.proofs.Maps.{few_processes, if_left, length_rows}
use Rattle.mpx_encode.proofs.write_process_numbers.room_after_rows.Goals as goal

abbrev says : Max → ℕ
says n = n.0

pub overflow_mul-rows : goal.overflow_mul-rows
overflow_mul-rows c =
    let es = seen says c.args.rows.now in
    let few : length es ≤ 64 = few_processes some_calls.fits es (sorted_seen nat_cmp says c.args.rows.now ∙ c.requires.rising) c.pass_limits.ensures in
    omega (arith, few, length_seen says c.args.rows.now)

pub overflow_add-rows : goal.overflow_add-rows
overflow_add-rows c =
    let es = seen says c.args.rows.now in
    let few : length es ≤ 64 = few_processes some_calls.fits es (sorted_seen nat_cmp says c.args.rows.now ∙ c.requires.rising) c.pass_limits.ensures in
    omega (arith, few, length_seen says c.args.rows.now)

pub returns-clause-value : goal.returns-clause-value
returns-clause-value c =
    let es = seen says c.args.rows.now in
    let len : 1 + 5 * length c.args.rows.now ≡ 1 + length (entries_spelled process some_calls es) = omega (arith, length_rows es, length_seen says c.args.rows.now) in
    c.room_left.ensures ∙ ap (λ n. room_left n c.args.room) len

pub returns-clause-fits : goal.returns-clause-fits
returns-clause-fits c = if_left c.room_left.result c.pass_limits.ensures
