use Rattle.std.proofs.Common.{◌≡◌, ◌≤◌, ℕ, ◌<◌, ◌++◌, ap, length, rules, arith, ◌∙◌}
use Rattle.std.proofs.lemmas.List.{take_all}
use Rattle.join_core.specs.declared.max.Max.{Max}
use Rattle.join_nest.specs.Seen.{seen}
use Rattle.join_nest.proofs.Steps.{length_seen}
use Rattle.mpx_format.specs.Fields.{process, some_calls}
use Rattle.mpx_encode.specs.Entries.{entries_spelled, entry_spelled}
use Rattle.mpx_encode.proofs.Loops.{written_more, seen_at}
use Rattle.mpx_encode.proofs.write_process_numbers.write_rows.Goals as goal

abbrev says : Max → ℕ
says n = n.0

pub loop-row-preserved : goal.loop-row-preserved
loop-row-preserved c =
    let s = entry_spelled process some_calls in
    let es = c.in_ok-rest.rest.now in
    let i = c.loop-row.row-index in
    let e = c.row-item.result in
    let lt : i < length (seen says es) = omega (arith, length_seen says es, c.loop-row-test.true) in
    let added : c.extend_from_slice.new.self ≡ c.loop-row.out ++ s (e.0, says e.1) = search rules in
    written_more s (seen says es) i (e.0, says e.1) c.write_fours.new.out c.loop-row.out c.extend_from_slice.new.self lt (seen_at says es i e c.loop-row-test.true c.row-item.is) c.loop-row.invariant added

pub returns : goal.returns
returns c =
    let es = c.in_ok-rest.rest.now in
    let all : length (seen says es) ≤ c.loop-row.row-index = omega (arith, length_seen says es, c.loop-row-test.false) in
    c.loop-row.invariant
    ∙ ap (λ l. c.write_fours.new.out ++ entries_spelled process some_calls l) (take_all c.loop-row.row-index (seen says es) all)
    ∙ c.in_ok-rest.ensures
