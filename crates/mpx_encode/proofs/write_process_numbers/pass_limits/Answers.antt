use Rattle.std.proofs.Common.{◌≡◌, ◌≤◌, ◌<◌, ◌&&◌, ℕ, true, length, ap, sym, arith, ◌∙◌}
use Rattle.std.specs.Prelude.{nat_lt}
use Rattle.std.proofs.lemmas.List.{take_all}
use Rattle.join_core.specs.declared.max.Max.{Max}
use Rattle.join_nest.specs.Seen.{seen}
use Rattle.join_nest.proofs.Steps.{length_seen}
use Rattle.mpx_format.specs.Fields.{process, some_calls}
use Rattle.mpx_encode.specs.Entries.{both_pass}
use Rattle.mpx_encode.proofs.Loops.{holds_at, passed_more, seen_at}
use Rattle.mpx_encode.proofs.Maps.{row_fits}
use Rattle.mpx_encode.proofs.write_process_numbers.pass_limits.Goals as goal

abbrev says : Max → ℕ
says n = n.0

pub loop-row-preserved : goal.loop-row-preserved
loop-row-preserved c =
    let es = seen says c.args.rows.now in
    let i = c.loop-row.row-index in
    let e = c.row-item.result in
    let lt : i < length es = omega (arith, length_seen says c.args.rows.now, c.loop-row-test.true) in
    let at = seen_at says c.args.rows.now i e c.loop-row-test.true c.row-item.is in
    let some : nat_lt 0 e.1.0 ≡ true = holds_at (λ (x : ℕ × ℕ). nat_lt 0 x.1) es i (e.0, says e.1) lt at c.requires in
    let small : e.0 < 64 = omega (arith, c.number-process.ensures.below, c.number-process.ensures.number) in
    passed_more (λ (x : ℕ × ℕ). process.fits x.0 && some_calls.fits x.1) es i (e.0, says e.1) lt at c.loop-row.invariant (row_fits e.0 e.1.0 small (omega (arith, c.word-number.type_inv, c.word-number.ensures)) some)

pub returns : goal.returns
returns c =
    let es = seen says c.args.rows.now in
    let all : length es ≤ c.loop-row.row-index = omega (arith, length_seen says c.args.rows.now, c.loop-row-test.false) in
    ap (both_pass process.fits some_calls.fits) (sym (take_all c.loop-row.row-index es all)) ∙ c.loop-row.invariant
