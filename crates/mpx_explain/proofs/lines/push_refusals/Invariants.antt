use Rattle.std.proofs.Common.{◌≡◌, ◌≤◌, map}
use Rattle.mpx_num.specs.Own.{operation_of}
use Rattle.mpx_explain.specs.RefusedLines.{AreLinesTold, left_after}
use Rattle.mpx_explain.proofs.lines.push_refusals.Given as goal

abbrev pub invariant-loop-nth : goal.invariant-loop-nth
invariant-loop-nth g l = record {
  rest : l.rest.items ≡ left_after (map (λ b. let o = goal.OwnOp-dyn g (b.vtable, b.value) in operation_of (o.word_bytes b.value) (o.fits_type b.value) (o.combination b.value)) l.ops.list.items) l.text l.nth;
  each : AreLinesTold (map (λ b. let o = goal.OwnOp-dyn g (b.vtable, b.value) in operation_of (o.word_bytes b.value) (o.fits_type b.value) (o.combination b.value)) l.ops.list.items) l.text l.nth l.many l.fn.told.items l.told.items;
  most : l.many ≤ 10;
}
