use Rattle.std.proofs.Common.{◌∙◌, ◌≤◌, length, arith}
use Rattle.frame_text.proofs.LineLemmas.{last-line, line-ends, line-goes-on, no-last-line}
use Rattle.frame_text.proofs.lines.all_told.Goals as goal
use Rattle.frame_text.proofs.lines.all_told.Goals.{then-text-i-eq10+in_ok-tell, else-text-i-eq10, then-start-text+in_ok-tell-2, else-start-text}

pub loop-i-preserved : goal.loop-i-preserved
loop-i-preserved c = elim c.if-text-i-eq10.branch [
  | then-text-i-eq10+in_ok-tell w ↦ record {
    start = omega (arith, w.start-is);
    told = rw (w.start-is, w.told-is, w.in_ok-tell.ensures)
        (line-ends c.loop-i.told.items c.args.text.now c.loop-i.start c.loop-i.i c.loop-i-test.true w.if-text-i-eq10.true ∙ c.loop-i.invariant.told);
  }
  | else-text-i-eq10 w ↦ record {
    start = omega (arith, w.start-is, c.loop-i.invariant.start);
    told = rw (w.start-is, w.told-is)
        (line-goes-on c.loop-i.told.items c.args.text.now c.loop-i.start c.loop-i.i c.loop-i.invariant.start c.loop-i-test.true w.if-text-i-eq10.false ∙ c.loop-i.invariant.told);
  }
]

pub returns : goal.returns
returns c =
    let past : length c.args.text.now ≤ c.loop-i.i = omega (arith, c.loop-i-test.false) in
    elim c.if-start-text.branch [
      | then-start-text+in_ok-tell-2 w ↦ rw (w.told-is, w.in_ok-tell-2.ensures)
          (last-line c.loop-i.told.items c.args.text.now c.loop-i.start c.loop-i.i past c.loop-i.auto.i-end w.if-start-text.true ∙ c.loop-i.invariant.told)
      | else-start-text w ↦ rw w.told-is
          (no-last-line c.loop-i.told.items c.args.text.now c.loop-i.start c.loop-i.i past (omega (arith, w.if-start-text.false)) ∙ c.loop-i.invariant.told)
    ]
