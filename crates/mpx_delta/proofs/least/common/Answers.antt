-- One process more.
use Rattle.std.proofs.Common.{arith, min, ap, sym, ◌∙◌}
use Rattle.mpx_board.specs.Looks.{look}
use Rattle.mpx_board.specs.Views.{view_of_acks}
use Rattle.mpx_digest.specs.Digest.{numbers_acked}
use Rattle.mpx_delta.proofs.Lesser.{bare_numbers, common_more, common_none}
use Rattle.mpx_delta.proofs.least.common.Goals as goal

pub loop-number-preserved : goal.loop-number-preserved
loop-number-preserved c = (
  λ name p.
      c.in_ok-made-2.ensures.least name p
      ∙ ap (λ q. min (numbers_acked (view_of_acks c.loop-number.made) name p) ((look c.args.board.now).acks q name p)) c.new-in-loop-number.ensures
      ∙ ap (λ n. min n ((look c.args.board.now).acks c.loop-number.number name p)) (c.loop-number.invariant.0 name p)
      ∙ sym (common_more c.loop-number.number (look c.args.board.now) name p (omega (arith, c.loop-number.auto.number))),
  c.in_ok-made-2.ensures.tidy,
)

-- nothing is common to so many, and to no more
pub returns-then-is_empty-clause-least : goal.returns-then-is_empty-clause-least
returns-then-is_empty-clause-least c name p =
    let none = bare_numbers (view_of_acks c.loop-number.made) (sym c.is_empty.ensures ∙ c.if-is_empty.true) name p in
    none ∙ sym (common_none c.loop-number.number c.args.processes (look c.args.board.now) name p (omega (arith, c.loop-number.auto.number)) (omega (arith, c.loop-number-test.true)) (sym (c.loop-number.invariant.0 name p) ∙ none))

pub returns-then-is_empty-clause-tidy : goal.returns-then-is_empty-clause-tidy
returns-then-is_empty-clause-tidy c = c.loop-number.invariant.1
