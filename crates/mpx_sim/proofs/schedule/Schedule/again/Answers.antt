use Rattle.std.proofs.Common.{◌≡◌, ◌∙◌, ◌+◌, suc, ap, sym, arith}
use Rattle.mpx_sim.specs.Draws.{ScheduleView, draw, drawn}
use Rattle.mpx_sim.specs.Shown.{schedule_of}
use Rattle.mpx_sim.proofs.Left.{again_none, again_some}
use Rattle.mpx_sim.proofs.Sending.{again_is, again_not}
use Rattle.mpx_sim.proofs.schedule.Schedule.again.Goals as goal

pub returns-then-comes-ne0-clause-schedule : goal.returns-then-comes-ne0-clause-schedule
returns-then-comes-ne0-clause-schedule c =
    (λ i. let s : ScheduleView = record { loss = c.args.self.now.loss; draws = c.below-comes.ensures.words i; shifts = c.args.self.now.shifts.items } in s)
    ∙ sym (again_not (schedule_of c.args.self.now) (λ none. c.if-comes-ne0.true (c.below-comes.ensures.is ∙ none)))

pub returns-then-comes-ne0-clause-again : goal.returns-then-comes-ne0-clause-again
returns-then-comes-ne0-clause-again c = again_none (draw 4 c.args.self.now.words) (suc (draw 4 (drawn c.args.self.now.words))) (λ none. c.if-comes-ne0.true (c.below-comes.ensures.is ∙ none))

pub returns-clause-schedule : goal.returns-clause-schedule
returns-clause-schedule c =
    let twice = c.below-turns.ensures.words ∙ ap drawn c.below-comes.ensures.words in
    (λ i. let s : ScheduleView = record { loss = c.args.self.now.loss; draws = twice i; shifts = c.args.self.now.shifts.items } in s) ∙ sym (again_is (schedule_of c.args.self.now) (sym c.below-comes.ensures.is ∙ c.if-comes-ne0.false))

pub returns-clause-again : goal.returns-clause-again
returns-clause-again c =
    let words = c.args.self.now.words in
    let turns : c.below-turns.result ≡ draw 4 (drawn words) = c.below-turns.ensures.is ∙ ap (draw 4) c.below-comes.ensures.words in
    let more : c.below-turns.result + 1 ≡ suc (draw 4 (drawn words)) = omega (arith, turns) in
    again_some (draw 4 words) (suc (draw 4 (drawn words))) (c.below-turns.result + 1) (sym c.below-comes.ensures.is ∙ c.if-comes-ne0.false) more
