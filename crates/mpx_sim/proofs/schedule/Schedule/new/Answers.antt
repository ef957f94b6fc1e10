use Rattle.std.proofs.Common.{◌≡◌, ◌∙◌, ℕ, ap, subst, sym, arith}
use Rattle.std.proofs.lemmas.List.Sorted.{All-permutation, sum_by-IsPermutation}
use Rattle.std.specs.Prelude.{All, if◌then◌else◌, sum_by}
use Rattle.mpx_sim.specs.Draws.{all_below}
use Rattle.mpx_sim.proofs.Shifts.{LeadsOn, all_far, all_lead, is_another}
use Rattle.mpx_sim.proofs.schedule.Schedule.new.Goals as goal

pub returns-clause-others : goal.returns-clause-others
returns-clause-others c p place =
    let size = c.args.processes in
    let made : All (LeadsOn size) c.loop-place.shifts.items = subst (All (LeadsOn size)) (sym c.loop-place.invariant.shifts) (all_lead c.loop-place.place size) in
    is_another c.shuffle.new.items.items size p place (All-permutation (LeadsOn size) c.loop-place.shifts.items c.shuffle.new.items.items c.shuffle.ensures.items made)

pub returns-clause-far : goal.returns-clause-far
returns-clause-far c far few within =
    let size = c.args.processes in
    let lead = all_far size far few within in
    let all : c.loop-place.place ≡ 6 = omega (arith, c.loop-place-test.false, c.loop-place.auto.place-end) in
    let made : c.loop-place.shifts.items ≡ all_below 6 size = c.loop-place.invariant.shifts ∙ ap (λ n. all_below n size) all in
    let part : ℕ → ℕ = λ shift. if lead.0 shift then shift else 0 in
    (lead.0, sum_by-IsPermutation part c.loop-place.shifts.items c.shuffle.new.items.items c.shuffle.ensures.items ∙ ap (sum_by part) made ∙ lead.1)
