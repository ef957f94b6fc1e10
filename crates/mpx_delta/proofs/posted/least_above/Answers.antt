-- One process more.
use Rattle.std.proofs.Common.{arith, true, ◌≡◌, ◌<◌, ◌+◌, ◌-◌, ℕ, suc, ap, sym, ◌∙◌}
use Rattle.mpx_board.specs.Tidy.{is_bare}
use Rattle.mpx_board.specs.Views.{view_of_all_acks, view_of_numbers}
use Rattle.mpx_delta.specs.Posted.{least_above, lesser, said_on}
use Rattle.mpx_delta.proofs.Telling.{stays_none}
use Rattle.mpx_delta.proofs.posted.least_above.Goals as goal

next_one : (n : ℕ) → 0 < n → n ≡ suc (n - 1)
next_one n lt = omega arith

next_gone : (n : ℕ) → 0 < n → suc (n - 1) ≡ n + 1 - 1
next_gone n lt = omega arith

pub loop-number-preserved : goal.loop-number-preserved
loop-number-preserved c =
    let all = (view_of_all_acks c.args.acks.now) in
    let some : 0 < c.loop-number.number = omega (arith, c.loop-number.auto.number) in
    c.in_ok-made-2.ensures
    ∙ ap (λ q. lesser c.args.call (view_of_numbers c.loop-number.made) (said_on all c.args.name.now q)) (c.new.ensures ∙ next_one c.loop-number.number some)
    ∙ ap (λ m. lesser c.args.call m (said_on all c.args.name.now (suc (c.loop-number.number - 1)))) c.loop-number.invariant
    ∙ ap (least_above all c.args.name.now c.args.call) (next_gone c.loop-number.number some)

-- nothing is left of so many, and of no more
pub returns-then-is_empty : goal.returns-then-is_empty
returns-then-is_empty c =
    let bare : is_bare (view_of_numbers c.loop-number.made) ≡ true = sym c.is_empty.ensures ∙ c.if-is_empty.true in
    c.loop-number.invariant ∙ stays_none (view_of_all_acks c.args.acks.now) c.args.name.now c.args.call (c.loop-number.number - 1) (sym (ap is_bare c.loop-number.invariant) ∙ bare) (c.args.processes - 1) (omega (arith, c.loop-number-test.true))
