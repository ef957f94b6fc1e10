use Rattle.std.proofs.Common.{ℕ, [], ap, refl}
use Rattle.std.specs.Prelude.{Vec}
use Rattle.std.specs.declared.alloc.Global.{Global}
use Rattle.gossipmpi_c.proofs.Shown.{behind_shown, shows_nothing, shows_table, shows_trace}
use Rattle.gossipmpi_c.proofs.ran.shown.Goals as goal

pub returns-then-call : goal.returns-then-call
returns-then-call g c =
    let call = c.args.call.now in
    behind_shown call c.args.script.now c.into_writer.result.items _ _ _ _ _ _
    (shows_trace call.flags.trace call.flags.table c.traced.new.trace c.into_writer.result.items c.if-call.true c.in_ok-ran.ensures.whole (ap (λ (v : Vec ℕ Global). v.items) c.into_writer.ensures))
    c.in_ok-ran.ensures.does c.in_ok-all.ensures.said c.in_ok-all.ensures.printed c.in_ok-all.ensures.status

pub returns-then-call-2 : goal.returns-then-call-2
returns-then-call-2 g c =
    let call = c.args.call.now in
    behind_shown call c.args.script.now c.into_writer-then-call-2.result.items _ _ _ _ _ _
    (shows_table call.flags.trace call.flags.table c.tabled.new.table c.into_writer-then-call-2.result.items c.if-call.false c.if-call-2.true c.in_ok-ran-2.ensures.whole (ap (λ (v : Vec ℕ Global). v.items) c.into_writer-then-call-2.ensures))
    c.in_ok-ran-2.ensures.does c.in_ok-all-2.ensures.said c.in_ok-all-2.ensures.printed c.in_ok-all-2.ensures.status

pub returns : goal.returns
returns g c =
    let call = c.args.call.now in
    behind_shown call c.args.script.now [] _ _ _ _ _ _ (shows_nothing call.flags.trace call.flags.table c.if-call.false c.if-call-2.false) c.in_ok-ran-3.ensures refl refl refl
