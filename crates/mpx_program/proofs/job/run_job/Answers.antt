use Rattle.std.proofs.Common.{refl, subst, sym}
use Rattle.mpx_run.specs.Texts.{TakesInput}
use Rattle.mpx_program.proofs.Doing.{does_nothing, does_printed, does_text, explains_refused}
use Rattle.mpx_program.proofs.job.run_job.Goals as goal

pub returns-in-Ok-clause-founded : goal.returns-in-Ok-clause-founded
returns-in-Ok-clause-founded g c =
    let p = c.in-Ok.prepared in
    does_text _ c.args.call.now (g.R.Read.remaining c.args.streams.now.reader) (g.R.Read.remaining c.answer.new.streams.reader) (g.W.Write.contents c.args.streams.now.out) (g.W.Write.contents c.answer.new.streams.out) p.text.items p.text.items c.answer.result.status _ (subst (λ left. TakesInput (g.R.Read.remaining c.args.streams.now.reader) left p.text.items) (sym c.answer.ensures.unread) c.in-Ok.ensures.ok.input) refl c.answer.ensures.answers

pub returns-in-Ok-clause-prints : goal.returns-in-Ok-clause-prints
returns-in-Ok-clause-prints g c =
    let p = c.in-Ok.prepared in
    does_printed _ c.args.call.now (g.R.Read.remaining c.args.streams.now.reader) (g.R.Read.remaining c.answer.new.streams.reader) (g.W.Write.contents c.args.streams.now.out) (g.W.Write.contents c.answer.new.streams.out) c.answer.result.status _
    (does_text _ c.args.call.now (g.R.Read.remaining c.args.streams.now.reader) (g.R.Read.remaining c.answer.new.streams.reader) (g.W.Write.contents c.args.streams.now.out) (g.W.Write.contents c.answer.new.streams.out) p.text.items p.text.items c.answer.result.status _ (subst (λ left. TakesInput (g.R.Read.remaining c.args.streams.now.reader) left p.text.items) (sym c.answer.ensures.unread) c.in-Ok.ensures.ok.input) refl c.answer.ensures.answers)

pub returns-in-Err-clause-founded : goal.returns-in-Err-clause-founded
returns-in-Err-clause-founded g c = does_nothing _ c.args.call.now (g.R.Read.remaining c.args.streams.now.reader) (g.R.Read.remaining c.prepare.new.reader) (g.W.Write.contents c.args.streams.now.out) c.in-Err.failed.error _ c.exit_of.result.status _ c.in-Err.ensures.err
    (explains_refused _ c.args.call.now _ _ c.in-Err.failed.error c.in-Err.failed.more (λ v. v.items) _ c.in-Err.ensures.told c.more_of.ensures.ok c.more_of.ensures.err) c.exit_of.ensures

pub returns-in-Err-clause-prints : goal.returns-in-Err-clause-prints
returns-in-Err-clause-prints g c =
    does_printed _ c.args.call.now (g.R.Read.remaining c.args.streams.now.reader) (g.R.Read.remaining c.prepare.new.reader) (g.W.Write.contents c.args.streams.now.out) (g.W.Write.contents c.args.streams.now.out) c.exit_of.result.status _
    (does_nothing _ c.args.call.now (g.R.Read.remaining c.args.streams.now.reader) (g.R.Read.remaining c.prepare.new.reader) (g.W.Write.contents c.args.streams.now.out) c.in-Err.failed.error _ c.exit_of.result.status _ c.in-Err.ensures.err
    (explains_refused _ c.args.call.now _ _ c.in-Err.failed.error c.in-Err.failed.more (λ v. v.items) _ c.in-Err.ensures.told c.more_of.ensures.ok c.more_of.ensures.err) c.exit_of.ensures)
