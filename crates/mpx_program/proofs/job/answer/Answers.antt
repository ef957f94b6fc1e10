use Rattle.std.proofs.Common.{string_bytes, subst}
use Rattle.std.proofs.lemmas.Result.{IfOk-at_ok}
use Rattle.mpx_run.specs.Texts.{IsWritten}
use Rattle.mpx_program.specs.Jobs.{Tells}
use Rattle.mpx_program.proofs.Doing.{answers_written}
use Rattle.mpx_program.proofs.Telling.{told_or_wanting}
use Rattle.mpx_program.proofs.job.answer.Goals as goal

pub returns-in-Ok-clause-answers : goal.returns-in-Ok-clause-answers
returns-in-Ok-clause-answers g c =
    let p = c.args.prepared.now in
    let old = g.W.Write.contents c.args.streams.now.out in
    let new = g.W.Write.contents c.write_printed-answer.new.writer in
    let end = c.in-Ok.printed.end in
    let answer = c.write_printed-answer.result in
    let says = Tells (g.E.Write.contents c.args.streams.now.err) (g.E.Write.contents c.exit_of.new.err) c.exit_of.result.told in
    answers_written _ c.args.call.now p.text.items p.script p.complains c.requires.read c.requires.strict p.found c.requires.found old new c.more_of.result.now c.exit_of.result.status says
    (string_bytes c.in-Ok.printed.text) end c.in-Ok.printed.left answer
    (IfOk-at_ok _ c.in-Ok.is c.requires.comes)
    (IfOk-at_ok _ c.in-Ok.is c.requires.left)
    (subst (λ xs. IsWritten old new xs end answer) c.as_bytes.ensures.value c.write_printed-answer.ensures)
    (told_or_wanting c.explained-told.result (λ v. v.items) p.script p.text.items p.found c.in-Ok.printed.left answer c.args.call.now.flags.explain c.more_of.result.now c.explained-told.ensures.on c.more_of.ensures.ok c.more_of.ensures.err)
    c.exit_of.ensures
