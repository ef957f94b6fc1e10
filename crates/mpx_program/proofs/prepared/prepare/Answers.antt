use Rattle.std.proofs.Common.{◌∙◌}
use Rattle.mpx_program.proofs.Doing.{fails_text, fails_unread, no_refusal}
use Rattle.mpx_program.proofs.prepared.prepare.Goals as goal

pub returns-in-Err-with_script-clause-err : goal.returns-in-Err-with_script-clause-err
returns-in-Err-with_script-clause-err g c = fails_text _ c.args.call.now.job (g.R.Read.remaining c.args.reader.now) (g.R.Read.remaining c.read_bytes.new.reader) c.in-Ok.text.items c.deref.result.now c.in-Err-with_script.failed.error c.in-Ok.ensures.input c.deref.ensures.value c.in-Err-with_script.ensures.err

pub returns-in-Err-clause-err : goal.returns-in-Err-clause-err
returns-in-Err-clause-err g c = fails_unread _ c.args.call.now.job (g.R.Read.remaining c.args.reader.now) (g.R.Read.remaining c.read_bytes.new.reader) c.in-Err.fault c.with_reason.result.error c.in-Err.ensures.part (c.with_reason.ensures ∙ c.from.ensures)

pub returns-in-Err-with_script-clause-told : goal.returns-in-Err-with_script-clause-told
returns-in-Err-with_script-clause-told g c = λ refusal is. (
  c.in-Ok.text.items,
  c.in-Ok.ensures.input,
  λ on. let told = c.in-Err-with_script.ensures.told refusal is on in rw c.deref.ensures.value at told,
)

pub returns-in-Err-clause-told : goal.returns-in-Err-clause-told
returns-in-Err-clause-told g c = λ refusal is. absurd (no_refusal c.in-Err.fault c.with_reason.result.error refusal (c.with_reason.ensures ∙ c.from.ensures) is)
