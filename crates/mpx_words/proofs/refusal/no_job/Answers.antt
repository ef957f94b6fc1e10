use Rattle.std.proofs.Common.{◌∷◌, []}
use Rattle.clap.specs.Words.{app_of}
use Rattle.clap.specs.declared.error.kind.ErrorKind.TheVariants as kind
use Rattle.mpx_words.proofs.Refusals.{has_first, keeps_kind, last_kind, told_of_usage}
use Rattle.mpx_words.proofs.refusal.no_job.Goals as goal

pub returns : goal.returns
returns c =
    let told = told_of_usage (app_of c.in-Ok.program) _ c.in-Err.refusal c.in-Ok.ensures c.in-Err.ensures.kinds in
    keeps_kind _ c.in-Err.refusal c.with_advice.result (has_first _ (kind.InvalidValue ∷ []) c.in-Err.refusal told) c.with_advice.ensures

pub returns-in-Ok-try_get_matches_from : goal.returns-in-Ok-try_get_matches_from
returns-in-Ok-try_get_matches_from c = last_kind (app_of c.in-Ok.program) _ c.refusal.result c.in-Ok.ensures c.in-Ok-try_get_matches_from.ensures.kinds c.refusal.ensures
