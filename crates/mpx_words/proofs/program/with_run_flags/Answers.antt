use Rattle.mpx_words.proofs.program.with_run_flags.Goals as goal

pub returns : goal.returns
returns c = record {
  shape = c.with_flag-3.ensures.shape _ (c.with_flag-2.ensures.shape _ (c.with_flag.ensures.shape _ c.helped_run.ensures.shape));
  local = c.with_flag-3.ensures.local (c.with_flag-2.ensures.local (c.with_flag.ensures.local c.helped_run.ensures.local));
}
