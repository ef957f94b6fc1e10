use Rattle.mpx_words.proofs.program.run.Goals as goal

pub returns : goal.returns
returns c = record {
  shape = c.with_valued-3.ensures.shape _ (c.with_valued-2.ensures.shape _ (c.with_valued.ensures.shape _ c.with_draws.ensures.shape));
  local = c.with_valued-3.ensures.local (c.with_valued-2.ensures.local (c.with_valued.ensures.local c.with_draws.ensures.local));
}
