use Rattle.mpx_meaning.proofs.asking.translation_answer.Goals as goal

-- both are communicators
pub returns-in-Open-to-2 : goal.returns-in-Open-to-2
returns-in-Open-to-2 c = rw (c.in-Open.is, c.in-Open-to-2.is) c.translation_between.ensures
