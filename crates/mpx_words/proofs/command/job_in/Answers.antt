use Rattle.std.proofs.Common.{string_bytes, sym}
use Rattle.mpx_words.proofs.WordLemmas.{name_alone}
use Rattle.mpx_words.proofs.command.job_in.Goals as goal

pub returns-in-len1 : goal.returns-in-len1
returns-in-len1 c = sym (name_alone string_bytes c.args.words.now c.in-len1.len_below)
