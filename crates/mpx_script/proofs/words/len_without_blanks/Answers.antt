use Rattle.std.proofs.Common.{◌≡◌, ◌+◌, ◌-◌, ap, sym, take, true, ◌∙◌, arith, get_or, rules}
use Rattle.mpx_script.specs.Words.{is_blank, words}
use Rattle.mpx_script.proofs.Splits.{words_up_to_blank}
use Rattle.mpx_script.proofs.words.len_without_blanks.Goals as goal

pub loop-len-preserved : goal.loop-len-preserved
loop-len-preserved c =
    let blank : is_blank (get_or c.args.line.now (c.loop-len.len - 1) 0) ≡ true = search rules in
    let last : c.loop-len.len - 1 + 1 ≡ c.loop-len.len = omega arith in
    record {
      words = sym (words_up_to_blank c.args.line.now (c.loop-len.len - 1) (omega arith) blank) ∙ ap (λ n. words (take n c.args.line.now)) last ∙ c.loop-len.invariant.words;
      within = omega arith;
    }
