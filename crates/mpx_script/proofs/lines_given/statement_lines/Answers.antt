use Rattle.std.proofs.Common.{◌+◌, [], false, length, take, ap, sym, subst, ◌∙◌, arith}
use Rattle.std.specs.Prelude.{slice_index_or}
use Rattle.std.specs.Str.Lines.{lines}
use Rattle.std.proofs.lemmas.Bool.{eqb-true}
use Rattle.std.proofs.lemmas.List.{length-take}
use Rattle.mpx_script.specs.Words.{bytes_limit}
use Rattle.mpx_script.specs.LinesGiven.{Give, lines_given, naming}
use Rattle.mpx_script.proofs.Given.{all_seen, first_same, further, give}
use Rattle.mpx_script.proofs.lines_given.statement_lines.Goals as goal

pub loop-rest-init : goal.loop-rest-init
loop-rest-init c = record {
  told = rw (c.new-numbers.ensures.items, c.seen_part-rest.ensures) (ap (λ xs. naming c.args.rank (further false xs)) (sym (first_same 1 (lines (take (bytes_limit + 1) c.args.text.now)))));
  bound = rw (c.seen_part-rest.ensures, length-take) (omega arith);
}

pub returns-clause-give : goal.returns-clause-give
returns-clause-give c = λ operations script read within.
    let seen = all_seen c.args.rank (c.loop-rest.number + 1) c.loop-rest.is_opened c.loop-rest.numbers.items (lines_given c.args.rank c.args.text.now) c.loop-rest.rest.now (eqb-true (length c.loop-rest.rest.now) 0 (sym c.is_empty.ensures ∙ c.loop-rest-test.false)) c.loop-rest.invariant.told in
    subst (λ numbers. Give operations c.args.text.now c.args.rank numbers (slice_index_or script.statements c.args.rank [])) (sym seen) (give operations c.args.text.now c.args.rank script read within)
