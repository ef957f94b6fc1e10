use Rattle.std.proofs.Common.{◌≡◌, ℕ, ◌-◌, List, ◌++◌, length, take, Result, Ok, Err, ap, ◌∙◌}
use Rattle.std.specs.Prelude.{OnOk}
use Rattle.std.specs.List.{AllZip, flat_map}
use Rattle.mpx_waiting.specs.ToldLines.{more_text}
use Rattle.mpx_explain.specs.declared.overflows.Overflow.{Overflow}
use Rattle.mpx_explain.specs.Overflows.{AreOverflows, Evaluated, IsToldAs, all_past, all_posts, evaluated, overflow_text}
use Rattle.mpx_explain.proofs.overflows.explain_results.Goals as goal

tells : {E : Type 0} (text : List ℕ) (e : Evaluated) (all shown : List Overflow) (old new : List ℕ) (pushed : Result (Unit {0}) E) → AllZip IsToldAs all (all_past e.statements (all_posts e)) → shown ≡ all
    → OnOk pushed (new ≡ (old ++ flat_map (overflow_text text) (take 100 shown)) ++ more_text (length shown - 100)) → OnOk pushed (AreOverflows text e.statements e.waiting e.complaints e.unheard old new)
tells text e all shown old new (Ok done) each same told = record {
  all = all;
  each = each;
  told = told ∙ ap (λ (xs : List Overflow). (old ++ flat_map (overflow_text text) (take 100 xs)) ++ more_text (length xs - 100)) same;
}
tells text e all shown old new (Err error) each same told = tt

pub returns : goal.returns
returns c = tells c.args.text.now (evaluated c.args.script.now c.args.found.now) c.in_ok-results.results.items c.deref.result.now c.args.told.now.items c.push_all-pushed.new.told.items c.push_all-pushed.result
    c.in_ok-results.ensures c.deref.ensures.value c.push_all-pushed.ensures
