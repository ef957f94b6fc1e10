use Rattle.std.proofs.Common.{◌≡◌, ◌∙◌, List, ℕ, Some, ap, map, string_bytes, subst}
use Rattle.gossipmpi_c.specs.Options.{words_of}
use Rattle.gossipmpi_c.proofs.Shown.{whole_of}
use Rattle.mpx_words.specs.Words.{invocation_in}
use Rattle.gossipmpi_c.proofs.ran.run_whole.Goals as goal

pub returns-in-Ok-call_of : goal.returns-in-Ok-call_of
returns-in-Ok-call_of c =
    let words = ap (map string_bytes) c.deref.ensures.value ∙ c.in_ok-words.ensures ∙ ap words_of c.in-Ok.ensures.cases.0 in
    let asks = subst (λ (ws : List (List ℕ)). invocation_in ws ≡ Some c.in-Ok-call_of.call) words c.in-Ok-call_of.ensures.ok in
    whole_of c.args.options.now c.args.script.now _ _ _ (c.in_ok-ran-in-Ok-call_of.ensures c.args.options.now asks)
