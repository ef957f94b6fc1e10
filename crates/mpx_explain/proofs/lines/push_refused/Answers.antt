use Rattle.std.proofs.Common.{rules, ◌∙◌}
use Rattle.std.specs.Prelude.{string_bytes}
use Rattle.std.specs.Option.{option_map}
use Rattle.mpx_explain.proofs.RefusedTexts.{refusal_told}
use Rattle.mpx_explain.proofs.lines.push_refused.Goals as goal

pub returns-clause-told : goal.returns-clause-told
returns-clause-told g c = refusal_told c.args.with_refusal c.args.refusal (option_map (λ told. string_bytes told) c.in_ok-detail.detail) c.args.told.now.items c.as_bytes.result.now c.extend_from_slice.new.self.items (search rules) (c.as_bytes.ensures.value ∙ c.in_ok-line.ensures)
