-- The numbers of the context, or none.
use Rattle.std.proofs.Common.{ap, sym, ◌∙◌}
use Rattle.std.specs.Option.{option_copied, option_map}
use Rattle.std.proofs.lemmas.Result.{IfOk-weaker}
use Rattle.mpx_board.specs.Views.{view_of_acks, view_of_entry, view_of_numbers}
use Rattle.mpx_delta.specs.Lean.{lean_entry}
use Rattle.mpx_delta.proofs.Leaning.{none_numbers, some_numbers}
use Rattle.mpx_delta.proofs.delta.lean_context.Goals as goal

pub returns-in-None : goal.returns-in-None
returns-in-None c = IfOk-weaker c.lean_entry.result _ _ (λ made e. e ∙ ap (λ n. lean_entry n (view_of_entry c.args.entry.now)) (none_numbers (view_of_acks c.args.digest.now) c.args.name.now _ (sym c.get.ensures ∙ ap (λ o. option_map view_of_numbers (option_copied o)) c.in-None.is) c.new.ensures)) c.lean_entry.ensures

pub returns-in-Some : goal.returns-in-Some
returns-in-Some c = IfOk-weaker c.lean_entry-in-Some.result _ _ (λ made e. e ∙ ap (λ n. lean_entry n (view_of_entry c.args.entry.now)) (some_numbers (view_of_acks c.args.digest.now) c.args.name.now _ (sym c.get.ensures ∙ ap (λ o. option_map view_of_numbers (option_copied o)) c.in-Some.is))) c.lean_entry-in-Some.ensures
