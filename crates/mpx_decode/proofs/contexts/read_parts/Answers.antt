use Rattle.std.proofs.Common.{[], ◌∷◌}
use Rattle.mpx_board.specs.Views.{view_of_entries}
use Rattle.mpx_decode.proofs.NoParts.{no_acks, no_names, on_any}
use Rattle.mpx_decode.proofs.contexts.read_parts.Goals as goal

pub returns-in_err-contexts-clause-some : goal.returns-in_err-contexts-clause-some
returns-in_err-contexts-clause-some c = on_any c.from_residual.result (λ none. c.in_err-contexts.ensures.some (0 ∷ []) (no_names c.args.version c.args.bytes.now none))

pub returns-in_err-acks-clause-some : goal.returns-in_err-acks-clause-some
returns-in_err-acks-clause-some c =
    on_any c.from_residual-in_err-acks.result (λ none. c.in_err-acks.ensures.some [] (no_acks c.args.version c.args.bytes.now none (view_of_entries c.in_ok-contexts.contexts) c.in_ok-contexts.rest.now c.in_ok-contexts.ensures.gives))
