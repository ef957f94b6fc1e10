use Rattle.std.proofs.Common.{Some, cond, true, ap, ◌∙◌}
use Rattle.std.specs.Cmp.Lexicographic.{slice_cmp}
use Rattle.std.specs.Ordering.{is_eq, nat_cmp}
use Rattle.mpx_meaning.specs.Standing.{looked_up}
use Rattle.mpx_eval.proofs.missing.see.Goals as goal

pub returns : goal.returns
returns c = λ other.
    c.in_ok-insert.ensures.updates.0 other
    ∙ ap (λ key. cond (is_eq (slice_cmp nat_cmp key other)) (Some true) (looked_up c.args.seen.now other)) c.in_ok-copy.ensures
