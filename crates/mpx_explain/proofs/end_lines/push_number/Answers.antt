use Rattle.std.proofs.Common.{◌++◌, List, ℕ, append_assoc, codes, ap, ◌∙◌}
use Rattle.std.specs.Fmt.{decimal}
use Rattle.mpx_explain.proofs.end_lines.push_number.Goals as goal

pub returns : goal.returns
returns c =
    let had = c.args.told.now.items in
    let start : List ℕ = codes "call " in
    let call = decimal c.args.call in
    let waits : List ℕ = codes ": waits for " in
    c.in_ok-extend_from_slice-2.ensures.items
    ∙ ap (λ xs. xs ++ waits) c.in_ok-push_decimal.ensures
    ∙ ap (λ xs. (xs ++ call) ++ waits) c.in_ok-extend_from_slice.ensures.items
    ∙ ap (λ xs. xs ++ waits) (append_assoc had start call)
    ∙ append_assoc had (start ++ call) waits
