use Rattle.std.proofs.Common.{◌++◌, List, ℕ, append_assoc, codes, ap, ◌∙◌}
use Rattle.std.specs.Fmt.{decimal}
use Rattle.mpx_waiting.specs.ToldLines.{members_text}
use Rattle.mpx_waiting.proofs.told.push_end.Goals as goal

pub returns : goal.returns
returns c =
    let had = c.args.told.now.items in
    let start : List ℕ = codes ", call " in
    let call = decimal c.args.call in
    let waits : List ℕ = codes ": waits for " in
    let members = members_text c.args.places.now c.args.missing.now in
    let end : List ℕ = codes "\n" in
    c.in_ok-extend_from_slice-3.ensures.items
    ∙ ap (λ xs. xs ++ end) c.in_ok-push_members.ensures
    ∙ ap (λ xs. (xs ++ members) ++ end) c.in_ok-extend_from_slice-2.ensures.items
    ∙ ap (λ xs. ((xs ++ waits) ++ members) ++ end) c.in_ok-push_decimal.ensures
    ∙ ap (λ xs. (((xs ++ call) ++ waits) ++ members) ++ end) c.in_ok-extend_from_slice.ensures.items
    ∙ ap (λ xs. ((xs ++ waits) ++ members) ++ end) (append_assoc had start call)
    ∙ ap (λ xs. (xs ++ members) ++ end) (append_assoc had (start ++ call) waits)
    ∙ ap (λ xs. xs ++ end) (append_assoc had ((start ++ call) ++ waits) members)
    ∙ append_assoc had (((start ++ call) ++ waits) ++ members) end
