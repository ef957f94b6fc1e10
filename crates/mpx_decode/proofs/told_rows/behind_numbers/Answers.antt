use Rattle.std.proofs.Common.{◌≡◌, ◌∙◌, ℕ, Ok, ap, length, sym, arith}
use Rattle.std.specs.Ordering.{nat_cmp}
use Rattle.std.specs.FinMap.{entries, entries-from_sorted, entries_sorted, from_sorted, same_entries_map}
use Rattle.mpx_board.specs.Views.{view_of_numbers}
use Rattle.mpx_format.specs.Fields.{some_byte}
use Rattle.mpx_decode.proofs.ToldRows.{told_numbers}
use Rattle.mpx_decode.proofs.told_rows.behind_numbers.Goals as goal

pub returns : goal.returns
returns c =
    let m = view_of_numbers c.args.held.now in
    let rows = c.entries-rows.result.now in
    let is : from_sorted (entries m) ≡ m = same_entries_map (from_sorted (entries m)) m (entries-from_sorted nat_cmp (entries m) (entries_sorted m)) in
    let all : c.in-Ok.count ≡ length rows = omega arith in
    let read : some_byte.read c.args.bytes.now ≡ Ok (length rows, c.in-Ok.rest.now) = c.in-Ok.ensures.gives ∙ ap (λ (n : ℕ). Ok (n, c.in-Ok.rest.now)) all in
    λ more stands. told_numbers m rows c.entries-rows.ensures.rising (sym is ∙ ap from_sorted (sym c.entries-rows.ensures.entries)) c.args.bytes.now c.in-Ok.rest.now c.in_ok-after.after.now more (λ i. omega (arith, c.type_inv.bytes i)) read c.in_ok-after.ensures stands
