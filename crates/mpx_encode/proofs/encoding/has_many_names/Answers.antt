use Rattle.std.proofs.Common.{◌≤◌, not, sym, ap, ◌∙◌, arith}
use Rattle.std.specs.FinMap.{len}
use Rattle.mpx_board.specs.Views.{view_of_parts}
use Rattle.mpx_format.specs.Encoding.{most_names}
use Rattle.mpx_encode.proofs.Encoded.{many_by_acks}
use Rattle.mpx_encode.proofs.encoding.has_many_names.Goals as goal

pub returns : goal.returns
returns c =
    let v = view_of_parts c.args.parts.now in
    let few : len v.0 ≤ most_names = omega (arith, c.len-names.ensures, c.if-names-gt-MOST_NAMES.false) in
    ap not c.has_few_acks.ensures ∙ sym (many_by_acks v few)
