use Rattle.std.proofs.Common.{◌≡◌, [], ◌∷◌, ◌++◌, length, sym, ap, ◌∙◌, arith, rules}
use Rattle.mpx_encode.proofs.Maps.{written_behind}
use Rattle.mpx_encode.proofs.Posts.{ranks_spelled, ranks_below}
use Rattle.mpx_encode.proofs.write_makings.write_ranks.Goals as goal

pub overflow_cast-list : goal.overflow_cast-list
overflow_cast-list c = omega (arith, ap length c.as_slice-list.ensures.value, ranks_below c.args.ranks.now c.requires)

pub returns : goal.returns
returns c =
    let rs = c.args.ranks.now in
    let first : c.write_u8.new.out ≡ c.args.out.now ++ length rs ∷ [] = rw c.as_slice-list.ensures.value at c.in_ok-write_u8.ensures in
    let added : c.extend_from_slice.new.self ≡ c.write_u8.new.out ++ c.as_slice-list.result.now = search rules in
    let second : c.extend_from_slice.new.self ≡ c.write_u8.new.out ++ rs = rw c.as_slice-list.ensures.value at added in
    written_behind c.args.out.now c.write_u8.new.out c.extend_from_slice.new.self (length rs ∷ []) rs first second ∙ ap (λ l. c.args.out.now ++ l) (sym (ranks_spelled rs))
