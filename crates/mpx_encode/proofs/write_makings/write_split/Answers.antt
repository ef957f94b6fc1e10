use Rattle.std.proofs.Common.{◌≡◌, ◌++◌, ◌∙◌, ap, sym, arith, rules}
use Rattle.std.specs.Int.{w32, cast_unsigned, to_be_bytes}
use Rattle.std.specs.Prelude.{OnOk}
use Rattle.std.proofs.lemmas.Int.{ints, to_z-of_z}
use Rattle.mpx_num.specs.Types.{IsInRange}
use Rattle.mpx_num.specs.declared.types.Ty.TheVariants.{I32}
use Rattle.mpx_format.specs.Posts.{choice, integer}
use Rattle.mpx_format.proofs.Integers.{integer_is}
use Rattle.mpx_encode.proofs.Maps.{told_as, told_behind}
use Rattle.mpx_encode.proofs.Posts.{split_spelled}
use Rattle.mpx_encode.proofs.write_makings.write_split.Goals as goal

pub returns : goal.returns
returns c =
    let first : c.write_choice.new.out ≡ c.args.out.now ++ choice.spelling c.args.colour = search rules in
    let in_range : IsInRange I32 c.args.key = record { low = omega (arith, ints, c.ranges.key.sfits); high = omega (arith, ints, c.ranges.key.sfits) } in
    let key : to_be_bytes w32 c.cast_unsigned.result ≡ (integer I32).spelling c.args.key = ap (to_be_bytes w32) (c.cast_unsigned.ensures ∙ ap (cast_unsigned w32) (to_z-of_z w32 c.args.key c.ranges.key)) ∙ sym (integer_is I32 c.args.key in_range) in
    let second : OnOk c.write_u32.result (c.write_u32.new.out ≡ c.write_choice.new.out ++ (integer I32).spelling c.args.key) = told_as c.write_u32.result _ _ _ _ key c.write_u32.ensures in
    told_behind c.write_u32.result c.args.out.now c.write_choice.new.out c.write_u32.new.out _ _ _ (split_spelled c.args.colour c.args.key) first second
