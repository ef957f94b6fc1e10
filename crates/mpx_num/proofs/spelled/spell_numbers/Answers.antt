use Rattle.std.proofs.Common.{◌≡◌, ◌++◌, pos, get_or, to_z, of_z, refl, rules, ap, ◌∙◌}
use Rattle.std.specs.Int.{w128}
use Rattle.std.proofs.lemmas.Int.{to_z-of_z}
use Rattle.mpx_num.specs.Spelling.{bytes_of}
use Rattle.mpx_num.proofs.Spellings.{written_at}
use Rattle.mpx_num.proofs.spelled.spell_numbers.Goals as goal

pub loop-number-preserved : goal.loop-number-preserved
loop-number-preserved c =
    let nums = c.args.nums.now in
    let i = c.loop-number.number-index in
    let z = get_or nums i (pos 0) in
    let same : to_z w128 (of_z w128 z) ≡ z = to_z-of_z w128 z (search rules) in
    let spelled : c.spell_number.new.out.items ≡ c.loop-number.out.items ++ bytes_of c.args.ty (to_z w128 (of_z w128 z)) = search rules in
    let added : c.spell_number.new.out.items ≡ c.loop-number.out.items ++ bytes_of c.args.ty z = spelled ∙ ap (λ y. c.loop-number.out.items ++ bytes_of c.args.ty y) same in
    written_at (bytes_of c.args.ty) nums i z (pos 0) c.args.out.now.items c.loop-number.out.items c.spell_number.new.out.items c.loop-number-test.true refl c.loop-number.invariant added
