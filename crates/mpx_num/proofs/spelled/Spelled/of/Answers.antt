use Rattle.std.proofs.Common.{◌≡◌, ap, sym, subst, ◌∙◌, rules}
use Rattle.std.specs.List.{flat_map}
use Rattle.mpx_num.specs.ItemList.{AreItems}
use Rattle.mpx_num.specs.Spelling.{bytes_of, numbers_in}
use Rattle.mpx_num.proofs.Spellings.{if_ok_read, spelled_items_back}
use Rattle.mpx_num.proofs.spelled.Spelled.of.Goals as goal

pub new-requires-clause-items : goal.new-requires-clause-items
new-requires-clause-items c =
    let ty = c.ty-ty.result in
    let nums = c.nums-nums.result.now in
    let are : AreItems ty nums = search rules in
    let written : c.spell_numbers.new.out.items ≡ flat_map (bytes_of ty) nums = search rules in
    let back : numbers_in ty c.spell_numbers.new.out.items ≡ nums = ap (numbers_in ty) written ∙ (spelled_items_back ty nums are).1 in
    subst (AreItems ty) (sym back) are

pub new-requires-clause-spelling : goal.new-requires-clause-spelling
new-requires-clause-spelling c =
    let ty = c.ty-ty.result in
    let nums = c.nums-nums.result.now in
    let are : AreItems ty nums = search rules in
    let written : c.spell_numbers.new.out.items ≡ flat_map (bytes_of ty) nums = search rules in
    let back : numbers_in ty c.spell_numbers.new.out.items ≡ nums = ap (numbers_in ty) written ∙ (spelled_items_back ty nums are).1 in
    ap (flat_map (bytes_of ty)) back ∙ sym written

pub returns : goal.returns
returns c =
    let ty = c.ty-ty.result in
    let nums = c.nums-nums.result.now in
    let are : AreItems ty nums = search rules in
    let written : c.spell_numbers.new.out.items ≡ flat_map (bytes_of ty) nums = search rules in
    let back : numbers_in ty c.spell_numbers.new.out.items ≡ nums = ap (numbers_in ty) written ∙ (spelled_items_back ty nums are).1 in
    let ty_is : ty ≡ c.args.items.now.ty = search rules in
    let nums_are : nums ≡ c.args.items.now.nums = search rules in
    if_ok_read c.new.result c.args.items.now ty c.spell_numbers.new.out.items c.new.ensures ty_is (back ∙ nums_are)
