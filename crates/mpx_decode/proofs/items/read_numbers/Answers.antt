use Rattle.std.proofs.Common.{◌≡◌, ◌*◌, ◌++◌, ◌∙◌, [], length, sym, ap, rules, Ok, append_assoc, Err, subst}
use Rattle.std.proofs.lemmas.List.{append-nil}
use Rattle.std.specs.List.{flat_map}
use Rattle.mpx_num.specs.ItemList.{AreItems}
use Rattle.mpx_num.specs.Spelling.{bytes_of, number_len}
use Rattle.mpx_format.specs.declared.defects.Defect.TheVariants.{ShortFrame}
use Rattle.mpx_format.specs.Format.{many_read}
use Rattle.mpx_format.specs.Posts.{integer}
use Rattle.mpx_num.proofs.Spellings.{length-spelled}
use Rattle.mpx_format.proofs.Integers.{numbers_stand}
use Rattle.mpx_decode.proofs.Integers.{as_many, too_short, whole_bytes}
use Rattle.mpx_decode.proofs.items.read_numbers.Goals as goal

pub returns-then-bytes-len-clause-read : goal.returns-then-bytes-len-clause-read
returns-then-bytes-len-clause-read c = λ none.
    let all = ap (λ l. c.args.bytes.now ++ l) none ∙ append-nil c.args.bytes.now in
    subst (λ b. many_read (λ before. integer c.args.ty) c.args.count [] b ≡ Err ShortFrame) (sym all) (too_short c.args.ty c.args.count [] c.args.bytes.now (rw (← c.number_len.ensures.value) c.if-bytes-len.true))

pub items-requires : goal.items-requires
items-requires c =
    whole_bytes c.args.ty c.split_at.result.0.now c.args.count c.requires.whole (search rules)

pub returns-clause-read : goal.returns-clause-read
returns-clause-read c =
    let ty = c.args.ty in
    let nums = c.in_ok-items.field-0.nums in
    let front = c.split_at.result.0.now in
    let rest = c.split_at.result.1.now in
    let spelled : flat_map (bytes_of ty) nums ≡ front = c.in_ok-items.ensures.spelling in
    let items : AreItems ty nums = c.in_ok-items.ensures.items in
    let size : length front ≡ c.args.count * number_len ty = search rules in
    let count : length nums ≡ c.args.count = as_many ty (length nums) c.args.count (sym (length-spelled ty nums) ∙ ap length spelled ∙ size) in
    let near : c.args.bytes.now ≡ front ++ rest = search rules in
    let left = rest ++ c.args.beyond.now in
    let both : c.args.bytes.now ++ c.args.beyond.now ≡ front ++ left = ap (λ l. l ++ c.args.beyond.now) near ∙ append_assoc front rest c.args.beyond.now in
    let there : many_read (λ before. integer ty) (length nums) [] (flat_map (bytes_of ty) nums ++ left) ≡ Ok (nums, left) = numbers_stand ty [] nums left items.in_range in
    ap (many_read (λ before. integer ty) c.args.count []) (both ∙ ap (λ l. l ++ left) (sym spelled)) ∙ ap (λ n. many_read (λ before. integer ty) n [] (flat_map (bytes_of ty) nums ++ left)) (sym count) ∙ there

pub returns-clause-len : goal.returns-clause-len
returns-clause-len c =
    let ty = c.args.ty in
    let nums = c.in_ok-items.field-0.nums in
    let spelled : flat_map (bytes_of ty) nums ≡ c.split_at.result.0.now = c.in_ok-items.ensures.spelling in
    let size : length c.split_at.result.0.now ≡ c.args.count * number_len ty = search rules in
    as_many ty (length nums) c.args.count (sym (length-spelled ty nums) ∙ ap length spelled ∙ size)
