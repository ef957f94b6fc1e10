use Rattle.std.proofs.Common.{◌≡◌, [], ◌∷◌, ◌++◌, sym, ap, ◌∙◌, rules}
use Rattle.mpx_encode.proofs.Maps.{told_as, told_behind}
use Rattle.mpx_format.specs.Posts.{choice}
use Rattle.mpx_encode.proofs.Posts.{choice_some, choice_none}
use Rattle.mpx_encode.proofs.write_makings.write_choice.Goals as goal

pub returns-in-None : goal.returns-in-None
returns-in-None c = told_as c.write_u8.result c.args.out.now c.write_u8.new.out _ _ (sym (ap choice.spelling c.in-None.is ∙ choice_none)) c.write_u8.ensures

pub returns-in_ok-write_u8-in-Some : goal.returns-in_ok-write_u8-in-Some
returns-in_ok-write_u8-in-Some c =
    let first : c.write_u8-in-Some.new.out ≡ c.args.out.now ++ 1 ∷ [] = search rules in
    told_behind c.write_u32.result c.args.out.now c.write_u8-in-Some.new.out c.write_u32.new.out _ _ _ (ap choice.spelling c.in-Some.is ∙ choice_some c.in-Some.colour) first (search rules)
