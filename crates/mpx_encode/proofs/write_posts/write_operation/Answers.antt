use Rattle.std.proofs.Common.{◌≡◌, ◌<◌, true, Option, [], ◌∷◌, sym, ap, ◌∙◌, arith}
use Rattle.std.specs.Option.{option_map_or}
use Rattle.mpx_num.specs.declared.operations.Op.{Op}
use Rattle.mpx_num.specs.Codes.{code_of_operation}
use Rattle.mpx_num.specs.Operations.{fits}
use Rattle.mpx_num.proofs.Codes.{code_below}
use Rattle.mpx_post.specs.Posts.{type_of}
use Rattle.mpx_kind.specs.Kinds.{fields_of}
use Rattle.mpx_encode.proofs.Maps.{told_as}
use Rattle.mpx_format.specs.declared.versions.Version.TheVariants.{Two}
use Rattle.mpx_format.specs.Codes.{when, operation}
use Rattle.mpx_encode.proofs.Posts.{when_some}
use Rattle.mpx_encode.proofs.write_posts.write_operation.Goals as goal

pub code_of_operation-requires : goal.code_of_operation-requires
code_of_operation-requires c =
    let g = c.args.given.now in
    let stands : fits c.in-Some.op (type_of g) ≡ true = ap (λ (o : Option Op). option_map_or (λ op. fits op (type_of g)) o true) c.in-Some.ensures.value ∙ c.limits.ensures.post.type in
    let below : code_of_operation c.in-Some.op < 32 = code_below c.in-Some.op (type_of g) stands in
    omega (arith, below)

pub returns-in-Some : goal.returns-in-Some
unfolding operation
returns-in-Some c =
    let g = c.args.given.now in
    let had = (fields_of g.kind).op in
    let code = ap (λ n. n ∷ []) c.code_of_operation.ensures in
    told_as c.write_u8.result c.args.out.now c.write_u8.new.out _ _ (code ∙ sym (ap (when had (operation Two)).spelling (sym c.in-Some.ensures.value) ∙ when_some had (operation Two) c.in-Some.op c.in-Some.ensures.there)) c.write_u8.ensures
