use Rattle.std.proofs.Common.{sym, ap, ◌∙◌}
use Rattle.mpx_kind.specs.Kinds.{fields_of}
use Rattle.mpx_encode.proofs.Maps.{told_as}
use Rattle.mpx_format.specs.Fields.{process}
use Rattle.mpx_format.specs.Codes.{when}
use Rattle.mpx_encode.proofs.Posts.{when_some}
use Rattle.mpx_encode.proofs.write_posts.write_root.Goals as goal

pub returns-in-Some : goal.returns-in-Some
unfolding process
returns-in-Some c =
    let g = c.args.given.now in
    let had = (fields_of g.kind).root in
    told_as c.write_u8.result c.args.out.now c.write_u8.new.out _ _ (sym (ap (when had process).spelling (sym c.in-Some.ensures.value) ∙ when_some had process c.in-Some.root c.in-Some.ensures.there)) c.write_u8.ensures
