use Rattle.std.proofs.Common.{◌≡◌, sym, rules}
use Rattle.mpx_kind.specs.Kinds.{fields_of}
use Rattle.mpx_encode.proofs.Maps.{told_as}
use Rattle.mpx_post.specs.declared.making.Making.TheVariants.{Group}
use Rattle.mpx_encode.proofs.Posts.{group_spelled, group_fits}
use Rattle.mpx_encode.proofs.write_makings.write_making.Goals as goal

pub write_ranks-requires : goal.write_ranks-requires
write_ranks-requires c =
    let g = c.args.given.now in
    let is : g.making ≡ Group c.in-Group.ranks = search rules in
    group_fits (fields_of g.kind).makes g.making c.in-Group.ranks is c.limits.ensures.post.making.sort c.requires

pub returns-in-Group : goal.returns-in-Group
returns-in-Group c =
    let g = c.args.given.now in
    let is : g.making ≡ Group c.in-Group.ranks = search rules in
    told_as c.write_ranks.result c.args.out.now c.write_ranks.new.out _ _ (sym (group_spelled (fields_of g.kind).makes g.making c.in-Group.ranks is c.limits.ensures.post.making.sort)) c.write_ranks.ensures
