use Rattle.std.proofs.Common.{◌≡◌, length, sym, ap, ◌∙◌, rules}
use Rattle.mpx_kind.specs.Kinds.{fields_of}
use Rattle.mpx_post.specs.declared.making.Making.TheVariants.{Group}
use Rattle.mpx_encode.proofs.Posts.{group_spelled, group_fits}
use Rattle.mpx_encode.proofs.write_makings.making_len.Goals as goal

pub ranks_len-requires : goal.ranks_len-requires
ranks_len-requires c =
    let g = c.args.given.now in
    let is : g.making ≡ Group c.in-Group.ranks = search rules in
    group_fits (fields_of g.kind).makes g.making c.in-Group.ranks is c.limits.ensures.post.making.sort c.requires

pub returns-in-Group-clause-value : goal.returns-in-Group-clause-value
returns-in-Group-clause-value c =
    let g = c.args.given.now in
    let is : g.making ≡ Group c.in-Group.ranks = search rules in
    c.ranks_len.ensures.value ∙ sym (ap length (group_spelled (fields_of g.kind).makes g.making c.in-Group.ranks is c.limits.ensures.post.making.sort))
