use Rattle.std.proofs.Common.{◌∙◌, ap, sym}
use Rattle.std.specs.Option.{option_copied}
use Rattle.mpx_kind.specs.Kinds.{fields_of}
use Rattle.mpx_post.specs.Posts.{Given}
use Rattle.mpx_post.proofs.Contributions.{items_are, items_there}
use Rattle.mpx_post.proofs.row.Row.given.Goals as goal

pub unwrap-requires : goal.unwrap-requires
unwrap-requires c =
    c.items.ensures.there
    ∙ ap (λ (given : Given). (fields_of given.kind).items) c.post.ensures.value
    ∙ items_there c.args.self.now c.args.rank c.requires.fine c.requires.rank c.requires.items

pub returns : goal.returns
returns c = items_are c.args.self.now c.args.rank c.unwrap.result.now c.requires.fine c.requires.rank
    (sym (ap option_copied c.unwrap.ensures) ∙ c.items.ensures.value ∙ ap (λ (given : Given). given.items) c.post.ensures.value)
