use Rattle.std.proofs.Common.{◌∙◌, ap, sym, subst}
use Rattle.std.specs.Option.{option_copied}
use Rattle.mpx_num.specs.ItemList.{ItemList, AreItems}
use Rattle.mpx_kind.specs.Kinds.{fields_of}
use Rattle.mpx_post.specs.Posts.{Given}
use Rattle.mpx_post.specs.Agreement.{first_of}
use Rattle.mpx_post.proofs.Contributions.{items_are, items_there}
use Rattle.mpx_fold.proofs.Contributions.{has_items}
use Rattle.mpx_fold.proofs.folds.given.Goals as goal

pub unwrap-items-requires : goal.unwrap-items-requires
unwrap-items-requires c =
    c.items.ensures.there
    ∙ ap (λ (given : Given). (fields_of given.kind).items) c.post.ensures.value
    ∙ items_there c.args.row.now c.args.rank c.requires.fine c.requires.rank (has_items (first_of c.args.row.now).kind c.requires.reduces)

pub returns : goal.returns
returns c =
    let row = c.args.row.now in
    let posted = sym (ap option_copied c.unwrap-items.ensures) ∙ c.items.ensures.value ∙ ap (λ (given : Given). given.items) c.post.ensures.value in
    let is = items_are row c.args.rank c.unwrap-items.result.now c.requires.fine c.requires.rank posted in
    record {
      value = is;
      whole = subst (λ (items : ItemList). AreItems items.ty items.nums) is c.bytes-whole.ensures.items;
    }
