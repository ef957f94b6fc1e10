use Rattle.std.proofs.Common.{ap, sym, ◌∙◌, rules, tests, List}
use Rattle.std.specs.Prelude.{is_some, slice_get}
use Rattle.std.proofs.lemmas.Iterator.{YieldsList-from_slice}
use Rattle.std.proofs.lemmas.Iterator.Search.{all_from_yields_List}
use Rattle.mpx_post.specs.Posts.{Given}
use Rattle.mpx_post.specs.Rows.{all_of}
use Rattle.mpx_eval.specs.Contexts.{ContextView}
use Rattle.mpx_post.proofs.Lists.{is_some-all_of}
use Rattle.mpx_eval.proofs.context.Context.has_row.Goals as goal

pub returns : goal.returns
returns c =
    all_from_yields_List (λ (posts : List Given). is_some (slice_get posts c.args.call)) _ _ _ c.all.ensures.ran (YieldsList-from_slice c.deref.result.now cc) (λ x b q k. search (rules, tests))
    ∙ sym (is_some-all_of (λ (posts : List Given). slice_get posts c.args.call) c.deref.result.now)
    ∙ ap (λ (columns : List (List Given)). is_some (all_of (λ (posts : List Given). slice_get posts c.args.call) columns)) (c.deref.ensures.value ∙ ap (λ (v : ContextView). v.posts) c.self.view_is)
