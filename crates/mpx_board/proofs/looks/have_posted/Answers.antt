use Rattle.std.proofs.Common.{sym, ◌∙◌, rules, tests}
use Rattle.std.specs.Prelude.{is_some}
use Rattle.std.specs.Option.{option_copied, option_map}
use Rattle.std.proofs.lemmas.Iterator.{YieldsList-from_slice}
use Rattle.std.proofs.lemmas.Iterator.Search.{all_from_yields_List}
use Rattle.mpx_board.specs.Boards.{told}
use Rattle.mpx_board.specs.Contexts.{post_in}
use Rattle.mpx_board.specs.Views.{view_of_call}
use Rattle.mpx_post.proofs.Lists.{is_some-all_of}
use Rattle.mpx_board.proofs.looks.have_posted.Goals as goal

pub returns : goal.returns
returns c =
    all_from_yields_List (λ p. is_some (told (post_in p (option_map view_of_call (option_copied c.args.posts))))) _ _ _ c.all.ensures.ran (YieldsList-from_slice c.args.members.now cc) (λ x b q k. search (rules, tests))
    ∙ sym (is_some-all_of _ c.args.members.now)
