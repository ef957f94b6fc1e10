use Rattle.std.proofs.Common.{◌≡◌, ◌<◌, ◌++◌, List, map, drop, length}
use Rattle.std.specs.Prelude.{slice_get}
use Rattle.std.specs.Option.{option_map}
use Rattle.mpx_post.specs.Drafts.{most_calls}
use Rattle.mpx_post.specs.Posts.{Given}
use Rattle.mpx_post.specs.Rows.{all_of}
use Rattle.mpx_eval.proofs.context.Context.row.Given as goal

-- the posts so far are one for each member so far, and the row goes on with those of the members that are left
abbrev pub invariant-loop-column : goal.invariant-loop-column
invariant-loop-column l =
    let f = λ (posts : List Given). slice_get posts l.call in
    record {
      row : all_of f l.column-items ≡ option_map (λ (rest : List Given). map (λ p. p.now) l.posts.items ++ rest) (all_of f (drop l.column-index l.column-items));
      count : length l.posts.items ≡ l.column-index;
      room : 0 < l.column-index → l.call < most_calls;
    }
