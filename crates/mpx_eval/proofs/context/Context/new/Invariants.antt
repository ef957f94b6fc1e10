use Rattle.std.proofs.Common.{◌≡◌, ℕ, List, [], map, take}
use Rattle.mpx_post.specs.Posts.{Given}
use Rattle.mpx_eval.proofs.context.Context.new.Given as goal

abbrev pub invariant-loop-member : goal.invariant-loop-member
invariant-loop-member l = l.columns.items ≡ map (λ (member : ℕ). let posts : List Given = [] in posts) (take l._member-index l._member-items)
