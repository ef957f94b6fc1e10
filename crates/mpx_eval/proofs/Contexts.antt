-- Posts to a context.
use Rattle.std.proofs.Common.{◌≡◌, ℕ, ◌||◌, List, [], ◌∷◌, ◌++◌, None, ap, ◌∙◌}
use Rattle.std.specs.Prelude.{Err}
use Rattle.std.specs.List.{list_any}
use Rattle.std.proofs.Math.Bool.{or-false}
use Rattle.std.proofs.lemmas.List.Folds.{list_any-append}
use Rattle.mpx_num.specs.declared.own.Operation.{Operation}
use Rattle.mpx_post.specs.declared.draft.At.{At}
use Rattle.mpx_post.specs.declared.draft.Draft.{Draft}
use Rattle.mpx_post.specs.declared.draft.PostError.TheVariants.{NotMember}
use Rattle.mpx_birth.specs.Births.{BirthView, rank_in}
use Rattle.mpx_post.specs.Drafts.{checked, checked_at}
use Rattle.mpx_post.specs.Posts.{Given, is_free}

-- POSTS

-- one post more may be a free
pub freed_more : (posts : List Given) (post : Given) → list_any is_free (posts ++ post ∷ []) ≡ (list_any is_free posts || is_free post)
freed_more posts post = list_any-append is_free posts (post ∷ []) ∙ ap (λ b. list_any is_free posts || b) (or-false (is_free post))

-- who is no member is refused
pub checked_stranger : (ops : List Operation) (birth : BirthView) (me : ℕ) (at : At) (draft : Draft) → rank_in me birth.members ≡ None → checked ops birth me at draft ≡ Err NotMember
unfolding checked
checked_stranger ops birth me at draft e = ap (λ o. checked_at ops o birth at draft) e
