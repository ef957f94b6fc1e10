-- Which members of a context have not posted to a call.
use Rattle.std.specs.Prelude.{ℕ, nat_le, cond, List, [], ◌∷◌, ◌++◌, length, Option, Some, None}
use Rattle.std.specs.List.{list_any}
use Rattle.mpx_post.specs.Posts.{Given, is_free}
use Rattle.mpx_eval.specs.Contexts.{ContextView}
use Rattle.mpx_eval.specs.declared.missing.MissingMember.{MissingMember}

-- a member that has made these posts
abbrev pub missing_by : (rank : ℕ) → (made : List Given) → MissingMember
missing_by rank made = record { rank = rank; closed = list_any is_free made }

-- of these members, by the posts of each, those that have made at most so many
abbrev pub lacking : (members : List ℕ) → (posts : List (List Given)) → (call : ℕ) → List MissingMember
lacking [] posts call = []
lacking (m ∷ members) [] call = []
lacking (m ∷ members) (made ∷ posts) call = cond (nat_le (length made) call) (missing_by m made ∷ []) [] ++ lacking members posts call

abbrev pub missing_there : Option ContextView → (call : ℕ) → List MissingMember
missing_there None call = []
missing_there (Some c) call = lacking c.birth.members c.posts call
