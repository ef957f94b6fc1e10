-- What is known elsewhere of a board's posts, and what the board lacks without those.
use Rattle.std.specs.Prelude.{◌≡◌, ◌<◌, ◌≤◌, ℕ, true, cond, nat_lt, map}
use Rattle.join_core.specs.Flat.{FlatView, unknown}
use Rattle.mpx_name.specs.Name.{Name}
use Rattle.mpx_post.specs.Posts.{Given}
use Rattle.mpx_birth.specs.Births.{upto}
use Rattle.mpx_board.specs.Boards.{Context, Look, Held, Has, Stands, join, minimum, own_acks}
use Rattle.mpx_board.specs.Changes.{is_posted}
use Rattle.mpx_digest.specs.Digest.{IsDigest, Numbers}

-- each call of the process below the number is told on the board, or dropped there
abbrev pub HasUpTo : Look → Name → (process number : ℕ) → Type 0
HasUpTo b name p n = (k : ℕ) → k < n → is_posted (b.contexts name) k p ≡ true

-- the least number that one of so many processes acknowledges
abbrev pub common_on : (processes : ℕ) → Look → Numbers
common_on processes b name p = minimum (map (λ q. b.acks q name p) (upto processes))

-- the process says that it has what the digest of the board says, and nothing else is new
pub record Acknowledges (me : ℕ) (old new : Look) : Type 0 where
  pub numbers : Numbers
  pub digest : IsDigest numbers old
  pub learnt : new ≡ join old (own_acks me numbers)
  pub own : (name : Name) (p : ℕ) → numbers name p ≤ new.acks me name p

-- WHAT IS LACKING

abbrev pub without_posts : (ℕ → ℕ) → Context → Context
without_posts numbers c = record c { posts = λ k p. cond (nat_lt k (numbers p)) unknown (c.posts k p) }

-- the board without the posts below these numbers
abbrev pub without : Numbers → Look → Look
without d b = record b { contexts = λ name. without_posts (d name) (b.contexts name) }

-- each post of a below these numbers stands in b
abbrev pub Covers : Numbers → (b a : Look) → Type 0
Covers d b a = (name : Name) (k p : ℕ) (v : FlatView Given) → k < d name p → Has a (Held name k p v) → Stands b (Held name k p v)
