-- The least rank of which a test holds.
use Rattle.std.proofs.Common.{◌≡◌, ℕ, zero, suc, ◌+◌, ◌-◌, ◌<◌, ◌≤◌, Bool, true, false, cond, [], ◌∷◌, length, Option, Some, None, refl, arith}
use Rattle.mpx_post.specs.Posts.{Given}
use Rattle.mpx_post.specs.Rows.{RowView}
use Rattle.mpx_post.specs.Agreement.{post_at}
use Rattle.mpx_match.specs.Questions.{least_from, least_rank}

-- no post of a rank below i passes the test
abbrev pub NoneBelow : (ℕ → Given → Bool) → RowView → ℕ → Type 0
NoneBelow test row i = (rank : ℕ) → rank < i → test rank (post_at row rank) ≡ false

module _ (test : ℕ → Given → Bool) where
  -- the same where the row's ranks start here
  abbrev NoneFrom : ℕ → RowView → ℕ → Type 0
  NoneFrom start row i = (k : ℕ) → k < i → test (start + k) (post_at row k) ≡ false

  one_further : (start : ℕ) (given : Given) (rest : RowView) (i : ℕ) → NoneFrom start (given ∷ rest) (suc i) → NoneFrom (start + 1) rest i
  one_further start given rest i none k l =
      let further : start + 1 + k ≡ start + suc k = omega arith in
      rw further (none (suc k) (omega arith))

  first : (start : ℕ) (given : Given) (rest : RowView) (i : ℕ) → NoneFrom start (given ∷ rest) (suc i) → test start given ≡ false
  first start given rest i none =
      let here : start + 0 ≡ start = omega arith in
      rw here at (none 0 (omega arith))

  found_from : (start : ℕ) (row : RowView) (i : ℕ) → NoneFrom start row i → i < length row → test (start + i) (post_at row i) ≡ true → least_from test start row ≡ Some (start + i)
  found_from start [] i none l t = absurd (omega arith)
  found_from start (given ∷ rest) zero none l t =
      let here : start + 0 ≡ start = omega arith in
      let passes : test start given ≡ true = rw here at t in
      rw (here, passes)
  found_from start (given ∷ rest) (suc i) none l t =
      let further : start + suc i ≡ start + 1 + i = omega arith in
      let fails : test start given ≡ false = first start given rest i none in
      rw (further, fails) (found_from (start + 1) rest i (one_further start given rest i none) (omega arith) (rw further at t))

  none_from : (start : ℕ) (row : RowView) → NoneFrom start row (length row) → least_from test start row ≡ None
  none_from start [] none = refl
  none_from start (given ∷ rest) none =
      let fails : test start given ≡ false = first start given rest (length rest) none in
      rw fails (none_from (start + 1) rest (one_further start given rest (length rest) none))

-- the first that passes
pub least_rank-found : (test : ℕ → Given → Bool) (row : RowView) (i : ℕ) → NoneBelow test row i → i < length row → test i (post_at row i) ≡ true → least_rank test row ≡ Some i
least_rank-found test row i none l t =
    let start = λ (k : ℕ). let e : 0 + k ≡ k = omega arith in e in
    rw (found_from test 0 row i (λ k m. rw (start k) (none k m)) l (rw (start i) t)) (rw (start i))

-- none at all
pub least_rank-absent : (test : ℕ → Given → Bool) (row : RowView) (i : ℕ) → NoneBelow test row i → length row ≤ i → least_rank test row ≡ None
least_rank-absent test row i none l =
    none_from test 0 row (λ k m. let start : 0 + k ≡ k = omega arith in rw start (none k (omega arith)))

-- WHAT AN ANSWER SAYS

-- the rank passes, and none before it
pub record IsFound (test : ℕ → Given → Bool) (start : ℕ) (row : RowView) (found : ℕ) : Type 0 where
  pub from : start ≤ found
  pub within : found - start < length row
  pub passes : test found (post_at row (found - start)) ≡ true
  pub before : (k : ℕ) → start + k < found → test (start + k) (post_at row k) ≡ false

some_injective : (m n : ℕ) → Some m ≡ Some n → m ≡ n
some_injective m n e = cc e

module _ (test : ℕ → Given → Bool) (start : ℕ) (given : Given) (rest : RowView) (found : ℕ) where
  found_here : test start given ≡ true → start ≡ found → IsFound test start (given ∷ rest) found
  found_here t e =
      let none : found - start ≡ 0 = omega arith in
      record {
        from = omega arith;
        within = omega arith;
        passes = rw (none, ← e) t;
        before = λ k l. absurd (omega arith);
      }

  each_before : test start given ≡ false → IsFound test (start + 1) rest found → (k : ℕ) → start + k < found → test (start + k) (post_at (given ∷ rest) k) ≡ false
  each_before f later zero l = let here : start + 0 ≡ start = omega arith in rw here f
  each_before f later (suc k) l = let further : start + suc k ≡ start + 1 + k = omega arith in rw further (later.before k (omega arith))

  found_later : test start given ≡ false → IsFound test (start + 1) rest found → IsFound test start (given ∷ rest) found
  found_later f later =
      let from : start + 1 ≤ found = later.from in
      let within : found - (start + 1) < length rest = later.within in
      let further : found - start ≡ suc (found - (start + 1)) = omega arith in
      record {
        from = omega arith;
        within = omega arith;
        passes = rw further later.passes;
        before = each_before f later;
      }

least_from-found : (test : ℕ → Given → Bool) (start : ℕ) (row : RowView) (found : ℕ) → least_from test start row ≡ Some found → IsFound test start row found
least_from-found test start [] found e = cc e
least_from-found test start (given ∷ rest) found e = by_test (test start given) refl (λ later. least_from-found test (start + 1) rest found later) e where
  by_test : (t : Bool) → test start given ≡ t → (least_from test (start + 1) rest ≡ Some found → IsFound test (start + 1) rest found) → cond t (Some start) (least_from test (start + 1) rest) ≡ Some found → IsFound test start (given ∷ rest) found
  by_test true t later e = found_here test start given rest found t (some_injective start found e)
  by_test false t later e = found_later test start given rest found t (later e)

-- the least rank that passes is one, it passes, and none below it does
pub least_rank-passes : (test : ℕ → Given → Bool) (row : RowView) (rank : ℕ) → least_rank test row ≡ Some rank → (rank < length row) × (test rank (post_at row rank) ≡ true) × NoneBelow test row rank
least_rank-passes test row rank e =
    let found = least_from-found test 0 row rank e in
    let start : rank - 0 ≡ rank = omega arith in
    (rw start at found.within, rw start at found.passes, λ lower l. let here : 0 + lower ≡ lower = omega arith in rw here at (found.before lower (omega arith)))

first_fails : {A : Type 0} (t : Bool) (x : A) (rest : Option A) → cond t (Some x) rest ≡ None → t ≡ false
first_fails true x rest e = cc e
first_fails false x rest e = refl

rest_fails : {A : Type 0} (t : Bool) (x : A) (rest : Option A) → cond t (Some x) rest ≡ None → rest ≡ None
rest_fails true x rest e = cc e
rest_fails false x rest e = e

least_from-none : (test : ℕ → Given → Bool) (i : ℕ) (row : RowView) → least_from test i row ≡ None → (rank : ℕ) → rank < length row → test (i + rank) (post_at row rank) ≡ false
least_from-none test i [] e rank l = absurd (omega arith)
least_from-none test i (given ∷ rest) e zero l =
    let here : i + 0 ≡ i = omega arith in
    rw here (first_fails (test i given) i (least_from test (i + 1) rest) e)
least_from-none test i (given ∷ rest) e (suc rank) l =
    let further : i + suc rank ≡ i + 1 + rank = omega arith in
    rw further (least_from-none test (i + 1) rest (rest_fails (test i given) i (least_from test (i + 1) rest) e) rank (omega arith))

-- where there is none, no rank passes
pub least_rank-none : (test : ℕ → Given → Bool) (row : RowView) → least_rank test row ≡ None → NoneBelow test row (length row)
least_rank-none test row e rank l =
    let start : 0 + rank ≡ rank = omega arith in
    rw start at (least_from-none test 0 row e rank l)
