-- What all processes acknowledge is on the board of every process, or is dropped there.
use Rattle.std.proofs.Common.{arith, ◌≡◌, ◌≢◌, ◌<◌, ◌≤◌, ℕ, Bool, true, false, cond, not, ◌||◌, Option, inl, inr, refl, sym, ap, ◌∙◌, subst}
use Rattle.std.specs.Prelude.{◌⊎◌, nat_lt}
use Rattle.std.proofs.lemmas.Option.{same_Some}
use Rattle.std.proofs.lemmas.Bool.Decides.{nat_tests}
use Rattle.join_core.specs.Flat.{FlatView, unknown, known, clash, flat_leq}
use Rattle.join_core.specs.laws.Cases.{yes, no, answer}
use Rattle.mpx_name.specs.Name.{Name}
use Rattle.mpx_post.specs.Posts.{Given}
use Rattle.mpx_post.specs.Equality.{same_given, given_equality}
use Rattle.mpx_birth.specs.Births.{upto}
use Rattle.mpx_board.specs.Boards.{Look, Born, Held, Front, Dropped, Dead, Acknowledged, Stands, IsBoardBelow}
use Rattle.mpx_board.specs.Changes.{is_posted}
use Rattle.mpx_board.specs.Tidy.{is_unknown}
use Rattle.mpx_digest.specs.Digest.{Numbers, IsDigest}
use Rattle.mpx_delta.specs.Digests.{HasUpTo, common_on, Covers, without}
use Rattle.mpx_world.specs.Worlds.{WorldView, history}
use Rattle.mpx_world.specs.Soundness.{AgreesWithFact}
use Rattle.mpx_world.specs.Covering.{CommonCovers, IsCommon, OwnCovers}
use Rattle.mpx_world.proofs.Opened.{upto_has}
use Rattle.mpx_world.proofs.Later.{Later, has_above}
use Rattle.mpx_world.proofs.Truth.{LookSo, look_later}
use Rattle.mpx_world.proofs.Steps.{Holds, board_so, minimum_below}

-- the least is at most each
pub common_each : (size : ℕ) (b : Look) → IsCommon size b
common_each size b q lt name p = minimum_below (λ r. b.acks r name p) (upto size) q q (upto_has size q lt)

-- two told values that agree with the same
told_agree : (v u : FlatView Given) (o : Option Given) → v ≢ unknown → AgreesWithFact v o → not (is_unknown u) ≡ true → AgreesWithFact u o → flat_leq same_given v u ≡ true
told_agree unknown u o some a t b = absurd (some refl)
told_agree clash u o some a t b = absurd a
told_agree (known x) unknown o some a t b = cc t
told_agree (known x) clash o some a t b = absurd b
told_agree (known x) (known y) o some a t b = subst (λ z. same_given x z ≡ true) (same_Some x y (sym a ∙ b)) (given_equality.reflexive x)

had_stands : (w : WorldView) (b : Look) → LookSo w b → (name : Name) (k p : ℕ) (v : FlatView Given) → v ≢ unknown → AgreesWithFact v ((history w).post name k p) → (nat_lt k (b.contexts name).dropped || not (is_unknown ((b.contexts name).posts k p))) ≡ true
    → (k < (b.contexts name).dropped) ⊎ (flat_leq same_given v ((b.contexts name).posts k p) ≡ true)
had_stands w b so name k p v some a h = by_answer (nat_lt k (b.contexts name).dropped) refl h where
  by_answer : (x : Bool) → nat_lt k (b.contexts name).dropped ≡ x → (x || not (is_unknown ((b.contexts name).posts k p))) ≡ true → (k < (b.contexts name).dropped) ⊎ (flat_leq same_given v ((b.contexts name).posts k p) ≡ true)
  by_answer true t g = inl (grind (arith, nat_tests, t))
  by_answer false t g = inr (told_agree v ((b.contexts name).posts k p) ((history w).post name k p) some a g ((so.contexts_so name).posts_so k p))

posted_stands : (w : WorldView) (b : Look) → LookSo w b → (name : Name) (k p : ℕ) (v : FlatView Given) → v ≢ unknown → AgreesWithFact v ((history w).post name k p) → is_posted (b.contexts name) k p ≡ true → Stands b (Held name k p v)
posted_stands w b so name k p v some a h = by_dead (b.contexts name).dead refl h where
  by_dead : (x : Bool) → (b.contexts name).dead ≡ x → (x || (nat_lt k (b.contexts name).dropped || not (is_unknown ((b.contexts name).posts k p)))) ≡ true → Stands b (Held name k p v)
  by_dead true t g = inl t
  by_dead false t g = inr (had_stands w b so name k p v some a g)

-- in a world in which all that is told is so, and later
pub own_covers : (old new : WorldView) → Holds old → Holds new → Later old new → OwnCovers old new
own_covers old new s t l p q name k r v lt has =
    let b = (old.each p).node.board in
    let c = (new.each q).node.board in
    let so : LookSo old b = board_so old p (old.each p) (s.processes p) in
    let had : HasUpTo c name r (b.acks q name r) = has_above (old.each q).node.board c (l.kept q).board_kept name r (b.acks q name r) (so.acks_so q name r) in
    let later : LookSo new b = look_later old new l b so in
    posted_stands new c (board_so new q (new.each q) (t.processes q)) name k r v has.0
    (subst (λ z. AgreesWithFact z ((history new).post name k r)) has.1 ((later.contexts_so name).posts_so k r))
    (had k lt)

-- what covers below some numbers covers below lesser ones
pub covers_fewer : (d e : Numbers) (b a : Look) → ((name : Name) (p : ℕ) → e name p ≤ d name p) → Covers d b a → Covers e b a
covers_fewer d e b a few covers name k p v lt has = covers name k p v (let l = few name p in omega (arith, l, lt)) has

pub common_covers : (old new : WorldView) → OwnCovers old new → CommonCovers old new
common_covers old new covers p q there = let b = (old.each p).node.board in covers_fewer (b.acks q) (common_on old.size b) (new.each q).node.board b (common_each old.size b q there) (covers p q)

-- a process has the calls that its digest counts
pub digest_had : (d : Numbers) (b : Look) → IsDigest d b → (name : Name) (p : ℕ) → HasUpTo b name p (d name p)
digest_had d b is name p k lt = let o = is.others name p (omega (arith, lt)) in (is.listed name p o.0 o.1).below k lt

-- what is below without some posts is below with them where those stand
pub without_below : (left : Numbers) (a b : Look) → Covers left b a → IsBoardBelow (without left a) b → IsBoardBelow a b
without_below left a b stands lean (Born name v) has = lean (Born name v) has
without_below left a b stands lean (Held name k p v) has = elim (answer (nat_lt k (left name p))) [
  | yes t ↦ stands name k p v (lower k (left name p) t) has
  | no f ↦ lean (Held name k p v) (has.0, ap (λ x. cond x unknown ((a.contexts name).posts k p)) f ∙ has.1)
] where
  lower : (k n : ℕ) → nat_lt k n ≡ true → k < n
  lower k n t = grind (arith, nat_tests, t)
without_below left a b stands lean (Front name p n) has = lean (Front name p n) has
without_below left a b stands lean (Dropped name n) has = lean (Dropped name n) has
without_below left a b stands lean (Dead name) has = lean (Dead name) has
without_below left a b stands lean (Acknowledged q name p n) has = lean (Acknowledged q name p n) has
