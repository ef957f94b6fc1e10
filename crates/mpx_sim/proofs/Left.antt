-- What is under way behind a turn.
use Rattle.std.proofs.Common.{◌≡◌, ◌+◌, ◌<◌, ◌≤◌, ℕ, zero, suc, Bool, true, false, get_or, take, cond, List, [], ◌∷◌, ◌++◌, length, map, set, Option, Some, None, refl, inl, inr, sym, ap, ◌∙◌, subst, arith}
use Rattle.std.specs.Prelude.{All, nat_eq, nat_lt, slice_get, ◌&&◌, if◌then◌else◌}
use Rattle.std.specs.List.{filter, remove}
use Rattle.std.proofs.lemmas.Bool.Decides.{eqb_tells, nat_tests}
use Rattle.std.proofs.lemmas.List.Elements.{All-filter, All-nil, All-cons, All-head, All-tail}
use Rattle.std.proofs.lemmas.Option.{same_Some, slice_get-get_or}
use Rattle.mpx_board.specs.Boards.{Look}
use Rattle.mpx_sim.specs.declared.frame_under_way.FrameUnderWay.{FrameUnderWay}
use Rattle.mpx_sim.specs.Draws.{ScheduleView, draw, drawn, drawn_again}
use Rattle.mpx_sim.specs.Turns.{FrameView, IsUnder, all_put_off, asked, put_off, those_left}
use Rattle.mpx_sim.specs.Shown.{frame_of}
use Rattle.mpx_sim.specs.SideBySide.{left_from}

-- WHETHER A FRAME COMES AGAIN

module _ (turn : ℕ) (f : FrameView) (s : ScheduleView) where
  abbrev off : Bool → FrameView
  off b = if b then record { from = f.from; to = f.to; turn = turn + suc (draw 4 (drawn s.draws)); part = f.part } else f

  pub asked_now : f.turn ≡ turn → asked turn f s ≡ drawn_again s
  asked_now now =
      let is : nat_eq f.turn turn ≡ true = grind (arith, nat_tests, now) in
      ap (λ b. if b then drawn_again s else s) is

  pub asked_not : (f.turn ≡ turn → ⊥) → asked turn f s ≡ s
  asked_not other =
      let not : nat_eq f.turn turn ≡ false = grind (arith, nat_tests, other) in
      ap (λ b. if b then drawn_again s else s) not

  pub off_again : f.turn ≡ turn → draw 4 s.draws ≡ 0 → put_off turn f s ≡ record { from = f.from; to = f.to; turn = turn + suc (draw 4 (drawn s.draws)); part = f.part }
  off_again now comes =
      let is : nat_eq f.turn turn ≡ true = grind (arith, nat_tests, now) in
      let again : nat_eq (draw 4 s.draws) 0 ≡ true = grind (arith, nat_tests, comes) in
      λ i. off (is i && again i)

  pub off_gone : f.turn ≡ turn → (draw 4 s.draws ≡ 0 → ⊥) → put_off turn f s ≡ f
  off_gone now gone =
      let is : nat_eq f.turn turn ≡ true = grind (arith, nat_tests, now) in
      let not : nat_eq (draw 4 s.draws) 0 ≡ false = grind (arith, nat_tests, gone) in
      λ i. off (is i && not i)

  pub off_not : (f.turn ≡ turn → ⊥) → put_off turn f s ≡ f
  off_not other =
      let not : nat_eq f.turn turn ≡ false = grind (arith, nat_tests, other) in
      ap (λ b. off (b && nat_eq (draw 4 s.draws) 0)) not

  off_part : (b : Bool) → (off b).part ≡ f.part
  off_part true = refl
  off_part false = refl

  pub same_part : (put_off turn f s).part ≡ f.part
  same_part = off_part (nat_eq f.turn turn && nat_eq (draw 4 s.draws) 0)

-- WHAT IS LEFT

pub off_length : (turn : ℕ) (frames : List FrameView) (s : ScheduleView) → length (all_put_off turn frames s) ≡ length frames
off_length turn [] s = refl
off_length turn (f ∷ frames) s = ap suc (off_length turn frames (asked turn f s))

off_parts : (P : Look → Type 0) (turn : ℕ) (frames : List FrameView) (s : ScheduleView) → All (λ (f : FrameView). P f.part) frames → All (λ (f : FrameView). P f.part) (all_put_off turn frames s)
off_parts P turn [] s h = All-nil (λ (f : FrameView). P f.part)
off_parts P turn (f ∷ frames) s h =
    All-cons (λ (g : FrameView). P g.part) (put_off turn f s) (all_put_off turn frames (asked turn f s)) (subst P (sym (same_part turn f s)) (All-head (λ (g : FrameView). P g.part) f frames h))
    (off_parts P turn frames (asked turn f s) (All-tail (λ (g : FrameView). P g.part) f frames h))

-- which say nothing else
pub left_parts : (P : Look → Type 0) (turn : ℕ) (frames : List FrameView) (s : ScheduleView) → All (λ (f : FrameView). P f.part) frames → All (λ (f : FrameView). P f.part) (those_left turn frames s)
left_parts P turn frames s h = All-filter (λ (f : FrameView). nat_lt turn f.turn) (λ (f : FrameView). P f.part) (all_put_off turn frames s) (off_parts P turn frames s h)

under_head : (b : Bool) (x f : FrameView) (rest : List FrameView) → b ≡ true → x ≡ f → IsUnder (cond b (x ∷ rest) rest) f
under_head true x f rest is same = (zero, ap (λ y. Some y) same)
under_head false x f rest is same = cc is

under_tail : (b : Bool) (x f : FrameView) (rest : List FrameView) → IsUnder rest f → IsUnder (cond b (x ∷ rest) rest) f
under_tail true x f rest h = (suc h.0, h.1)
under_tail false x f rest h = h

-- frames of later turns stay
pub left_later : (turn : ℕ) (frames : List FrameView) (s : ScheduleView) (k : ℕ) (f : FrameView) → slice_get frames k ≡ Some f → turn < f.turn → IsUnder (those_left turn frames s) f
left_later turn [] s k f at later = cc at
left_later turn (g ∷ frames) s zero f at later =
    let same : g ≡ f = same_Some g f at in
    let stays : put_off turn g s ≡ f = off_not turn g s (λ now. omega (arith, now, subst (λ (y : FrameView). turn < y.turn) (sym same) later)) ∙ same in
    let is : nat_lt turn f.turn ≡ true = grind (arith, nat_tests, later) in
    under_head (nat_lt turn (put_off turn g s).turn) (put_off turn g s) f (those_left turn frames (asked turn g s)) (ap (λ (y : FrameView). nat_lt turn y.turn) stays ∙ is) stays
left_later turn (g ∷ frames) s (suc k) f at later = under_tail (nat_lt turn (put_off turn g s).turn) (put_off turn g s) f (those_left turn frames (asked turn g s)) (left_later turn frames (asked turn g s) k f at later)

pub left_under : (turn : ℕ) (frames : List FrameView) (s : ScheduleView) → All (λ (f : FrameView). turn < f.turn → IsUnder (those_left turn frames s) f) frames
left_under turn frames s k d l later = left_later turn frames s k (get_or frames k d) (slice_get-get_or frames k d l) later

-- THE CODE'S FRAMES

-- those up to one that was written
pub taken_set : {A B : Type 0} (f : A → B) (xs : List A) (i : ℕ) (x : A) → i < length xs → take (suc i) (map f (set xs i x)) ≡ take i (map f xs) ++ f x ∷ []
taken_set f [] i x l = absurd (omega (arith, l))
taken_set f (y ∷ ys) zero x l = refl
taken_set f (y ∷ ys) (suc i) x l = ap (λ zs. f y ∷ zs) (taken_set f ys i x (omega (arith, l)))

-- one more stays
pub left_kept : (turn : ℕ) (xs : List FrameUnderWay) (i : ℕ) (d : FrameUnderWay) → i < length xs → turn < (get_or xs i d).turn → left_from turn (suc i) (map frame_of xs) ≡ left_from turn i (map frame_of xs)
left_kept turn [] i d l later = absurd (omega (arith, l))
left_kept turn (x ∷ xs) zero d l later =
    let is : nat_lt turn x.turn ≡ true = grind (arith, nat_tests, later) in
    let rest = filter (λ (f : FrameView). nat_lt turn f.turn) (map frame_of xs) in
    sym (ap (λ b. cond b (frame_of x ∷ rest) rest) is)
left_kept turn (x ∷ xs) (suc i) d l later = ap (λ fs. frame_of x ∷ fs) (left_kept turn xs i d (omega (arith, l)) later)

-- or one goes
pub left_gone : (turn : ℕ) (xs : List FrameUnderWay) (i : ℕ) (d : FrameUnderWay) → i < length xs → (get_or xs i d).turn ≤ turn → left_from turn i (map frame_of (remove xs i)) ≡ left_from turn i (map frame_of xs)
left_gone turn [] i d l gone = absurd (omega (arith, l))
left_gone turn (x ∷ xs) zero d l gone =
    let not : nat_lt turn x.turn ≡ false = grind (arith, nat_tests, gone) in
    let rest = filter (λ (f : FrameView). nat_lt turn f.turn) (map frame_of xs) in
    sym (ap (λ b. cond b (frame_of x ∷ rest) rest) not)
left_gone turn (x ∷ xs) (suc i) d l gone = ap (λ fs. frame_of x ∷ fs) (left_gone turn xs i d (omega (arith, l)) gone)

-- what `Schedule::again` answers
pub again_none : (n k : ℕ) → (n ≡ 0 → ⊥) → None ≡ (if nat_eq n 0 then Some k else None)
again_none n k gone =
    let not : nat_eq n 0 ≡ false = grind (arith, nat_tests, gone) in
    sym (ap (λ b. if b then Some k else None) not)

pub again_some : (n k more : ℕ) → n ≡ 0 → more ≡ k → Some more ≡ (if nat_eq n 0 then Some k else None)
again_some n k more comes same =
    let is : nat_eq n 0 ≡ true = grind (arith, nat_tests, comes) in
    ap (λ m. Some m) same ∙ sym (ap (λ b. if b then Some k else None) is)

pub some_again : (n k more : ℕ) (r : Option ℕ) → r ≡ (if nat_eq n 0 then Some k else None) → r ≡ Some more → (n ≡ 0) × (more ≡ k)
some_again n k more r is at =
    elim (eqb_tells n 0) [
      | inl comes ↦ (comes.1, same_Some more k (sym at ∙ is ∙ ap (λ b. if b then Some k else None) comes.0))
      | inr gone ↦ let never : Some more ≡ None = sym at ∙ is ∙ ap (λ b. if b then Some k else None) gone.0 in cc never
    ]
