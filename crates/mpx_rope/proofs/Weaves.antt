-- Ropes whose own bytes or shared ones grow, and how many bytes they have.
use Rattle.std.proofs.Common.{◌≡◌, ◌≢◌, ℕ, ◌+◌, ◌-◌, ◌^◌, ◌<◌, ◌≤◌, List, [], ◌∷◌, ◌++◌, length, take, drop, refl, sym, subst, ap, ◌∙◌, arith, append_assoc, get_or, Result, Ok, Err}
use Rattle.std.proofs.lemmas.List.{append-nil, drop-append-le, drop-drop, drop_all, drop_more, length-append, length-drop, length-take-le, take-append-drop, take-append-le, take_all}
use Rattle.std.specs.Result.{OnOk, OnErr}
use Rattle.mpx_rope.specs.Ropes.{AreMany, ArePlaced, IsRope, near_len, shared_len, woven}

-- the places end before the own bytes do
pub placed_within : (from end : ℕ) (ss : List (ℕ × List ℕ)) → ArePlaced from end ss → from ≤ end
placed_within from end [] p = p
placed_within from end (s ∷ ss) p = omega (arith, p.0, placed_within s.0 end ss p.1)

pub placed_more : (from old new : ℕ) (ss : List (ℕ × List ℕ)) → old ≤ new → ArePlaced from old ss → ArePlaced from new ss
placed_more from old new [] le p = omega (arith, le, p)
placed_more from old new (s ∷ ss) le p = (p.0, placed_more s.0 old new ss le p.1)

pub placed_shared : (from end : ℕ) (ss : List (ℕ × List ℕ)) (s : ℕ × List ℕ) → s.0 ≡ end → ArePlaced from end ss → ArePlaced from end (ss ++ s ∷ [])
placed_shared from end [] s is p = (omega (arith, is, p), omega (arith, is))
placed_shared from end (x ∷ ss) s is p = (p.0, placed_shared x.0 end ss s is p.1)

-- the own bytes behind a place, of those behind an earlier one
pub left_behind : (from place : ℕ) (own : List ℕ) → from ≤ place → place ≤ from + length own → place + length (drop (place - from) own) ≡ from + length own
left_behind from place own le within = omega (arith, length-drop (place - from) own, le, within)

module _ (from : ℕ) (own : List ℕ) (s : ℕ × List ℕ) (ss : List (ℕ × List ℕ)) (p : ArePlaced from (from + length own) (s ∷ ss)) where
  first_within : s.0 ≤ from + length own
  first_within = placed_within s.0 (from + length own) ss p.1

  pub front_within : s.0 - from ≤ length own
  front_within = omega (arith, first_within, p.0)

  pub rest_placed : ArePlaced s.0 (s.0 + length (drop (s.0 - from) own)) ss
  rest_placed = subst (λ end. ArePlaced s.0 end ss) (sym (left_behind from s.0 own p.0 first_within)) p.1

pub woven_append : (from : ℕ) (own more : List ℕ) (ss : List (ℕ × List ℕ)) → ArePlaced from (from + length own) ss → woven from (own ++ more) ss ≡ woven from own ss ++ more
woven_append from own more [] p = refl
woven_append from own more (s ∷ ss) p =
    let n : ℕ = s.0 - from in
    let fits : n ≤ length own = front_within from own s ss p in
    let front : List ℕ = take n own ++ s.1 in
    ap (λ l. l ++ s.1 ++ woven s.0 (drop n (own ++ more)) ss) (take-append-le n own more fits)
    ∙ ap (λ l. front ++ woven s.0 l ss) (drop-append-le n own more fits)
    ∙ ap (λ l. front ++ l) (woven_append s.0 (drop n own) more ss (rest_placed from own s ss p))
    ∙ sym (append_assoc front (woven s.0 (drop n own) ss) more)

-- shared bytes behind all the own ones
pub woven_shared : (from : ℕ) (own : List ℕ) (ss : List (ℕ × List ℕ)) (s : ℕ × List ℕ) → s.0 ≡ from + length own → ArePlaced from (from + length own) ss → woven from own (ss ++ s ∷ []) ≡ woven from own ss ++ s.1
woven_shared from own [] s is p =
    let all : length own ≤ s.0 - from = omega (arith, is) in
    ap (λ l. l ++ s.1 ++ drop (s.0 - from) own) (take_all (s.0 - from) own all)
    ∙ ap (λ l. own ++ s.1 ++ l) (drop_all (s.0 - from) own all)
    ∙ append-nil (own ++ s.1)
woven_shared from own (x ∷ ss) s is p =
    let n : ℕ = x.0 - from in
    let front : List ℕ = take n own ++ x.1 in
    let end : s.0 ≡ x.0 + length (drop n own) = is ∙ sym (left_behind from x.0 own p.0 (placed_within x.0 (from + length own) ss p.1)) in
    ap (λ l. front ++ l) (woven_shared x.0 (drop n own) ss s end (rest_placed from own x ss p))
    ∙ sym (append_assoc front (woven x.0 (drop n own) ss) s.1)

pub shared_len_more : (ss : List (ℕ × List ℕ)) (s : ℕ × List ℕ) → shared_len (ss ++ s ∷ []) ≡ shared_len ss + length s.1
shared_len_more [] s = omega arith
shared_len_more (x ∷ ss) s = omega (arith, shared_len_more ss s)

pub woven_length : (from : ℕ) (own : List ℕ) (ss : List (ℕ × List ℕ)) → ArePlaced from (from + length own) ss → length (woven from own ss) ≡ length own + shared_len ss
woven_length from own [] p = omega arith
woven_length from own (s ∷ ss) p =
    let n : ℕ = s.0 - from in
    let b : List ℕ = s.1 in
    let rest : length (woven s.0 (drop n own) ss) ≡ length (drop n own) + shared_len ss = woven_length s.0 (drop n own) ss (rest_placed from own s ss p) in
    let all : length (take n own ++ b ++ woven s.0 (drop n own) ss) ≡ length (take n own ++ b) + length (woven s.0 (drop n own) ss) = length-append (take n own ++ b) _ in
    omega (arith, all, rest, length-append (take n own) b, length-take-le n own (front_within from own s ss p), length-drop n own, front_within from own s ss p)

-- where nothing is left out in front
from_none : (own : List ℕ) (ss : List (ℕ × List ℕ)) → ArePlaced 0 (length own) ss → ArePlaced 0 (0 + length own) ss
from_none own ss p =
    let same : length own ≡ 0 + length own = omega arith in
    subst (λ end. ArePlaced 0 end ss) same p

-- bytes behind a rope
pub rope_append : (own more : List ℕ) (ss : List (ℕ × List ℕ)) (carried : ℕ) → IsRope own ss carried → IsRope (own ++ more) ss carried
rope_append own more ss carried r =
    record {
      placed = placed_more 0 (length own) (length (own ++ more)) ss (omega (arith, length-append own more)) r.placed;
      carried_is = r.carried_is;
      few = r.few;
      many = r.many;
    }

pub rope_appended : (own more : List ℕ) (ss : List (ℕ × List ℕ)) (carried : ℕ) → IsRope own ss carried → woven 0 (own ++ more) ss ≡ woven 0 own ss ++ more
rope_appended own more ss carried r = woven_append 0 own more ss (from_none own ss r.placed)

many_more : (ss : List (ℕ × List ℕ)) (s : ℕ × List ℕ) (n : ℕ) → 64 ≤ n → AreMany (ss ++ s ∷ []) n
many_more [] s n many = many
many_more (x ∷ ss) s n many = many

-- shared bytes behind a rope
module _ (own : List ℕ) (ss : List (ℕ × List ℕ)) (s : ℕ × List ℕ) (carried : ℕ) (r : IsRope own ss carried) (is : s.0 ≡ length own) where
  pub rope_share : carried + length s.1 < 2 ^ 62 → 64 ≤ length s.1 → IsRope own (ss ++ s ∷ []) (carried + length s.1)
  rope_share few many =
      record {
        placed = placed_shared 0 (length own) ss s is r.placed;
        carried_is = ap (λ n. n + length s.1) r.carried_is ∙ sym (shared_len_more ss s);
        few = few;
        many = many_more ss s (carried + length s.1) (omega (arith, many));
      }

  pub rope_shared : woven 0 own (ss ++ s ∷ []) ≡ woven 0 own ss ++ s.1
  rope_shared = woven_shared 0 own ss s (omega (arith, is)) (from_none own ss r.placed)

pub rope_length : (own : List ℕ) (ss : List (ℕ × List ℕ)) (carried : ℕ) → IsRope own ss carried → length (woven 0 own ss) ≡ length own + carried
rope_length own ss carried r = woven_length 0 own ss (from_none own ss r.placed) ∙ ap (λ n. length own + n) (sym r.carried_is)

-- where bytes are shared there are many
pub rope_many : (own : List ℕ) (ss : List (ℕ × List ℕ)) (carried : ℕ) → IsRope own ss carried → carried ≢ 0 → 64 ≤ length (woven 0 own ss)
rope_many own [] carried r some = absurd (some r.carried_is)
rope_many own (s ∷ ss) carried r some = omega (arith, rope_length own (s ∷ ss) carried r, r.many)

-- a rope written piece by piece
module _ (own : List ℕ) (ss : List (ℕ × List ℕ)) (i : ℕ) (s : ℕ × List ℕ) (from : ℕ) (lt : i < length ss) (is : s ≡ get_or ss i s) (p : ArePlaced from (length own) (drop i ss)) where
  this_one : drop i ss ≡ s ∷ drop (i + 1) ss
  this_one = drop_more ss i s lt ∙ ap (λ x. x ∷ drop (i + 1) ss) (sym is)

  these : ArePlaced from (length own) (s ∷ drop (i + 1) ss)
  these = subst (ArePlaced from (length own)) this_one p

  pub next_from : from ≤ s.0
  next_from = these.0

  pub next_place : s.0 ≤ length own
  next_place = placed_within s.0 (length own) (drop (i + 1) ss) these.1

  pub next_placed : ArePlaced s.0 (length own) (drop (i + 1) ss)
  next_placed = these.1

  -- the piece at a place is written, and what is left
  pub next_written : (out new whole : List ℕ) → new ≡ out ++ take (s.0 - from) (drop from own) ++ s.1 → out ++ woven from (drop from own) (drop i ss) ≡ whole → new ++ woven s.0 (drop s.0 own) (drop (i + 1) ss) ≡ whole
  next_written out new whole e so_far =
      let front : List ℕ = take (s.0 - from) (drop from own) in
      let rest : List ℕ = woven s.0 (drop (s.0 - from) (drop from own)) (drop (i + 1) ss) in
      let dropped : drop (s.0 - from) (drop from own) ≡ drop s.0 own = drop-drop (s.0 - from) from own ∙ ap (λ n. drop n own) (omega (arith, next_from)) in
      ap (λ l. l ++ woven s.0 (drop s.0 own) (drop (i + 1) ss)) e
      ∙ ap (λ l. out ++ front ++ s.1 ++ woven s.0 l (drop (i + 1) ss)) (sym dropped)
      ∙ ap (λ l. l ++ rest) (append_assoc out front s.1)
      ∙ append_assoc out (front ++ s.1) rest
      ∙ ap (λ l. out ++ woven from (drop from own) l) (sym this_one)
      ∙ so_far

-- own bytes that were appended, or refused
module _ {A E : Type 0} (ss : List (ℕ × List ℕ)) (carried : ℕ) where
  pub grown : (answer : Result A E) (old new more : List ℕ) → OnOk answer (new ≡ old ++ more) → OnErr answer (new ≡ old) → IsRope old ss carried → IsRope new ss carried
  grown (Ok x) old new more ok err r = subst (λ own. IsRope own ss carried) (sym ok) (rope_append old more ss carried r)
  grown (Err e) old new more ok err r = subst (λ own. IsRope own ss carried) (sym err) r

  pub grown_ok : (answer : Result A E) (old new more value : List ℕ) → OnOk answer (new ≡ old ++ more) → IsRope old ss carried → woven 0 old ss ≡ value → OnOk answer (woven 0 new ss ≡ value ++ more)
  grown_ok (Ok x) old new more value ok r is = ap (λ own. woven 0 own ss) ok ∙ rope_appended old more ss carried r ∙ ap (λ l. l ++ more) is
  grown_ok (Err e) old new more value ok r is = tt

  pub grown_err : (answer : Result A E) (old new value : List ℕ) → OnErr answer (new ≡ old) → woven 0 old ss ≡ value → OnErr answer (woven 0 new ss ≡ value)
  grown_err (Ok x) old new value err is = tt
  grown_err (Err e) old new value err is = ap (λ own. woven 0 own ss) err ∙ is

-- WHAT IS NEAR, AND WHAT LIES BEYOND

module _ (from : ℕ) (own : List ℕ) where
  pub near_within : (ss : List (ℕ × List ℕ)) → ArePlaced from (from + length own) ss → near_len from own ss ≤ length own
  near_within [] p = omega arith
  near_within (s ∷ ss) p = front_within from own s ss p

  -- what is near stands before what lies beyond
  near_woven : (ss : List (ℕ × List ℕ)) → ArePlaced from (from + length own) ss → woven from own ss ≡ take (near_len from own ss) own ++ woven (from + near_len from own ss) (drop (near_len from own ss) own) ss
  near_woven [] p = sym (take-append-drop (length own) own)
  near_woven (s ∷ ss) p =
      let n : ℕ = s.0 - from in
      let none : s.0 - (from + n) ≡ 0 = omega (arith, p.0) in
      append_assoc (take n own) s.1 (woven s.0 (drop n own) ss)
      ∙ ap (λ k. take n own ++ ((take k (drop n own) ++ s.1) ++ woven s.0 (drop k (drop n own)) ss)) (sym none)

-- the first piece stands among the own bytes
pub first_place : (from : ℕ) (own : List ℕ) (s : ℕ × List ℕ) (ss : List (ℕ × List ℕ)) → 1 ≤ length ss → s ≡ get_or ss 0 s → ArePlaced from (from + length own) ss → s.0 - from ≤ length own
first_place from own s [] some is p = absurd (omega (arith, some))
first_place from own s (x ∷ ss) some is p =
    let same : s.0 - from ≡ x.0 - from = ap (λ (y : ℕ × List ℕ). y.0 - from) is in
    omega (arith, same, front_within from own x ss p)

module _ (end n : ℕ) (own : List ℕ) (ss : List (ℕ × List ℕ)) (inside : (length own ≤ end) × ArePlaced (end - length own) end ss) (is : n ≡ near_len (end - length own) own ss) where
  abbrev from : ℕ
  from = end - length own

  placed : ArePlaced from (from + length own) ss
  placed = subst (λ e. ArePlaced from e ss) (omega (arith, inside.0)) inside.1

  within : n ≤ length own
  within = subst (λ k. k ≤ length own) (sym is) (near_within from own ss placed)

  moved : end - length (drop n own) ≡ from + n
  moved = omega (arith, length-drop n own, within, inside.0)

  pub beyond_woven : woven from own ss ≡ take n own ++ woven (end - length (drop n own)) (drop n own) ss
  beyond_woven =
      near_woven from own ss placed
      ∙ ap (λ k. take k own ++ woven (from + k) (drop k own) ss) (sym is)
      ∙ ap (λ k. take n own ++ woven k (drop n own) ss) (sym moved)
