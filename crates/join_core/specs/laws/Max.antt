-- Proofs that numbers keep the laws of joins.
use Rattle.std.specs.Prelude.{◌≡◌, max, nat_le, nat_eq}
use Rattle.std.proofs.Common.{inl, inr, arith}
use Rattle.std.proofs.lemmas.Bool.Decides.{nat_tests}
use Rattle.join_core.specs.Joins.{IsEquality, JoinLaws}
use Rattle.join_core.specs.Max.{max_joining, NumbersAreWhole}
use Rattle.join_core.specs.laws.Cases.{yes, no, answer}
use Rattle.join_core.specs.Order.{HasEmptyDeltas}

pub nat_equality : IsEquality nat_eq
nat_equality = record { reflexive = λ a. grind (arith, nat_tests); sound = λ a b e. grind (arith, nat_tests) }

pub max_laws : JoinLaws max_joining
max_laws = record {
  commutative = λ a b. omega arith;
  associative = λ a b c. omega arith;
  idempotent = λ a. omega arith;
  leq_sound = λ a b e. grind (arith, nat_tests);
  leq_complete = λ a b e. grind (arith, nat_tests);
  delta_serves = λ a known. grind (arith, nat_tests);
  delta_below = λ a known. grind (arith, nat_tests);
}

pub max_deltas : HasEmptyDeltas max_joining
max_deltas = record { is_empty = λ a known b e. grind (arith, nat_tests) }

pub numbers_are_whole : NumbersAreWhole
numbers_are_whole a b m above t = elim (answer (nat_le (max a b) m)) [
  | yes e ↦ let made : max m t.rest ≡ max a b = t.completes in let same : m ≡ max a b = grind (arith, nat_tests) in inr same
  | no e ↦
      let made : max m t.rest ≡ max a b = t.completes in
      let in_rest : max m t.rest ≡ t.rest = grind (arith, nat_tests) in
      let in_m : max m m ≡ m = omega arith in
      let in_old : max m a ≡ a = t.apart m in_m in_rest in
      let same : m ≡ a = grind (arith, nat_tests) in
      inl same
]
