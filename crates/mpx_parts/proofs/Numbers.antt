-- The numbers of lists that are put together are their numbers, put together.
use Rattle.std.proofs.Common.{◌≡◌, ℕ, ℤ, suc, ◌+◌, ◌*◌, ◌<◌, ◌≤◌, ◌++◌, ◌∷◌, [], List, length, map, take, drop, refl, ap, sym, ◌∙◌, mul_assoc, arith}
use Rattle.std.specs.List.{All, flat_map}
use Rattle.std.proofs.Math.Nat.{mul-le-mul_right, mul_comm, suc-mul}
use Rattle.std.proofs.lemmas.List.{drop_at, length-drop, length-map, length-take-le, map-append, nil_from_length, take-append-drop, take_at}
use Rattle.std.proofs.lemmas.List.Folds.{flat_map-map}
use Rattle.mpx_birth.specs.Births.{upto}
use Rattle.mpx_call.specs.Pairs.{both_numbers}
use Rattle.mpx_call.specs.Parts.{block_in, put_together}
use Rattle.mpx_parts.specs.Numbers.{AreOfEach, IsOfBlocks}
use Rattle.mpx_parts.proofs.Equal.{same_of_each, same_upto}
use Rattle.mpx_parts.proofs.Exchanged.{so_many}

module _ {T : Type 0} (each : ℕ) (numbers : List T → List ℤ) (are : AreOfEach each numbers) where
  of_all : {P : Type 0} (f : P → List T) (parts : List P) → numbers (flat_map f parts) ≡ flat_map (λ part. numbers (f part)) parts
  of_all f [] = nil_from_length (numbers []) (are.long [] ∙ omega arith)
  of_all f (part ∷ parts) = are.joined (f part) (flat_map f parts) ∙ ap (λ l. numbers (f part) ++ l) (of_all f parts)

  of_block : (blocks number : ℕ) (list : List T) → IsOfBlocks blocks list → number < blocks → numbers (block_in blocks number list) ≡ block_in blocks number (numbers list)
  of_block blocks number list (count, all) below =
      let some : 0 < blocks = omega (arith, below) in
      let before = take (number * count) list in
      let rest = drop (number * count) list in
      let block = take count rest in
      let after = drop count rest in
      let next : suc number * count ≡ number * count + count = suc-mul number count in
      let fits : suc number * count ≤ blocks * count = mul-le-mul_right count (omega (arith, below)) in
      let over : blocks * count ≡ count * blocks = mul_comm blocks count in
      let first : length before ≡ number * count = length-take-le (number * count) list (omega (arith, next, fits, over, all)) in
      let one : length block ≡ count = length-take-le count rest (omega (arith, next, fits, over, all, length-drop (number * count) list)) in
      let so_long : length (numbers list) ≡ count * each * blocks =
      are.long list ∙ ap (λ n. n * each) all ∙ mul_assoc count blocks each ∙ ap (λ n. count * n) (mul_comm blocks each) ∙ sym (mul_assoc count each blocks) in
      let head : length (numbers before) ≡ number * (count * each) = are.long before ∙ ap (λ n. n * each) first ∙ mul_assoc number count each in
      let whole : numbers list ≡ numbers before ++ (numbers block ++ numbers after) =
      ap numbers (sym (take-append-drop (number * count) list)) ∙ are.joined before rest
      ∙ ap (λ l. numbers before ++ l) (ap numbers (sym (take-append-drop count rest)) ∙ are.joined block after) in
      ap (λ n. numbers (take n (drop (number * n) list))) (so_many count blocks (length list) all some)
      ∙ sym (take_at (numbers block) (numbers after) (count * each) (are.long block ∙ ap (λ n. n * each) one))
      ∙ ap (take (count * each)) (sym (drop_at (numbers before) (numbers block ++ numbers after) (number * (count * each)) head))
      ∙ ap (λ l. take (count * each) (drop (number * (count * each)) l)) (sym whole)
      ∙ ap (λ n. take n (drop (number * n) (numbers list))) (sym (so_many (count * each) blocks (length (numbers list)) so_long some))

  pub put : (blocks : ℕ) (lists : List (List T)) → All (IsOfBlocks blocks) lists → numbers (put_together blocks lists) ≡ put_together blocks (map numbers lists)
  put blocks lists all =
      of_all (λ number. flat_map (block_in blocks number) lists) (upto blocks)
      ∙ same_upto (λ number. numbers (flat_map (block_in blocks number) lists)) (λ number. flat_map (block_in blocks number) (map numbers lists)) blocks (λ number below.
      of_all (block_in blocks number) lists
      ∙ same_of_each (λ list. numbers (block_in blocks number list)) (λ list. block_in blocks number (numbers list)) (IsOfBlocks blocks) (λ list is. of_block blocks number list is below) lists all
      ∙ sym (flat_map-map (block_in blocks number) numbers lists))

pub one_each : {T : Type 0} (value : T → ℤ) → AreOfEach 1 (map value)
one_each value = record {
  joined = λ items more. map-append value items more;
  long = λ items. length-map items value ∙ omega arith;
}

both_joined : {T : Type 0} (pairs more : List (T × T)) → both_numbers (pairs ++ more) ≡ both_numbers pairs ++ both_numbers more
both_joined [] more = refl
both_joined (pair ∷ pairs) more = ap (λ l. pair.0 ∷ pair.1 ∷ l) (both_joined pairs more)

both_long : {T : Type 0} (pairs : List (T × T)) → length (both_numbers pairs) ≡ length pairs * 2
both_long [] = refl
both_long (pair ∷ pairs) = ap (λ n. suc (suc n)) (both_long pairs) ∙ omega arith

pub two_each : {T : Type 0} (value : T → ℤ) → AreOfEach 2 (λ (pairs : List (T × T)). map value (both_numbers pairs))
two_each value = record {
  joined = λ items more. ap (map value) (both_joined items more) ∙ map-append value (both_numbers items) (both_numbers more);
  long = λ items. length-map (both_numbers items) value ∙ both_long items;
}
