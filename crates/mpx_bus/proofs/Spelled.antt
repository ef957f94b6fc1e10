-- Frames with the bytes of boards.
use Rattle.std.proofs.Common.{◌≡◌, ◌≤◌, ℕ, suc, Bool, true, false, cond, List, [], ◌∷◌, length, map, All, refl, sym, ap, subst, arith}
use Rattle.std.proofs.lemmas.List.Elements.{All-nil, All-cons, All-head, All-tail}
use Rattle.mpx_board.specs.declared.board.Board.{Board}
use Rattle.mpx_board.specs.Boards.{Look}
use Rattle.mpx_board.specs.Looks.{look, parts_of}
use Rattle.mpx_board.specs.Parts.{PartsView}
use Rattle.mpx_format.specs.Contexts.{frame}
use Rattle.mpx_format.specs.Decoding.{Spells, most_bytes}
use Rattle.mpx_format.specs.declared.versions.Version.TheVariants.{Two}
use Rattle.mpx_format.specs.Encoding.{is_too_long, length_told}
use Rattle.mpx_format.proofs.Decoded.{decoded_again}
use Rattle.mpx_delta.specs.Facts.{OnlyFactsOf}
use Rattle.mpx_bus.specs.Frames.{shown, part_of, AreSpelled}

-- they show these boards
pub spelled_parts : (frames : List (List ℕ)) (boards : List Board) → AreSpelled frames boards → map part_of frames ≡ map look boards
spelled_parts [] [] s = refl
spelled_parts [] (board ∷ boards) s = absurd s
spelled_parts (bytes ∷ frames) [] s = absurd s
spelled_parts (bytes ∷ frames) (board ∷ boards) s = λ i. ap shown (decoded_again Two bytes (parts_of board) s.0) i ∷ spelled_parts frames boards s.1 i

pub spelled_facts : (b : Look) (frames : List (List ℕ)) (boards : List Board) → AreSpelled frames boards → All (λ board. OnlyFactsOf (look board) b) boards → All (λ bytes. OnlyFactsOf (part_of bytes) b) frames
spelled_facts b [] [] s all = All-nil (λ bytes. OnlyFactsOf (part_of bytes) b)
spelled_facts b [] (board ∷ boards) s all = absurd s
spelled_facts b (bytes ∷ frames) [] s all = absurd s
spelled_facts b (bytes ∷ frames) (board ∷ boards) s all =
    All-cons (λ xs. OnlyFactsOf (part_of xs) b) bytes frames
    (subst (λ x. OnlyFactsOf x b) (sym (ap shown (decoded_again Two bytes (parts_of board) s.0))) (All-head (λ x. OnlyFactsOf (look x) b) board boards all))
    (spelled_facts b frames boards s.1 (All-tail (λ x. OnlyFactsOf (look x) b) board boards all))

-- THEIR LENGTHS

told_above : (long : Bool) (n : ℕ) → n ≤ most_bytes → n ≤ cond long (suc most_bytes) n
told_above true n few = omega (arith, few)
told_above false n few = omega arith

length_above : (bytes : List ℕ) (v : PartsView) → Spells Two bytes v → length bytes ≤ length_told v
length_above bytes v s =
    subst (λ xs. length xs ≤ length_told v) (sym s.bytes_are) (told_above (is_too_long v) (length (frame.spelling (Two, v))) (subst (λ xs. length xs ≤ most_bytes) s.bytes_are s.few))

within : (a b limit : ℕ) → a ≤ b → b ≤ limit → a ≤ limit
within a b limit l m = omega (arith, l, m)

-- they are no longer than what the boards tell
pub spelled_fit : (limit : ℕ) (frames : List (List ℕ)) (boards : List Board) → AreSpelled frames boards → All (λ board. length_told (parts_of board) ≤ limit) boards → All (λ bytes. length bytes ≤ limit) frames
spelled_fit limit [] [] s all = All-nil (λ bytes. length bytes ≤ limit)
spelled_fit limit [] (board ∷ boards) s all = absurd s
spelled_fit limit (bytes ∷ frames) [] s all = absurd s
spelled_fit limit (bytes ∷ frames) (board ∷ boards) s all =
    All-cons (λ xs. length xs ≤ limit) bytes frames
    (within (length bytes) (length_told (parts_of board)) limit (length_above bytes (parts_of board) s.0) (All-head (λ x. length_told (parts_of x) ≤ limit) board boards all))
    (spelled_fit limit frames boards s.1 (All-tail (λ x. length_told (parts_of x) ≤ limit) board boards all))
