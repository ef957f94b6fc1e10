-- Frames of boards, and what they show.
use Rattle.std.proofs.Common.{◌≡◌, ℕ, List, [], ◌∷◌, map, refl, sym, ap, subst}
use Rattle.std.specs.Prelude.{All}
use Rattle.std.proofs.lemmas.List.Elements.{All-nil, All-cons}
use Rattle.mpx_board.specs.declared.board.Board.{Board}
use Rattle.mpx_board.specs.Looks.{look, parts_of}
use Rattle.mpx_board.specs.Parts.{PartsView}
use Rattle.mpx_format.specs.declared.versions.Version.TheVariants.{Two}
use Rattle.mpx_format.specs.Decoding.{Spells, decoded, shown}
use Rattle.mpx_format.proofs.Decoded.{decoded_again}
use Rattle.mpx_delta.specs.Lacking.{AreSpelled}
use Rattle.mpx_sim.specs.Frames.{IsFrame, parts_in}
use Rattle.mpx_sim.proofs.Sending.{spelled_shown}

is_frame : (bytes : List ℕ) (v : PartsView) → Spells Two bytes v → IsFrame bytes
is_frame bytes v s = subst (Spells Two bytes) (sym (ap parts_in (decoded_again Two bytes v s))) s

pub spelled_whole : (frames : List (List ℕ)) (boards : List Board) → AreSpelled frames boards → All IsFrame frames
spelled_whole [] [] s = All-nil IsFrame
spelled_whole [] (board ∷ boards) s = absurd s
spelled_whole (bytes ∷ frames) [] s = absurd s
spelled_whole (bytes ∷ frames) (board ∷ boards) s = All-cons IsFrame bytes frames (is_frame bytes (parts_of board) s.0) (spelled_whole frames boards s.1)

pub spelled_parts : (frames : List (List ℕ)) (boards : List Board) → AreSpelled frames boards → map (λ bytes. shown (decoded bytes)) frames ≡ map look boards
spelled_parts [] [] s = refl
spelled_parts [] (board ∷ boards) s = absurd s
spelled_parts (bytes ∷ frames) [] s = absurd s
spelled_parts (bytes ∷ frames) (board ∷ boards) s = λ i. spelled_shown Two bytes (parts_of board) s.0 i ∷ spelled_parts frames boards s.1 i
