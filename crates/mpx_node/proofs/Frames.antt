-- What the bytes of a frame show.
use Rattle.std.proofs.Common.{◌≡◌, ℕ, List, Result, Ok, Err, OnOk, OnErr, sym, ap}
use Rattle.mpx_board.specs.Contexts.{look_of}
use Rattle.mpx_board.specs.Parts.{PartsView}
use Rattle.mpx_format.specs.Decoding.{IsSpelled, decoded, shown}
use Rattle.mpx_format.proofs.Decoded.{decoded_again}

-- bytes that spell a board show it
pub record ShowsIts (bytes : List ℕ) : Type 0 where
  pub parts : PartsView
  pub spelled : IsSpelled bytes parts
  pub shows : look_of parts ≡ shown (decoded bytes)

pub spelled_shows : (bytes : List ℕ) → (v : PartsView) × IsSpelled bytes v → ShowsIts bytes
spelled_shows bytes s = record { parts = s.0; spelled = s.1; shows = sym (ap shown (decoded_again s.1.0 bytes s.0 s.1.1)) }

pub mapped_ok : {T E P Q : Type 0} (r : Result T E) → (P → Q) → OnOk r P → OnOk r Q
mapped_ok (Ok x) f p = f p
mapped_ok (Err e) f p = tt

pub mapped_err : {T E P Q : Type 0} (r : Result T E) → (P → Q) → OnErr r P → OnErr r Q
mapped_err (Ok x) f p = tt
mapped_err (Err e) f p = f p
