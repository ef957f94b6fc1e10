-- What is read of the bytes that are near, and of those beyond.
use Rattle.std.specs.Prelude.{◌≡◌, ℕ, List, [], Result, Ok, Err}
use Rattle.mpx_format.specs.declared.defects.Defect.{Defect}
use Rattle.mpx_format.specs.declared.defects.ReadError.{ReadError}
use Rattle.mpx_format.specs.Format.{Fails}

-- what a format reads of all bytes; where some of them lie beyond, a refusal says nothing
abbrev pub GivesNear : {X Y : Type 0} → List ℕ → (X → Y) → Result X ReadError → Result Y Defect → Type 0
GivesNear beyond view (Ok x) read = read ≡ Ok (view x)
GivesNear beyond view (Err e) read = beyond ≡ [] → Fails e read
