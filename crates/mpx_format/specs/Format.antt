-- Formats: how a value is spelled in bytes, and how bytes are read from left to right up to the first field that is wrong.
use Rattle.std.specs.Prelude.{◌≡◌, ℕ, zero, suc, ◌-◌, ◌^◌, Bool, nat_le, true, false, ◌&&◌, cond, nat_lt, nat_eq, List, [], ◌∷◌, ◌++◌, length, take, drop, Option, Some, None, Result, Ok, Err}
use Rattle.std.specs.Int.{Width, byte_len, from_be_bytes, to_be_bytes}
use Rattle.mpx_format.specs.declared.defects.Defect.{Defect}
use Rattle.mpx_format.specs.declared.defects.Defect.TheVariants.{ShortFrame, OutOfLimits, NotCanonical}
use Rattle.mpx_format.specs.declared.defects.ReadError.{ReadError}
use Rattle.mpx_format.specs.declared.defects.ReadError.TheVariants as errors

pub record Format (V : Type 0) : Type 0 where
  -- the one spelling of a value
  pub spelling : V → List ℕ
  -- whether a value has a spelling
  pub fits : V → Bool
  -- the value that stands at the front and the bytes after it, or the first field that is wrong
  pub read : List ℕ → Result (V × List ℕ) Defect

infixl 10 ◌>>=◌
abbrev pub ◌>>=◌ : {A B : Type 0} → Result A Defect → (A → Result B Defect) → Result B Defect
(Ok x) >>= f = f x
(Err e) >>= f = Err e

-- the field at the front of these bytes is wrong. A fault is placed by how many bytes there are from the field's first one to the end
abbrev pub out_of_limits : List ℕ → Defect
out_of_limits bytes = OutOfLimits (length bytes)

abbrev pub not_canonical : List ℕ → Defect
not_canonical bytes = NotCanonical (length bytes)

-- NUMBERS

abbrev read_byte : List ℕ → Result (ℕ × List ℕ) Defect
read_byte [] = Err ShortFrame
read_byte (b ∷ bytes) = Ok (b, bytes)

abbrev pub byte : Format ℕ
byte = record { spelling = λ n. n ∷ []; fits = λ n. nat_lt n 256; read = read_byte }

-- a value that is spelled in so many bytes
abbrev pub sized : {V : Type 0} → ℕ → (V → List ℕ) → (List ℕ → V) → (V → Bool) → Format V
sized len spelling value fits = record {
  spelling = spelling;
  fits = fits;
  read = λ bytes. cond (nat_lt (length bytes) len) (Err ShortFrame) (Ok (value (take len bytes), drop len bytes));
}

-- an unsigned number, the highest byte first
abbrev pub number : Width → Format ℕ
number w = sized (byte_len w) (to_be_bytes w) (from_be_bytes w) (λ n. nat_lt n (256 ^ byte_len w))

-- OUT OF OTHERS

-- no bytes
abbrev pub nothing : Format (Unit {0})
nothing = record { spelling = λ v. []; fits = λ v. true; read = λ bytes. Ok (tt, bytes) }

-- this byte, and then a value
abbrev pub mark_at : Defect → ℕ → List ℕ → Result (List ℕ) Defect
mark_at wrong c [] = Err ShortFrame
mark_at wrong c (b ∷ bytes) = cond (nat_eq b c) (Ok bytes) (Err wrong)

abbrev pub mark : {V : Type 0} → Defect → ℕ → Format V → Format V
mark wrong c f = record { spelling = λ v. c ∷ f.spelling v; fits = f.fits; read = λ bytes. mark_at wrong c bytes >>= f.read }

-- one value and then another, whose format the first may tell
abbrev pub both : {A B : Type 0} → Format A → (A → Format B) → Format (A × B)
both f g = record {
  spelling = λ x. f.spelling x.0 ++ (g x.0).spelling x.1;
  fits = λ x. f.fits x.0 && (g x.0).fits x.1;
  read = λ bytes. f.read bytes >>= λ a. (g a.0).read a.1 >>= λ b. Ok ((a.0, b.0), b.1);
}

-- a value that passes a test; else it is wrong
abbrev pub only : {V : Type 0} → (List ℕ → Defect) → (V → Bool) → Format V → Format V
only wrong test f = record {
  spelling = f.spelling;
  fits = λ v. f.fits v && test v;
  read = λ bytes. f.read bytes >>= λ x. cond (test x.0) (Ok x) (Err (wrong bytes));
}

-- values of another type, each by the one that stands for it, where there is one
abbrev pub spelled_by : {A : Type 0} → Format A → Option A → List ℕ
spelled_by f None = []
spelled_by f (Some a) = f.spelling a

abbrev pub fits_by : {A : Type 0} → Format A → Option A → Bool
fits_by f None = false
fits_by f (Some a) = f.fits a

abbrev pub through : {A B : Type 0} → (A → B) → (B → Option A) → Format A → Format B
through to from f = record {
  spelling = λ b. spelled_by f (from b);
  fits = λ b. fits_by f (from b);
  read = λ bytes. f.read bytes >>= λ x. Ok (to x.0, x.1);
}

-- so many values, one after the other. The format of each may hang on those before it
abbrev pub many_spelled : {V : Type 0} → (List V → Format V) → List V → List V → List ℕ
many_spelled f before [] = []
many_spelled f before (v ∷ vs) = (f before).spelling v ++ many_spelled f (before ++ v ∷ []) vs

abbrev pub many_fit : {V : Type 0} → (List V → Format V) → ℕ → List V → List V → Bool
many_fit f zero before [] = true
many_fit f zero before (v ∷ vs) = false
many_fit f (suc n) before [] = false
many_fit f (suc n) before (v ∷ vs) = (f before).fits v && many_fit f n (before ++ v ∷ []) vs

unfoldable pub many_read : {V : Type 0} → (List V → Format V) → ℕ → List V → List ℕ → Result (List V × List ℕ) Defect
many_read f zero before bytes = Ok ([], bytes)
many_read f (suc n) before bytes = (f before).read bytes >>= λ v. many_read f n (before ++ v.0 ∷ []) v.1 >>= λ vs. Ok (v.0 ∷ vs.0, vs.1)

abbrev pub many : {V : Type 0} → (List V → Format V) → ℕ → Format (List V)
many f n = record { spelling = many_spelled f []; fits = many_fit f n []; read = many_read f n [] }

-- how many there are, and then so many values
abbrev pub counted : {V : Type 0} → Format ℕ → (List V → Format V) → Format (List V)
counted count f = through (λ x. x.1) (λ vs. Some (length vs, vs)) (both count (many f))

-- a byte that says which form the value has, and then the value in that form
abbrev pub tagged : {V : Type 0} → (ℕ → Bool) → (V → ℕ) → (ℕ → Format V) → Format V
tagged known tag form = through (λ x. x.1) (λ v. Some (tag v, v)) (both (only out_of_limits known byte) form)

-- READERS IN THE CODE

-- What a function returned, seen by view, is what reading gives, unless memory ran out.
abbrev pub Fails : {Y : Type 0} → ReadError → Result Y Defect → Type 0
Fails errors.OutOfMemory read = Unit {0}
Fails (errors.Defect f) read = read ≡ Err f

abbrev pub Gives : {X Y : Type 0} → (X → Y) → Result X ReadError → Result Y Defect → Type 0
Gives view (Ok x) read = read ≡ Ok (view x)
Gives view (Err e) read = Fails e read

-- WRITERS IN THE CODE

-- what is left of so much room behind so many bytes, where they fit
abbrev pub room_behind : Bool → ℕ → ℕ → Option ℕ
room_behind fits len room = cond (fits && nat_le len room) (Some (room - len)) None

-- what is left of so much room behind the value's spelling, where it has one and that fits
abbrev pub room_after : {V : Type 0} → Format V → V → ℕ → Option ℕ
room_after f v room = room_behind (f.fits v) (length (f.spelling v)) room

-- what is left behind these values, which come after those before them
abbrev pub room_after_many : {V : Type 0} → (List V → Format V) → List V → List V → ℕ → Option ℕ
room_after_many f before vs room = room_behind (many_fit f (length vs) before vs) (length (many_spelled f before vs)) room
