-- What is spelled is read back, and isn't too long.
use Rattle.std.proofs.Common.{◌≡◌, ℕ, ◌≤◌, true, false, not, ◌&&◌, ◌||◌, List, [], length, None, Result, Ok, Err, subst, refl, sym, ap, ◌∙◌}
use Rattle.std.specs.Prelude.{nat_le, nat_lt}
use Rattle.std.specs.Int.{w16}
use Rattle.std.specs.Ordering.{nat_cmp}
use Rattle.std.specs.FinMap.{FinMap, entries, len, len-entries}
use Rattle.std.proofs.lemmas.Bool.{and_parts, le-ltb, leb-true}
use Rattle.mpx_name.specs.Order.{name_cmp}
use Rattle.mpx_board.specs.Looks.{parts_of}
use Rattle.mpx_board.specs.Parts.{PartsView}
use Rattle.mpx_board.specs.declared.board.Board.{Board}
use Rattle.mpx_format.specs.declared.defects.WireError.{WireError}
use Rattle.mpx_format.specs.declared.defects.WireError.TheVariants as E
use Rattle.mpx_format.specs.declared.versions.Version.{Version}
use Rattle.mpx_format.specs.declared.versions.Version.TheVariants.{Two}
use Rattle.mpx_format.specs.Format.{byte, number, many_fit}
use Rattle.mpx_format.specs.Rising.{entry, always}
use Rattle.mpx_format.specs.Fields.{process, name, name_count, some_names, numbers, acks, all_acks}
use Rattle.mpx_format.specs.Contexts.{lifted, says_something, parts, frame}
use Rattle.mpx_format.specs.Decoding.{Decodes, Spells, decoded, most_bytes}
use Rattle.mpx_format.specs.Encoding.{has_many_names, is_too_long, length_told, most_names}
use Rattle.mpx_format.proofs.ContextLaws.{parts_fit}
use Rattle.mpx_format.proofs.Decoded.{all_fit, decoded_again}
use Rattle.mpx_encode.proofs.Encoded.{length_short, many_by_acks}
use Rattle.mpx_wire.specs.Reading.{IsReadBack}

-- READ BACK

by_answer : (board : Board) (answer : Result Board WireError) → Decodes answer (Ok (parts_of board)) → IsReadBack board answer
by_answer board (Ok again) d = let e : parts_of board ≡ parts_of again = cc d in sym e
by_answer board (Err E.OutOfMemory) d = refl
by_answer board (Err E.TooLong) d = cc d
by_answer board (Err E.BadMagic) d = cc d
by_answer board (Err E.BadVersion) d = cc d
by_answer board (Err E.ShortFrame) d = cc d
by_answer board (Err (E.OutOfLimits at)) d = cc d
by_answer board (Err (E.NotCanonical at)) d = cc d

pub read_back : (board : Board) (version : Version) (bytes : List ℕ) (answer : Result Board WireError) → Spells version bytes (parts_of board) → Decodes answer (decoded bytes) → IsReadBack board answer
read_back board version bytes answer s d = by_answer board answer (subst (Decodes answer) (decoded_again version bytes (parts_of board) s) d)

-- WRITTEN AGAIN

-- a process acknowledges at most 4,096 names
few_acks : (a : FinMap name_cmp (FinMap nat_cmp ℕ)) → acks.fits a ≡ true → nat_le (len a) most_names ≡ true
unfolding acks some_names name_count
few_acks a fits =
    let n = length (entries a) in
    let each = many_fit (entry name_cmp None name numbers always) n [] (entries a) in
    ap (λ (names : ℕ). nat_le names most_names) (len-entries a)
    ∙ (and_parts ((number w16).fits n) (nat_le n most_names) (and_parts (name_count.fits n) (nat_lt 0 n) (and_parts (some_names.fits n) each fits).0).0).1

few_names : (version : Version) (v : PartsView) → frame.fits (version, v) ≡ true → has_many_names v ≡ false
unfolding parts all_acks name_count
few_names version v whole =
    let fits = parts_fit version v whole in
    let n = length (entries v.0) in
    let each = many_fit (entry name_cmp None name (lifted version) says_something) n [] (entries v.0) in
    let a = length (entries v.1) in
    let acks_fit = many_fit (entry nat_cmp None process acks always) a [] (entries v.1) in
    let both = and_parts (name_count.fits n && each) (byte.fits a && acks_fit) fits in
    let count : nat_le n most_names ≡ true = (and_parts ((number w16).fits n) (nat_le n most_names) (and_parts (name_count.fits n) each both.0).0).1 in
    let few : len v.0 ≤ most_names = leb-true (len v.0) most_names (ap (λ (names : ℕ). nat_le names most_names) (len-entries v.0) ∙ count) in
    many_by_acks v few
    ∙ ap not (all_fit nat_cmp None process acks always (λ p m. nat_le (len m) most_names) (λ p m key value says. few_acks m value) a [] (entries v.1) (and_parts (byte.fits a) acks_fit both.1).1)

-- what is spelled in version 2 isn't too long
pub spelled_short : (bytes : List ℕ) (v : PartsView) → Spells Two bytes v → is_too_long v ≡ false
unfolding is_too_long
spelled_short bytes v s =
    let few : length (frame.spelling (Two, v)) ≤ most_bytes = subst (λ b. length b ≤ most_bytes) s.bytes_are s.few in
    ap (λ b. b || nat_lt most_bytes (length (frame.spelling (Two, v)))) (few_names Two v s.fits) ∙ le-ltb most_bytes (length (frame.spelling (Two, v))) few

-- and its length is told
pub spelled_length : (bytes : List ℕ) (v : PartsView) → Spells Two bytes v → length_told v ≡ length bytes
spelled_length bytes v s = length_short v (spelled_short bytes v s) ∙ ap length (sym s.bytes_are)
