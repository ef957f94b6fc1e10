-- The words of operations.
use Rattle.std.specs.Prelude.{ℕ, ◌+◌, Bool, true, false, not, ◌&&◌, ◌||◌, nat_le, ◌==◌, cond, List, [], ◌∷◌, map, length, codes, bytes_eq, Option, Some, None}
use Rattle.std.specs.List.{list_all}
use Rattle.mpx_num.specs.declared.own.Operation.{Operation}

-- a to z
abbrev pub is_small_letter : ℕ → Bool
is_small_letter byte = nat_le 97 byte && nat_le byte 122

-- a to z, 0 to 9 or `_`
abbrev pub is_name_byte : ℕ → Bool
is_name_byte byte = is_small_letter byte || (nat_le 48 byte && nat_le byte 57) || byte == 95

-- a small letter, then small letters, digits or `_`, at most 32 bytes in all
unfoldable pub is_name : List ℕ → Bool
is_name [] = false
is_name (first ∷ more) = is_small_letter first && list_all is_name_byte more && nat_le (length (first ∷ more)) 32

-- whether the word is one of these
abbrev pub is_among : List (List ℕ) → List ℕ → Bool
is_among [] word = false
is_among (entry ∷ more) word = bytes_eq word entry || is_among more word

-- the words of the predefined operations
unfoldable pub is_operation_word : List ℕ → Bool
is_operation_word word = is_among (
    codes "max" ∷ codes "min" ∷ codes "sum" ∷ codes "prod" ∷ codes "land" ∷ codes "lor" ∷ codes "lxor" ∷ codes "band"
    ∷ codes "bor" ∷ codes "bxor" ∷ codes "maxloc" ∷ codes "minloc" ∷ []) word

-- a word that an operation of a job's own may have
abbrev pub is_own_word : List ℕ → Bool
is_own_word word = is_name word && not (is_operation_word word)

-- each word is one, and none comes twice
abbrev pub are_own_words : List (List ℕ) → Bool
are_own_words [] = true
are_own_words (word ∷ more) = is_own_word word && not (is_among more word) && are_own_words more

-- the place of the first of these words, of which the first has this place, that is the word
abbrev pub place_of_word : ℕ → List (List ℕ) → List ℕ → Option ℕ
place_of_word n [] word = None
place_of_word n (own ∷ more) word = cond (bytes_eq word own) (Some n) (place_of_word (n + 1) more word)

-- the place of the operation of a job's own that has the word
unfoldable pub place_named : List Operation → List ℕ → Option ℕ
place_named ops word = place_of_word 0 (map (λ (op : Operation). op.word) ops) word
