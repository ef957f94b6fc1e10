-- What is told of the lines of a text, byte by byte.
use Rattle.std.proofs.Common.{◌≡◌, ℕ, suc, ◌+◌, ◌-◌, ◌<◌, ◌≤◌, ◌++◌, Bool, cond, List, [], ◌∷◌, length, get_or, take, drop, drop-cons, sym, ap, ◌∙◌, append_assoc, arith}
use Rattle.std.specs.List.{flat_map}
use Rattle.std.proofs.lemmas.Bool.{ne_eqb}
use Rattle.std.proofs.lemmas.List.{append-nil, drop_all, get_or-drop, length-drop, take_all, take_more}
use Rattle.frame_text.specs.Lines.{last_line, line_told, lines_after}

abbrev pub told_after : (line text : List ℕ) → List ℕ
told_after line text = flat_map line_told (lines_after line text)

next-byte : (text : List ℕ) (i : ℕ) → i < length text → drop i text ≡ get_or text i 0 ∷ drop (i + 1) text
next-byte text i lt =
    let k : suc i ≡ i + 1 = omega arith in
    drop-cons text i 0 lt ∙ ap (λ n. get_or text i 0 ∷ drop n text) k

-- at a line feed
pub line-ends : (told text : List ℕ) (start i : ℕ) → i < length text → get_or text i 0 ≡ 10
    → (told ++ line_told (take (i - start) (drop start text))) ++ told_after (take (i + 1 - (i + 1)) (drop (i + 1) text)) (drop (i + 1) text)
    ≡ told ++ told_after (take (i - start) (drop start text)) (drop i text)
line-ends told text start i lt is =
    let none : i + 1 - (i + 1) ≡ 0 = omega arith in
    let line = take (i - start) (drop start text) in
    ap (λ (n : ℕ). (told ++ line_told line) ++ told_after (take n (drop (i + 1) text)) (drop (i + 1) text)) none
    ∙ append_assoc told (line_told line) (told_after [] (drop (i + 1) text))
    ∙ sym (ap (λ (rest : List ℕ). told ++ told_after line rest) (next-byte text i lt ∙ ap (λ (b : ℕ). b ∷ drop (i + 1) text) is))

one-more : (text : List ℕ) (start i : ℕ) → start ≤ i → i < length text
    → take (i + 1 - start) (drop start text) ≡ take (i - start) (drop start text) ++ get_or text i 0 ∷ []
one-more text start i le lt =
    let place : i + 1 - start ≡ i - start + 1 = omega arith in
    let same : start + (i - start) ≡ i = omega arith in
    let within : i - start < length (drop start text) = omega (arith, length-drop start text) in
    ap (λ (n : ℕ). take n (drop start text)) place
    ∙ take_more (drop start text) (i - start) 0 within
    ∙ ap (λ (b : ℕ). take (i - start) (drop start text) ++ b ∷ []) (get_or-drop start text (i - start) 0 ∙ ap (λ (n : ℕ). get_or text n 0) same)

-- elsewhere
pub line-goes-on : (told text : List ℕ) (start i : ℕ) → start ≤ i → i < length text → (get_or text i 0 ≡ 10 → ⊥)
    → told ++ told_after (take (i + 1 - start) (drop start text)) (drop (i + 1) text)
    ≡ told ++ told_after (take (i - start) (drop start text)) (drop i text)
line-goes-on told text start i le lt other =
    let line = take (i - start) (drop start text) in
    let b = get_or text i 0 in
    let rest = drop (i + 1) text in
    ap (λ (l : List ℕ). told ++ told_after l rest) (one-more text start i le lt)
    ∙ sym (ap (λ (t : Bool). told ++ flat_map line_told (cond t (line ∷ lines_after [] rest) (lines_after (line ++ b ∷ []) rest))) (ne_eqb b 10 other))
    ∙ sym (ap (λ (l : List ℕ). told ++ told_after line l) (next-byte text i lt))

one-line : (line : List ℕ) → 0 < length line → flat_map line_told (last_line line) ≡ line_told line
one-line [] lt = absurd (omega arith)
one-line (b ∷ line) lt = append-nil (line_told (b ∷ line))

-- behind the last line feed stands something
pub last-line : (told text : List ℕ) (start i : ℕ) → length text ≤ i → i ≤ length text → start < length text
    → told ++ line_told (take (length text - start) (drop start text)) ≡ told ++ told_after (take (i - start) (drop start text)) (drop i text)
last-line told text start i past le lt =
    let some : 0 < length (drop start text) = omega (arith, length-drop start text) in
    let all : length (drop start text) ≤ i - start = omega (arith, length-drop start text) in
    let whole : length (drop start text) ≤ length text - start = omega (arith, length-drop start text) in
    ap (λ (l : List ℕ). told ++ line_told l) (take_all (length text - start) (drop start text) whole)
    ∙ sym (ap (λ (l : List ℕ). told ++ told_after (take (i - start) (drop start text)) l) (drop_all i text past)
    ∙ ap (λ (l : List ℕ). told ++ flat_map line_told (last_line l)) (take_all (i - start) (drop start text) all)
    ∙ ap (λ (l : List ℕ). told ++ l) (one-line (drop start text) some))

-- or nothing
pub no-last-line : (told text : List ℕ) (start i : ℕ) → length text ≤ i → length text ≤ start
    → told ≡ told ++ told_after (take (i - start) (drop start text)) (drop i text)
no-last-line told text start i past far =
    sym (ap (λ (l : List ℕ). told ++ told_after (take (i - start) (drop start text)) l) (drop_all i text past)
    ∙ ap (λ (l : List ℕ). told ++ flat_map line_told (last_line (take (i - start) l))) (drop_all start text far)
    ∙ ap (λ (l : List ℕ). told ++ flat_map line_told (last_line l)) (take_all (i - start) [] (omega arith))
    ∙ append-nil told)
