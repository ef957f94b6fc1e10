-- What is read and written, piece by piece.
use Rattle.std.proofs.Common.{◌≡◌, refl, ℕ, ◌+◌, ◌-◌, ◌≤◌, List, [], ◌++◌, length, take, drop, Option, Some, None, sym, ap, ◌∙◌, ◌<◌, arith, subst, Ok}
use Rattle.std.specs.Prelude.{◌≢◌, IfSome, min, Result, Err}
use Rattle.std.specs.Io.KnownBytes.{Appends, Keeps, Consumes, IsAtEnd}
use Rattle.std.proofs.lemmas.List.{append-nil, append_assoc, take_all, length-drop, length-append, length-take, length-take-le, take-append-le}
use Rattle.std.proofs.Math.Nat.{min-le_left, min-le_right, le-min}
use Rattle.std.proofs.Math.Seq.{take-add, take-append_seam}
use Rattle.mpx_num.specs.declared.own.Operation.{Operation}
use Rattle.mpx_run.specs.declared.end.End.{End}
use Rattle.mpx_statement.specs.declared.job.Job.{Job}
use Rattle.mpx_script.specs.Reading.{reading}
use Rattle.mpx_script.specs.ScriptView.{ScriptView}
use Rattle.mpx_script.specs.Words.{bytes_limit}
use Rattle.mpx_threads.specs.declared.gate.BusStep.{BusStep}
use Rattle.mpx_run.specs.Texts.{ComesTo, IsWritten, OfRuns, Prints, PrintsUngated, Runs, RunsUngated, TakesInput, TakesPart}
use Rattle.mpx_run.specs.declared.texts.RunError.{RunError}
use Rattle.mpx_run.specs.declared.texts.RunError.TheVariants as E

-- READING

pub consumes_more : (a b c : Option (List ℕ)) (xs ys zs : List ℕ) → Consumes a b xs → Consumes b c ys → zs ≡ xs ++ ys → Consumes a c zs
consumes_more None b c xs ys zs f g e = tt
consumes_more (Some us) None c xs ys zs f g e = absurd f
consumes_more (Some us) (Some bs) None xs ys zs f g e = absurd g
consumes_more (Some us) (Some bs) (Some cs) xs ys zs f g e = f ∙ ap (λ ts. xs ++ ts) g ∙ sym (append_assoc xs ys cs) ∙ ap (λ ts. ts ++ cs) (sym e)

-- as many as were asked for
pub read_full : (a b : Option (List ℕ)) (xs : List ℕ) (n : ℕ) → Consumes a b xs → length xs ≡ n → IfSome a (λ all. xs ≡ take n all)
read_full None b xs n f e = tt
read_full (Some us) None xs n f e = absurd f
read_full (Some us) (Some bs) xs n f e = sym (take-append_seam xs bs) ∙ ap (λ m. take m (xs ++ bs)) e ∙ ap (take n) (sym f)

-- all that there was
pub read_end : (a b c : Option (List ℕ)) (xs : List ℕ) (n : ℕ) → Consumes a b xs → Consumes b c [] → IsAtEnd c → length xs ≤ n → IfSome a (λ all. xs ≡ take n all)
read_end None b c xs n f k g l = tt
read_end (Some us) None c xs n f k g l = absurd f
read_end (Some us) (Some bs) None xs n f k g l = absurd k
read_end (Some us) (Some bs) (Some cs) xs n f k g l =
    let whole : us ≡ xs = f ∙ ap (λ ts. xs ++ ts) (k ∙ g) ∙ append-nil xs in
    sym (take_all n xs l) ∙ ap (take n) (sym whole)

-- where a read of some room gives none
pub read_stops : (a b c : Option (List ℕ)) (xs buf : List ℕ) (n count : ℕ) → Consumes a b xs → Consumes b c (take count buf) × (count ≡ 0 → 0 < length buf → IsAtEnd c) → count ≡ 0 → 0 < length buf → length xs ≤ n → IfSome a (λ all. xs ≡ take n all)
read_stops a b c xs buf n count f g e room l = read_end a b c xs n f (subst (λ m. Consumes b c (take m buf)) e g.0) (g.1 e room) l

-- the room of a read
module _ (size most : ℕ) (piece buf : List ℕ) (whole : length piece ≡ 8192) (is : most ≡ min (1048577 - size) 8192) (same : length buf ≡ length (take most piece)) where
  fits : most ≤ 8192
  fits = let l : min (1048577 - size) 8192 ≤ 8192 = min-le_right (1048577 - size) 8192 in omega (arith, is, l)

  pub room : length buf ≡ most
  room = same ∙ length-take-le most piece (omega (arith, fits, whole))

  pub has_room : (1048577 - size ≡ 0 → ⊥) → 0 < length buf
  has_room other =
      let some : 1 ≤ 1048577 - size = grind (arith, other) in
      let l : 1 ≤ min (1048577 - size) 8192 = le-min some (omega arith) in
      omega (arith, room, is, l)

  pub within_limit : (count : ℕ) (items new : List ℕ) → size ≡ length items → new ≡ items ++ take count buf → count ≤ length buf → length items ≤ 1048577 → length new ≤ 1048577
  within_limit count items new at e l h =
      let all : length new ≡ length items + length (take count buf) = ap length e ∙ length-append items (take count buf) in
      let part : length (take count buf) ≡ count = length-take-le count buf l in
      let m : min (1048577 - size) 8192 ≤ 1048577 - size = min-le_left (1048577 - size) 8192 in
      omega (arith, all, part, m, is, room, l, at, h)

  pub more_read : (count : ℕ) (items new : List ℕ) → new ≡ items ++ take count buf → count ≤ length buf → (count ≡ 0 → ⊥) → length items < 1048577 → 1048577 - length new < 1048577 - length items
  more_read count items new e l some more =
      let all : length new ≡ length items + length (take count buf) = ap length e ∙ length-append items (take count buf) in
      let part : length (take count buf) ≡ count = length-take-le count buf l in
      let one : 1 ≤ count = grind (arith, some) in
      omega (arith, all, part, one, more)

  pub same_piece : length (buf ++ drop most piece) ≡ 8192
  same_piece =
      let all : length (buf ++ drop most piece) ≡ length buf + length (drop most piece) = length-append buf (drop most piece) in
      let rest : length (drop most piece) ≡ length piece - most = length-drop most piece in
      omega (arith, all, rest, room, fits, whole)

pub read_more : (items new buf rest : List ℕ) (count : ℕ) → new ≡ items ++ take count (buf ++ rest) → count ≤ length buf → new ≡ items ++ take count buf
read_more items new buf rest count e l = e ∙ ap (λ ts. items ++ ts) (take-append-le count buf rest l)

-- WRITING

-- the next bytes
pub appends_more : (a b c : Option (List ℕ)) (bytes : List ℕ) (m n : ℕ) → Appends a b (take m bytes) → Appends b c (take n (drop m bytes)) → Appends a c (take (m + n) bytes)
appends_more None b c bytes m n f g = tt
appends_more (Some us) None c bytes m n f g = absurd f
appends_more (Some us) (Some bs) None bytes m n f g = absurd g
appends_more (Some us) (Some bs) (Some cs) bytes m n f g = g ∙ ap (λ ts. ts ++ take n (drop m bytes)) f ∙ append_assoc us (take m bytes) (take n (drop m bytes)) ∙ ap (λ ts. us ++ ts) (sym (take-add m n bytes))

-- the rest of a slice
rest_is : (bytes : List ℕ) (m : ℕ) → take (length bytes - m) (drop m bytes) ≡ drop m bytes
rest_is bytes m = let size : length (drop m bytes) ≡ length bytes - m = length-drop m bytes in take_all (length bytes - m) (drop m bytes) (omega (arith, size))

pub appends_rest : (a b c : Option (List ℕ)) (bytes : List ℕ) (m n : ℕ) → Appends a b (take m bytes) → Appends b c (take n (take (length bytes - m) (drop m bytes))) → Appends a c (take (m + n) bytes)
appends_rest a b c bytes m n f g = appends_more a b c bytes m n f (subst (λ ts. Appends b c (take n ts)) (rest_is bytes m) g)

pub within_rest : (bytes : List ℕ) (m n : ℕ) → m ≤ length bytes → n ≤ length (take (length bytes - m) (drop m bytes)) → m + n ≤ length bytes
within_rest bytes m n l h =
    let size : length (drop m bytes) ≡ length bytes - m = length-drop m bytes in
    let same : length (take (length bytes - m) (drop m bytes)) ≡ length (drop m bytes) = ap length (rest_is bytes m) in
    omega (arith, l, h, size, same)

-- TAKING

-- a read that gives none takes none
pub stops : (a b c : Option (List ℕ)) (xs buf : List ℕ) (count : ℕ) → Consumes a b xs → Consumes b c (take count buf) → count ≡ 0 → Consumes a c xs
stops a b c xs buf count f g e = consumes_more a b c xs [] xs f (subst (λ m. Consumes b c (take m buf)) e g) (sym (append-nil xs))

-- nothing more is taken
pub consumes_keeps : (a b c : Option (List ℕ)) (xs : List ℕ) → Consumes a b xs → Keeps b c → Consumes a c xs
consumes_keeps None b c xs f k = tt
consumes_keeps (Some us) None c xs f k = absurd f
consumes_keeps (Some us) (Some bs) None xs f k = absurd k
consumes_keeps (Some us) (Some bs) (Some cs) xs f k = f ∙ ap (λ ts. xs ++ ts) (sym k)

within_take : (n : ℕ) (xs : List ℕ) → length (take n xs) ≤ n
within_take n xs = let e = length-take n xs in let l = min-le_left n (length xs) in omega (arith, e, l)

takes_part : (there left : Option (List ℕ)) (text : List ℕ) → TakesInput there left text → TakesPart there left
takes_part None left text t = ([], omega arith, tt)
takes_part (Some all) left text t = (text, subst (λ xs. length xs ≤ bytes_limit + 1) (sym t.0) (within_take (bytes_limit + 1) all), t.1)

-- the answer of a text's run is that of a reader which gives the text
pub runs_ungated : (Is : OfRuns) (ops : List Operation) (job : Job) (there left old new : Option (List ℕ)) (text : List ℕ) (answer : Result End RunError) → TakesInput there left text → PrintsUngated Is ops job text old new answer → RunsUngated Is ops job there left old new answer
runs_ungated Is ops job there left old new text (Ok end) t p = (text, t, p)
runs_ungated Is ops job there left old new text (Err (E.Script refusal)) t p = (text, t, p)
runs_ungated Is ops job there left old new text (Err E.TooManyProcesses) t p = (text, t, p)
runs_ungated Is ops job there left old new text (Err E.Memory) t p = (takes_part there left text t, p)
runs_ungated Is ops job there left old new text (Err (E.Read reason)) t p = absurd p
runs_ungated Is ops job there left old new text (Err (E.Write reason)) t p = (text, t, p)
runs_ungated Is ops job there left old new text (Err E.GateGaveUp) t p = absurd p

-- the same where a gate may end it
pub runs_input : (Is : OfRuns) (ops : List Operation) (gives_up : ℕ → BusStep → ℕ → Type 0) (job : Job) (there left old new : Option (List ℕ)) (text now : List ℕ) (answer : Result End RunError) → TakesInput there left text → now ≡ text → Prints Is ops gives_up job now old new answer → Runs Is ops gives_up job there left old new answer
runs_input Is ops gives_up job there left old new text now answer t e p = by_answer answer (subst (λ xs. Prints Is ops gives_up job xs old new answer) e p) where
  by_answer : (a : Result End RunError) → Prints Is ops gives_up job text old new a → Runs Is ops gives_up job there left old new a
  by_answer (Ok end) q = runs_ungated Is ops job there left old new text (Ok end) t q
  by_answer (Err (E.Script refusal)) q = runs_ungated Is ops job there left old new text (Err (E.Script refusal)) t q
  by_answer (Err E.TooManyProcesses) q = runs_ungated Is ops job there left old new text (Err E.TooManyProcesses) t q
  by_answer (Err E.Memory) q = runs_ungated Is ops job there left old new text (Err E.Memory) t q
  by_answer (Err (E.Read reason)) q = runs_ungated Is ops job there left old new text (Err (E.Read reason)) t q
  by_answer (Err (E.Write reason)) q = runs_ungated Is ops job there left old new text (Err (E.Write reason)) t q
  by_answer (Err E.GateGaveUp) q = (text, t, q.0, q.1)

-- what an answer says that isn't a gate's
pub prints_ungated : (Is : OfRuns) (ops : List Operation) (gives_up : ℕ → BusStep → ℕ → Type 0) (job : Job) (text : List ℕ) (old new : Option (List ℕ)) (answer : Result End RunError) → (answer ≢ Err E.GateGaveUp) → Prints Is ops gives_up job text old new answer → PrintsUngated Is ops job text old new answer
prints_ungated Is ops gives_up job text old new (Ok end) other p = p
prints_ungated Is ops gives_up job text old new (Err (E.Script refusal)) other p = p
prints_ungated Is ops gives_up job text old new (Err E.TooManyProcesses) other p = p
prints_ungated Is ops gives_up job text old new (Err E.Memory) other p = p
prints_ungated Is ops gives_up job text old new (Err (E.Read reason)) other p = p
prints_ungated Is ops gives_up job text old new (Err (E.Write reason)) other p = p
prints_ungated Is ops gives_up job text old new (Err E.GateGaveUp) other p = absurd (other refl)

-- ANSWERS

-- what a job comes to is written
pub written_prints : (Is : OfRuns) (ops : List Operation) (job : Job) (text : List ℕ) (script : ScriptView) (old new : Option (List ℕ)) (out : List ℕ) (end : End) (answer : Result End RunError) → reading ops text ≡ Ok script → ComesTo Is ops job.command job.options script end out
    → IsWritten old new out end answer → PrintsUngated Is ops job text old new answer
written_prints Is ops job text script old new out end (Ok told) read comes w = (out, record { script = script; read = read; comes = subst (λ e. ComesTo Is ops job.command job.options script e out) (sym w.0) comes }, w.1)
written_prints Is ops job text script old new out end (Err (E.Script refusal)) read comes w = absurd w
written_prints Is ops job text script old new out end (Err E.TooManyProcesses) read comes w = absurd w
written_prints Is ops job text script old new out end (Err E.Memory) read comes w = absurd w
written_prints Is ops job text script old new out end (Err (E.Read reason)) read comes w = absurd w
written_prints Is ops job text script old new out end (Err (E.Write reason)) read comes w = (end, out, w.0, record { script = script; read = read; comes = comes }, w.1)
written_prints Is ops job text script old new out end (Err E.GateGaveUp) read comes w = absurd w

-- what no gate ends a gate doesn't end
pub gated_prints : (Is : OfRuns) (ops : List Operation) (gives_up : ℕ → BusStep → ℕ → Type 0) (job : Job) (text : List ℕ) (old new : Option (List ℕ)) (answer : Result End RunError) → PrintsUngated Is ops job text old new answer → Prints Is ops gives_up job text old new answer
gated_prints Is ops gives_up job text old new (Ok end) p = p
gated_prints Is ops gives_up job text old new (Err (E.Script refusal)) p = p
gated_prints Is ops gives_up job text old new (Err E.TooManyProcesses) p = p
gated_prints Is ops gives_up job text old new (Err E.Memory) p = p
gated_prints Is ops gives_up job text old new (Err (E.Read reason)) p = p
gated_prints Is ops gives_up job text old new (Err (E.Write reason)) p = p
gated_prints Is ops gives_up job text old new (Err E.GateGaveUp) p = absurd p
