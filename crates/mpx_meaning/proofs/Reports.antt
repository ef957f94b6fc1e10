-- What a report says.
use Rattle.std.proofs.Common.{◌≡◌, ℕ, zero, suc, ◌<◌, Bool, cond, List, [], ◌∷◌, ◌++◌, length, map, Option, Some, None, refl, sym, ap, ◌∙◌, arith}
use Rattle.std.specs.Prelude.{is_some, slice_get}
use Rattle.std.specs.Option.{option_map}
use Rattle.std.proofs.lemmas.Option.{same_Some, slice_get-map}
use Rattle.mpx_name.specs.Name.{Name}
use Rattle.mpx_statement.specs.Lookups.{named}
use Rattle.mpx_meaning.specs.declared.end.RankEnd.{RankEnd}
use Rattle.mpx_meaning.specs.Ends.{EndView, end_of, end_view, end_waits, waiting_among, waits_with}
use Rattle.mpx_meaning.specs.Evaluation.{State}
use Rattle.mpx_meaning.specs.Ranks.{Todo}
use Rattle.mpx_meaning.specs.Reports.{end_text, is_left, lines_in, waiting_in, which}
use Rattle.mpx_meaning.specs.Transcripts.{line_text}

-- tests that answer alike choose the same
pub which_same : (f g : ℕ → Bool) (n : ℕ) → ((p : ℕ) → p < n → f p ≡ g p) → which f n ≡ which g n
which_same f g zero h = refl
which_same f g (suc n) h = λ i. which_same f g n (λ p l. h p (omega (arith, l))) i ++ cond (h n (omega arith) i) (n ∷ []) []

-- ENDS

pub is_some-mapped : {A B : Type 0} (f : A → B) (o : Option A) → is_some (option_map f o) ≡ is_some o
is_some-mapped f None = refl
is_some-mapped f (Some x) = refl

-- what stands in a list within its length
pub there_within : {A : Type 0} (xs : List A) (p : ℕ) → p < length xs → (x : A) × (slice_get xs p ≡ Some x)
there_within [] p l = absurd (omega (arith, l))
there_within (x ∷ xs) zero l = (x, refl)
there_within (x ∷ xs) (suc p) l = there_within xs p (omega (arith, l))

pub waits-left : (requests : List ℕ → Option (Name × ℕ)) (todo : List Todo) → is_some (waits_with requests todo) ≡ is_left todo
waits-left requests [] = refl
waits-left requests (x ∷ rest) = refl

-- those wait that have something left
pub waiting-left : (ends : List EndView) (s : State) → ((p : ℕ) (e : EndView) → slice_get ends p ≡ Some e → e ≡ end_of (s p)) → waiting_among ends ≡ waiting_in s (length ends)
waiting-left ends s each = which_same (λ p. end_waits (slice_get ends p)) (λ p. is_left (s p).todo) (length ends) (λ p l.
    let at = there_within ends p l in
    ap end_waits at.1 ∙ ap (λ e. is_some e.waits) (each p at.0 at.1) ∙ waits-left (named (s p).requests) (s p).todo)

-- and the lines are those of the ranks
pub lines-said : (ends : List RankEnd) (s : State) → ((p : ℕ) (e : EndView) → slice_get (map end_view ends) p ≡ Some e → e ≡ end_of (s p)) → (p : ℕ) (lines : List (List ℕ)) → slice_get (map end_text ends) p ≡ Some lines → lines ≡ lines_in s p
lines-said ends s each p lines e = by_end (slice_get ends p) refl where
  by_end : (o : Option RankEnd) → slice_get ends p ≡ o → lines ≡ lines_in s p
  by_end None f = cc (f, e, slice_get-map end_text ends p)
  by_end (Some x) f =
      sym (same_Some (end_text x) lines (sym (slice_get-map end_text ends p ∙ ap (option_map end_text) f) ∙ e))
      ∙ ap (λ (v : EndView). map line_text v.lines) (each p (end_view x) (slice_get-map end_view ends p ∙ ap (option_map end_view) f))
