-- The start of the ranks, and what they report at the end.
use Rattle.std.proofs.Common.{◌≡◌, ℕ, zero, suc, ◌+◌, ◌<◌, List, [], ◌∷◌, ◌++◌, length, map, Option, Some, None, refl, sym, ap, ◌∙◌, subst, arith, length-append}
use Rattle.std.specs.Prelude.{◌||◌, is_some, slice_get, slice_index_or, unwrap_or}
use Rattle.std.specs.Option.{option_map}
use Rattle.std.proofs.lemmas.List.{length-map}
use Rattle.std.proofs.lemmas.Option.{slice_get-map, same_Some}
use Rattle.mpx_num.specs.declared.own.Operation.{Operation}
use Rattle.mpx_name.specs.Name.{Name}
use Rattle.mpx_statement.specs.declared.statement.Statement.{Statement}
use Rattle.mpx_script.specs.ScriptView.{ScriptView}
use Rattle.mpx_meaning.specs.Ranks.{doing}
use Rattle.mpx_meaning.specs.Evaluation.{IsReached, start_state}
use Rattle.mpx_meaning.specs.Ends.{EndView, end_of, end_view, waiting_among}
use Rattle.mpx_meaning.specs.Reports.{end_text, is_left, waiting_in}
use Rattle.mpx_meaning.proofs.Ends.{start_quiet}
use Rattle.mpx_meaning.proofs.Reports.{lines-said, waiting-left}
use Rattle.mpx_meaning.specs.declared.end.RankEnd.{RankEnd}
use Rattle.mpx_rank.specs.Places.{end_of_rank}
use Rattle.mpx_rank.proofs.RankEnds.{end_stands}
use Rattle.mpx_eval.specs.Evaluated.{EndSo, IsEvaluated}
use Rattle.mpx_meaning.specs.Standing.{WaitView, has_statements, todo_of}
use Rattle.mpx_eval.specs.Places.{TableRank}
use Rattle.mpx_eval.specs.Rounds.{AreAtEnd, AreIn, Start, StartsAt, is_waiting_at}
use Rattle.mpx_eval.specs.Tables.{Table}

-- THE START

-- the last one, or one before
push_cases : {A : Type 0} (xs : List A) (y : A) (p : ℕ) (x : A) (P : ℕ → A → Type 0) → slice_get (xs ++ y ∷ []) p ≡ Some x → (slice_get xs p ≡ Some x → P p x) → P (length xs) y → P p x
push_cases [] y zero x P e old last = subst (P 0) (same_Some y x e) last
push_cases [] y (suc p) x P e old last = cc e
push_cases (z ∷ xs) y zero x P e old last = old e
push_cases (z ∷ xs) y (suc p) x P e old last = push_cases xs y p x (λ q v. P (suc q) v) e old (subst (λ n. P n y) (let same : length (z ∷ xs) ≡ suc (length xs) = omega arith in same) last)

pub one_more_starts : (script : List (List Statement)) (ranks count : ℕ) (rs : List TableRank) (r : TableRank) → Start script ranks count rs → StartsAt script ranks count r → Start script ranks (count + 1) (rs ++ r ∷ [])
one_more_starts script ranks count rs r s at = record {
  count_is = length-append rs (r ∷ []) ∙ omega (arith, s.count_is);
  each = λ p x e. push_cases rs r p x (λ q v. StartsAt script ranks q v) e (s.each p x) (subst (λ n. StartsAt script ranks n r) (sym s.count_is) at);
}

pub at_index : (script : List (List Statement)) (p : ℕ) → slice_index_or script p [] ≡ unwrap_or (slice_get script p) []
at_index [] p = refl
at_index (x ∷ xs) zero = refl
at_index (x ∷ xs) (suc p) = at_index xs p

pub are_in_start : (ops : List Operation) (script : List (List Statement)) (ranks : ℕ) (rs : List TableRank) (t : Table) → length script ≡ ranks → Start script ranks ranks rs → ((name : Name) → t name ≡ None) → AreIn ops ranks rs t (start_state script ranks)
are_in_start ops script ranks rs t count s none = record {
  count = s.count_is;
  each = λ p r e.
      let h = s.each p r e in (
        h.me,
        record {
          bound = h.bound;
          requests = h.requests;
          todo = ap doing (sym (at_index script p) ∙ sym h.todo) ∙ ap (λ w. todo_of w r.todo) (sym h.waits);
          lines = h.lines;
          origins = h.origins;
        },
      );
  shows = record {
    born = λ name c e. cc (e, none name);
    posts = λ name c e. cc (e, none name);
    strangers = λ name c e. cc (e, none name);
    none = λ name e process. refl;
  };
  quiet = start_quiet script ranks (omega (arith, count));
}

pub reached_start : (ops : List Operation) (script : List (List Statement)) (ranks : ℕ) → IsReached ops script ranks (start_state script ranks)
reached_start ops script ranks = record { order = []; reached = refl }

-- THE END

left_waits : (w : Option WaitView) (rest : List Statement) → is_left (todo_of w rest) ≡ (is_some w || has_statements rest)
left_waits (Some w) rest = refl
left_waits None [] = refl
left_waits None (x ∷ rest) = refl

module _ (ops : List Operation) (script : ScriptView) (rs : List TableRank) (t : Table) (e : AreAtEnd ops script.statements script.ranks rs t) where
  pub there : (p : ℕ) → p < script.ranks → (r : TableRank) × (slice_get rs p ≡ Some r)
  there p l = by_place (slice_get rs p) refl where
    by_place : (o : Option TableRank) → slice_get rs p ≡ o → (r : TableRank) × (slice_get rs p ≡ Some r)
    by_place (Some r) f = (r, f)
    by_place None f = absurd (past rs p (omega (arith, l, e.are.count)) f) where
      past : (xs : List TableRank) (q : ℕ) → q < length xs → slice_get xs q ≡ None → ⊥
      past [] q less g = omega (arith, less)
      past (x ∷ xs) zero less g = cc g
      past (x ∷ xs) (suc q) less g = past xs q (omega (arith, less)) g

  pub waits_same : (p : ℕ) → p < script.ranks → is_waiting_at (slice_get rs p) ≡ is_left (e.end p).todo
  waits_same p l =
      let here = there p l in
      ap is_waiting_at here.1 ∙ sym (ap is_left (e.are.each p here.0 here.1).1.todo ∙ left_waits here.0.waits here.0.todo)

  end_at : (p : ℕ) (v : EndView) (o : Option TableRank) → slice_get rs p ≡ o → option_map end_of_rank (slice_get rs p) ≡ Some v → v ≡ end_of (e.end p)
  end_at p v None f g = cc (f, g)
  end_at p v (Some r) f g = sym (same_Some (end_of_rank r) v (sym (ap (option_map end_of_rank) f) ∙ g)) ∙ end_stands r (e.end p) (e.are.each p r f).1

  pub end_so : (ends : List EndView) → ends ≡ map end_of_rank rs → EndSo ops script ends
  end_so ends is = record {
    end = e.end;
    evaluation = e.evaluation;
    ranks_are = ap length is ∙ length-map rs end_of_rank ∙ e.are.count;
    each = λ p v f. end_at p v (slice_get rs p) refl (sym (slice_get-map end_of_rank rs p) ∙ ap (λ xs. slice_get xs p) (sym is) ∙ f);
  }

-- a report of such ends
pub evaluated : (ops : List Operation) (script : ScriptView) (ends : List RankEnd) (waiting : List ℕ) → EndSo ops script (map end_view ends) → waiting ≡ waiting_among (map end_view ends) → IsEvaluated ops script (map end_text ends) waiting
evaluated ops script ends waiting so waits = record {
  end = so.end;
  evaluation = so.evaluation;
  ranks_are = length-map ends end_text ∙ sym (length-map ends end_view) ∙ so.ranks_are;
  lines = lines-said ends so.end so.each;
  waiting_are = waits ∙ waiting-left (map end_view ends) so.end so.each ∙ ap (waiting_in so.end) so.ranks_are;
}
