-- What the lines so far settle, and one line more.
use Rattle.std.proofs.Common.{◌≡◌, ℕ, ◌+◌, ◌-◌, ◌<◌, true, false, ◌&&◌, cond, ltb, leb, List, [], ◌∷◌, ◌++◌, length, get_or, map, Option, Some, None, IsSomeAnd, sum_by, refl, subst, sym, ap, ◌∙◌, arith}
use Rattle.std.specs.List.{filter_map, range_with_len}
use Rattle.std.proofs.lemmas.List.Elements.{filter_map-append}
use Rattle.std.proofs.lemmas.List.FromFn.{fill_by_all, get_or-map-range_with_len, length-map-range_with_len}
use Rattle.std.proofs.lemmas.List.Sums.{sum_by_push}
use Rattle.mpx_num.specs.declared.own.Operation.{Operation}
use Rattle.mpx_script.specs.Words.{counts}
use Rattle.mpx_script.specs.Syntax.{directive_in, statements_in}
use Rattle.mpx_script.specs.Meanings.{line_gives}
use Rattle.mpx_script.specs.ScriptView.{ScriptView, Adds}
use Rattle.mpx_script.specs.Reading.{ranks_told, script_of}
use Rattle.mpx_script.specs.Sentences.{IsAssignment}
use Rattle.mpx_script.specs.PartialScripts.{IsSettled}
use Rattle.mpx_script.specs.declared.script_line.Assignment.{Assignment}
use Rattle.mpx_script.specs.declared.reader.PartialScript.{PartialScript}

-- what one more line gives a rank
one_given : (ops : List Operation) (rank n : ℕ) (ws : List (List ℕ)) (assignment : Assignment) → rank < n → IsAssignment ops n (directive_in ws) assignment → filter_map (λ line. line_gives ops rank (directive_in line)) (ws ∷ []) ≡ cond (leb assignment.from rank && ltb rank assignment.to) (assignment.statement ∷ []) []
one_given ops rank n ws assignment h is =
    elim (leb assignment.from rank && ltb rank assignment.to) as (λ v. (leb assignment.from rank && ltb rank assignment.to) ≡ v → filter_map (λ line. line_gives ops rank (directive_in line)) (ws ∷ []) ≡ cond v (assignment.statement ∷ []) [])
    [ true ↦ λ e. rw (is.named rank h ∙ e, is.statement) | false ↦ λ e. rw (is.named rank h ∙ e) ] refl

-- the script of one line more
script_more : (ops : List Operation) (opening : List (List ℕ)) (further : List (List (List ℕ))) (ws : List (List ℕ)) (old new : ScriptView) (assignment : Assignment) → old ≡ script_of ops (opening ∷ further) → new.ranks ≡ old.ranks → Adds assignment.from assignment.to assignment.statement old.statements new.statements → IsAssignment ops old.ranks (directive_in ws) assignment → new ≡ script_of ops (opening ∷ (further ++ ws ∷ []))
script_more ops opening further ws old new assignment is ranks adds gives =
    let n : ℕ = ranks_told opening in
    let same : old.ranks ≡ n = ap (λ s. s.ranks) is in
    let lists_are : old.statements ≡ map (λ rank. filter_map (λ line. line_gives ops rank (directive_in line)) further) (range_with_len 0 n) = ap (λ s. s.statements) is in
    let long : length old.statements ≡ n = ap length lists_are ∙ length-map-range_with_len (λ rank. filter_map (λ line. line_gives ops rank (directive_in line)) further) 0 n in
    let filled : new.statements ≡ map (λ rank. filter_map (λ line. line_gives ops rank (directive_in line)) (further ++ ws ∷ [])) (range_with_len 0 n) =
    fill_by_all (λ rank. filter_map (λ line. line_gives ops rank (directive_in line)) (further ++ ws ∷ [])) new.statements n [] (adds.len ∙ long) (λ rank h.
    let within : rank < length old.statements = omega arith in
    let before : get_or old.statements rank [] ≡ filter_map (λ line. line_gives ops rank (directive_in line)) further =
    ap (λ xs. get_or xs rank []) lists_are ∙ get_or-map-range_with_len (λ k. filter_map (λ line. line_gives ops k (directive_in line)) further) 0 n rank rank [] h (omega arith) in
    let inside : rank < old.ranks = omega arith in
    adds.at rank within ∙ ap (λ xs. xs ++ cond (leb assignment.from rank && ltb rank assignment.to) (assignment.statement ∷ []) []) before
    ∙ ap (λ xs. filter_map (λ line. line_gives ops rank (directive_in line)) further ++ xs) (sym (one_given ops rank old.ranks ws assignment inside gives))
    ∙ sym (filter_map-append (λ line. line_gives ops rank (directive_in line)) further (ws ∷ []))) in
    let ranks_are : new.ranks ≡ n = ranks ∙ same in
    λ i. record { ranks = ranks_are i; statements = filled i }

partial_more : (ops : List Operation) (before : List (List (List ℕ))) (partial : PartialScript) (ws : List (List ℕ)) (old new : ScriptView) (assignment : Assignment) → IsSettled ops before partial → partial.script ≡ Some old → counts ws ≡ true → new.ranks ≡ old.ranks → Adds assignment.from assignment.to assignment.statement old.statements new.statements → IsAssignment ops old.ranks (directive_in ws) assignment → IsSettled ops (before ++ cond (counts ws) (ws ∷ []) []) (record { script = Some new; statements = partial.statements + (assignment.to - assignment.from) })
partial_more ops [] partial ws old new assignment settled there counted ranks adds gives = cc (settled.script, there)
partial_more ops (opening ∷ further) partial ws old new assignment settled there counted ranks adds gives =
    let old_is : old ≡ script_of ops (opening ∷ further) = cc (settled.script, there) in
    let n : old.ranks ≡ ranks_told opening = ap (λ s. s.ranks) old_is in
    let one : assignment.to - assignment.from ≡ statements_in (ranks_told opening) (directive_in ws) = sym gives.count ∙ ap (λ k. statements_in k (directive_in ws)) n in
    rw counted (record {
      script = ap Some (script_more ops opening further ws old new assignment old_is ranks adds gives);
      statements = ap (λ k. k + (assignment.to - assignment.from)) settled.statements ∙ ap (λ k. sum_by (λ line. statements_in (ranks_told opening) (directive_in line)) further + k) one ∙ sym (sum_by_push (λ line. statements_in (ranks_told opening) (directive_in line)) further ws);
    })

after_script : (ops : List Operation) (before : List (List (List ℕ))) (partial : PartialScript) (script : Option ScriptView) (ws : List (List ℕ)) (old : ScriptView) (assignment : Assignment) → IsSettled ops before partial → partial.script ≡ Some old → counts ws ≡ true → IsSomeAnd script (λ new. (new.ranks ≡ old.ranks) × Adds assignment.from assignment.to assignment.statement old.statements new.statements) → IsAssignment ops old.ranks (directive_in ws) assignment → IsSettled ops (before ++ cond (counts ws) (ws ∷ []) []) (record { script = script; statements = partial.statements + (assignment.to - assignment.from) })
after_script ops before partial None ws old assignment settled there counted added gives = absurd added
after_script ops before partial (Some new) ws old assignment settled there counted added gives = partial_more ops before partial ws old new assignment settled there counted added.0 added.1 gives

-- a partial of so many statements more, which has the script of one line more
pub partial_after : (ops : List Operation) (before : List (List (List ℕ))) (partial after : PartialScript) (ws : List (List ℕ)) (old : ScriptView) (assignment : Assignment) → IsSettled ops before partial → partial.script ≡ Some old → counts ws ≡ true → after.statements ≡ partial.statements + (assignment.to - assignment.from) → IsSomeAnd after.script (λ new. (new.ranks ≡ old.ranks) × Adds assignment.from assignment.to assignment.statement old.statements new.statements) → IsAssignment ops old.ranks (directive_in ws) assignment → IsSettled ops (before ++ cond (counts ws) (ws ∷ []) []) after
partial_after ops before partial after ws old assignment settled there counted count added gives =
    subst (λ n. IsSettled ops (before ++ cond (counts ws) (ws ∷ []) []) (record { script = after.script; statements = n })) (sym count)
    (after_script ops before partial after.script ws old assignment settled there counted added gives)
