-- Ways of one rank from where it stands to where it gets.
use Rattle.std.proofs.Common.{◌≡◌, ℕ, List, Some, None, refl, sym, ap, ◌∙◌, subst}
use Rattle.std.proofs.lemmas.Option.{option_and_then_some, same_Some}
use Rattle.mpx_num.specs.declared.own.Operation.{Operation}
use Rattle.mpx_name.specs.Name.{Name}
use Rattle.mpx_value.specs.Histories.{Results, Within}
use Rattle.mpx_meaning.specs.Ranks.{Local, Next, End, Asks, answers, done, next, step_by, step}
use Rattle.mpx_meaning.specs.Evaluation.{IsPrefixOf}
use Rattle.mpx_value.proofs.Growth.{all_of-grows, then_some}
use Rattle.mpx_meaning.proofs.Fronts.{prefix_itself, prefix_trans}

-- by these outcomes a rank comes from the one to the other
pub data Way (ops : List Operation) (r : Results) : Local → Local → Type 0 where
  here : {s : Local} → Way ops r s s
  on : {s t u : Local} → step ops r s ≡ Some t → Way ops r t u → Way ops r s u

-- who knows more makes the same step
step_by-grows : (r more : Results) → Within r more → (s : Local) (n : Next) (t : Local) → step_by r s n ≡ Some t → step_by more s n ≡ Some t
step_by-grows r more w s End t e = e
step_by-grows r more w s (Asks calls act) t e =
    option_and_then_some _ (answers r calls) t e (λ outcomes eo f.
    then_some _ (answers more calls) outcomes t (all_of-grows (λ (c : Name × ℕ). r c.0 c.1) (λ (c : Name × ℕ). more c.0 c.1) (λ c outcome. w c.0 c.1 outcome) calls outcomes eo) f)

pub step-grows : (ops : List Operation) (r more : Results) → Within r more → (s t : Local) → step ops r s ≡ Some t → step ops more s ≡ Some t
step-grows ops r more w s t = step_by-grows r more w s (next ops s) t

-- a step only adds posts and lines
pub step_by-adds : (r : Results) (s : Local) (n : Next) (t : Local) → step_by r s n ≡ Some t → IsPrefixOf s.made t.made × IsPrefixOf s.lines t.lines
step_by-adds r s End t e = cc e
step_by-adds r s (Asks calls act) t e =
    option_and_then_some _ (answers r calls) t e (λ outcomes eo f.
    let same : done s (act outcomes) ≡ t = same_Some (done s (act outcomes)) t f in
    (((act outcomes).made, ap (λ (u : Local). u.made) same), ((act outcomes).lines, ap (λ (u : Local). u.lines) same)))

pub way-adds : (ops : List Operation) (r : Results) (s u : Local) → Way ops r s u → IsPrefixOf s.made u.made × IsPrefixOf s.lines u.lines
way-adds ops r s u here = (prefix_itself s.made, prefix_itself s.lines)
way-adds ops r s u (on {t = t} e w) =
    let one = step_by-adds r s (next ops s) t e in
    let rest = way-adds ops r t u w in
    (prefix_trans s.made t.made u.made one.0 rest.0, prefix_trans s.lines t.lines u.lines one.1 rest.1)

-- a step leads on towards the end
pub way-step : (ops : List Operation) (r : Results) (s t u : Local) → Way ops r s u → step ops r u ≡ None → step ops r s ≡ Some t → Way ops r t u
way-step ops r s t u here stuck e = cc (stuck, e)
way-step ops r s t u (on {t = v} f w) stuck e = subst (λ x. Way ops r x u) (same_Some v t (sym f ∙ e)) w

-- who is stuck has come to the end
pub way-stuck : (ops : List Operation) (r : Results) (s u : Local) → Way ops r s u → step ops r s ≡ None → s ≡ u
way-stuck ops r s u here stuck = refl
way-stuck ops r s u (on f w) stuck = cc (stuck, f)
