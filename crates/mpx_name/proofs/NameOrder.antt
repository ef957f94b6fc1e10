-- A name stands before its extensions.
use Rattle.std.proofs.Common.{◌≡◌, List, [], ◌∷◌, ◌++◌, reverse, refl, ap, ◌∙◌}
use Rattle.std.specs.declared.cmp.Ordering.{Ordering}
use Rattle.std.specs.declared.cmp.Ordering.TheVariants.{Less}
use Rattle.std.specs.Cmp.{IsTotalOrder, tied_itself}
use Rattle.std.specs.Cmp.Lexicographic.{slice_cmp}
use Rattle.std.proofs.lemmas.List.{reverse-append}
use Rattle.mpx_name.specs.declared.steps.Step.{Step}
use Rattle.mpx_name.specs.Order.{step_cmp, step_total, name_cmp}

slice_cmp-extension : {K : Type 0} (R : K → K → Ordering) → IsTotalOrder R → (xs : List K) (y : K) (ys : List K) → slice_cmp R xs (xs ++ y ∷ ys) ≡ Less
slice_cmp-extension R o [] y ys = refl
slice_cmp-extension R o (x ∷ xs) y ys = rw (tied_itself o x) (slice_cmp-extension R o xs y ys)

pub name_cmp-extension : (name : List Step) (step : Step) → name_cmp name (step ∷ name) ≡ Less
name_cmp-extension name step =
    ap (slice_cmp step_cmp (reverse name)) (reverse-append (step ∷ []) name)
    ∙ slice_cmp-extension step_cmp step_total (reverse name) step []
