-- How many frames were pushed and popped.
use Rattle.std.specs.Prelude.{ℕ, ◌+◌, List, [], ◌∷◌}
use Rattle.mpx_bus.specs.declared.act.Act.{Act}
use Rattle.mpx_bus.specs.declared.act.Act.TheVariants as A
use Rattle.mpx_bus.specs.declared.act.Seen.{Seen}
use Rattle.mpx_bus.specs.declared.act.View.{View}

-- as many as each of these counts, together
abbrev pub total : {A : Type 0} → (A → ℕ) → List A → ℕ
total f [] = 0
total f (x ∷ xs) = f x + total f xs

-- one by a push, none by any other act
abbrev pub pushes_by : Act → ℕ
pushes_by (A.Pushed bytes) = 1
pushes_by a = 0

abbrev pub pops_by : Act → ℕ
pops_by (A.Popped bytes) = 1
pops_by a = 0

-- how many these acts push, and pop
abbrev pub pushes_in : List Act → ℕ
pushes_in acts = total pushes_by acts

abbrev pub pops_in : List Act → ℕ
pops_in acts = total pops_by acts

-- how many the processes did for which a pass stands
abbrev pub pushed_by : View → ℕ
pushed_by v = total (λ (s : Seen). pushes_in s.journal) v.seats

abbrev pub popped_by : View → ℕ
popped_by v = total (λ (s : Seen). pops_in s.journal) v.seats

-- and how many all did
abbrev pub all_pushed : List View → ℕ
all_pushed views = total pushed_by views

abbrev pub all_popped : List View → ℕ
all_popped views = total popped_by views
