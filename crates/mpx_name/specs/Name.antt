-- Names as lists of steps, the newest first.
use Rattle.std.specs.Prelude.{◌≢◌, ◌<◌, ◌≤◌, ◌-◌, ◌^◌, Bool, true, false, List, [], ◌∷◌, length, All, Option, Some, None}
use Rattle.std.specs.Ordering.{eq_by_cmp}
use Rattle.mpx_group.specs.Group.{IsGroup}
use Rattle.mpx_name.specs.declared.steps.Step.{Step}
use Rattle.mpx_name.specs.declared.steps.Step.TheVariants.{Child, Gathering}
use Rattle.mpx_name.specs.Order.{name_cmp}

-- names of contexts, the newest step first
abbrev pub Name : Type 0
Name = List Step

abbrev pub same_name : Name → Name → Bool
same_name = eq_by_cmp name_cmp

-- numbers of calls, colours and tags within their limits; a gathering has members, and they are a group
abbrev pub IsStep : Step → Type 0
IsStep (Child call colour) = (call < 2 ^ 32 - 1) × (colour < 2 ^ 31)
IsStep (Gathering tag members) = (tag < 2 ^ 15) × (members ≢ []) × IsGroup members

-- at most eight steps, each within its limits
pub record IsName (name : List Step) : Type 0 where
  pub depth : length name ≤ 8
  pub steps : All IsStep name

-- whether the newest step is a gathering
abbrev pub is_gathering : List Step → Bool
is_gathering [] = false
is_gathering (Child call colour ∷ parent) = false
is_gathering (Gathering tag members ∷ parent) = true

-- the name without its newest step; world has no parent
abbrev pub parent_of : List Step → Option (List Step)
parent_of [] = None
parent_of (step ∷ parent) = Some parent
