-- How many calls each process has harvested, and the least number of the members.
use Rattle.std.specs.Prelude.{ℕ, min, List, [], ◌∷◌, Option, unwrap_or}
use Rattle.std.specs.List.{fold}
use Rattle.std.specs.Ordering.{nat_cmp}
use Rattle.std.specs.FinMap.{FinMap, get}
use Rattle.std.specs.declared.cmp.Ord as ord
use Rattle.std.specs.declared.cmp.PartialEq as partial_eq
use Rattle.std.specs.declared.cmp.PartialOrd as partial_ord
use Rattle.join_core.specs.declared.max.Max.{Max}
use Rattle.join_nest.specs.Seen.{keyed_view}
use Rattle.join_nest.specs.declared.maps.Keyed.{Keyed}

-- from processes
abbrev pub OfProcesses : Type 0 → Type 0
OfProcesses V = FinMap nat_cmp V

module _ {O : ord.Ghosts ℕ} {E : partial_eq.Ghosts ℕ} {P : partial_ord.Ghosts ℕ} where
  -- a version vector
  abbrev pub view_of_numbers : Keyed ℕ Max O E P → OfProcesses ℕ
  view_of_numbers m = keyed_view nat_cmp (λ n. n.0) m.entries.items

-- the number at the key: 0 where there is no entry
abbrev pub or_zero : Option ℕ → ℕ
or_zero number = unwrap_or number 0

-- how many calls the process has harvested: none where nothing is known of it
abbrev pub front_in : OfProcesses ℕ → (process : ℕ) → ℕ
front_in fronts process = or_zero (get fronts process)

-- the least of these
abbrev pub minimum : List ℕ → ℕ
minimum [] = 0
minimum (n ∷ ns) = fold min n ns
