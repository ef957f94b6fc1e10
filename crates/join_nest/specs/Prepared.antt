-- A join with a map, made at that map's keys before it is put in.
use Rattle.std.specs.Prelude.{List, map, Option, Some, None}
use Rattle.std.specs.Option.{option_map}
use Rattle.std.specs.declared.cmp.Ordering.{Ordering}
use Rattle.std.specs.FinMap.{find}
use Rattle.join_core.specs.Joins.{Joining}

module _ {V : Type 0} where
  -- the value, joined with the old one, if there is one
  abbrev pub joined_to : Joining V → V → Option V → V
  joined_to j v None = v
  joined_to j v (Some old) = j.join v old

  -- what is made where the other map has the one and the map the old one: nothing where the other has nothing
  abbrev pub joined_there : Joining V → Option V → Option V → Option V
  joined_there j None old = None
  joined_there j (Some v) old = Some (joined_to j v old)

  -- the made one, or where there is none the old one
  abbrev pub put_over : Option V → Option V → Option V
  put_over None old = old
  put_over (Some v) old = Some v

-- each of the others, joined with what stands at its key in the entries
abbrev pub entries_there : {K J V : Type 0} (R : K → K → Ordering) → (J → V) → Joining V → List (K × J) → List (K × J) → List (K × V)
entries_there R view j others es = map (λ e. (e.0, joined_to j (view e.1) (option_map view (find R e.0 es)))) others
