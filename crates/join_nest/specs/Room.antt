-- Room for what is put in without memory.
use Rattle.std.specs.Prelude.{◌+◌, ◌≤◌}
use Rattle.std.specs.Vec.{vec_len, vec_capacity}
use Rattle.std.specs.declared.cmp.Ord as ord
use Rattle.std.specs.declared.cmp.PartialEq as partial_eq
use Rattle.std.specs.declared.cmp.PartialOrd as partial_ord
use Rattle.join_nest.specs.declared.maps.Keyed.{Keyed}

-- the map has room for all that was made, were it new
abbrev pub HasRoom : {K J : Type 0} {O : ord.Ghosts K} {E : partial_eq.Ghosts K} {P : partial_ord.Ghosts K} → Keyed K J O E P → Keyed K J O E P → Type 0
HasRoom m made = vec_len m.entries + vec_len made.entries ≤ vec_capacity m.entries
