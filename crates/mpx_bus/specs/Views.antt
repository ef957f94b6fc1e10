-- What passes know, before and after each kind of step.
use Rattle.std.specs.Prelude.{ℕ, List, [], ◌∷◌, ◌++◌, true, false}
use Rattle.atomic_table.specs.Seated.{TableId}
use Rattle.mpx_bus.specs.declared.act.Act.{Act}
use Rattle.mpx_bus.specs.declared.act.Act.TheVariants as A
use Rattle.mpx_bus.specs.declared.act.Setup.{Setup}
use Rattle.mpx_bus.specs.declared.act.Seen.{Seen}
use Rattle.mpx_bus.specs.declared.act.View.{View}

abbrev pub no_setup : Setup
no_setup = record { ranks = 0; size = 0; operations = []; planned = false; plan = [] }

-- no queue
abbrev pub no_table : TableId
no_table = record { words = 0; slots = 0; views_name = 0; atom = 0; block = 0; offset = 0; slot_names = [] }

-- the first pass, which makes the others
abbrev pub maker : View
maker = record { makes = true; made = 0; named = false; setup = no_setup; seats = [] }

abbrev pub maker_of : Setup → ℕ → View
maker_of setup made = record { makes = true; made = made; named = true; setup = setup; seats = [] }

-- a pass that stands for no process
abbrev pub nobody : View
nobody = record { makes = false; made = 0; named = false; setup = no_setup; seats = [] }

-- a pass that stands for these
abbrev pub standing : Setup → List Seen → View
standing setup seats = record { makes = false; made = 0; named = true; setup = setup; seats = seats }

abbrev pub seen_as : ℕ → List Act → Seen
seen_as me journal = record { me = me; journal = journal }

abbrev pub opened : Setup → ℕ → View
opened setup me = standing setup (seen_as me [] ∷ [])

abbrev pub first_seat : List Seen → Seen
first_seat [] = seen_as 0 []
first_seat (s ∷ ss) = s

-- the process for which a port's pass stands
abbrev pub seat_of : View → Seen
seat_of v = first_seat v.seats

abbrev pub standing_as : View → List Act → View
standing_as v journal = standing v.setup (seen_as (seat_of v).me journal ∷ [])

-- the process has published its journal, and pushed a frame
abbrev pub after_push : List Act → List ℕ → View → View
after_push journal bytes v = standing_as v (journal ++ A.Pushed bytes ∷ [])

-- the process has published its journal, and popped a frame
abbrev pub after_pop : List Act → List ℕ → View → View
after_pop journal bytes v = standing_as v (journal ++ A.Popped bytes ∷ [])

abbrev pub met : View → View → View
met v w = standing v.setup (v.seats ++ w.seats)
