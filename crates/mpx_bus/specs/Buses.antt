-- The queue of a bus.
use Rattle.std.specs.Prelude.{ℕ}
use Rattle.atomic_table.specs.Seated.{TableId}
use Rattle.crossbeam_queue.specs.Passes.{ruled_capacity}
use Rattle.mpx_bus.specs.declared.port.Bus.{Bus}

-- which queue it is: a port has a place at one
abbrev pub table_of : Bus → TableId
table_of bus = bus.queue.table.shared.table_id

-- how many frames it has room for
abbrev pub room_of : Bus → ℕ
room_of bus = ruled_capacity bus.queue
