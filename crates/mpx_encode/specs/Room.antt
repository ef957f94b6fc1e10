-- Room for spellings.
use Rattle.std.specs.Prelude.{ℕ, ◌-◌, nat_le, Option, Some, None, cond}

-- what is left of so much room behind so many bytes, where they fit
unfoldable pub room_left : (len room : ℕ) → Option ℕ
room_left len room = cond (nat_le len room) (Some (room - len)) None
