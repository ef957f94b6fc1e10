-- What a call gives a member.
use Rattle.std.specs.Prelude.{◌≡◌, List, ℤ, Result, Ok, Err}
use Rattle.join_core.specs.declared.memory.OutOfMemory.{OutOfMemory}
use Rattle.mpx_post.specs.declared.value.Value.{Value}
use Rattle.mpx_post.specs.declared.value.Value.TheVariants.{Items}
use Rattle.mpx_post.specs.Posts.{type_of}
use Rattle.mpx_post.specs.Rows.{RowView}
use Rattle.mpx_post.specs.Agreement.{first_of}

-- numbers as items of the type that rank 0 names
abbrev pub as_items : RowView → List ℤ → Value
as_items row nums = Items (record { ty = type_of (first_of row); nums = nums })

-- whether a value has items: the others are told without memory
abbrev pub HasItems : Value → Type 0
HasItems (Items items) = Unit {0}
HasItems value = ⊥

-- an answer is the value, or want of memory in the place of one with items
abbrev pub GivesValue : Value → Result Value OutOfMemory → Type 0
GivesValue value (Ok given) = given ≡ value
GivesValue value (Err e) = HasItems value
