-- What answers give.
use Rattle.std.proofs.Common.{◌≡◌, Ok, Err, Result, subst}
use Rattle.std.specs.Result.{IfOk}
use Rattle.join_core.specs.declared.memory.OutOfMemory.{OutOfMemory}
use Rattle.mpx_post.specs.declared.value.Value.{Value}
use Rattle.mpx_post.specs.Values.{GivesValue, HasItems}

with_items : (answer : Result Value OutOfMemory) (told : Value) → HasItems told → IfOk answer (λ v. v ≡ told) → GivesValue told answer
with_items (Ok given) told has h = h
with_items (Err e) told has h = has

-- an answer of items gives the value that they are
pub gives_items : (answer : Result Value OutOfMemory) (told value : Value) → told ≡ value → IfOk answer (λ v. v ≡ told) → HasItems told → GivesValue value answer
gives_items answer told value e h has = subst (λ (v : Value). GivesValue v answer) e (with_items answer told has h)
