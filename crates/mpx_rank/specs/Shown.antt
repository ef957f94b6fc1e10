-- What the code's ranks show.
use Rattle.std.specs.Prelude.{ℕ, List, Option}
use Rattle.std.specs.Option.{option_copied, option_map}
use Rattle.std.specs.BTreeMap.{BTreeMap}
use Rattle.mpx_name.specs.Name.{Name}
use Rattle.mpx_meaning.specs.Standing.{WaitView, looked_up}
use Rattle.mpx_rank.specs.declared.interpreter.Interpreter.{Interpreter}
use Rattle.mpx_rank.specs.declared.interpreter.Wait.{Wait}
use Rattle.mpx_rank.specs.Moves.{RankView}

-- which calls the open requests of words stand for
abbrev pub requests_of : {Call : Type 0} → (Call → Name × ℕ) → BTreeMap (List ℕ) Call → List ℕ → Option (Name × ℕ)
requests_of place requests word = option_map place (looked_up requests word)

-- the call that a rank waits for
abbrev pub place_of : WaitView → Name × ℕ
place_of w = (w.name, w.call)

abbrev pub wait_of : {Call : Type 0} → (Call → Name × ℕ) → Wait Call → WaitView
wait_of place w = record { name = (place w.call).0; call = (place w.call).1; target = option_copied w.target }

abbrev pub rank_of : {C K Call : Type 0} → (Call → Name × ℕ) → Interpreter C K Call → RankView K
rank_of place r = record {
  me = r.me;
  bound = looked_up r.bound;
  requests = requests_of place r.requests;
  todo = r.todo.now;
  waits = option_map (wait_of place) r.waits;
  lines = r.lines.items;
  origins = r.origins.items;
}
