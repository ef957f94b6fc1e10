-- What a prune leaves of a node, and that a context with a floor may be killed.
use Rattle.std.proofs.Common.{◌≡◌, ℕ, Bool, true, false, cond, map, Option, Some, None, sym, ap}
use Rattle.std.specs.Prelude.{◌||◌, is_some, Result, Ok, Err}
use Rattle.std.specs.Option.{option_map}
use Rattle.mpx_birth.specs.Births.{BirthView}
use Rattle.mpx_name.specs.Name.{Name}
use Rattle.mpx_board.specs.declared.errors.KillError.{KillError}
use Rattle.mpx_board.specs.declared.errors.KillError.TheVariants as K
use Rattle.mpx_board.specs.declared.errors.PruneError.{PruneError}
use Rattle.mpx_board.specs.Boards.{Look, Dropped, Dead, floor_on, minimum, only, told}
use Rattle.mpx_board.specs.Changes.{killed, pruned, pruned_on}
use Rattle.mpx_node.specs.Nodes.{NodeView, is_past_free, learn, learn_some, prune_part, results_on}

module _ (node : NodeView) (name : Name) (number : ℕ) where
  abbrev live_part : Bool → Look
  live_part past = cond past (only (Dead name)) (only (Dropped name number))

  abbrev part_by : (dead past : Bool) → Option Look
  part_by dead past = cond dead None (Some (live_part past))

  pub prunes_nothing : (node.board.contexts name).dead ≡ true → node ≡ learn_some (prune_part node name number) node
  prunes_nothing dead = ap (λ d. learn_some (part_by d (is_past_free (results_on node name) number)) node) (sym dead)

  pub prunes_dead : (node.board.contexts name).dead ≡ false → is_past_free (results_on node name) number ≡ true → learn (only (Dead name)) node ≡ learn_some (prune_part node name number) node
  prunes_dead alive past = λ i. learn_some (part_by (sym alive i) (sym past i)) node

  pub prunes_dropped : (node.board.contexts name).dead ≡ false → is_past_free (results_on node name) number ≡ false → learn (only (Dropped name number)) node ≡ learn_some (prune_part node name number) node
  prunes_dropped alive not_past = λ i. learn_some (part_by (sym alive i) (sym not_past i)) node

  -- of a context that isn't dead the answer goes by the floor
  pub pruned_alive : (node.board.contexts name).dead ≡ false → pruned (floor_on node.board name) number ≡ pruned_on node.board name number
  pruned_alive alive = ap (λ d. let r : Result (Unit {0}) PruneError = cond d (Ok tt) (pruned (floor_on node.board name) number) in r) (sym alive)

  pub pruned_gone : (node.board.contexts name).dead ≡ true → (let r : Result (Unit {0}) PruneError = Ok tt in r) ≡ pruned_on node.board name number
  pruned_gone dead = ap (λ d. let r : Result (Unit {0}) PruneError = cond d (Ok tt) (pruned (floor_on node.board name) number) in r) (sym dead)

kill_by : (dead : Bool) (o : Option BirthView) (f : BirthView → ℕ) (floor : ℕ) (e : KillError) → Some floor ≡ option_map f o → (let r : Result (Unit {0}) KillError = Err e in r) ≡ cond (dead || is_some o) (Ok tt) (Err K.NoBirth) → ⊥
kill_by true o f floor e some k = cc k
kill_by false (Some birth) f floor e some k = cc k
kill_by false None f floor e some k = cc some

-- who has a floor is killed
pub kill_passes : (b : Look) (name : Name) (floor : ℕ) (e : KillError) → Some floor ≡ floor_on b name → (let r : Result (Unit {0}) KillError = Err e in r) ≡ killed (b.contexts name) → ⊥
kill_passes b name floor e some k = kill_by (b.contexts name).dead (told (b.contexts name).birth) (λ (birth : BirthView). minimum (map (b.contexts name).fronts birth.members)) floor e some k
