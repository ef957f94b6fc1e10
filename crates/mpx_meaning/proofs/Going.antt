-- What a rank that goes its own way has in common with the evaluation.
use Rattle.std.proofs.Common.{◌≡◌, ℕ, List, [], refl, ◌∙◌, inl}
use Rattle.mpx_num.specs.declared.own.Operation.{Operation}
use Rattle.mpx_statement.specs.declared.statement.Statement.{Statement}
use Rattle.mpx_value.specs.Histories.{Results}
use Rattle.mpx_meaning.specs.Ranks.{Local}
use Rattle.mpx_meaning.specs.Evaluation.{State, start_state, bound_at_start, known, statements_of, IsEvaluation, IsPrefixOf}
use Rattle.mpx_meaning.specs.Going.{Goes, stays, moves}
use Rattle.mpx_meaning.specs.Told.{CarriesOut, none}
use Rattle.mpx_meaning.proofs.Steps.{step-keeps}
use Rattle.mpx_meaning.proofs.Ways.{Way, way-adds, way-step}
use Rattle.mpx_meaning.proofs.Ahead.{finished, on_way-reached}
use Rattle.mpx_meaning.proofs.Passing.{step-carries_out}
use Rattle.mpx_meaning.proofs.Tells.{AreThere, start-there, step_there}

-- some moves, and then others
pub goes_then : (ops : List Operation) (r : Results) (s t u : Local) → Goes ops r s t → Goes ops r t u → Goes ops r s u
goes_then ops r s t u g stays = g
goes_then ops r s t u g (moves {t = v} h e) = moves (goes_then ops r s t v g h) e

module _ (ops : List Operation) (script : List (List Statement)) (ranks : ℕ) (end : State) (e : IsEvaluation ops script ranks end) (p : ℕ) where
  -- wherever it has come to, there is a way to where it ends
  pub goes-way : (s : Local) → Goes ops (known ops ranks end p) (start_state script ranks p) s → Way ops (known ops ranks end p) s (end p)
  goes-way s stays = (on_way-reached ops script ranks end (start_state script ranks) e (record { order = []; reached = refl })).each p
  goes-way s (moves {t = t} g f) = way-step ops (known ops ranks end p) t s (end p) (goes-way t g) (e.maximal p) f

  pub goes-adds : (s : Local) → Goes ops (known ops ranks end p) (start_state script ranks p) s → IsPrefixOf s.made (end p).made × IsPrefixOf s.lines (end p).lines
  goes-adds s g = way-adds ops (known ops ranks end p) s (end p) (goes-way s g)

  pub goes-whole : (s : Local) → Goes ops (known ops ranks end p) (start_state script ranks p) s → s.todo ≡ [] → s ≡ end p
  goes-whole s g = finished ops (known ops ranks end p) s (end p) (goes-way s g)

module _ (ops : List Operation) (script : List (List Statement)) (ranks : ℕ) (end : State) (p : ℕ) where
  pub goes-carries_out : (s : Local) → Goes ops (known ops ranks end p) (start_state script ranks p) s → CarriesOut ops (known ops ranks end p) (bound_at_start ranks) (statements_of script p) s
  goes-carries_out s stays = inl (record { passed = []; left = statements_of script p; all = refl; todo = refl; passes = none })
  goes-carries_out s (moves {t = t} g f) = step-carries_out ops (known ops ranks end p) (bound_at_start ranks) (statements_of script p) t s (goes-carries_out t g) f

  pub goes-there : (s : Local) → Goes ops (known ops ranks end p) (start_state script ranks p) s → AreThere ops ranks end p s.bound
  goes-there s stays = start-there ops ranks end p
  goes-there s (moves {t = t} g f) = step_there ops ranks end p t (goes-there t g) s f
