-- One rank that goes its own way, by answers that are given to it.
use Rattle.std.specs.Prelude.{◌≡◌, ℕ, List, Some}
use Rattle.mpx_num.specs.declared.own.Operation.{Operation}
use Rattle.mpx_value.specs.Histories.{Results}
use Rattle.mpx_meaning.specs.Ranks.{Local, step}
use Rattle.mpx_meaning.specs.Evaluation.{Script, State, known, start_state}

-- no move, or some moves by these answers, lead the rank from the one to the other
pub data Goes (ops : List Operation) (known : Results) : Local → Local → Type 0 where
  stays : {s : Local} → Goes ops known s s
  moves : {s t u : Local} → Goes ops known s t → step ops known t ≡ Some u → Goes ops known s u

-- from before its statements a rank comes there alone, by the answers that are given to it where the evaluation ends
abbrev pub GoesTo : List Operation → Script → (ranks : ℕ) → (end : State) → (p : ℕ) → Local → Type 0
GoesTo ops script ranks end p s = Goes ops (known ops ranks end p) (start_state script ranks p) s
