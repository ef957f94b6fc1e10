-- Calls of a desk, whose drafts are written by what the rank was given.
use Rattle.std.proofs.Common.{◌≡◌, ℕ, ℤ, List, [], Result, ap₂, subst, subst₂, inr}
use Rattle.mpx_name.specs.Name.{Name}
use Rattle.mpx_num.specs.declared.own.Operation.{Operation}
use Rattle.mpx_post.specs.declared.draft.Draft.{Draft}
use Rattle.mpx_post.specs.declared.draft.PostError.{PostError}
use Rattle.mpx_node.specs.declared.finished.Finished.{Finished}
use Rattle.mpx_node.specs.Nodes.{NodeView}
use Rattle.mpx_request.specs.declared.answers.TurnError.{TurnError}
use Rattle.mpx_request.specs.declared.request.Request.{Request}
use Rattle.mpx_comm.specs.declared.answers.CallError.{CallError as DeskError}
use Rattle.mpx_comm.specs.declared.desk.Desk.{Desk}
use Rattle.mpx_comm.specs.Desks.{DeskAsks, DeskCalls, DeskCallsGathered}
use Rattle.mpx_program_rank.specs.declared.call_error.CallError.{CallError}
use Rattle.mpx_program_rank.specs.Gives.{Gives, GivesGathered, IsStarted, Starts}

-- equal functions of equal values
pub on : {A B : Type 0} (f h : A → B) (a b : A) → f ≡ h → a ≡ b → f a ≡ h b
on f h a b p q = ap₂ (λ k x. k x) p q

-- a call that blocks
pub called : {H : Type 0} {g : _} {A : Type 0} (goes_by : List Operation → List Operation) (lent : List Operation) (node : H → NodeView) (turned : H → ℕ → H → Type 0) (refused : H → TurnError → H → Type 0) (name : Name) (draft wanted : Draft) (turns : ℕ) (is_read : Result Finished DeskError → Result A CallError → Type 0) (answer : Result Finished DeskError) (result : Result A CallError) (old new : Desk H g)
    → lent ≡ [] → draft ≡ wanted → DeskCalls (goes_by lent) node turned refused name draft turns answer old new → is_read answer result
    → Gives (goes_by []) node turned refused name wanted turns is_read result old new
called goes_by lent node turned refused name draft wanted turns is_read answer result old new none same calls is =
    inr (answer, subst₂ (λ l d. DeskCalls (goes_by l) node turned refused name d turns answer old new) none same calls, is)

-- one that doesn't, and the turn after it
pub started : {H : Type 0} {g : _} {A : Type 0} (goes_by : List Operation → List Operation) (lent : List Operation) (node : H → NodeView) (turned : H → ℕ → H → Type 0) (refused : H → TurnError → H → Type 0) (name : Name) (draft wanted : Draft) (request_of : A → Request) (posted : Result Request PostError) (result : Result A CallError) (old between new : Desk H g)
    → lent ≡ [] → draft ≡ wanted → DeskAsks (goes_by lent) node name draft posted old between → turned old.host 0 between.host → IsStarted turned refused request_of posted result between new
    → Starts (goes_by []) node turned refused name wanted request_of result old new
started goes_by lent node turned refused name draft wanted request_of posted result old between new none same asks no_turn is =
    inr (posted, between, subst₂ (λ l d. DeskAsks (goes_by l) node name d posted old between) none same asks, no_turn, is)

-- `create_group`
pub gathered : {H : Type 0} {g : _} {A : Type 0} (goes_by : List Operation → List Operation) (lent : List Operation) (node : H → NodeView) (turned : H → ℕ → H → Type 0) (refused : H → TurnError → H → Type 0) (parent : Name) (tag wanted : ℤ) (ranks all : List ℤ) (turns : ℕ) (is_read : Result Finished DeskError → Result A CallError → Type 0) (answer : Result Finished DeskError) (result : Result A CallError) (old new : Desk H g)
    → lent ≡ [] → tag ≡ wanted → ranks ≡ all → DeskCallsGathered (goes_by lent) node turned refused parent tag ranks turns answer old new → is_read answer result
    → GivesGathered (goes_by []) node turned refused parent wanted all turns is_read result old new
gathered goes_by lent node turned refused parent tag wanted ranks all turns is_read answer result old new none same equal calls is =
    inr (
      answer,
      subst (λ l. DeskCallsGathered (goes_by l) node turned refused parent wanted all turns answer old new) none
          (subst₂ (λ t rs. DeskCallsGathered (goes_by lent) node turned refused parent t rs turns answer old new) same equal calls),
      is,
    )
