-- What those say of themselves who carry a rank's posts.
use Rattle.std.specs.Prelude.{◌≡◌, ℕ, Bool, is_some, Option, Some, None, Result, Ok, Err}
use Rattle.std.specs.Option.{option_map}
use Rattle.mpx_name.specs.Name.{Name}
use Rattle.mpx_birth.specs.Births.{BirthView}
use Rattle.mpx_post.specs.declared.draft.PostError.{PostError}
use Rattle.mpx_value.specs.declared.outcomes.Outcome.{Outcome}
use Rattle.mpx_value.specs.Histories.{Answer, Results}
use Rattle.mpx_statement.specs.declared.statement.Posting.{Posting}
use Rattle.mpx_meaning.specs.declared.line.Line.TheVariants as L
use Rattle.mpx_rank.specs.declared.carrier.Heard.{Heard}
use Rattle.mpx_rank.specs.declared.carrier.Heard.TheVariants.{NotYet, Told}

-- the outcomes of calls of contexts, where they are told
abbrev pub Outcomes : Type 0
Outcomes = Name → (call : ℕ) → Option Outcome

-- what a carrier of this type says, whose communicators are of that one: the outcomes that it tells a rank; which communicator
-- a rank's call gave; a communicator's name and how it came to be, as far as it knows; whether a rank has posted a free there;
-- what it asks of a rank's statement that posts on a communicator, and what comes of that, where Ok None is: not now; and that
-- it has heard of others, at most
pub record Terms (C K : Type 0) : Type 1 where
  pub tells : C → (me : ℕ) → Outcomes
  pub gives : C → (me : ℕ) → Name → (call : ℕ) → Option K → Type 0
  pub knows : C → K → Option (Name × BirthView)
  pub closes : C → (me : ℕ) → K → Bool
  pub may : C → (me : ℕ) → Posting → Option K → Type 0
  pub tries : C → (me : ℕ) → Posting → Option K → Result (Option (Name × ℕ)) PostError → C → Type 0
  pub hears : C → C → Type 0

-- the outcomes of these answers
abbrev pub outcomes_of : Results → Outcomes
outcomes_of r name call = option_map (λ (a : Answer). a.outcome) (r name call)

-- the context and the number of the call that was posted, where one was
abbrev pub placed : {Call E : Type 0} → (Call → Name × ℕ) → Result (Option Call) E → Result (Option (Name × ℕ)) E
placed place (Ok call) = Ok (option_map place call)
placed place (Err refusal) = Err refusal

-- what comes of a post is so, of one that is never put off
abbrev pub AtOnce : {A E : Type 0} → (Result A E → Type 0) → Result (Option A) E → Type 0
AtOnce P (Ok None) = ⊥
AtOnce P (Ok (Some call)) = P (Ok call)
AtOnce P (Err refusal) = P (Err refusal)

-- whether a call's outcome is told
abbrev pub is_told : Outcomes → Name × ℕ → Bool
is_told told place = is_some (told place.0 place.1)

-- what is told by the one is told by the other
abbrev pub IsToldWithin : Outcomes → Outcomes → Type 0
IsToldWithin some more = (name : Name) (call : ℕ) (outcome : Outcome) → some name call ≡ Some outcome → more name call ≡ Some outcome

-- nothing is told of the call, which goes back; or the line of its outcome, and the communicator that it gave
abbrev pub HearsOf : {C K Call : Type 0} → Terms C K → C → (me : ℕ) → (place : Name × ℕ) → Call → Heard Call K → Type 0
HearsOf terms c me place call (NotYet back) = (back ≡ call) × (terms.tells c me place.0 place.1 ≡ None)
HearsOf terms c me place call (Told line given) =
    (outcome : Outcome) × (terms.tells c me place.0 place.1 ≡ Some outcome) × (line ≡ L.Told place.0 place.1 outcome) × terms.gives c me place.0 place.1 given
