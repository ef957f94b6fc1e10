-- What a process ends with.
use Rattle.std.proofs.Common.{◌≡◌, ℕ, List, Option, Some, None, Result, Ok, Err, IfOk, arith, inl, inr, length, refl, subst, sym, take}
use Rattle.std.specs.Prelude.{IfErr, OnErr, OnOk}
use Rattle.std.specs.Io.KnownBytes.{Appends}
use Rattle.std.proofs.lemmas.List.{take_all}
use Rattle.clap.specs.Kinds.{HasKind}
use Rattle.clap.specs.Words.{kind_of}
use Rattle.clap.specs.declared.error.Error.{Error}
use Rattle.mpx_num.specs.declared.own.Operation.{Operation}
use Rattle.mpx_program.specs.Jobs.{DoesJobWith, IsRefused, OfJobs}
use Rattle.mpx_words.specs.Usage.{refusal_kinds}
use Rattle.mpx_words.specs.Words.{invocation_in}
use Rattle.mpx_words.specs.declared.invocation.Invocation.{Invocation}
use Rattle.mpx_program.specs.Answers.{Answers, AnswersCall, AskFor, own_operations}

-- of a result that is the value
pub if_ok : {T E : Type 0} (result : Result T E) (value : T) (Holds : T → Type 0) → result ≡ Ok value → Holds value → IfOk result Holds
if_ok result value Holds is holds = subst (λ r. IfOk r Holds) (sym is) holds

pub if_err : {T E : Type 0} (result : Result T E) (error : E) (Holds : E → Type 0) → result ≡ Err error → Holds error → IfErr result Holds
if_err result error Holds is holds = subst (λ r. IfErr r Holds) (sym is) holds

-- what is read in words is what they ask for
pub ask_for : (words now : List (List ℕ)) (asked : Result Invocation Error) → now ≡ words → IfOk asked (λ call. invocation_in now ≡ Some call) → IfErr asked (λ why. invocation_in now ≡ None) → IfErr asked (HasKind (refusal_kinds now)) → AskFor words asked
ask_for words now (Ok call) same ok err kinds = subst (λ ws. invocation_in ws ≡ Some call) same ok
ask_for words now (Err why) same ok err kinds = inl (subst (λ ws. (invocation_in ws ≡ None) × HasKind (refusal_kinds ws) why) same (err, kinds))

-- words that ask for nothing are refused, and nothing is read or written
pub refused_words : (Is : OfJobs) (words : List (List ℕ)) (refusal : Error) (there old : Option (List ℕ)) (code : ℕ) (Says : List ℕ → Type 0) → AskFor words (Err refusal) → IsRefused (kind_of refusal) code Says → Answers Is words there there old old code Says
refused_words Is words refusal there old code Says (inl asks) refused = inl (inr (record { why = kind_of refusal; asks = asks.0; kinds = asks.1; refused = refused; unread = refl; unwritten = refl }))
refused_words Is words refusal there old code Says (inr wanting) refused = inr (record { refused = subst (λ why. IsRefused why code Says) wanting refused; unread = refl; unwritten = refl })

-- a call's job that is done by operations which are the programs' own
pub by_own : (Is : OfJobs) (ops : List Operation) (call : Invocation) (there left old new : Option (List ℕ)) (code : ℕ) (Says : List ℕ → Type 0) → ops ≡ own_operations → DoesJobWith Is ops call there left old new code Says → AnswersCall Is call there left old new code Says
by_own Is ops call there left old new code Says own does words asks =
    inl (inl (record { call = call; asks = asks; does = subst (λ os. DoesJobWith Is os call there left old new code Says) own does }))

-- what is written is all of a text, or its beginning
pub first_part : {E : Type 0} (old new : Option (List ℕ)) (text : List ℕ) (written : Result (Unit {0}) E) → OnOk written (Appends old new text) → OnErr written ((n : ℕ) × Appends old new (take n text)) → (n : ℕ) × Appends old new (take n text)
first_part old new text (Ok done) whole first = (length text, subst (Appends old new) (sym (take_all (length text) text (omega arith))) whole)
first_part old new text (Err fault) whole first = first
