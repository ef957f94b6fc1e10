-- What a call of a program comes to.
use Rattle.std.specs.Prelude.{◌≡◌, ◌⊎◌, ℕ, Bool, false, List, [], ◌∷◌, Option, Some, None, Result, Ok, Err, codes, take}
use Rattle.std.specs.Io.KnownBytes.{Appends}
use Rattle.clap.specs.Kinds.{HasKind}
use Rattle.clap.specs.Words.{kind_of}
use Rattle.clap.specs.declared.error.Error.{Error}
use Rattle.clap.specs.declared.error.kind.ErrorKind.TheVariants as kind
use Rattle.mpx_num.specs.Own.{operation_of}
use Rattle.mpx_num.specs.Types.{is_paired}
use Rattle.mpx_num.specs.declared.own.Operation.{Operation}
use Rattle.mpx_affine.specs.Composition.{composed}
use Rattle.mpx_run.specs.Texts.{is_in_threads}
use Rattle.mpx_program.specs.Jobs.{DoesJob, IsRefused, OfJobs, Tells}
use Rattle.mpx_program.specs.declared.job.Exit.{Exit}
use Rattle.mpx_words.specs.Usage.{refusal_kinds}
use Rattle.mpx_words.specs.Words.{invocation_in}
use Rattle.mpx_words.specs.declared.invocation.Invocation.{Invocation}

-- the operations of the programs' own are one: by the word `affine`, for pairs, the composition of affine maps
abbrev pub own_operations : List Operation
own_operations = operation_of (codes "affine") is_paired composed ∷ []

-- memory is wanting before anything is read or written
pub record Starves (there left old new : Option (List ℕ)) (code : ℕ) (Says : List ℕ → Type 0) : Type 0 where
  pub refused : IsRefused kind.OutOfMemory code Says
  pub unread : left ≡ there
  pub unwritten : new ≡ old

-- the words' job is done by the programs' own operations, or memory is wanting
abbrev pub Answers : (Is : OfJobs) (words : List (List ℕ)) (there left old new : Option (List ℕ)) (code : ℕ) (Says : List ℕ → Type 0) → Type 0
Answers Is words there left old new code Says = DoesJob Is own_operations words there left old new code Says ⊎ Starves there left old new code Says

-- words ask for a call, or for none, for a reason of a kind that `clap` has for them; or memory is wanting
abbrev pub AskFor : (words : List (List ℕ)) → Result Invocation Error → Type 0
AskFor words (Ok call) = invocation_in words ≡ Some call
AskFor words (Err why) = ((invocation_in words ≡ None) × HasKind (refusal_kinds words) why) ⊎ (kind_of why ≡ kind.OutOfMemory)

-- what words ask for is a run in threads
abbrev pub asks_for_threads : Result Invocation Error → Bool
asks_for_threads (Ok call) = is_in_threads call.job
asks_for_threads (Err why) = false

-- words that ask for this are answered so: the job is done, or memory is wanting
abbrev pub AnswersCall : (Is : OfJobs) (call : Invocation) (there left old new : Option (List ℕ)) (code : ℕ) (Says : List ℕ → Type 0) → Type 0
AnswersCall Is call there left old new code Says = (words : List (List ℕ)) → invocation_in words ≡ Some call → Answers Is words there left old new code Says

-- a process ends with the status of what is done, and what is said is out, or a beginning of it
pub record EndsBy (Does : (code : ℕ) (Says : List ℕ → Type 0) → Type 0) (old new : Option (List ℕ)) (status : ℕ) : Type 0 where
  pub exit : Exit
  pub does : Does exit.status (Tells old new exit.told)
  pub ends : status ≡ exit.status

-- how a script is given, for who is to type one
abbrev pub how_to_give : List ℕ
how_to_give = codes "The script is read from this terminal, up to Ctrl-D. From a file: gossipmpi run < my.job\n"

-- nothing is said, or a beginning of this
abbrev pub MaySay : (text : List ℕ) (old new : Option (List ℕ)) → Type 0
MaySay text old new = (new ≡ old) ⊎ ((n : ℕ) × Appends old new (take n text))
