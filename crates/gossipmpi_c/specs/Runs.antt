-- A simulated run for a program in C: what the program prints and says of it, in the caller's room.
use Rattle.std.specs.Prelude.{◌≡◌, ◌⊎◌, ◌==◌, ℕ, Bool, true, false, List, [], ◌++◌, IsUtf8, Some, None, Vec, codes}
use Rattle.std.specs.List.{ends_with}
use Rattle.std.specs.declared.alloc.Global.{Global}
use Rattle.clap.specs.Kinds.{HasKind}
use Rattle.clap.specs.declared.error.Error.{Error}
use Rattle.mpx_run.specs.Texts.{is_in_threads}
use Rattle.mpx_program.specs.Explained.{unexplained}
use Rattle.mpx_program.specs.Jobs.{AsFounded, DoesJobWith, RefusesWords}
use Rattle.mpx_trace.specs.declared.table.Table.{Table}
use Rattle.mpx_trace.specs.declared.trace.Trace.{Trace}
use Rattle.mpx_words.specs.Usage.{refusal_kinds}
use Rattle.mpx_words.specs.Words.{invocation_in}
use Rattle.mpx_words.specs.declared.invocation.Invocation.{Invocation}
use Rattle.gossipmpi_c.specs.Answers.{IsWritten, own_operations}
use Rattle.gossipmpi_c.specs.Options.{words_of}

-- MEMORY

-- memory is wanting, and there is no text
pub record Starves (printed said : List ℕ) (status : ℕ) : Type 0 where
  pub status_is : status ≡ 4
  pub unprinted : printed ≡ []
  pub unsaid : said ≡ []

-- it is said that memory was wanting for what is explained
abbrev pub is_unexplained : (said : List ℕ) → Bool
is_unexplained said = ends_with ◌==◌ said unexplained

-- this is the text of a trace that had memory for all that it was to tell
pub record IsTraced (shown : List ℕ) : Type 0 where
  pub trace : Trace (Vec ℕ Global)
  pub whole : trace.whole ≡ true
  pub is : shown ≡ trace.out.items

-- this is the text of a table that had memory for all that it was to show
pub record IsTabled (shown : List ℕ) : Type 0 where
  pub table : Table (Vec ℕ Global)
  pub whole : table.whole ≡ true
  pub is : shown ≡ table.out.items

-- what is shown of a run as it goes: where it is asked for its trace, or its table, else nothing
abbrev pub IsShown : (trace table : Bool) → (shown : List ℕ) → Type 0
IsShown true table shown = IsTraced shown
IsShown false true shown = IsTabled shown
IsShown false false shown = shown ≡ []

-- OPTIONS

-- options ask for this call
abbrev pub AskFor : (options : List ℕ) → Invocation → Type 0
AskFor options call = invocation_in (words_of options) ≡ Some call

-- options ask for none, for this reason
abbrev pub AskForNone : (options : List ℕ) → Error → Type 0
AskForNone options why = (invocation_in (words_of options) ≡ None) × HasKind (refusal_kinds (words_of options)) why

-- something is declined, for this reason
pub record IsDeclined (why printed said : List ℕ) (status : ℕ) : Type 0 where
  pub status_is : status ≡ 1
  pub unprinted : printed ≡ []
  pub says : said ≡ why

-- options that are no text, or that ask for a run in threads, are declined
abbrev pub Declines : (options printed said : List ℕ) (status : ℕ) → Type 0
Declines options printed said status = ((¬ (IsUtf8 options)) × IsDeclined (codes "the options are no text\n") printed said status)
    ⊎ ((call : Invocation) × AskFor options call × (is_in_threads call.job ≡ true) × IsDeclined (codes "the library starts no threads\n") printed said status)

-- options that ask for no call are refused as the program refuses their words
pub record RefusesOptions (options script printed said : List ℕ) (status : ℕ) : Type 0 where
  pub left : List ℕ
  pub refuses : RefusesWords (words_of options) (Some script) (Some left) (Some []) (Some printed) status (λ text. said ≡ text)

-- RUNS

-- the program, called so and with the script as its input, prints this and says that; of what it explains nothing is left out for want of memory
pub record DoesCall (call : Invocation) (script printed said : List ℕ) (status : ℕ) : Type 0 where
  pub left : List ℕ
  pub does : DoesJobWith AsFounded own_operations call (Some script) (Some left) (Some []) (Some printed) status (λ text. said ≡ text)
  pub explained : is_unexplained said ≡ false

-- the same behind what is shown of the run as it goes
pub record ShowsCall (call : Invocation) (script printed said : List ℕ) (status : ℕ) : Type 0 where
  pub shown : List ℕ
  pub words : List ℕ
  pub is_shown : IsShown call.flags.trace call.flags.table shown
  pub does : DoesCall call script printed words status
  pub is : said ≡ shown ++ words

-- the same of the call that options ask for
pub record MakesRun (options script printed said : List ℕ) (status : ℕ) : Type 0 where
  pub call : Invocation
  pub asks : AskFor options call
  pub shows : ShowsCall call script printed said status

-- what a run with these options comes to where memory suffices
abbrev pub RunsWhole : (options script printed said : List ℕ) (status : ℕ) → Type 0
RunsWhole options script printed said status = MakesRun options script printed said status ⊎ RefusesOptions options script printed said status ⊎ Declines options printed said status

-- what a run with these options comes to
abbrev pub RunsTo : (options script printed said : List ℕ) (status : ℕ) → Type 0
RunsTo options script printed said status = RunsWhole options script printed said status ⊎ Starves printed said status

-- what an export answers of a run: its status, and what it prints, in the caller's room
pub record Prints (options script old new : List ℕ) (needed status : ℕ) : Type 0 where
  pub printed : List ℕ
  pub said : List ℕ
  pub runs : RunsTo options script printed said status
  pub written : IsWritten printed old new needed

-- the same with what it says
pub record Says (options script old new : List ℕ) (needed status : ℕ) : Type 0 where
  pub printed : List ℕ
  pub said : List ℕ
  pub runs : RunsTo options script printed said status
  pub written : IsWritten said old new needed
