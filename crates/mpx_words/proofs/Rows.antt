-- Which refusals some words get, and for which jobs some ask, computed.
use Rattle.std.proofs.Common.{◌≡◌, true, false, [], ◌∷◌, Some, None, codes, refl}
use Rattle.clap.specs.declared.error.kind.ErrorKind.TheVariants.{DisplayHelp, DisplayVersion, DisplayHelpOnMissingArgumentOrSubcommand, InvalidSubcommand, UnknownArgument, InvalidValue, TooManyValues}
use Rattle.clap.specs.Faults.{walk_fault, defaults_fault}
use Rattle.clap.specs.Walk.{walked}
use Rattle.mpx_num.specs.Text.{magnitude, number_of}
use Rattle.mpx_statement.specs.declared.job.Command.TheVariants.{Run, Check}
use Rattle.mpx_words.specs.Usage.{refusal_kinds}
use Rattle.mpx_words.specs.Words.{invocation_in, job_in, usual}

no_command : refusal_kinds (codes "gossipmpi" ∷ []) ≡ DisplayHelpOnMissingArgumentOrSubcommand ∷ []
unfolding walk_fault defaults_fault
no_command = refl

help : refusal_kinds (codes "gossipmpi" ∷ codes "--help" ∷ []) ≡ DisplayHelp ∷ []
unfolding walk_fault defaults_fault
help = refl

unknown_command : refusal_kinds (codes "gossipmpi" ∷ codes "walk" ∷ []) ≡ UnknownArgument ∷ InvalidSubcommand ∷ []
unfolding walk_fault defaults_fault
unknown_command = refl

unknown_option : refusal_kinds (codes "gossipmpi" ∷ codes "run" ∷ codes "--speed" ∷ codes "7" ∷ []) ≡ UnknownArgument ∷ []
unfolding walk_fault defaults_fault walked
unknown_option = refl

great_loss : refusal_kinds (codes "gossipmpi" ∷ codes "run" ∷ codes "--loss" ∷ codes "101" ∷ []) ≡ InvalidValue ∷ []
unfolding walk_fault defaults_fault walked
great_loss = refl

version : refusal_kinds (codes "gossipmpi" ∷ codes "--version" ∷ []) ≡ DisplayVersion ∷ []
unfolding walk_fault defaults_fault
version = refl

file : refusal_kinds (codes "gossipmpi" ∷ codes "run" ∷ codes "my.job" ∷ []) ≡ UnknownArgument ∷ []
unfolding walk_fault defaults_fault walked
file = refl

threads_with_a_number : refusal_kinds (codes "gossipmpi" ∷ codes "run" ∷ codes "--threads=7" ∷ []) ≡ TooManyValues ∷ []
unfolding walk_fault defaults_fault walked
threads_with_a_number = refl

file_in_threads : refusal_kinds (codes "gossipmpi" ∷ codes "run" ∷ codes "--threads" ∷ codes "my.job" ∷ []) ≡ UnknownArgument ∷ []
unfolding walk_fault defaults_fault walked
file_in_threads = refl

great_loss_in_threads : refusal_kinds (codes "gossipmpi" ∷ codes "run" ∷ codes "--threads" ∷ codes "--loss" ∷ codes "101" ∷ []) ≡ InvalidValue ∷ []
unfolding walk_fault defaults_fault walked
great_loss_in_threads = refl

strange_flag : refusal_kinds (codes "gossipmpi" ∷ codes "eval" ∷ codes "--trace" ∷ []) ≡ UnknownArgument ∷ []
unfolding walk_fault defaults_fault walked
strange_flag = refl

-- which jobs some words ask for

threads_alone : job_in (codes "gossipmpi" ∷ codes "run" ∷ codes "--threads" ∷ []) ≡ Some (record { command = Run; options = record usual { threads = true } })
threads_alone = refl

threads_and_turns : job_in (codes "gossipmpi" ∷ codes "run" ∷ codes "--turns" ∷ codes "9" ∷ codes "--threads" ∷ codes "--relays" ∷ codes "2" ∷ [])
    ≡ Some (record { command = Run; options = record { threads = true; seed = 1; loss = 0; relays = 2; turns = 9; workers = None } })
unfolding number_of magnitude
threads_and_turns = refl

threads_is_no_number : job_in (codes "gossipmpi" ∷ codes "run" ∷ codes "--seed" ∷ codes "--threads" ∷ []) ≡ None
unfolding number_of magnitude
threads_is_no_number = refl

threads_of_an_evaluation : job_in (codes "gossipmpi" ∷ codes "eval" ∷ codes "--threads" ∷ []) ≡ None
threads_of_an_evaluation = refl

number_in_the_same_word : job_in (codes "gossipmpi" ∷ codes "run" ∷ codes "--seed=7" ∷ codes "--loss" ∷ codes "40" ∷ codes "--turns=9" ∷ [])
    ≡ Some (record { command = Run; options = record { threads = false; seed = 7; loss = 40; relays = 0; turns = 9; workers = None } })
unfolding number_of magnitude
number_in_the_same_word = refl

nothing_in_the_same_word : job_in (codes "gossipmpi" ∷ codes "run" ∷ codes "--seed=" ∷ []) ≡ None
unfolding number_of magnitude
nothing_in_the_same_word = refl

-- what is asked for beside the job

strict_run : invocation_in (codes "gossipmpi" ∷ codes "run" ∷ codes "--strict" ∷ codes "--threads" ∷ [])
    ≡ Some (record { job = record { command = Run; options = record usual { threads = true } }; flags = record { strict = true; explain = false; trace = false; table = false } })
strict_run = refl

explained_check : invocation_in (codes "gossipmpi" ∷ codes "check" ∷ codes "--explain" ∷ [])
    ≡ Some (record { job = record { command = Check; options = usual }; flags = record { strict = false; explain = true; trace = false; table = false } })
explained_check = refl

trace_in_threads : invocation_in (codes "gossipmpi" ∷ codes "run" ∷ codes "--trace" ∷ codes "--threads" ∷ []) ≡ None
trace_in_threads = refl

trace_of_an_evaluation : invocation_in (codes "gossipmpi" ∷ codes "eval" ∷ codes "--trace" ∷ []) ≡ None
trace_of_an_evaluation = refl

flag_is_no_number : invocation_in (codes "gossipmpi" ∷ codes "run" ∷ codes "--seed" ∷ codes "--strict" ∷ []) ≡ None
unfolding number_of magnitude
flag_is_no_number = refl
