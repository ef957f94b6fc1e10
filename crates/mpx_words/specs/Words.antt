-- The words of a call, and the job that they ask for.
use Rattle.std.specs.Prelude.{Bool, true, false, not, ℕ, ℤ, pos, negsuc, ◌+◌, ◌==◌, ◌&&◌, ◌||◌, List, [], ◌∷◌, Option, Some, None, codes, bytes_eq, drop, is_some, length, nat_le, nat_lt, option_and_then, take, if◌then◌else◌}
use Rattle.std.specs.List.{list_all, list_any, position_or_len}
use Rattle.std.specs.Option.{option_map}
use Rattle.mpx_num.specs.Text.{number_of}
use Rattle.mpx_statement.specs.declared.job.Command.{Command}
use Rattle.mpx_statement.specs.declared.job.Command.TheVariants.{Run, Eval, Check}
use Rattle.mpx_statement.specs.declared.job.Job.{Job}
use Rattle.mpx_statement.specs.declared.job.Options.{Options}
use Rattle.mpx_words.specs.declared.invocation.Flags.{Flags}
use Rattle.mpx_words.specs.declared.invocation.Invocation.{Invocation}
use Rattle.clap.specs.Walk.{Text}

-- a number from the least to the most
abbrev pub in_range : (least most : ℕ) → ℤ → Option ℕ
in_range least most (pos n) = if nat_le least n && nat_le n most then Some n else None
in_range least most (negsuc n) = None

abbrev pub number_within : (least most : ℕ) → Text → Option ℕ
number_within least most word = option_and_then (in_range least most) (number_of word)

-- without options
abbrev pub usual : Options
usual = record { threads = false; seed = 1; loss = 0; relays = 0; turns = 100000; workers = None }

-- the words that each command may have
abbrev pub is_common : Text → Bool
is_common word = bytes_eq word (codes "--strict") || bytes_eq word (codes "--explain")

-- an option of `run` that stands alone
abbrev pub is_flag : Text → Bool
is_flag word = bytes_eq word (codes "--threads") || (bytes_eq word (codes "--trace") || (bytes_eq word (codes "--table") || is_common word))

-- these options with that one: `--threads` alone is one of them
abbrev pub with_flag : Options → Text → Options
with_flag o word = if bytes_eq word (codes "--threads") then record o { threads = true } else o

-- these options with one more that has a number
abbrev pub with_option : Options → (option value : Text) → Option Options
with_option o option value =
    if bytes_eq option (codes "--seed") then option_map (λ n. record o { seed = n }) (number_within 0 18446744073709551615 value) else
    if bytes_eq option (codes "--loss") then option_map (λ n. record o { loss = n }) (number_within 0 100 value) else
    if bytes_eq option (codes "--relays") then option_map (λ n. record o { relays = n }) (number_within 0 63 value) else
    if bytes_eq option (codes "--turns") then option_map (λ n. record o { turns = n }) (number_within 1 10000000 value) else
    if bytes_eq option (codes "--workers") then option_map (λ n. record o { workers = Some n }) (number_within 1 64 value) else
    None

-- OPTIONS IN ONE WORD

-- how many bytes stand before the first `=` (61)
abbrev pub name_length : Text → ℕ
name_length word = position_or_len (λ c. c == 61) word

-- an option that is whole in one word: one that stands alone, or one with its number behind `=`
abbrev pub is_in_one_word : Text → Bool
is_in_one_word word = is_flag word || nat_lt (name_length word) (length word)

-- these options with that one
abbrev pub with_whole : Options → Text → Option Options
with_whole o word =
    if is_flag word then Some (if bytes_eq word (codes "--threads") then record o { threads = true } else o) else
    with_option o (take (name_length word) word) (drop (name_length word + 1) word)

-- OPTIONS

-- these options with those that the words give: some words alone, each other option with its number behind `=` or as the next word
abbrev pub options_in : Options → List Text → Option Options
options_in o [] = Some o
options_in o (option ∷ []) = if is_in_one_word option then with_whole o option else None
options_in o (option ∷ value ∷ rest) =
    if is_in_one_word option then option_and_then (λ p. options_in p (value ∷ rest)) (with_whole o option) else
    option_and_then (λ p. options_in p rest) (with_option o option value)

-- a command that has no options but those that each command may have
abbrev pub alone : Command → List Text → Option Job
alone command words = if list_all is_common words then Some (record { command = command; options = usual }) else None

-- the job that the words ask for: the program's name, `run` and options, or `eval` or `check`
abbrev pub job_in : List Text → Option Job
job_in (name ∷ command ∷ rest) =
    if bytes_eq command (codes "run") then option_map (λ o. record { command = Run; options = o }) (options_in usual rest) else
    if bytes_eq command (codes "eval") then alone Eval rest else
    if bytes_eq command (codes "check") then alone Check rest else
    None
job_in words = None

-- WHAT IS ASKED FOR BESIDE THE JOB

abbrev pub flags_of : List Text → Flags
flags_of words = record {
  strict = list_any (λ word. bytes_eq word (codes "--strict")) words;
  explain = list_any (λ word. bytes_eq word (codes "--explain")) words;
  trace = list_any (λ word. bytes_eq word (codes "--trace")) words;
  table = list_any (λ word. bytes_eq word (codes "--table")) words;
}

-- behind the program's name and the command's
abbrev pub flags_behind : List Text → Flags
flags_behind (name ∷ command ∷ words) = flags_of words
flags_behind words = flags_of []

-- a job with what is asked for beside it: a simulated run is shown in one way
abbrev pub fitting : Job → Flags → Option Invocation
fitting job flags = if not ((flags.trace || flags.table) && job.options.threads) && not (flags.trace && flags.table) then Some (record { job = job; flags = flags }) else None

-- what the words ask for: a job, and what is asked for beside it
abbrev pub invocation_in : List Text → Option Invocation
invocation_in words = option_and_then (λ job. fitting job (flags_behind words)) (job_in words)

-- WHAT IS SAID OF WORDS THAT ASK FOR NO JOB

abbrev pub no_pair : Text
no_pair = codes "--seed, --loss, --relays, --turns and --workers are each followed by a number, and the other options stand alone"

abbrev pub stands_alone : Text
stands_alone = codes "this command stands alone, but for --strict and --explain"

abbrev pub one_view : Text
one_view = codes "--trace and --table show a simulated run: give one of them, without --threads"

abbrev pub begins_with : Text → (start : Text) → Bool
begins_with word start = bytes_eq start (take (length start) word)

-- an option of this name, with or without its number in the same word
abbrev pub is_of : Text → (name joined : Text) → Bool
is_of option name joined = bytes_eq option name || begins_with option joined

-- what an option is followed by
abbrev pub limits_of : Text → Text
limits_of option =
    if is_of option (codes "--seed") (codes "--seed=") then codes "--seed is followed by a number from 0 to 18446744073709551615" else
    if is_of option (codes "--loss") (codes "--loss=") then codes "--loss is followed by a number from 0 to 100" else
    if is_of option (codes "--relays") (codes "--relays=") then codes "--relays is followed by a number from 0 to 63" else
    if is_of option (codes "--turns") (codes "--turns=") then codes "--turns is followed by a number from 1 to 10000000" else
    if is_of option (codes "--workers") (codes "--workers=") then codes "--workers is followed by a number from 1 to 64" else
    no_pair

-- that of an option which gives none, else what is said of the rest
abbrev pub or_more : Option Options → (option more : Text) → Text
or_more None option more = limits_of option
or_more (Some options) option more = more

-- what is wrong with the first of these options that gives none
abbrev pub complaint : List Text → Text
complaint [] = no_pair
complaint (option ∷ []) = if is_in_one_word option then or_more (with_whole usual option) option no_pair else no_pair
complaint (option ∷ value ∷ rest) =
    if is_in_one_word option then or_more (with_whole usual option) option (complaint (value ∷ rest)) else
    or_more (with_option usual option value) option (complaint rest)

-- what is said of words that ask for no job
abbrev pub complaint_alone : List Text → Text
complaint_alone [] = stands_alone
complaint_alone (name ∷ []) = stands_alone
complaint_alone (name ∷ command ∷ options) = if bytes_eq command (codes "run") then complaint options else stands_alone

-- what is said of the words
abbrev pub complaint_of : List Text → Text
complaint_of words = if is_some (job_in words) then one_view else complaint_alone words
