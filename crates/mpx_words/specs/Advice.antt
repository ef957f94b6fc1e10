-- What is said of words that name a file, though a script is read from the standard input alone, or a number of ranks, though the
-- script tells it.
use Rattle.std.specs.Prelude.{Bool, true, false, not, ◌==◌, ◌&&◌, ◌||◌, List, [], ◌∷◌, ◌++◌, Option, Some, None, codes, bytes_eq, if◌then◌else◌, is_some, option_map}
use Rattle.std.specs.List.{list_any}
use Rattle.std.specs.Option.{option_map_or, option_or}
use Rattle.clap.specs.Walk.{Text}
use Rattle.clap.specs.declared.error.kind.ErrorKind.{ErrorKind}
use Rattle.clap.specs.declared.error.kind.ErrorKind.TheVariants as kind
use Rattle.mpx_num.specs.Text.{number_of}
use Rattle.mpx_words.specs.Words.{begins_with, is_common, is_flag, limits_of}

-- a word that is `-`, or doesn't begin with it
abbrev pub is_plain : Text → Bool
is_plain word = bytes_eq word (codes "-") || not (begins_with word (codes "-"))

-- a word that says how many ranks there are, where other programs start a run
abbrev pub asks_ranks : Text → Bool
asks_ranks word = bytes_eq word (codes "-n") || bytes_eq word (codes "-np")

-- an option whose number is the next word
abbrev pub is_option : Text → Bool
is_option word = bytes_eq word (codes "--seed") || (bytes_eq word (codes "--loss") || (bytes_eq word (codes "--relays") || (bytes_eq word (codes "--turns") || bytes_eq word (codes "--workers"))))

-- such an option with its number behind `=`
abbrev pub is_joined : Text → Bool
is_joined word = begins_with word (codes "--seed=") || (begins_with word (codes "--loss=") || (begins_with word (codes "--relays=") || (begins_with word (codes "--turns=") || begins_with word (codes "--workers="))))

-- whether a number is awaited behind a word of `run`; none where the word is no part of an option
abbrev pub awaits_behind : (awaits : Bool) → Text → Option Bool
awaits_behind awaits word =
    if awaits && is_plain word then Some false else
    if is_option word then Some true else
    if is_flag word || is_joined word then Some false else
    None

-- the first word, if it is plain or says how many ranks there are
abbrev pub first_surplus : List Text → Option Text
first_surplus [] = None
first_surplus (word ∷ rest) = if is_plain word || asks_ranks word then Some word else None

-- the same, or behind `--`
abbrev pub surplus : List Text → Option Text
surplus [] = None
surplus (word ∷ rest) = if bytes_eq word (codes "--") then first_surplus rest else first_surplus (word ∷ rest)

-- such a word behind the options
abbrev pub surplus_behind : (awaits : Bool) → List Text → Option Text
surplus_behind awaits [] = None
surplus_behind awaits (word ∷ rest) = option_map_or (λ next. surplus_behind next rest) (awaits_behind awaits word) (surplus (word ∷ rest))

-- such a word behind those that each command may have
abbrev pub surplus_alone : List Text → Option Text
surplus_alone [] = None
surplus_alone (word ∷ rest) = if is_common word then surplus_alone rest else surplus (word ∷ rest)

-- a file's name as it is shown: `-` is none
abbrev pub shown : Text → Text
shown file = if bytes_eq file (codes "-") then codes "my.job" else file

abbrev pub file_advice : (command file : Text) → Text
file_advice command file = codes "no file is named here: the script is read from the standard input, as in 'gossipmpi " ++ command ++ codes " < " ++ shown file ++ codes "'"

abbrev pub ranks_advice : Text
ranks_advice = codes "the script's first line says how many ranks there are, as in 'ranks 4'; --threads stands alone"

-- what is said of a word that is no part of an option
abbrev pub advice : (command word : Text) → Text
advice command word = if asks_ranks word || is_some (number_of word) then ranks_advice else file_advice command word

abbrev pub is_run : Text → Bool
is_run command = bytes_eq command (codes "run")

abbrev pub stands_alone : Text → Bool
stands_alone command = bytes_eq command (codes "eval") || bytes_eq command (codes "check")

-- a word with a dot or a slash
abbrev pub is_file : Text → Bool
is_file word = is_plain word && (list_any (λ c. c == 46) word || list_any (λ c. c == 47) word)

-- what is said where a command is awaited
abbrev pub advice_first : Text → Option Text
advice_first word =
    if asks_ranks word then Some ranks_advice else
    if is_file word then Some (file_advice (codes "run") word) else
    None

-- what is said of the words, if they name a file or a number of ranks
abbrev pub advice_of : List Text → Option Text
advice_of [] = None
advice_of (name ∷ []) = None
advice_of (name ∷ command ∷ words) =
    if is_run command then option_map (advice command) (surplus_behind false words) else
    if stands_alone command then option_map (advice command) (surplus_alone words) else
    advice_first command

-- A NUMBER BELOW 0, AN OPTION OF ANOTHER COMMAND

-- the first word is a number below 0
abbrev pub begins_below_zero : List Text → Bool
begins_below_zero [] = false
begins_below_zero (word ∷ rest) = not (is_plain word) && is_some (number_of word)

-- the limits of the first option behind which such a number stands
abbrev pub below_zero : List Text → Option Text
below_zero [] = None
below_zero (option ∷ rest) = if is_option option && begins_below_zero rest then Some (limits_of option) else below_zero rest

-- a word, where it is an option of `run`
abbrev pub of_run : Text → Option Text
of_run word = if is_option word || (is_flag word || is_joined word) then Some word else None

-- such a word behind those that each command may have
abbrev pub foreign : List Text → Option Text
foreign [] = None
foreign (word ∷ rest) = if is_common word then foreign rest else of_run word

abbrev pub foreign_advice : Text → Text
foreign_advice word = word ++ codes " is an option of run alone"

-- what is said of the words, if such a number stands behind an option of `run`, or an option of `run` behind another command
abbrev pub strange_option : List Text → Option Text
strange_option [] = None
strange_option (name ∷ []) = None
strange_option (name ∷ command ∷ words) =
    if is_run command then below_zero words else
    if stands_alone command then option_map foreign_advice (foreign words) else
    None

-- what is told in place of clap's text: where a word is no argument or no command, and that is said of the words
abbrev pub told_instead : ErrorKind → List Text → Option Text
told_instead kind.UnknownArgument words = option_or (advice_of words) (strange_option words)
told_instead kind.InvalidSubcommand words = advice_of words
told_instead other words = None
