-- The program's commands and options as clap sees them, and which kinds a refusal may have.
use Rattle.std.specs.Prelude.{false, true, List, [], ◌∷◌, ◌++◌, Some, codes, map}
use Rattle.clap.specs.Walk.{Rule, Text}
use Rattle.clap.specs.Simple.{App, Shape, new_rule, new_shape}
use Rattle.clap.specs.declared.builder.action.ArgAction.TheVariants.{SetTrue}
use Rattle.clap.specs.declared.error.kind.ErrorKind.TheVariants as kind
use Rattle.clap.specs.Kinds.{Kinds, or_else}
use Rattle.clap.specs.Faults.{fault_of}

-- an option that stands alone
abbrev pub flag : Text → Rule
flag name = record (new_rule name) { long = Some name; action = Some SetTrue }

-- those that each command has
abbrev pub common : List Rule
common = flag (codes "strict") ∷ flag (codes "explain") ∷ []

-- a command that has no others
abbrev pub plain : Text → Shape
plain name = record (new_shape name) { rules = common }

-- an option that is followed by a value
abbrev pub valued : Text → Rule
valued name = record (new_rule name) { long = Some name; value_names = 1 }

-- the options of `run`: those that stand alone, those that it draws from, and the others
abbrev pub run_flags : List Rule
run_flags = common ++ map flag (codes "trace" ∷ codes "table" ∷ codes "threads" ∷ [])

abbrev pub run_draws : List Rule
run_draws = run_flags ++ map valued (codes "seed" ∷ codes "loss" ∷ [])

abbrev pub run : Shape
run = record (new_shape (codes "run")) { rules = run_draws ++ map valued (codes "relays" ∷ codes "turns" ∷ codes "workers" ∷ []) }

-- the program tells its version, and wants one of the commands `run`, `eval` and `check`
abbrev pub usage : App
usage = record {
  top = record (new_shape (codes "gossipmpi")) { has_version = true; arg_required_else_help = true; subcommand_required = true; is_leaf = false };
  subs = run ∷ plain (codes "eval") ∷ plain (codes "check") ∷ [];
}

-- without its commands
abbrev pub bare_usage : App
bare_usage = record { top = record (usage.top) { is_leaf = true }; subs = [] }

-- clap's, where it refuses the words (`--help` counts as refused); else the value of an option is wrong
abbrev pub refusal_kinds : List Text → Kinds
refusal_kinds words = or_else (fault_of usage words) (kind.InvalidValue ∷ [])
