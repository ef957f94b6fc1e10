-- What clap's commands are once they have one thing more.
use Rattle.std.proofs.Common.{◌≡◌, ◌∙◌, ◌++◌, ◌∷◌, ◌||◌, [], Bool, false, ap, ap₂}
use Rattle.std.specs.Prelude.{Err, IfOk, IsOkAnd, Ok, Result}
use Rattle.clap.specs.Words.{AddsArg, AddsSubcommand, App, Rule, Shape, app_of, rule_of, shape_of, with_subcommand}
use Rattle.clap.specs.Simple.{shape_of_fields}
use Rattle.clap.specs.declared.builder.arg.Arg.{Arg}
use Rattle.clap.specs.declared.builder.command.Command.{Command}
use Rattle.clap.specs.declared.builder.command.Command.TheOpen.{Command-F}
use Rattle.clap.specs.declared.builder.command.Command.TheViews.{out-Command as fields_of}

abbrev with_last : Shape → Rule → Shape
with_last s r = record s { rules = s.rules ++ r ∷ [] }

-- an option more
pub has_rule : {a b : Command} {g : Arg} (s : Shape) (r : Rule) → AddsArg a g b → g.global ≡ false → shape_of a ≡ s → rule_of g ≡ r
    → shape_of b ≡ record s { rules = s.rules ++ r ∷ [] }
has_rule s r adds local is rule = ap (λ (x : App). x.top) (adds.shape local) ∙ ap₂ with_last is rule

pub stays_local : {a b : Command} {g : Arg} → AddsArg a g b → g.global ≡ false → (fields_of a).has_globals ≡ false → (fields_of b).has_globals ≡ false
stays_local adds local is = adds.globals ∙ ap₂ (λ (x y : Bool). x || y) is local

-- the same of a command that could be made
pub has_rule_made : {E F : Type 0} (made : Result Command E) (result : Result Command F) (g : Arg) (s : Shape) (r : Rule) → IfOk made (λ m. shape_of m ≡ s) → g.global ≡ false → rule_of g ≡ r
    → IfOk result (λ c. IsOkAnd made (λ m. AddsArg m g c)) → IfOk result (λ c. shape_of c ≡ record s { rules = s.rules ++ r ∷ [] })
has_rule_made (Ok m) (Ok c) g s r shape local rule adds = has_rule s r adds local shape rule
has_rule_made (Err e) (Ok c) g s r shape local rule adds = absurd adds
has_rule_made made (Err e) g s r shape local rule adds = tt

pub stays_local_made : {E F : Type 0} (made : Result Command E) (result : Result Command F) (g : Arg) → IfOk made (λ m. (fields_of m).has_globals ≡ false) → g.global ≡ false
    → IfOk result (λ c. IsOkAnd made (λ m. AddsArg m g c)) → IfOk result (λ c. (fields_of c).has_globals ≡ false)
stays_local_made (Ok m) (Ok c) g is local adds = stays_local adds local is
stays_local_made (Err e) (Ok c) g is local adds = absurd adds
stays_local_made made (Err e) g is local adds = tt

-- a command more, where both could be made
pub has_made : {E F G : Type 0} (program : Result Command E) (made : Result Command F) (result : Result Command G) (x : App) (s : Shape)
    → IfOk program (λ p. app_of p ≡ x) → IfOk made (λ m. shape_of m ≡ s) → IfOk made (λ m. (fields_of m).has_globals ≡ false)
    → IfOk result (λ c. IsOkAnd program (λ p. IsOkAnd made (λ m. AddsSubcommand p m c))) → IfOk result (λ c. app_of c ≡ with_subcommand x s)
has_made (Ok p) (Ok m) (Ok c) x s app shape local adds = adds.shape local ∙ ap₂ with_subcommand app shape
has_made (Ok p) (Err e) (Ok c) x s app shape local adds = absurd adds
has_made (Err e) made (Ok c) x s app shape local adds = absurd adds
has_made program made (Err e) x s app shape local adds = tt

-- a setting that says nothing of the words
pub same_shape : (a b : Command) (f : Command-F Command) (s : Shape) → fields_of b ≡ f → shape_of_fields f ≡ shape_of a → shape_of a ≡ s → shape_of b ≡ s
same_shape a b f s e same is = ap shape_of_fields e ∙ same ∙ is

pub same_globals : (a b : Command) (f : Command-F Command) → fields_of b ≡ f → f.has_globals ≡ (fields_of a).has_globals → (fields_of a).has_globals ≡ false → (fields_of b).has_globals ≡ false
same_globals a b f e same is = ap (λ (x : Command-F Command). x.has_globals) e ∙ same ∙ is
