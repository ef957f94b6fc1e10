-- What is printed of a run, without that on which it stands.
use Rattle.std.specs.Prelude.{ℕ, Bool, true, false, List, Option, Result, Ok, Err}
use Rattle.mpx_num.specs.declared.own.Operation.{Operation}
use Rattle.mpx_statement.specs.declared.job.Command.{Command}
use Rattle.mpx_statement.specs.declared.job.Command.TheVariants.{Run, Eval, Check}
use Rattle.mpx_statement.specs.declared.job.Job.{Job}
use Rattle.mpx_statement.specs.declared.job.Options.{Options}
use Rattle.mpx_script.specs.ScriptView.{ScriptView}
use Rattle.mpx_run.specs.Founded.{IsFounded, IsFoundedIn}
use Rattle.mpx_run.specs.Reports.{IsPrinted}
use Rattle.mpx_run.specs.Texts.{ComesTo, DoneTo, PrintsUngated, RunsUngated}
use Rattle.mpx_run.specs.declared.end.End.{End}
use Rattle.mpx_run.specs.declared.texts.RunError.{RunError}
use Rattle.mpx_run.specs.declared.texts.RunError.TheVariants as E

-- what is founded is printed
founded_prints : (threads : Bool) (ops : List Operation) (options : Options) (script : ScriptView) (end : End) (text : List ℕ) → IsFoundedIn threads ops options script end text → IsPrinted ops options script end text
founded_prints true ops options script end text f = record { transcripts = f.transcripts; waiting = f.by.waiting; prints = f.by.prints }
founded_prints false ops options script end text f = record { transcripts = f.transcripts; waiting = f.by.waiting; prints = f.by.prints }

pub comes_printed : (ops : List Operation) (command : Command) (options : Options) (script : ScriptView) (end : End) (text : List ℕ) → ComesTo IsFounded ops command options script end text → ComesTo IsPrinted ops command options script end text
comes_printed ops Run options script end text c = (c.0, founded_prints options.threads ops options script end text c.1)
comes_printed ops Eval options script end text c = c
comes_printed ops Check options script end text c = c

done_printed : (ops : List Operation) (job : Job) (text : List ℕ) (end : End) (out : List ℕ) → DoneTo IsFounded ops job text end out → DoneTo IsPrinted ops job text end out
done_printed ops job text end out d = record { script = d.script; read = d.read; comes = comes_printed ops job.command job.options d.script end out d.comes }

prints_printed : (ops : List Operation) (job : Job) (text : List ℕ) (old new : Option (List ℕ)) (answer : Result End RunError) → PrintsUngated IsFounded ops job text old new answer → PrintsUngated IsPrinted ops job text old new answer
prints_printed ops job text old new (Ok end) p = (p.0, done_printed ops job text end p.0 p.1, p.2)
prints_printed ops job text old new (Err (E.Script refusal)) p = p
prints_printed ops job text old new (Err E.TooManyProcesses) p = p
prints_printed ops job text old new (Err E.Memory) p = p
prints_printed ops job text old new (Err (E.Read reason)) p = p
prints_printed ops job text old new (Err (E.Write reason)) p = (p.0, p.1, p.2, done_printed ops job text p.0 p.1 p.3, p.4)
prints_printed ops job text old new (Err E.GateGaveUp) p = p

pub runs_printed : (ops : List Operation) (job : Job) (there left old new : Option (List ℕ)) (answer : Result End RunError) → RunsUngated IsFounded ops job there left old new answer → RunsUngated IsPrinted ops job there left old new answer
runs_printed ops job there left old new (Ok end) r = (r.0, r.1, prints_printed ops job r.0 old new (Ok end) r.2)
runs_printed ops job there left old new (Err E.Memory) r = r
runs_printed ops job there left old new (Err (E.Read reason)) r = r
runs_printed ops job there left old new (Err (E.Script refusal)) r = r
runs_printed ops job there left old new (Err E.TooManyProcesses) r = r
runs_printed ops job there left old new (Err (E.Write reason)) r = (r.0, r.1, prints_printed ops job r.0 old new (Err (E.Write reason)) r.2)
runs_printed ops job there left old new (Err E.GateGaveUp) r = absurd r.2
