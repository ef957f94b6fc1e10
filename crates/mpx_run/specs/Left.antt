-- What is left of a job that has ended, by which it is explained: of a run its lines and its processes, as they stand at its end.
use Rattle.std.specs.Prelude.{◌≡◌, ℕ, Bool, true, false, List, [], map}
use Rattle.mpx_num.specs.declared.own.Operation.{Operation}
use Rattle.mpx_node.specs.Shown.{node_of}
use Rattle.mpx_statement.specs.declared.job.Command.{Command}
use Rattle.mpx_statement.specs.declared.job.Command.TheVariants.{Run, Eval, Check}
use Rattle.mpx_statement.specs.declared.job.Options.{Options}
use Rattle.mpx_script.specs.ScriptView.{ScriptView}
use Rattle.mpx_meaning.specs.Reports.{end_text}
use Rattle.mpx_run.specs.Founded.{IsSimulatedBy, IsThreadedBy}
use Rattle.mpx_run.specs.declared.end.End.{End}
use Rattle.mpx_run.specs.declared.report.Left.{Left}

-- the lines of each rank
abbrev pub transcripts_in : Left → List (List (List ℕ))
transcripts_in left = map end_text left.ends.items

-- this is left of a run of which this is the end and this the text: of one in threads its lines and its ports, of a simulated one its lines and its nodes, and nothing else
abbrev pub IsLeftIn : (threads : Bool) → List Operation → Options → ScriptView → End → (text : List ℕ) → Left → Type 0
IsLeftIn true ops options script end text left = IsThreadedBy left.ports.items (transcripts_in left) ops options script end text × (left.nodes.items ≡ [])
IsLeftIn false ops options script end text left = IsSimulatedBy (map node_of left.nodes.items) (transcripts_in left) ops options script end text × (left.ports.items ≡ [])

-- a job with this command, end and text leaves this: of a run what is left of it; of what an evaluation or a check leaves nothing is said
abbrev pub Leaves : List Operation → Command → Options → ScriptView → End → (text : List ℕ) → Left → Type 0
Leaves ops Run options script end text left = IsLeftIn options.threads ops options script end text left
Leaves ops Eval options script end text left = Unit {0}
Leaves ops Check options script end text left = Unit {0}
