-- Communicators as their members have them.
use Rattle.std.specs.Prelude.{Option, Some, None, Result, Ok, Err}
use Rattle.mpx_name.specs.Name.{Name}
use Rattle.mpx_post.specs.declared.draft.PostError.{PostError}
use Rattle.mpx_value.specs.declared.outcomes.Outcome.{Outcome}
use Rattle.mpx_value.specs.declared.outcomes.Outcome.TheVariants.{Nothing, Absent, Items, NewComm, Null, Fault}
use Rattle.mpx_comm.specs.declared.comm.Comm.{Comm}
use Rattle.mpx_comm.specs.declared.comm.OpenedGathering.{OpenedGathering}

-- the new communicator that a call gave the process, where it gave one
abbrev pub comm_of : Outcome → Option Comm
comm_of (NewComm name size rank) = Some (record { name = name; size = size; rank = rank })
comm_of Nothing = None
comm_of Absent = None
comm_of (Items items) = None
comm_of Null = None
comm_of (Fault fault) = None

-- the name of the gathering, where it is opened
abbrev pub gathering_in : Result OpenedGathering PostError → Result Name PostError
gathering_in (Ok gathering) = Ok gathering.name
gathering_in (Err refusal) = Err refusal
