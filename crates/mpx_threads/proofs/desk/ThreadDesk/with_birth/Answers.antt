use Rattle.std.proofs.Common.{◌≡◌, sym, ap, subst}
use Rattle.mpx_value.specs.Histories.{answer_with, born_by}
use Rattle.mpx_shared.specs.Tickets.{TellsBirth}
use Rattle.mpx_rank.specs.Answered.{answer_of}
use Rattle.mpx_threads.specs.ToldCalls.{planned_birth}
use Rattle.mpx_threads.proofs.Asking.{born_so, comm_so, none_so}
use Rattle.mpx_threads.proofs.desk.ThreadDesk.with_birth.Goals as goal
use Rattle.mpx_threads.proofs.desk.ThreadDesk.with_birth.Goals.{in-NewComm+in_ok-birth-in-NewComm+in-Some, in-Nothing, in-Absent, in-Items, in-Null, in-Fault}

pub returns : goal.returns
returns g c =
    let d = g.L.PortLock in
    let births = planned_birth d.setup in
    let o = c.args.outcome in
    elim c.match-outcome.branch [
      | in-NewComm+in_ok-birth-in-NewComm+in-Some w ↦
          let tells = subst (TellsBirth d.table d.setup d.me d.opening w.in-NewComm.name) w.in-Some.is w.in_ok-birth-in-NewComm.ensures.then in
          let born = born_so d.table d.setup d.me c.self.invariant.0 w.in-NewComm.name w.in-Some.birth tells in
          subst (λ b. answer_of (record { outcome = o; born = b }) ≡ answer_with births o) (sym w.born-is) (comm_so d.setup o w.in-NewComm.name w.in-NewComm.size w.in-NewComm.rank w.in-Some.birth w.in-NewComm.is born)
      | in-Nothing w ↦ none_so d.setup o c.match-outcome.born w.born-is (ap (born_by births) w.in-Nothing.is)
      | in-Absent w ↦ none_so d.setup o c.match-outcome.born w.born-is (ap (born_by births) w.in-Absent.is)
      | in-Items w ↦ none_so d.setup o c.match-outcome.born w.born-is (ap (born_by births) w.in-Items.is)
      | in-Null w ↦ none_so d.setup o c.match-outcome.born w.born-is (ap (born_by births) w.in-Null.is)
      | in-Fault w ↦ none_so d.setup o c.match-outcome.born w.born-is (ap (born_by births) w.in-Fault.is)
    ]
