use Rattle.std.proofs.Common.{◌≡◌, ◌++◌, List, OnOk, map, subst, ◌∙◌}
use Rattle.mpx_num.specs.declared.own.Operation.{Operation}
use Rattle.mpx_num.specs.Own.{operation_of}
use Rattle.mpx_meaning.specs.Standing.{looked_up}
use Rattle.mpx_eval.specs.Carrying.{shown}
use Rattle.mpx_eval.specs.Complaints.{ComplaintView}
use Rattle.mpx_eval.specs.Found.{complaint_view}
use Rattle.mpx_eval.specs.Tables.{answer_on, table_of}
use Rattle.mpx_eval.specs.Unheard.{unheard_from}
use Rattle.mpx_eval.proofs.Waits.{requests_same}
use Rattle.mpx_eval.proofs.unheard.push_of_rank.Goals as goal

pub returns : goal.returns
returns g c =
    let ops : List Operation = (map (λ b. let o = goal.OwnOp-dyn g (b.vtable, b.value) in operation_of (o.word_bytes b.value) (o.fits_type b.value) (o.combination b.value)) c.args.ops.now.list.items) in
    let r = shown c.args.place.now in
    let requests : looked_up c.requests.result.now ≡ r.requests = requests_same c.requests.result.now ∙ c.requests.ensures in
    subst (λ (more : List ComplaintView). OnOk c.push_unheard.result (map complaint_view c.push_unheard.new.found.items ≡ map complaint_view c.args.found.now.items ++ more))
    (λ i. unheard_from c.args.rank (requests i) (answer_on ops (table_of c.args.table.now) (c.me.ensures i)) 0 (c.statements-statements.ensures i))
    c.push_unheard.ensures
