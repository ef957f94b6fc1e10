use Rattle.std.proofs.Common.{ap, ◌∙◌, List, map}
use Rattle.std.specs.Prelude.{is_some}
use Rattle.mpx_num.specs.declared.own.Operation.{Operation}
use Rattle.mpx_num.specs.Own.{operation_of}
use Rattle.mpx_eval.specs.Tables.{or_fresh, table_of}
use Rattle.mpx_eval.proofs.Tables.{opened_here, tries_post, tries_refused}
use Rattle.mpx_eval.proofs.table.Table.post.Goals as goal

pub post_on-requires : goal.post_on-requires
post_on-requires g c = ap is_some (c.in-Ok.ensures c.args.name ∙ opened_here c.args.name c.args.birth.now (table_of c.args.self.now))

pub returns-in-Ok-post_on : goal.returns-in-Ok-post_on
returns-in-Ok-post_on g c = λ ranks made s born.
    let ops : List Operation = map (λ b. let o = goal.OwnOp-dyn g (b.vtable, b.value) in operation_of (o.word_bytes b.value) (o.fits_type b.value) (o.combination b.value)) c.args.ops.now.list.items in
    let t = table_of c.args.self.now in
    tries_post ops ranks t made s c.args.name c.args.birth.now born c.args.me c.args.draft (table_of c.open.new.self) (table_of c.post_on.new.self) c.in-Ok.ensures c.in-Ok-post_on.call
    (c.in-Ok-post_on.ensures (or_fresh c.args.birth.now (t c.args.name)) (c.in-Ok.ensures c.args.name ∙ opened_here c.args.name c.args.birth.now t))

pub returns-in-Err-post_on : goal.returns-in-Err-post_on
returns-in-Err-post_on g c = λ ranks made s born.
    let ops : List Operation = map (λ b. let o = goal.OwnOp-dyn g (b.vtable, b.value) in operation_of (o.word_bytes b.value) (o.fits_type b.value) (o.combination b.value)) c.args.ops.now.list.items in
    let t = table_of c.args.self.now in
    tries_refused ops ranks t made s c.args.name c.args.birth.now born c.args.me c.args.draft (table_of c.open.new.self) (table_of c.post_on.new.self) c.in-Ok.ensures c.in-Err-post_on.refusal
    (c.in-Err-post_on.ensures (or_fresh c.args.birth.now (t c.args.name)) (c.in-Ok.ensures c.args.name ∙ opened_here c.args.name c.args.birth.now t))
