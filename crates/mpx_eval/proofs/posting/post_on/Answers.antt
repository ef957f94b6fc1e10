use Rattle.std.proofs.Common.{List, map, refl}
use Rattle.mpx_num.specs.declared.own.Operation.{Operation}
use Rattle.mpx_num.specs.Own.{operation_of}
use Rattle.mpx_eval.specs.Tables.{table_of}
use Rattle.mpx_eval.proofs.Trying.{tries_as}
use Rattle.mpx_eval.proofs.posting.post_on.Goals as goal

pub returns-in-Ok : goal.returns-in-Ok
returns-in-Ok g c =
    let ops : List Operation = map (λ b. let o = goal.OwnOp-dyn g (b.vtable, b.value) in operation_of (o.word_bytes b.value) (o.fits_type b.value) (o.combination b.value)) c.args.ops.now.list.items in
    tries_as ops c.args.me c.args.draft c.in-Ok.name c.args.name.now c.args.birth.now c.args.birth.now c.post.result (table_of c.args.table.now) (table_of c.post.new.self) c.post.ensures c.in-Ok.ensures refl
