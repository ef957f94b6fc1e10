use Rattle.std.proofs.Common.{◌≡◌, None, OnOk, IfErr, List, map, rules, subst, sym}
use Rattle.std.specs.Option.{option_copied}
use Rattle.mpx_num.specs.declared.own.Operation.{Operation}
use Rattle.mpx_num.specs.Own.{operation_of}
use Rattle.mpx_script.specs.Sentences.{IsLineRefusal, call_refusal, posting_refusal}
use Rattle.mpx_script.proofs.Refusals.{refusal_as_posting}
use Rattle.mpx_script.proofs.script_line.call_of.Goals as goal

pub returns-clause-accepted : goal.returns-clause-accepted
returns-clause-accepted g c =
    let ops : List Operation = map (λ b. let o = goal.OwnOp-dyn g (b.vtable, b.value) in operation_of (o.word_bytes b.value) (o.fits_type b.value) (o.combination b.value)) c.args.ops.now.list.items in
    let same : call_refusal ops c.args.kind c.args.mode (option_copied c.args.communicator) c.args.new.now c.args.call.now ≡ posting_refusal c.args.kind c.args.new.now c.args.call.now = refusal_as_posting ops c.args.kind c.args.mode (option_copied c.args.communicator) c.args.new.now c.args.call.now (search rules) (search rules) (search rules) (search rules) in
    subst (λ found. OnOk c.posting_in.result (found ≡ None)) (sym same) c.posting_in.ensures.accepted

pub returns-clause-refused : goal.returns-clause-refused
returns-clause-refused g c =
    let ops : List Operation = map (λ b. let o = goal.OwnOp-dyn g (b.vtable, b.value) in operation_of (o.word_bytes b.value) (o.fits_type b.value) (o.combination b.value)) c.args.ops.now.list.items in
    let same : call_refusal ops c.args.kind c.args.mode (option_copied c.args.communicator) c.args.new.now c.args.call.now ≡ posting_refusal c.args.kind c.args.new.now c.args.call.now = refusal_as_posting ops c.args.kind c.args.mode (option_copied c.args.communicator) c.args.new.now c.args.call.now (search rules) (search rules) (search rules) (search rules) in
    subst (λ found. IfErr c.posting_in.result (IsLineRefusal found)) (sym same) c.posting_in.ensures.refused
