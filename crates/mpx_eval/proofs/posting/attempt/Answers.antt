use Rattle.std.proofs.Common.{◌≡◌, List, Some, map, ap}
use Rattle.std.specs.Option.{option_copied}
use Rattle.mpx_num.specs.declared.own.Operation.{Operation}
use Rattle.mpx_num.specs.Own.{operation_of}
use Rattle.mpx_statement.specs.Statements.{gathers_of}
use Rattle.mpx_rank.specs.Places.{CommunicatorView}
use Rattle.mpx_eval.specs.Tables.{table_of}
use Rattle.mpx_eval.proofs.Trying.{tries_call, tries_gathering}
use Rattle.mpx_eval.proofs.posting.attempt.Goals as goal

pub returns-in-Call : goal.returns-in-Call
returns-in-Call g c =
    let ops : List Operation = map (λ b. let o = goal.OwnOp-dyn g (b.vtable, b.value) in operation_of (o.word_bytes b.value) (o.fits_type b.value) (o.combination b.value)) c.args.ops.now.list.items in
    let there : CommunicatorView = c.in-Some.there.now in
    let on : option_copied c.args.on ≡ Some there = ap option_copied c.in-Some.is in
    tries_call ops c.args.me c.in-Ok.draft c.args.posting.now (option_copied c.args.on) there on c.in-Ok.ensures c.post_on.result (table_of c.args.table.now) (table_of c.post_on.new.table) (ap gathers_of c.in-Call.is) c.post_on.ensures

pub returns-in-Start : goal.returns-in-Start
returns-in-Start g c =
    let ops : List Operation = map (λ b. let o = goal.OwnOp-dyn g (b.vtable, b.value) in operation_of (o.word_bytes b.value) (o.fits_type b.value) (o.combination b.value)) c.args.ops.now.list.items in
    let there : CommunicatorView = c.in-Some.there.now in
    let on : option_copied c.args.on ≡ Some there = ap option_copied c.in-Some.is in
    tries_call ops c.args.me c.in-Ok.draft c.args.posting.now (option_copied c.args.on) there on c.in-Ok.ensures c.post_on-in-Start.result (table_of c.args.table.now) (table_of c.post_on-in-Start.new.table) (ap gathers_of c.in-Start.is) c.post_on-in-Start.ensures

pub returns-in-New : goal.returns-in-New
returns-in-New g c =
    let ops : List Operation = map (λ b. let o = goal.OwnOp-dyn g (b.vtable, b.value) in operation_of (o.word_bytes b.value) (o.fits_type b.value) (o.combination b.value)) c.args.ops.now.list.items in
    let there : CommunicatorView = c.in-Some.there.now in
    let on : option_copied c.args.on ≡ Some there = ap option_copied c.in-Some.is in
    tries_call ops c.args.me c.in-Ok.draft c.args.posting.now (option_copied c.args.on) there on c.in-Ok.ensures c.post_on-in-New.result (table_of c.args.table.now) (table_of c.post_on-in-New.new.table) (ap gathers_of c.in-New.is) c.post_on-in-New.ensures

pub returns-in-CreateGroup : goal.returns-in-CreateGroup
returns-in-CreateGroup g c =
    let ops : List Operation = map (λ b. let o = goal.OwnOp-dyn g (b.vtable, b.value) in operation_of (o.word_bytes b.value) (o.fits_type b.value) (o.combination b.value)) c.args.ops.now.list.items in
    let there : CommunicatorView = c.in-Some.there.now in
    let on : option_copied c.args.on ≡ Some there = ap option_copied c.in-Some.is in
    tries_gathering ops c.args.me c.in-Ok.draft c.args.posting.now (option_copied c.args.on) there on c.in-Ok.ensures c.post_gathered.result (table_of c.args.table.now) (table_of c.post_gathered.new.table) (record { tag = c.in-CreateGroup.tag; ranks = c.in-CreateGroup.ranks }) (ap gathers_of c.in-CreateGroup.is) c.as_slice.result.now c.as_slice.ensures c.post_gathered.ensures
