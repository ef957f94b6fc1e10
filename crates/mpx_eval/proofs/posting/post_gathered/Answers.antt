use Rattle.std.proofs.Common.{◌≡◌, Bool, sym, ap, ◌∙◌, subst, length, List, map}
use Rattle.std.specs.Prelude.{Ok, Err}
use Rattle.mpx_num.specs.declared.own.Operation.{Operation}
use Rattle.mpx_num.specs.Own.{operation_of}
use Rattle.mpx_post.specs.Gatherings.{gathering}
use Rattle.mpx_meaning.specs.Ranks.{post_gathered}
use Rattle.mpx_value.specs.Histories.{has_freed, history_of}
use Rattle.mpx_eval.specs.Tables.{TableTries, table_of}
use Rattle.mpx_eval.proofs.Gathered.{born_below, checks_gathering, checks_refusal}
use Rattle.mpx_eval.proofs.Tables.{freed_shown}
use Rattle.mpx_eval.proofs.posting.post_gathered.Goals as goal

pub returns-in-Ok : goal.returns-in-Ok
returns-in-Ok g c = λ count made shows born.
    let ops : List Operation = map (λ b. let o = goal.OwnOp-dyn g (b.vtable, b.value) in operation_of (o.word_bytes b.value) (o.fits_type b.value) (o.combination b.value)) c.args.ops.now.list.items in
    let g = c.in-Ok.gathering in
    let depth = length c.args.parent.now in
    let gathers = λ (closed : Bool). gathering c.args.birth.now c.args.me depth closed c.args.tag.now c.args.ranks.now in
    let closed : c.has_freed-closed.result ≡ has_freed c.args.parent.now (made c.args.me) = c.has_freed-closed.ensures ∙ freed_shown ops count (table_of c.args.table.now) made shows c.args.me c.args.parent.now in
    let is : gathers (has_freed c.args.parent.now (made c.args.me)) ≡ Ok g = ap gathers (sym closed) ∙ checks_gathering (gathers c.has_freed-closed.result) g c.in-Ok.ensures in
    subst (λ r. TableTries ops count made c.args.me (post_gathered ops c.args.me (made c.args.me) c.args.draft c.args.parent.now r) c.post_below.result (table_of c.post_below.new.table)) (sym is)
    (c.post_below.ensures count made shows (born_below (history_of ops made) count c.args.parent.now c.args.birth.now c.args.me depth (has_freed c.args.parent.now (made c.args.me)) c.args.tag.now c.args.ranks.now g born is))

pub returns-in-Err : goal.returns-in-Err
returns-in-Err g c = λ count made shows born other.
    let ops : List Operation = map (λ b. let o = goal.OwnOp-dyn g (b.vtable, b.value) in operation_of (o.word_bytes b.value) (o.fits_type b.value) (o.combination b.value)) c.args.ops.now.list.items in
    let depth = length c.args.parent.now in
    let gathers = λ (closed : Bool). gathering c.args.birth.now c.args.me depth closed c.args.tag.now c.args.ranks.now in
    let closed : c.has_freed-closed.result ≡ has_freed c.args.parent.now (made c.args.me) = c.has_freed-closed.ensures ∙ freed_shown ops count (table_of c.args.table.now) made shows c.args.me c.args.parent.now in
    let is : gathers (has_freed c.args.parent.now (made c.args.me)) ≡ Err c.in-Err.refusal = ap gathers (sym closed) ∙ checks_refusal (gathers c.has_freed-closed.result) c.in-Err.refusal c.in-Err.ensures other in
    (ap (post_gathered ops c.args.me (made c.args.me) c.args.draft c.args.parent.now) is, shows)
