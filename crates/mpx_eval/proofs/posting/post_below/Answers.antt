use Rattle.std.proofs.Common.{◌≡◌, ◌∷◌, List, map, rules, ◌∙◌}
use Rattle.mpx_num.specs.declared.own.Operation.{Operation}
use Rattle.mpx_num.specs.Own.{operation_of}
use Rattle.mpx_name.specs.Name.{Name}
use Rattle.mpx_name.specs.declared.steps.Step.TheVariants.{Gathering}
use Rattle.mpx_birth.specs.Births.{of_members}
use Rattle.mpx_eval.specs.Places.{gathering_name}
use Rattle.mpx_eval.specs.Tables.{table_of}
use Rattle.mpx_eval.proofs.Trying.{tries_as}
use Rattle.mpx_eval.proofs.posting.post_below.Goals as goal

pub returns-in-Ok-birth : goal.returns-in-Ok-birth
returns-in-Ok-birth g c =
    let ops : List Operation = map (λ b. let o = goal.OwnOp-dyn g (b.vtable, b.value) in operation_of (o.word_bytes b.value) (o.fits_type b.value) (o.combination b.value)) c.args.ops.now.list.items in
    let parent : Name = c.args.parent.now in
    let name : c.in-Ok.name ≡ gathering_name parent c.args.gathering.now = c.in-Ok.ensures.gathering ∙ λ i. Gathering (c.tag.ensures.value i) (c.members.ensures.value i) ∷ parent in
    tries_as ops c.args.me c.args.draft c.in-Ok.name (gathering_name parent c.args.gathering.now) _ (of_members c.args.gathering.now.members) c.post.result (table_of c.args.table.now) (table_of c.post.new.self) c.post.ensures name (search rules)
