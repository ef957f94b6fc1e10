use Rattle.std.proofs.Common.{length, sym, ap, ◌∙◌}
use Rattle.mpx_kind.specs.Kinds.{fields_of}
use Rattle.mpx_format.specs.declared.versions.Version.TheVariants.{Two}
use Rattle.mpx_format.specs.Codes.{when, operation}
use Rattle.mpx_encode.proofs.Posts.{when_some, when_none}
use Rattle.mpx_encode.proofs.write_posts.operation_len.Goals as goal

pub returns-in-None-clause-value : goal.returns-in-None-clause-value
returns-in-None-clause-value c =
    let g = c.args.given.now in
    let had = (fields_of g.kind).op in
    sym (ap (λ o. length ((when had (operation Two)).spelling o)) (sym c.in-None.ensures.value) ∙ ap length (when_none had (operation Two)))

pub returns-in-Some-clause-value : goal.returns-in-Some-clause-value
unfolding operation
returns-in-Some-clause-value c =
    let g = c.args.given.now in
    let had = (fields_of g.kind).op in
    sym (ap (λ o. length ((when had (operation Two)).spelling o)) (sym c.in-Some.ensures.value) ∙ ap length (when_some had (operation Two) c.in-Some.field-0 c.in-Some.ensures.there))
