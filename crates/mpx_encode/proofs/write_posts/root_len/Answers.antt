use Rattle.std.proofs.Common.{length, sym, ap, ◌∙◌}
use Rattle.mpx_kind.specs.Kinds.{fields_of}
use Rattle.mpx_format.specs.Fields.{process}
use Rattle.mpx_format.specs.Codes.{when}
use Rattle.mpx_encode.proofs.Posts.{when_some, when_none}
use Rattle.mpx_encode.proofs.write_posts.root_len.Goals as goal

pub returns-in-None-clause-value : goal.returns-in-None-clause-value
returns-in-None-clause-value c =
    let g = c.args.given.now in
    let had = (fields_of g.kind).root in
    sym (ap (λ o. length ((when had process).spelling o)) (sym c.in-None.ensures.value) ∙ ap length (when_none had process))

pub returns-in-Some-clause-value : goal.returns-in-Some-clause-value
unfolding process
returns-in-Some-clause-value c =
    let g = c.args.given.now in
    let had = (fields_of g.kind).root in
    sym (ap (λ o. length ((when had process).spelling o)) (sym c.in-Some.ensures.value) ∙ ap length (when_some had process c.in-Some.field-0 c.in-Some.ensures.there))
