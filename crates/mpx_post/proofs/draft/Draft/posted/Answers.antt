use Rattle.std.proofs.Common.{FitsSigned, rules, ◌∙◌, ◌≡◌, refl, sym}
use mir.Syntax.{w128}
use Rattle.std.proofs.lemmas.Int.{to_z-of_z}
use Rattle.mpx_post.specs.Drafts.{given_by, natural, where_had}
use Rattle.mpx_kind.specs.Kinds.{fields_of, is_had, kind_of}
use Rattle.mpx_post.proofs.Checks.{accepted, making_is_fine, refused_by_items, refused_by_rest}
use Rattle.mpx_post.proofs.Limits.{counts_given, few_given, is_some-where_had, root_given, type_given}
use Rattle.mpx_post.proofs.Makings.{has_mode}
use Rattle.mpx_post.proofs.Refusals.{items_passed}
use Rattle.mpx_post.proofs.draft.Draft.posted.Goals as goal

pub returns-in-Err : goal.returns-in-Err
returns-in-Err c = refused_by_items c.args.self c.args.refusal _ c.in-Err.refusal (rw (c.fields-fields.ensures, c.kind-kind.ensures, c.into_items.ensures) at (sym c.in-Err.is ∙ c.given_items.ensures))

pub returns-in-Err-rest : goal.returns-in-Err-rest
returns-in-Err-rest c =
    let items = items_passed _ _ _ _ _ (rw (c.fields-fields.ensures, c.kind-kind.ensures, c.into_items.ensures) at (sym c.in-Ok.is ∙ c.given_items.ensures)) in
    refused_by_rest c.args.self c.args.refusal c.in-Err-rest.refusal (items.0, items.1, items.2) c.in-Err-rest.ensures.err

pub new-requires : goal.new-requires
new-requires c =
    let draft = c.args.self in
    let rest = c.in-Ok-rest.ensures.ok in
    let fits : FitsSigned w128 draft.root = search rules in
    let root : c.given_root-root.result ≡ where_had (fields_of (kind_of draft.call)).root (natural draft.root) = simp to_z-of_z at (rw (c.fields-fields.ensures, c.kind-kind.ensures) at c.given_root-root.ensures) in
    let op : c.given_op-op.result ≡ where_had (fields_of (kind_of draft.call)).op draft.op = rw (c.fields-fields.ensures, c.kind-kind.ensures) at c.given_op-op.ensures in
    let items = items_passed _ _ _ _ _ (rw (c.fields-fields.ensures, c.kind-kind.ensures, c.into_items.ensures) at (sym c.in-Ok.is ∙ c.given_items.ensures)) in
    let spelled = c.in-Ok-spelled.ensures ∙ items.3 in
    record {
      root = rw (c.kind-kind.ensures, root) (is_some-where_had (fields_of (kind_of draft.call)).root _);
      root_below = rw root (root_given (fields_of (kind_of draft.call)).root draft.root c.requires.root);
      op = rw (c.kind-kind.ensures, op) (is_some-where_had (fields_of (kind_of draft.call)).op _);
      type = rw (op, spelled) (type_given (kind_of draft.call) draft.op draft.ty draft.items c.requires.op);
      scounts = rw (c.kind-kind.ensures, rest.2) (counts_given (is_had (fields_of (kind_of draft.call)).scounts) draft.scounts);
      rcounts = rw (c.kind-kind.ensures, rest.3) (counts_given (is_had (fields_of (kind_of draft.call)).rcounts) draft.rcounts);
      items = rw (c.kind-kind.ensures, spelled) (is_some-where_had (fields_of (kind_of draft.call)).items _);
      few = rw spelled (few_given (fields_of (kind_of draft.call)).items draft.ty draft.items items.2);
      mode = rw (c.kind-kind.ensures, c.mode-mode.ensures) (has_mode draft.call);
      making = rw (c.kind-kind.ensures, rest.4) (making_is_fine (fields_of (kind_of draft.call)).makes draft (c.requires.making rest.1));
    }

pub returns-in-Ok-spelled : goal.returns-in-Ok-spelled
returns-in-Ok-spelled c =
    let draft = c.args.self in
    let rest = c.in-Ok-rest.ensures.ok in
    let fits : FitsSigned w128 draft.root = search rules in
    let root : c.given_root-root.result ≡ where_had (fields_of (kind_of draft.call)).root (natural draft.root) = simp to_z-of_z at (rw (c.fields-fields.ensures, c.kind-kind.ensures) at c.given_root-root.ensures) in
    let op : c.given_op-op.result ≡ where_had (fields_of (kind_of draft.call)).op draft.op = rw (c.fields-fields.ensures, c.kind-kind.ensures) at c.given_op-op.ensures in
    let items = items_passed _ _ _ _ _ (rw (c.fields-fields.ensures, c.kind-kind.ensures, c.into_items.ensures) at (sym c.in-Ok.is ∙ c.given_items.ensures)) in
    let spelled = c.in-Ok-spelled.ensures ∙ items.3 in
    let given : c.new.result ≡ given_by draft = c.new.ensures ∙ (λ i. record { kind = c.kind-kind.ensures i; mode = c.mode-mode.ensures i; root = root i; op = op i; scounts = rest.2 i; rcounts = rest.3 i; items = spelled i; making = rest.4 i }) in
    rw (accepted draft c.args.refusal (items.0, items.1, items.2) rest.0 rest.1) given

pub returns-in-Err-spelled : goal.returns-in-Err-spelled
returns-in-Err-spelled c =
    let rest = c.in-Ok-rest.ensures.ok in
    let items = items_passed _ _ _ _ _ (rw (c.fields-fields.ensures, c.kind-kind.ensures, c.into_items.ensures) at (sym c.in-Ok.is ∙ c.given_items.ensures)) in
    rw (accepted c.args.self c.args.refusal (items.0, items.1, items.2) rest.0 rest.1) refl
