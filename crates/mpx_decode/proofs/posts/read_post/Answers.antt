use Rattle.std.proofs.Common.{◌++◌, ap, ◌∙◌, arith}
use Rattle.std.proofs.lemmas.Result.{err_from_is_err_and}
use Rattle.mpx_kind.specs.Kinds.{fields_of, is_had}
use Rattle.mpx_kind.specs.declared.kinds.Fields.{Fields}
use Rattle.mpx_num.proofs.Spellings.{IsBytes}
use Rattle.mpx_format.specs.Posts.{items_for, nums_of, post}
use Rattle.mpx_format.proofs.CodeLaws.{kind_laws, mode_laws, operation_laws, when_laws}
use Rattle.mpx_format.proofs.FieldLaws.{process_laws}
use Rattle.mpx_format.proofs.PostLaws.{type_for_laws}
use Rattle.mpx_decode.proofs.Loop.{fails_on}
use Rattle.mpx_decode.proofs.NearBytes.{counts_if_laws, fails_all, fails_near, left_bytes, read_near, read_on}
use Rattle.mpx_decode.proofs.PostLimits.{items_there, operation_fits, post_whole}
use Rattle.mpx_decode.proofs.posts.read_post.Goals as goal

pub returns-in_err-kind-clause-read : goal.returns-in_err-kind-clause-read
unfolding post
returns-in_err-kind-clause-read c =
    let p = err_from_is_err_and c.from_residual.result c.from_residual.ensures.1 in
    let e = c.in_err-kind.field-0.0 in
    rw (p.1, p.2) (λ none. fails_all (post c.args.version) c.args.bytes.now c.args.beyond.now none e (fails_on e _ _ (fails_on e _ _ c.in_err-kind.ensures)))

pub returns-in_err-mode-clause-read : goal.returns-in_err-mode-clause-read
unfolding post
returns-in_err-mode-clause-read c =
    let p = err_from_is_err_and c.from_residual-in_err-mode.result c.from_residual-in_err-mode.ensures.1 in
    let e = c.in_err-mode.field-0.0 in
    let h = c.in_err-mode.ensures.read in
    rw (p.1, p.2) (λ none. fails_all (post c.args.version) c.args.bytes.now c.args.beyond.now none e (rw (c.in_ok-kind.ensures) (fails_on e _ _ (fails_on e _ _ (fails_on e _ _ h)))))

pub returns-in_err-root-clause-read : goal.returns-in_err-root-clause-read
unfolding post
returns-in_err-root-clause-read c =
    let p = err_from_is_err_and c.from_residual-in_err-root.result c.from_residual-in_err-root.ensures.1 in
    let e = c.in_err-root.field-0.0 in
    let h = rw c.fields-fields.ensures at c.in_err-root.ensures.read in
    rw (p.1, p.2) (λ none. fails_all (post c.args.version) c.args.bytes.now c.args.beyond.now none e (rw (c.in_ok-kind.ensures, c.in_ok-mode.ensures.read) (fails_on e _ _ (fails_on e _ _ (fails_on e _ _ (fails_on e _ _ h))))))

pub returns-in_err-op-clause-read : goal.returns-in_err-op-clause-read
unfolding post
returns-in_err-op-clause-read c =
    let p = err_from_is_err_and c.from_residual-in_err-op.result c.from_residual-in_err-op.ensures.1 in
    let e = c.in_err-op.field-0.0 in
    let root = rw c.fields-fields.ensures at c.in_ok-root.ensures.read in
    let h = rw c.fields-fields.ensures at c.in_err-op.ensures.read in
    rw (p.1, p.2) (λ none. fails_all (post c.args.version) c.args.bytes.now c.args.beyond.now none e (rw (c.in_ok-kind.ensures, c.in_ok-mode.ensures.read, root) (fails_on e _ _ (fails_on e _ _ (fails_on e _ _ (fails_on e _ _ (fails_on e _ _ h)))))))

pub returns-in_err-ty-clause-read : goal.returns-in_err-ty-clause-read
unfolding post
returns-in_err-ty-clause-read c =
    let p = err_from_is_err_and c.from_residual-in_err-ty.result c.from_residual-in_err-ty.ensures.1 in
    let e = c.in_err-ty.field-0.0 in
    let root = rw c.fields-fields.ensures at c.in_ok-root.ensures.read in
    let op = rw c.fields-fields.ensures at c.in_ok-op.ensures.read in
    let h = rw c.fields-fields.ensures at c.in_err-ty.ensures.read in
    rw (p.1, p.2) (λ none. fails_all (post c.args.version) c.args.bytes.now c.args.beyond.now none e (rw (c.in_ok-kind.ensures, c.in_ok-mode.ensures.read, root, op) (fails_on e _ _ (fails_on e _ _ (fails_on e _ _ (fails_on e _ _ (fails_on e _ _ (fails_on e _ _ h))))))))

pub returns-in_err-scounts-clause-read : goal.returns-in_err-scounts-clause-read
unfolding post
returns-in_err-scounts-clause-read c =
    let p = err_from_is_err_and c.from_residual-in_err-scounts.result c.from_residual-in_err-scounts.ensures.1 in
    let e = c.in_err-scounts.field-0.0 in
    let root = rw c.fields-fields.ensures at c.in_ok-root.ensures.read in
    let op = rw c.fields-fields.ensures at c.in_ok-op.ensures.read in
    let ty = rw c.fields-fields.ensures at c.in_ok-ty.ensures.read in
    let h = rw (c.is_had-sent.ensures, c.fields-fields.ensures) at c.in_err-scounts.ensures.read in
    rw (p.1, p.2) (λ none. fails_all (post c.args.version) c.args.bytes.now c.args.beyond.now none e (rw (c.in_ok-kind.ensures, c.in_ok-mode.ensures.read, root, op, ty) (fails_on e _ _ (fails_on e _ _ (fails_on e _ _ (fails_on e _ _ (fails_on e _ _ (fails_on e _ _ (fails_on e _ _ h)))))))))

pub returns-in_err-rcounts-clause-read : goal.returns-in_err-rcounts-clause-read
unfolding post
returns-in_err-rcounts-clause-read c =
    let p = err_from_is_err_and c.from_residual-in_err-rcounts.result c.from_residual-in_err-rcounts.ensures.1 in
    let e = c.in_err-rcounts.field-0.0 in
    let root = rw c.fields-fields.ensures at c.in_ok-root.ensures.read in
    let op = rw c.fields-fields.ensures at c.in_ok-op.ensures.read in
    let ty = rw c.fields-fields.ensures at c.in_ok-ty.ensures.read in
    let scounts = rw (c.is_had-sent.ensures, c.fields-fields.ensures) at c.in_ok-scounts.ensures.read in
    let h = rw (c.is_had-got.ensures, c.fields-fields.ensures) at c.in_err-rcounts.ensures.read in
    rw (p.1, p.2) (λ none. fails_all (post c.args.version) c.args.bytes.now c.args.beyond.now none e (rw (c.in_ok-kind.ensures, c.in_ok-mode.ensures.read, root, op, ty, scounts) (fails_on e _ _ (fails_on e _ _ (fails_on e _ _ (fails_on e _ _ (fails_on e _ _ (fails_on e _ _ (fails_on e _ _ (fails_on e _ _ h))))))))))

pub returns-in_err-items-clause-read : goal.returns-in_err-items-clause-read
unfolding post
returns-in_err-items-clause-read c =
    let p = err_from_is_err_and c.from_residual-in_err-items.result c.from_residual-in_err-items.ensures.1 in
    let e = c.in_err-items.field-0.0 in
    let root = rw c.fields-fields.ensures at c.in_ok-root.ensures.read in
    let op = rw c.fields-fields.ensures at c.in_ok-op.ensures.read in
    let ty = rw c.fields-fields.ensures at c.in_ok-ty.ensures.read in
    let scounts = rw (c.is_had-sent.ensures, c.fields-fields.ensures) at c.in_ok-scounts.ensures.read in
    let rcounts = rw (c.is_had-got.ensures, c.fields-fields.ensures) at c.in_ok-rcounts.ensures.read in
    rw (p.1, p.2) (λ none. fails_all (post c.args.version) c.args.bytes.now c.args.beyond.now none e (rw (c.in_ok-kind.ensures, c.in_ok-mode.ensures.read, root, op, ty, scounts, rcounts) (fails_on e _ _ (fails_on e _ _ (fails_on e _ _ (fails_on e _ _ (fails_on e _ _ (fails_on e _ _ (fails_on e _ _ (fails_on e _ _ (fails_on e _ _ (fails_near (items_for c.in_ok-ty.ty) c.in_ok-rcounts.b7.now c.args.beyond.now none e (c.in_err-items.ensures.read none)))))))))))))

pub returns-in_err-making-clause-read : goal.returns-in_err-making-clause-read
unfolding post
returns-in_err-making-clause-read c =
    let p = err_from_is_err_and c.from_residual-in_err-making.result c.from_residual-in_err-making.ensures.1 in
    let e = c.in_err-making.field-0.0 in
    let root = rw c.fields-fields.ensures at c.in_ok-root.ensures.read in
    let op = rw c.fields-fields.ensures at c.in_ok-op.ensures.read in
    let ty = rw c.fields-fields.ensures at c.in_ok-ty.ensures.read in
    let scounts = rw (c.is_had-sent.ensures, c.fields-fields.ensures) at c.in_ok-scounts.ensures.read in
    let rcounts = rw (c.is_had-got.ensures, c.fields-fields.ensures) at c.in_ok-rcounts.ensures.read in
    let h = rw c.fields-fields.ensures at c.in_err-making.ensures.read in
    rw (p.1, p.2) (λ none. fails_all (post c.args.version) c.args.bytes.now c.args.beyond.now none e (rw (c.in_ok-kind.ensures, c.in_ok-mode.ensures.read, root, op, ty, scounts, rcounts, read_near (items_for c.in_ok-ty.ty) c.in_ok-rcounts.b7.now c.args.beyond.now none c.read_items_for.new.beyond c.read_items_for.ensures.less (nums_of c.in_ok-items.items) c.in_ok-items.b8.now c.in_ok-items.ensures.read) (fails_on e _ _ (fails_on e _ _ (fails_on e _ _ (fails_on e _ _ (fails_on e _ _ (fails_on e _ _ (fails_on e _ _ (fails_on e _ _ (fails_on e _ _ h)))))))))))

pub new-post-requires : goal.new-post-requires
new-post-requires c =
    let fields = c.fields-fields.ensures in
    record {
      root = c.in_ok-root.ensures.there ∙ ap (λ (f : Fields). f.root) fields;
      root_below = c.in_ok-root.ensures.below;
      op = c.in_ok-op.ensures.there ∙ ap (λ (f : Fields). f.op) fields;
      type = operation_fits c.in_ok-kind.kind c.in_ok-op.op c.in_ok-items.items c.in_ok-ty.ty c.in_ok-items.ensures.ty (c.in_ok-op.ensures.there ∙ ap (λ (f : Fields). f.op) fields) (c.in_ok-ty.ensures.there ∙ ap (λ (f : Fields). f.items) fields) c.in_ok-ty.ensures.fits;
      scounts = rw (c.is_had-sent.ensures, fields) at c.in_ok-scounts.ensures.none;
      rcounts = rw (c.is_had-got.ensures, fields) at c.in_ok-rcounts.ensures.none;
      items = items_there c.in_ok-items.items c.in_ok-ty.ty _ c.in_ok-items.ensures.ty (c.in_ok-ty.ensures.there ∙ ap (λ (f : Fields). f.items) fields);
      few = c.in_ok-items.ensures.few;
      mode = c.in_ok-mode.ensures.may;
      making = rw fields at c.in_ok-making.ensures.is;
    }

pub returns-clause-read : goal.returns-clause-read
unfolding post
returns-clause-read c =
    let k = c.in_ok-kind.kind in
    let v = c.args.version in
    let more = c.args.beyond.now in
    let bytes = c.args.bytes.now in
    let b1 = c.in_ok-kind.b1.now in
    let b2 = c.in_ok-mode.b2.now in
    let b3 = c.in_ok-root.b3.now in
    let b4 = c.in_ok-op.b4.now in
    let b5 = c.in_ok-ty.b5.now in
    let b6 = c.in_ok-scounts.b6.now in
    let b7 = c.in_ok-rcounts.b7.now in
    let h0 : IsBytes bytes = λ i. omega (arith, c.type_inv.bytes i) in
    let root = rw c.fields-fields.ensures at c.in_ok-root.ensures.read in
    let op = rw c.fields-fields.ensures at c.in_ok-op.ensures.read in
    let ty = rw c.fields-fields.ensures at c.in_ok-ty.ensures.read in
    let scounts = rw (c.is_had-sent.ensures, c.fields-fields.ensures) at c.in_ok-scounts.ensures.read in
    let rcounts = rw (c.is_had-got.ensures, c.fields-fields.ensures) at c.in_ok-rcounts.ensures.read in
    let making = rw c.fields-fields.ensures at c.in_ok-making.ensures.whole in
    let l1 = kind_laws v in
    let l2 = mode_laws k in
    let l3 = when_laws (fields_of k).root process_laws in
    let l4 = when_laws (fields_of k).op (operation_laws v) in
    let l5 = when_laws (fields_of k).items (type_for_laws c.in_ok-op.op) in
    let l6 = counts_if_laws (is_had (fields_of k).scounts) in
    let l7 = counts_if_laws (is_had (fields_of k).rcounts) in
    let h1 = left_bytes l1 bytes b1 k h0 c.in_ok-kind.ensures in
    let h2 = left_bytes l2 b1 b2 c.in_ok-mode.mode h1 c.in_ok-mode.ensures.read in
    let h3 = left_bytes l3 b2 b3 c.in_ok-root.root h2 root in
    let h4 = left_bytes l4 b3 b4 c.in_ok-op.op h3 op in
    let h5 = left_bytes l5 b4 b5 c.in_ok-ty.ty h4 ty in
    let h6 = left_bytes l6 b5 b6 c.in_ok-scounts.scounts h5 scounts in
    let kind_on = read_on l1 bytes b1 k h0 c.in_ok-kind.ensures more in
    let mode_on = read_on l2 b1 b2 c.in_ok-mode.mode h1 c.in_ok-mode.ensures.read more in
    let root_on = read_on l3 b2 b3 c.in_ok-root.root h2 root more in
    let op_on = read_on l4 b3 b4 c.in_ok-op.op h3 op more in
    let ty_on = read_on l5 b4 b5 c.in_ok-ty.ty h4 ty more in
    let scounts_on = read_on l6 b5 b6 c.in_ok-scounts.scounts h5 scounts more in
    let rcounts_on = read_on l7 b6 b7 c.in_ok-rcounts.rcounts h6 rcounts more in
    let making_on = making c.read_items_for.new.beyond in
    rw (kind_on, mode_on, root_on, op_on, ty_on, scounts_on, rcounts_on, c.in_ok-items.ensures.read, making_on, c.new-post.ensures) (post_whole k c.in_ok-mode.mode c.in_ok-root.root c.in_ok-op.op c.in_ok-ty.ty c.in_ok-scounts.scounts c.in_ok-rcounts.rcounts c.in_ok-items.items c.in_ok-making.making (c.in_ok-making.rest.now ++ c.read_items_for.new.beyond) c.in_ok-items.ensures.ty)
