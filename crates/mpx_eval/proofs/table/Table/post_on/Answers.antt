use Rattle.std.proofs.Common.{◌≡◌, sym, subst, Some, ◌∙◌, List, map}
use Rattle.std.proofs.lemmas.Option.{same_Some}
use Rattle.mpx_num.specs.declared.own.Operation.{Operation}
use Rattle.mpx_num.specs.Own.{operation_of}
use Rattle.mpx_eval.specs.Contexts.{ContextView}
use Rattle.mpx_eval.specs.Tables.{PostsOn, table_of}
use Rattle.mpx_eval.proofs.Tables.{lent, posts_lent}
use Rattle.mpx_eval.proofs.table.Table.post_on.Goals as goal

pub returns : goal.returns
returns g c = λ x e.
    let ops : List Operation = map (λ b. let o = goal.OwnOp-dyn g (b.vtable, b.value) in operation_of (o.word_bytes b.value) (o.fits_type b.value) (o.combination b.value)) c.args.ops.now.list.items in
    let o : ContextView = c.in-Some.context.now in
    let w : ContextView = c.post.new.self in
    let old = table_of c.args.self.now in
    let here : old c.args.name.now ≡ Some o = sym c.in-Some.ensures.value in
    subst (λ (y : ContextView). PostsOn ops c.args.me c.args.name.now c.args.draft c.post.result y old (table_of (record { contexts = c.get_mut.follows.lender w }))) (same_Some o x (sym here ∙ e))
    (posts_lent ops c.args.me c.args.name.now c.args.draft c.post.result o w old (table_of (record { contexts = c.get_mut.follows.lender w })) here
    (lent c.args.self.now.contexts (c.get_mut.follows.lender w) c.args.name.now o w c.in-Some.ensures.value (c.get_mut.follows.holds w))
    c.post.ensures.distinct c.post.ensures.posts)
