use Rattle.std.proofs.Common.{◌∙◌, ◌==◌, nat_eq, refl, sym}
use Rattle.mpx_post.specs.Equality.{same_given, same_items, same_option}
use Rattle.mpx_post.proofs.Equality.{eight_tests, modes_test, options_test}
use Rattle.mpx_post.proofs.post.PostExact.same.Goals as goal

pub returns : goal.returns
returns c =
    let left = c.self.inside in
    let right = c.other.inside in
    let all = eight_tests
    (λ i. c.code.ensures i == c.code-2.ensures i)
    (c.eq.ensures ∙ modes_test left.mode right.mode)
    (c.eq-2.ensures ∙ options_test nat_eq nat_eq (λ a b. refl) left.root right.root)
    c.have_same_op.ensures
    c.same.ensures
    c.same-2.ensures
    (c.are_same.ensures ∙ (λ i. same_option same_items (c.items.ensures.value i) (c.items-2.ensures.value i)) ∙ sym (λ i. same_option same_items (c.self.view_is i).items (c.other.view_is i).items))
    c.same-3.ensures in
    all ∙ (λ i. same_given (c.self.view_is i) (c.other.view_is i))
