use Rattle.std.proofs.Common.{◌∙◌, FitsSigned, nat_eq, refl, rules}
use mir.Syntax.{w32}
use Rattle.std.specs.Bool.{beq}
use Rattle.std.specs.Ordering.{int_eq}
use lib.Pointwise.{pointwise}
use Rattle.mpx_birth.specs.Topologies.{same_neighbours}
use Rattle.mpx_post.specs.Equality.{same_edge, same_makes, same_option}
use Rattle.mpx_post.proofs.Equality.{eight_tests, integers_test, makes_test, options_test}
use Rattle.mpx_post.proofs.making.Making.has_same_parts.Goals as goal

pub returns : goal.returns
returns c =
    let small : FitsSigned w32 c.key.result = search rules in
    let small_too : FitsSigned w32 c.key-2.result = search rules in
    eight_tests
    (c.eq.ensures ∙ makes_test c.makes.result c.makes-2.result ∙ (λ i. same_makes (c.makes.ensures i) (c.makes-2.ensures i)))
    (c.eq-2.ensures ∙ options_test nat_eq nat_eq (λ a b. refl) c.colour.result c.colour-2.result ∙ (λ i. same_option nat_eq (c.colour.ensures i) (c.colour-2.ensures i)))
    (integers_test c.key.result c.key-2.result small small_too ∙ (λ i. int_eq (c.key.ensures i) (c.key-2.ensures i)))
    (c.eq-3.ensures ∙ (λ i. pointwise nat_eq (c.group.ensures i) (c.group-2.ensures i)))
    (λ i. beq (c.weighted.ensures i) (c.weighted-2.ensures i))
    (c.eq-4.ensures ∙ (λ i. pointwise same_edge (c.edges.ensures i) (c.edges-2.ensures i)))
    (c.eq-5.ensures ∙ (λ i. same_neighbours (c.sources.ensures i) (c.sources-2.ensures i)))
    (c.eq-6.ensures ∙ (λ i. same_neighbours (c.destinations.ensures i) (c.destinations-2.ensures i)))
