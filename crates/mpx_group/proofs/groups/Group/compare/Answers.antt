use Rattle.std.proofs.Common.{◌≡◌, true, false, nat_eq, refl, sym, ◌∙◌}
use Rattle.std.specs.Cmp.Lexicographic.{pointwise, bytes_decides}
use Rattle.std.proofs.lemmas.Bool.{true≢false}
use Rattle.mpx_group.proofs.groups.Group.compare.Goals as goal

pub returns-then-eq-clause-ident : goal.returns-then-eq-clause-ident
returns-then-eq-clause-ident c =
    let same : pointwise nat_eq c.args.self.now c.args.other.now ≡ true = rw (← c.self.view_is, ← c.other.view_is) (sym c.eq.ensures ∙ c.if-eq.true) in
    (λ e. (bytes_decides _ _).0 same, λ q. refl)

pub returns-then-all_in-2-clause-ident : goal.returns-then-all_in-2-clause-ident
returns-then-all_in-2-clause-ident c =
    let differ : pointwise nat_eq c.args.self.now c.args.other.now ≡ false = rw (← c.self.view_is, ← c.other.view_is) (sym c.eq.ensures ∙ c.if-eq.false) in
    (λ e. cc e, λ q. absurd (true≢false (sym ((bytes_decides _ _).1 q) ∙ differ)))

pub returns-else-all_in-clause-ident : goal.returns-else-all_in-clause-ident
returns-else-all_in-clause-ident c =
    let differ : pointwise nat_eq c.args.self.now c.args.other.now ≡ false = rw (← c.self.view_is, ← c.other.view_is) (sym c.eq.ensures ∙ c.if-eq.false) in
    (λ e. cc e, λ q. absurd (true≢false (sym ((bytes_decides _ _).1 q) ∙ differ)))
