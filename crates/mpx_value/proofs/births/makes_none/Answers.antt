use Rattle.std.proofs.Common.{◌≡◌, Bool, true, false, not, List, [], cond, refl, sym, ap, ◌∙◌}
use Rattle.mpx_match.specs.declared.faults.Verdict.{Verdict}
use Rattle.mpx_match.specs.declared.faults.Verdict.TheVariants as V
use Rattle.mpx_match.specs.Verdicts.{verdict}
use Rattle.mpx_kind.specs.declared.kinds.Kind.{Kind}
use Rattle.mpx_kind.specs.declared.kinds.Kind.TheVariants as K
use Rattle.mpx_kind.specs.Kinds.{makes_communicators}
use Rattle.mpx_birth.specs.Births.{BirthView}
use Rattle.mpx_post.specs.Posts.{Given}
use Rattle.mpx_post.specs.Rows.{RowView}
use Rattle.mpx_value.specs.Children.{ChildView, children, children_in, has_room, unless_fault}
use Rattle.mpx_value.proofs.births.makes_none.Goals as goal

-- the kind makes none
none_in : (kind : Kind) (birth : BirthView) (row : RowView) → makes_communicators kind ≡ false → children_in kind birth row ≡ []
none_in (K.NewCommunicator new) birth row e = cc e
none_in (K.Exchange exchange) birth row e = refl
none_in (K.Reduction reduction) birth row e = refl
none_in (K.Neighbourhood exchange) birth row e = refl
none_in K.Free birth row e = refl

-- and so does the call, whether its posts fit together or not
none_left : (room : Bool) (v : Verdict) (made : List ChildView) → made ≡ [] → cond room (unless_fault v made) [] ≡ []
none_left true V.Fine made e = e
none_left true (V.Fault fault) made e = refl
none_left false v made e = refl

is_false : (b : Bool) → not b ≡ true → b ≡ false
is_false true e = cc e
is_false false e = refl

pub returns-clause-none : goal.returns-clause-none
unfolding children
returns-clause-none c true_of ops birth row name call first =
    let kind : makes_communicators c.args.first.now.kind ≡ false = ap makes_communicators (sym c.kind.ensures) ∙ sym c.makes_communicators.ensures ∙ is_false c.makes_communicators.result true_of in
    none_left (has_room name) (verdict ops birth.topology row) _ (none_in _ birth row (ap (λ (p : Given). makes_communicators p.kind) first ∙ kind))
