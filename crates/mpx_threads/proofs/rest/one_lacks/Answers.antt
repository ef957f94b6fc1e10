use Rattle.std.proofs.Common.{◌∙◌, Bor, None, Option, Some, ap, arith, inl, inr, sym, true}
use Rattle.std.specs.Prelude.{◌≡◌, is_some, slice_get}
use Rattle.std.specs.Option.{option_copied}
use Rattle.std.proofs.lemmas.Bool.{cases_eq}
use Rattle.std.proofs.lemmas.Option.{same_Some}
use Rattle.mpx_board.specs.Boards.{told}
use Rattle.mpx_board.specs.Looks.{look}
use Rattle.mpx_threads.proofs.Jobs.{read_at}
use Rattle.mpx_at_once.proofs.Tasks.{within_get}
use Rattle.mpx_threads.proofs.rest.one_lacks.Goals as goal

-- what is there is no copy of nothing
never_copied : {A : Type 0} (o : Option (Bor A)) → option_copied o ≡ None → is_some o ≡ true → ⊥
never_copied None e is = cc is
never_copied (Some x) e is = cc e

pub returns-clause-no : goal.returns-clause-no
returns-clause-no c t lacks = c.loop-i.invariant lacks.0 lacks.1.0 (omega (arith, within_get c.args.members.now lacks.0 lacks.1.0 lacks.1.1.0, c.loop-i-test.false)) lacks.1.1.0 lacks.1.1.1

pub loop-i-preserved : goal.loop-i-preserved
loop-i-preserved c place member less at none = elim (cases_eq place c.loop-i.i) [
  | inl same ↦
      let members = c.args.members.now in
      let here : slice_get members c.loop-i.i ≡ Some c.index-members-i.result = read_at members c.loop-i.i c.index-members-i.result (omega arith) c.index-members-i.is in
      let member_is = same_Some member c.index-members-i.result (sym at ∙ ap (slice_get members) same ∙ here) in
      never_copied c.holds.result (c.holds.ensures ∙ ap (λ m. told (((look c.args.board.now).contexts c.args.name.now).posts c.args.call m)) (sym member_is) ∙ none) c.if-is_none.ensures
  | inr other ↦ c.loop-i.invariant place member (omega (arith, less, other)) at none
]
