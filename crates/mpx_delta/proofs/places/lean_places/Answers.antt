-- One context after another.
use Rattle.std.proofs.Common.{◌≡◌, ◌+◌, IfNone, IfSome, Some, subst, sym, ap, ◌∙◌}
use Rattle.mpx_board.specs.Tidy.{is_tidy_lifted}
use Rattle.mpx_board.specs.Views.{view_of_acks, view_of_lifted}
use Rattle.mpx_digest.specs.Digest.{numbers_acked}
use Rattle.mpx_delta.specs.Lean.{lean_context, lean_lifted}
use Rattle.mpx_digest.proofs.Steps.{passes_at}
use Rattle.mpx_delta.proofs.InPlace.{PlacedSoFar, place_none, place_one}
use Rattle.mpx_delta.proofs.Leaning.{says_some}
use Rattle.mpx_delta.proofs.places.lean_places.Goals as goal
use Rattle.mpx_delta.proofs.places.lean_places.Goals.{in-Some+else-not-is_said+in_ok-push, in_default}

pub leaner-requires : goal.leaner-requires
leaner-requires c = passes_at view_of_lifted (λ x. is_tidy_lifted x.1) c.entries-entries.result.now _ c.loop-place.place c.index-entries-place.result c.loop-place-test.true c.index-entries-place.is c.entries-entries.ensures.entries c.requires

pub loop-place-preserved : goal.loop-place-preserved
loop-place-preserved c =
    let lean_at = lean_context (view_of_acks c.args.digest.now) in
    let entries = c.entries-entries.result.now in
    let place = c.loop-place.place in
    let entry = c.index-entries-place.result in
    elim c.match-branch-2.branch [
      | in-Some+else-not-is_said+in_ok-push w ↦
          subst (λ m. PlacedSoFar lean_at view_of_lifted entries m (place + 1)) (sym (ap (λ v. v.items) w.made-is ∙ w.in_ok-push.ensures.items))
          (place_one lean_at view_of_lifted entries c.loop-place.made.items place entry _ c.loop-place-test.true c.index-entries-place.is (says_some _ _ (subst (λ o. IfSome o (λ lean. view_of_lifted lean ≡ lean_lifted (numbers_acked (view_of_acks c.args.digest.now) entry.0) (view_of_lifted entry.1))) w.in-Some.is c.in_ok-lean.ensures.some) (sym w.if-not-is_said.false ∙ w.is_said.ensures)) c.loop-place.invariant)
      | in_default w ↦
          subst (λ m. PlacedSoFar lean_at view_of_lifted entries m (place + 1)) (sym (ap (λ v. v.items) w.made-is))
          (place_none lean_at view_of_lifted entries c.loop-place.made.items place entry c.loop-place-test.true c.index-entries-place.is (subst (λ o. IfNone o (lean_at entry.0 (view_of_lifted entry.1) ≡ Some (view_of_lifted entry.1))) w.in_default.is c.in_ok-lean.ensures.none) c.loop-place.invariant)
    ]
