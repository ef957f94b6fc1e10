-- The numbers of the context, or none.
use Rattle.std.proofs.Common.{◌≡◌, Some, subst, sym, ap, ◌∙◌}
use Rattle.std.specs.Option.{option_copied, option_map}
use Rattle.join_nest.specs.Lift.{live}
use Rattle.mpx_board.specs.Tidy.{is_tidy_lifted}
use Rattle.mpx_board.specs.Views.{view_of_acks, view_of_entry, view_of_lifted, view_of_numbers}
use Rattle.mpx_digest.specs.Digest.{numbers_acked}
use Rattle.mpx_delta.specs.Lean.{lean_context, lean_entry, lean_lifted}
use Rattle.mpx_delta.proofs.InPlace.{stays_live}
use Rattle.mpx_delta.proofs.Leaning.{some_numbers}
use Rattle.mpx_delta.proofs.places.leaner.Goals as goal

pub returns-in-None-clause-none : goal.returns-in-None-clause-none
returns-in-None-clause-none c =
    let digest = view_of_acks c.args.digest.now in
    let is = ap view_of_lifted c.in-Live.is in
    subst (λ l. lean_context digest c.args.name.now l ≡ Some l) (sym is)
    (stays_live digest c.args.name.now (view_of_entry c.in-Live.entry) (sym c.get.ensures ∙ ap (λ o. option_map view_of_numbers (option_copied o)) c.in-None.is) (ap is_tidy_lifted (sym is) ∙ c.requires))

pub returns-in_ok-lean_entry-in-Some-clause-some : goal.returns-in_ok-lean_entry-in-Some-clause-some
returns-in_ok-lean_entry-in-Some-clause-some c =
    let digest = view_of_acks c.args.digest.now in
    let name = c.args.name.now in
    ap live (c.in_ok-lean_entry-in-Some.ensures
    ∙ ap (λ n. lean_entry n (view_of_entry c.in-Live.entry)) (some_numbers digest name _ (sym c.get.ensures ∙ ap (λ o. option_map view_of_numbers (option_copied o)) c.in-Some.is)))
    ∙ ap (lean_lifted (numbers_acked digest name)) (sym (ap view_of_lifted c.in-Live.is))
