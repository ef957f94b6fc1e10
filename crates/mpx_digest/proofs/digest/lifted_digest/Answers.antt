-- The digest of a live context, or nobody's number.
use Rattle.std.proofs.Common.{◌≡◌, true, not, sym, ap, ◌∙◌, subst}
use Rattle.std.proofs.lemmas.Result.{IfOk-weaker}
use Rattle.join_core.specs.laws.Cases.{second_true}
use Rattle.mpx_board.specs.Tidy.{all_entries, has_no_zero, is_neat_entry, is_tidy_call, is_tidy_entry, is_tidy_lifted, says_nothing}
use Rattle.mpx_board.specs.Views.{view_of_entry, view_of_lifted}
use Rattle.mpx_digest.specs.Reach.{digest_lifted}
use Rattle.mpx_digest.proofs.digest.lifted_digest.Goals as goal

pub entry_digest-requires : goal.entry_digest-requires
entry_digest-requires c =
    let e = view_of_entry c.in-Live.entry in
    let tidy : is_tidy_entry e ≡ true = subst (λ l. is_tidy_lifted (view_of_lifted l) ≡ true) c.in-Live.is c.requires in
    second_true (has_no_zero e.1.0) (all_entries is_tidy_call e.1.1.calls) (second_true (not (says_nothing e)) (is_neat_entry e) tidy)

pub returns-in-Live : goal.returns-in-Live
returns-in-Live c = IfOk-weaker c.entry_digest.result _ _ (λ made is. is ∙ ap (λ l. digest_lifted (view_of_lifted l)) (sym c.in-Live.is)) c.entry_digest.ensures

pub returns-in-Dead : goal.returns-in-Dead
returns-in-Dead c = c.new.ensures ∙ ap (λ l. digest_lifted (view_of_lifted l)) (sym c.in-Dead.is)
