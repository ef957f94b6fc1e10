-- All posts of the call.
use Rattle.std.proofs.Common.{◌||◌, not, T, ap, sym, ◌∙◌, subst}
use Rattle.std.proofs.lemmas.List.{take_all}
use Rattle.std.specs.List.{list_any}
use Rattle.std.specs.Ordering.{nat_cmp}
use Rattle.std.specs.FinMap.{find, get-entries}
use Rattle.join_core.specs.FlatSeen.{flat_view}
use Rattle.join_nest.specs.Seen.{seen, sorted_seen}
use Rattle.join_nest.proofs.Places.{holds}
use Rattle.mpx_board.specs.Contexts.{or_unknown}
use Rattle.mpx_board.specs.Tidy.{is_unknown}
use Rattle.mpx_board.specs.Views.{view_of_call}
use Rattle.mpx_digest.proofs.Reaching.{told_at_key, told_found}
use Rattle.mpx_digest.proofs.digest.mark_posters.Goals as goal

pub returns : goal.returns
returns c before all p lt =
    let es = c.entries-process-items.result.now in
    c.loop-process.invariant.marked before all p lt
    ∙ ap (λ l. before p || list_any (told_at_key p) (seen (flat_view (λ v. v)) l)) (take_all c.loop-process.process-index es c.loop-process-test.false)
    ∙ ap (λ b. before p || b) (
    told_found p (seen (flat_view (λ v. v)) es) (subst T (sym (sorted_seen nat_cmp (flat_view (λ v. v)) es)) (holds _ c.entries-process-items.ensures.rising))
    ∙ ap (λ o. not (is_unknown (or_unknown o))) (ap (find nat_cmp p) c.entries-process-items.ensures.entries ∙ sym (get-entries (view_of_call c.args.posts.now) p))
    )
