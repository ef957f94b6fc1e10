use Rattle.std.proofs.Common.{◌≡◌, ◌+◌, not, length, sym, ap, ◌∙◌}
use Rattle.join_core.specs.declared.flats.Flat.{Flat}
use Rattle.join_core.specs.Flat.{FlatView, known}
use Rattle.join_core.specs.FlatSeen.{flat_view}
use Rattle.mpx_board.specs.Tidy.{is_unknown}
use Rattle.mpx_post.specs.Posts.{Given}
use Rattle.mpx_format.specs.declared.versions.Version.TheVariants.{Two}
use Rattle.mpx_format.specs.Contexts.{posted}
use Rattle.mpx_encode.specs.Room.{room_left}
use Rattle.mpx_encode.proofs.Contexts.{all_left, posted_known_fits, length-posted}
use Rattle.mpx_encode.proofs.write_contexts.FlatPostWriteValue.room_after.Goals as goal

abbrev says : Flat Given → FlatView Given
says p = flat_view (λ v. v) p

pub returns-in-Unknown-clause-value : goal.returns-in-Unknown-clause-value
unfolding posted
returns-in-Unknown-clause-value c = c.room_left.ensures ∙ ap (λ s. room_left (length ((posted Two).spelling (says s))) c.args.room) (sym c.in-Unknown.is)

pub returns-in-Clash-clause-value : goal.returns-in-Clash-clause-value
unfolding posted
returns-in-Clash-clause-value c = c.room_left-in-Clash.ensures ∙ ap (λ s. room_left (length ((posted Two).spelling (says s))) c.args.room) (sym c.in-Clash.is)

pub returns-in-Unknown-clause-fits : goal.returns-in-Unknown-clause-fits
returns-in-Unknown-clause-fits c =
    let told = ap (λ s. not (is_unknown (says s))) c.in-Unknown.is in
    let needed = c.requires in
    absurd cc

pub returns-in-Known-clause-value : goal.returns-in-Known-clause-value
returns-in-Known-clause-value c =
    let p = c.in-Known.post in
    let long : 1 + c.post_len.result ≡ length ((posted Two).spelling (known p)) = ap (λ n. 1 + n) c.post_len.ensures.value ∙ sym (length-posted p) in
    c.room_left-in-Known.ensures ∙ ap (λ n. room_left n c.args.room) (long ∙ sym (ap (λ s. length ((posted Two).spelling (says s))) c.in-Known.is))

pub returns-in-Known-clause-fits : goal.returns-in-Known-clause-fits
returns-in-Known-clause-fits c = all_left c.room_left-in-Known.result (ap (λ s. (posted Two).fits (says s)) c.in-Known.is ∙ posted_known_fits c.in-Known.post c.post_len.ensures.fits)

pub returns-in-Clash-clause-fits : goal.returns-in-Clash-clause-fits
unfolding posted
returns-in-Clash-clause-fits c = all_left c.room_left-in-Clash.result (ap (λ s. (posted Two).fits (says s)) c.in-Clash.is)
