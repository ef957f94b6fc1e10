use Rattle.std.proofs.Common.{◌≡◌, [], ◌∷◌, ◌++◌, sym, ap, ◌∙◌, rules}
use Rattle.join_core.specs.declared.flats.Flat.{Flat}
use Rattle.join_core.specs.Flat.{FlatView}
use Rattle.join_core.specs.FlatSeen.{flat_view}
use Rattle.mpx_post.specs.Posts.{Given}
use Rattle.mpx_format.specs.declared.versions.Version.TheVariants.{Two}
use Rattle.mpx_format.specs.Contexts.{posted}
use Rattle.mpx_encode.proofs.Contexts.{posted_known, posted_spelled}
use Rattle.mpx_encode.proofs.Maps.{told_as, told_behind}
use Rattle.mpx_encode.proofs.write_contexts.FlatPostWriteValue.write.Goals as goal

abbrev says : Flat Given → FlatView Given
says p = flat_view (λ v. v) p

pub returns-in-Unknown : goal.returns-in-Unknown
unfolding posted
returns-in-Unknown c = told_as c.write_u8.result c.args.out.now c.write_u8.new.out _ _ (ap (λ s. (posted Two).spelling (says s)) (sym c.in-Unknown.is)) c.write_u8.ensures

pub write_post-requires : goal.write_post-requires
write_post-requires c = posted_known c.in-Known.post (ap (λ s. (posted Two).fits (says s)) (sym c.in-Known.is) ∙ c.requires)

pub returns-in_ok-write_u8-in-Known : goal.returns-in_ok-write_u8-in-Known
returns-in_ok-write_u8-in-Known c =
    let first : c.write_u8-in-Known.new.out ≡ c.args.out.now ++ 1 ∷ [] = search rules in
    told_behind c.write_post.result c.args.out.now c.write_u8-in-Known.new.out c.write_post.new.out _ _ _ (ap (λ s. (posted Two).spelling (says s)) c.in-Known.is ∙ posted_spelled c.in-Known.post) first c.write_post.ensures

pub returns-in-Clash : goal.returns-in-Clash
unfolding posted
returns-in-Clash c = told_as c.write_u8-in-Clash.result c.args.out.now c.write_u8-in-Clash.new.out _ _ (ap (λ s. (posted Two).spelling (says s)) (sym c.in-Clash.is)) c.write_u8-in-Clash.ensures
