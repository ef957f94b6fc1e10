use Rattle.std.proofs.Common.{◌≡◌, ◌<◌, [], ◌∷◌, ◌++◌, length, arith, rules}
use Rattle.std.specs.Ordering.{nat_cmp}
use Rattle.join_core.specs.declared.flats.Flat.{Flat}
use Rattle.join_core.specs.Flat.{FlatView}
use Rattle.join_core.specs.FlatSeen.{flat_view}
use Rattle.mpx_post.specs.Posts.{Given}
use Rattle.mpx_format.specs.declared.versions.Version.TheVariants.{Two}
use Rattle.mpx_format.specs.Contexts.{posted, call_posts}
use Rattle.join_nest.specs.Seen.{seen, keyed_view}
use Rattle.join_nest.proofs.Steps.{length_seen}
use Rattle.mpx_format.specs.Fields.{process, some_byte}
use Rattle.mpx_format.specs.Rising.{always}
use Rattle.mpx_encode.proofs.Maps.{keyed_count, keyed_pass, keyed_spelling, some_byte_below, told_behind}
use Rattle.mpx_encode.proofs.write_contexts.CallPostsWriteValue.write.Goals as goal

abbrev says : Flat Given → FlatView Given
says p = flat_view (λ v. v) p

pub overflow_cast-entries : goal.overflow_cast-entries
unfolding call_posts
overflow_cast-entries c =
    let m = keyed_view nat_cmp says c.args.self.now.entries.items in
    let es = seen says c.entries-entries.result.now in
    let few : length es < 256 = some_byte_below (length es) (keyed_count nat_cmp some_byte process (posted Two) always m es c.entries-entries.ensures.entries c.requires) in
    omega (arith, length_seen says c.entries-entries.result.now)

pub write_entries-requires : goal.write_entries-requires
unfolding call_posts
write_entries-requires c =
    let m = keyed_view nat_cmp says c.args.self.now.entries.items in
    keyed_pass nat_cmp some_byte process (posted Two) always m (seen says c.entries-entries.result.now) c.entries-entries.ensures.entries c.requires

pub returns : goal.returns
unfolding call_posts some_byte
returns c =
    let m = keyed_view nat_cmp says c.args.self.now.entries.items in
    let es = seen says c.entries-entries.result.now in
    let first : c.write_u8.new.out ≡ c.args.out.now ++ length es ∷ [] = rw (length_seen says c.entries-entries.result.now) (search rules) in
    told_behind c.write_entries.result c.args.out.now c.write_u8.new.out c.write_entries.new.out _ _ _ (keyed_spelling nat_cmp some_byte process (posted Two) always m es c.entries-entries.ensures.entries) first (search rules)
