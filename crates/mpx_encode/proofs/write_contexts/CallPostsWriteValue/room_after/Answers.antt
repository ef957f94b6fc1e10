use Rattle.std.proofs.Common.{◌≡◌, ◌<◌, true, not, length, refl, sym, ap, ◌∙◌, arith}
use Rattle.std.specs.Ordering.{nat_cmp}
use Rattle.std.specs.FinMap.{is_sorted}
use Rattle.std.specs.List.{list_all}
use Rattle.join_core.specs.laws.Cases.{first_true, second_true}
use Rattle.join_core.specs.declared.flats.Flat.{Flat}
use Rattle.join_core.specs.Flat.{FlatView}
use Rattle.join_core.specs.FlatSeen.{flat_view}
use Rattle.mpx_post.specs.Posts.{Given}
use Rattle.mpx_format.specs.declared.versions.Version.TheVariants.{Two}
use Rattle.mpx_format.specs.Contexts.{posted, call_posts}
use Rattle.join_nest.specs.Seen.{seen, keyed_view, sorted_seen}
use Rattle.mpx_board.specs.Tidy.{is_bare, is_unknown, all_entries}
use Rattle.mpx_format.specs.Fields.{process, some_byte}
use Rattle.mpx_format.specs.Rising.{always}
use Rattle.mpx_encode.specs.Room.{room_left}
use Rattle.mpx_encode.proofs.Rising.{always_says}
use Rattle.mpx_encode.proofs.Maps.{keyed_length, keyed_fits, few_processes, some_byte_count, some_entries, where_left}
use Rattle.mpx_encode.proofs.write_contexts.CallPostsWriteValue.room_after.Goals as goal

abbrev says : Flat Given → FlatView Given
says p = flat_view (λ v. v) p

pub room_after_counted-requires : goal.room_after_counted-requires
room_after_counted-requires c =
    let m = keyed_view nat_cmp says c.args.self.now.entries.items in
    ap (list_all (λ e. not (is_unknown e.1))) c.entries.ensures.entries ∙ second_true (not (is_bare m)) (all_entries (λ p v. not (is_unknown v)) m) c.requires

pub returns-clause-value : goal.returns-clause-value
unfolding call_posts some_byte
returns-clause-value c =
    let m = keyed_view nat_cmp says c.args.self.now.entries.items in
    let es = seen says c.entries.result.now in
    c.room_after_counted.ensures.value ∙ ap (λ n. room_left n c.args.room) (sym (keyed_length nat_cmp some_byte process (posted Two) always m es 1 c.entries.ensures.entries refl))

pub returns-clause-fits : goal.returns-clause-fits
unfolding call_posts
returns-clause-fits c =
    let m = keyed_view nat_cmp says c.args.self.now.entries.items in
    let es = seen says c.entries.result.now in
    let sorted : is_sorted nat_cmp es ≡ true = sorted_seen nat_cmp says c.entries.result.now ∙ c.entries.ensures.rising in
    let some : 0 < length es = omega (arith, ap length c.entries.ensures.entries, some_entries m (first_true (not (is_bare m)) (all_entries (λ p v. not (is_unknown v)) m) c.requires)) in
    where_left c.room_after_counted.result
    (λ pass. keyed_fits nat_cmp some_byte process (posted Two) always m es c.entries.ensures.entries sorted (some_byte_count (length es) some (few_processes (posted Two).fits es sorted pass)) pass (always_says es))
    c.room_after_counted.ensures.fits
