use Rattle.std.proofs.Common.{◌≡◌, ◌+◌, true, ◌&&◌, [], ◌∷◌, ◌++◌, length, Some, None, sym, ap, ◌∙◌, arith, rules}
use Rattle.std.specs.Prelude.{nat_lt, nat_le}
use Rattle.std.specs.Ordering.{nat_cmp}
use Rattle.std.specs.FinMap.{entries, len, len-entries}
use Rattle.std.specs.List.{list_all, list_any}
use Rattle.std.proofs.lemmas.Bool.{leb-true}
use Rattle.join_core.specs.laws.Cases.{first_true, second_true}
use Rattle.join_nest.specs.Seen.{seen, sorted_seen}
use Rattle.mpx_name.specs.Order.{name_cmp}
use Rattle.mpx_board.specs.Tidy.{is_tidy_acks, is_tidy_lifted, are_tidy_entries, are_tidy_acks}
use Rattle.mpx_board.specs.Views.{view_of_acks, view_of_lifted, view_of_parts}
use Rattle.mpx_format.specs.Encoding.{most_names}
use Rattle.mpx_encode.specs.Room.{room_left}
use Rattle.mpx_format.specs.declared.versions.Version.TheVariants.{Two}
use Rattle.mpx_format.specs.Fields.{process, name, acks}
use Rattle.mpx_format.specs.Contexts.{lifted}
use Rattle.mpx_format.specs.Kept.{AreKept}
use Rattle.mpx_encode.specs.Keeping.{AreEntriesKept}
use Rattle.mpx_encode.specs.Entries.{entries_spelled, both_pass}
use Rattle.mpx_encode.proofs.Rooms.{room_stops_at, room_behind}
use Rattle.mpx_encode.proofs.Keeping.{entries_kept, if_some}
use Rattle.mpx_encode.proofs.Frames.{names_part, length-names, frame_split, frame_fits, both_tests, not_above, either_false}
use Rattle.mpx_encode.proofs.Maps.{where_left}
use Rattle.mpx_encode.proofs.write_contexts.room_after_frame.Goals as goal

pub room_after_counted-requires : goal.room_after_counted-requires
room_after_counted-requires c =
    let v = view_of_parts c.args.parts.now in
    ap (list_all (λ e. is_tidy_lifted e.1)) c.entries-names.ensures.entries ∙ first_true (are_tidy_entries v.0) (are_tidy_acks v.1) c.requires.tidy

pub room_after_all_acks-requires-clause-ready : goal.room_after_all_acks-requires-clause-ready
room_after_all_acks-requires-clause-ready c =
    let v = view_of_parts c.args.parts.now in
    let few = either_false (nat_lt most_names (len v.0)) (list_any (λ e. nat_lt most_names (len e.1)) (entries v.1)) c.requires.few in
    ap (list_all (λ e. is_tidy_acks e.1 && nat_le (len e.1) most_names)) c.entries-processes.ensures.entries
    ∙ both_tests (λ e. is_tidy_acks e.1) (λ e. nat_lt most_names (len e.1)) (λ e. nat_le (len e.1) most_names) (λ e h. not_above (len e.1) most_names h) (entries v.1) (second_true (are_tidy_entries v.0) (are_tidy_acks v.1) c.requires.tidy) few.1

pub room_after_all_acks-requires-clause-kept : goal.room_after_all_acks-requires-clause-kept
room_after_all_acks-requires-clause-kept c =
    let v = view_of_parts c.args.parts.now in
    let ps = seen view_of_acks c.entries-processes.result.now in
    if_some (λ k. AreKept k.now.of.items v.1) (λ k. AreEntriesKept k.now.of.items ps) c.args.kept (λ k h. entries_kept v.1 k.now.of.items ps c.entries-processes.ensures.entries h) c.requires.kept

pub returns-in_err-left-clause-value : goal.returns-in_err-left-clause-value
returns-in_err-left-clause-value c =
    let v = view_of_parts c.args.parts.now in
    let es = seen view_of_lifted c.entries-names.result.now in
    let ps = seen view_of_acks c.entries-processes.result.now in
    let none : c.from_residual.result ≡ None = search rules in
    let short : room_left (7 + length (entries_spelled name (lifted Two) es)) c.args.room ≡ None = search rules in
    none ∙ sym (ap (λ l. room_left (length l) c.args.room) (frame_split v es ps c.entries-names.ensures.entries c.entries-processes.ensures.entries)
    ∙ room_stops_at (names_part v es ps) ((length ps ∷ []) ++ entries_spelled process acks ps) c.args.room (ap (λ n. room_left n c.args.room) (length-names v es ps) ∙ short))

pub returns-clause-value : goal.returns-clause-value
returns-clause-value c =
    let v = view_of_parts c.args.parts.now in
    let es = seen view_of_lifted c.entries-names.result.now in
    let ps = seen view_of_acks c.entries-processes.result.now in
    let left : room_left (7 + length (entries_spelled name (lifted Two) es)) c.args.room ≡ Some c.in_ok-left.left = search rules in
    let one : 1 + length (entries_spelled process acks ps) ≡ length ((length ps ∷ []) ++ entries_spelled process acks ps) = omega arith in
    c.room_after_all_acks.ensures.value ∙ ap (λ n. room_left n c.in_ok-left.left) one
    ∙ sym (ap (λ l. room_left (length l) c.args.room) (frame_split v es ps c.entries-names.ensures.entries c.entries-processes.ensures.entries)
    ∙ room_behind (names_part v es ps) ((length ps ∷ []) ++ entries_spelled process acks ps) c.args.room c.in_ok-left.left (ap (λ n. room_left n c.args.room) (length-names v es ps) ∙ left))

pub returns-clause-fits : goal.returns-clause-fits
returns-clause-fits c =
    let v = view_of_parts c.args.parts.now in
    let es = seen view_of_lifted c.entries-names.result.now in
    let ps = seen view_of_acks c.entries-processes.result.now in
    let few = either_false (nat_lt most_names (len v.0)) (list_any (λ e. nat_lt most_names (len e.1)) (entries v.1)) c.requires.few in
    let short = leb-true (len v.0) most_names (not_above (len v.0) most_names few.0) in
    let tidy = ap (list_all (λ e. is_tidy_lifted e.1)) c.entries-names.ensures.entries ∙ first_true (are_tidy_entries v.0) (are_tidy_acks v.1) c.requires.tidy in
    let pass : both_pass name.fits (lifted Two).fits es ≡ true = search rules in
    where_left c.room_after_all_acks.result
    (λ h. frame_fits v es ps c.entries-names.ensures.entries c.entries-processes.ensures.entries
    (sorted_seen name_cmp view_of_lifted c.entries-names.result.now ∙ c.entries-names.ensures.rising) (sorted_seen nat_cmp view_of_acks c.entries-processes.result.now ∙ c.entries-processes.ensures.rising)
    (omega (arith, short, len-entries v.0, ap length c.entries-names.ensures.entries)) tidy pass h)
    c.room_after_all_acks.ensures.fits
