-- Worked frames: one of 36 bytes, spoilt in one byte at a time, the same board's in version 2, the empty board's, and a dead context's.
use Rattle.std.proofs.Common.{◌≡◌, ℕ, suc, List, [], ◌∷◌, ◌++◌, length, take, drop, pos, Some, Ok, Err, refl, sym, ap, subst, ◌∙◌, T}
use Rattle.std.specs.Ordering.{nat_cmp}
use Rattle.std.specs.FinMap.{entries, from_sorted, len, len-entries, entries-from_sorted, is_sorted}
use Rattle.join_core.specs.Flat.{unknown, known}
use Rattle.join_nest.specs.Cut.{is_from, cut}
use Rattle.join_nest.specs.Lift.{live, dead}
use Rattle.join_nest.specs.Trunc.{trunc_of}
use Rattle.mpx_num.specs.declared.operations.Op.TheVariants.{Sum}
use Rattle.mpx_num.specs.declared.types.Ty.TheVariants.{I32}
use Rattle.mpx_kind.specs.declared.kinds.Kind.TheVariants.{Reduction}
use Rattle.mpx_kind.specs.declared.kinds.Reduction.TheVariants.{Allreduce}
use Rattle.mpx_name.specs.declared.steps.Step.TheVariants.{Child}
use Rattle.mpx_post.specs.Posts.{Given, nothing_given}
use Rattle.mpx_board.specs.Parts.{CallView, EntryView, PartsView}
use Rattle.mpx_format.specs.declared.defects.WireError.TheVariants.{BadVersion, OutOfLimits, NotCanonical}
use Rattle.mpx_format.specs.Format.{many_read}
use Rattle.mpx_format.specs.Fields.{process, call, colour, child, step, step_count, steps, name, some_byte, name_count, fronts, all_acks}
use Rattle.mpx_format.specs.Codes.{kind, mode, operation, item_type}
use Rattle.mpx_format.specs.Posts.{integer, item_count, items, post}
use Rattle.mpx_format.specs.Contexts.{posted, call_posts, calls, held, progress, context, lifted, parts, frame}
use Rattle.mpx_format.specs.Decoding.{decoded}
use Rattle.mpx_format.proofs.Truncs.{cut_whole}

-- of world: a blocking allreduce, the sum of the number 9, from process 0 in call 0; and no acknowledgements
abbrev whole : List ℕ
whole =
    77 ∷ 80 ∷ 88 ∷ 71 ∷ 1 ∷ 0 ∷ 1 ∷ 0 ∷ 0 ∷ 0
    ∷ 0 ∷ 0 ∷ 0 ∷ 0 ∷ 0 ∷ 0 ∷ 0 ∷ 1 ∷ 0 ∷ 0
    ∷ 0 ∷ 0 ∷ 1 ∷ 0 ∷ 1 ∷ 11 ∷ 0 ∷ 3 ∷ 3 ∷ 0
    ∷ 1 ∷ 0 ∷ 0 ∷ 0 ∷ 9 ∷ 0 ∷ []

-- the same in version 2
abbrev whole_two : List ℕ
whole_two =
    77 ∷ 80 ∷ 88 ∷ 71 ∷ 2 ∷ 0 ∷ 1 ∷ 0 ∷ 0 ∷ 0
    ∷ 0 ∷ 0 ∷ 0 ∷ 0 ∷ 0 ∷ 0 ∷ 0 ∷ 0 ∷ 1 ∷ 0
    ∷ 0 ∷ 0 ∷ 0 ∷ 1 ∷ 0 ∷ 1 ∷ 11 ∷ 0 ∷ 3 ∷ 3
    ∷ 0 ∷ 1 ∷ 0 ∷ 0 ∷ 0 ∷ 9 ∷ 0 ∷ []

-- of a child of world, by a byte that tells whether it is dead
abbrev child_frame : ℕ → List ℕ
child_frame lift = 77 ∷ 80 ∷ 88 ∷ 71 ∷ 2 ∷ 0 ∷ 1 ∷ 1 ∷ 0 ∷ 0 ∷ 0 ∷ 0 ∷ 0 ∷ 0 ∷ 0 ∷ 0 ∷ 0 ∷ lift ∷ 0 ∷ []

-- the frame of version 1 with another byte at a place
abbrev spoilt : (at byte : ℕ) → List ℕ
spoilt at byte = take at whole ++ byte ∷ drop (suc at) whole

-- WHAT IT SAYS

abbrev given : Given
given = record nothing_given { kind = Reduction Allreduce; op = Some Sum; items = Some (record { ty = I32; nums = pos 9 ∷ [] }) }

-- nobody's birth and no fronts, and these calls
abbrev calling : List (ℕ × CallView) → EntryView
calling calls = (unknown, (from_sorted [], trunc_of 0 (from_sorted calls)))

abbrev one_call : List (ℕ × CallView)
one_call = (0, from_sorted ((0, known given) ∷ [])) ∷ []

abbrev board : PartsView
board = (from_sorted (([], live (calling one_call)) ∷ []), from_sorted [])

no_fronts : len (from_sorted {X = ℕ} {R = nat_cmp} []) ≡ 0
no_fronts = len-entries (from_sorted {X = ℕ} {R = nat_cmp} []) ∙ ap length (entries-from_sorted {X = ℕ} nat_cmp [] tt)

kept_calls : (calls : List (ℕ × CallView)) → T (is_sorted nat_cmp calls) → T (is_from 0 calls) → len (cut 0 (from_sorted {R = nat_cmp} calls)) ≡ length calls
kept_calls calls sorted from =
    let is = entries-from_sorted nat_cmp calls sorted in
    len-entries (cut 0 (from_sorted {R = nat_cmp} calls)) ∙ ap length (ap entries (cut_whole 0 (from_sorted calls) (subst (λ es. T (is_from 0 es)) (sym is) from)) ∙ is)

whole_decoded : decoded whole ≡ Ok board
unfolding decoded frame parts name_count name steps step_count lifted context progress fronts held calls call call_posts some_byte process posted post kind mode operation item_type many_read all_acks integer item_count items
whole_decoded = rw (no_fronts, kept_calls one_call tt tt) refl

whole_two_decoded : decoded whole_two ≡ Ok board
unfolding decoded frame parts name_count name steps step_count lifted context progress fronts held calls call call_posts some_byte process posted post kind mode operation item_type many_read all_acks integer item_count items
whole_two_decoded = rw (no_fronts, kept_calls one_call tt tt) refl

empty_decoded : decoded (77 ∷ 80 ∷ 88 ∷ 71 ∷ 1 ∷ 0 ∷ 0 ∷ 0 ∷ []) ≡ Ok (from_sorted [], from_sorted [])
unfolding decoded frame parts name_count all_acks many_read
empty_decoded = refl

empty_two_decoded : decoded (77 ∷ 80 ∷ 88 ∷ 71 ∷ 2 ∷ 0 ∷ 0 ∷ 0 ∷ []) ≡ Ok (from_sorted [], from_sorted [])
unfolding decoded frame parts name_count all_acks many_read
empty_two_decoded = refl

dead_decoded : decoded (child_frame 1) ≡ Ok (from_sorted ((Child 0 0 ∷ [], dead) ∷ []), from_sorted [])
unfolding decoded frame parts name_count name steps step_count step child call colour lifted many_read all_acks
dead_decoded = refl

-- WHAT IS WRONG WITH IT

one_byte_more : decoded (whole ++ 0 ∷ []) ≡ Err (NotCanonical 36)
unfolding decoded frame parts name_count name steps step_count lifted context progress fronts held calls call call_posts some_byte process posted post kind mode operation item_type many_read all_acks integer item_count items
one_byte_more = rw (no_fronts, kept_calls one_call tt tt) refl

other_version : decoded (spoilt 4 9) ≡ Err BadVersion
unfolding decoded frame
other_version = refl

name_twice : decoded (spoilt 6 2) ≡ Err (NotCanonical 35)
unfolding decoded frame parts name_count name steps step_count lifted context progress fronts held calls call call_posts some_byte process posted post kind mode operation item_type many_read integer item_count items
name_twice = rw (no_fronts, kept_calls one_call tt tt) refl

birth_told_thrice : decoded (spoilt 8 3) ≡ Err (OutOfLimits 8)
unfolding decoded frame parts name_count name steps step_count lifted context many_read
birth_told_thrice = refl

nothing_said : decoded (spoilt 17 0) ≡ Err (NotCanonical 7)
unfolding decoded frame parts name_count name steps step_count lifted context progress fronts held calls many_read
nothing_said = rw (no_fronts, kept_calls [] tt tt) refl

call_too_late : decoded (take 18 whole ++ 255 ∷ 255 ∷ 255 ∷ 255 ∷ drop 22 whole) ≡ Err (OutOfLimits 18)
unfolding decoded frame parts name_count name steps step_count lifted context progress fronts held calls call many_read
call_too_late = refl

no_posts : decoded (spoilt 22 0) ≡ Err (NotCanonical 22)
unfolding decoded frame parts name_count name steps step_count lifted context progress fronts held calls call call_posts some_byte many_read
no_posts = refl

process_of_none : decoded (spoilt 23 64) ≡ Err (OutOfLimits 23)
unfolding decoded frame parts name_count name steps step_count lifted context progress fronts held calls call call_posts some_byte process many_read
process_of_none = refl

neither_live_nor_dead : decoded (child_frame 2) ≡ Err (OutOfLimits 17)
unfolding decoded frame parts name_count name steps step_count step child call colour lifted many_read
neither_live_nor_dead = refl

-- a communicator is freed in version 2 alone
free_in_version_1 : decoded (spoilt 25 26) ≡ Err (OutOfLimits 25)
unfolding decoded frame parts name_count name steps step_count lifted context progress fronts held calls call call_posts some_byte process posted post kind many_read
free_in_version_1 = refl

unknown_kind : decoded (spoilt 25 27) ≡ Err (OutOfLimits 25)
unfolding decoded frame parts name_count name steps step_count lifted context progress fronts held calls call call_posts some_byte process posted post kind mode operation item_type many_read
unknown_kind = refl

unknown_mode : decoded (spoilt 26 2) ≡ Err (OutOfLimits 26)
unfolding decoded frame parts name_count name steps step_count lifted context progress fronts held calls call call_posts some_byte process posted post kind mode operation item_type many_read
unknown_mode = refl

unknown_operation : decoded (spoilt 27 0) ≡ Err (OutOfLimits 27)
unfolding decoded frame parts name_count name steps step_count lifted context progress fronts held calls call call_posts some_byte process posted post kind mode operation item_type many_read
unknown_operation = refl

-- MPI_MAXLOC is of pairs alone
operation_of_pairs : decoded (spoilt 27 11) ≡ Err (OutOfLimits 28)
unfolding decoded frame parts name_count name steps step_count lifted context progress fronts held calls call call_posts some_byte process posted post kind mode operation item_type many_read
operation_of_pairs = refl
