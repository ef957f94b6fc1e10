-- How contexts and frames are spelled.
use Rattle.std.proofs.Common.{◌≡◌, ℕ, ◌+◌, ◌-◌, ◌^◌, ◌≤◌, ◌<◌, Bool, true, false, ◌&&◌, List, [], ◌∷◌, ◌++◌, length, Option, Some, None, refl, sym, ap, ◌∙◌, T, arith, length-append, append_assoc}
use Rattle.std.specs.Prelude.{nat_lt, nat_le, IfSome}
use Rattle.std.specs.Int.{w32, to_be_bytes}
use Rattle.std.specs.Ordering.{nat_cmp}
use Rattle.std.specs.FinMap.{is_sorted, entries}
use Rattle.std.proofs.lemmas.Bool.{lt-ltb, ltb-true, le-leb}
use Rattle.join_core.specs.laws.Cases.{both_true, first_true, second_true}
use Rattle.join_core.specs.Flat.{known}
use Rattle.join_nest.specs.Trunc.{TruncView}
use Rattle.join_nest.specs.Cut.{is_from}
use Rattle.mpx_board.specs.Parts.{CallView, EntryView}
use Rattle.mpx_post.specs.Posts.{Given}
use Rattle.mpx_format.specs.declared.versions.Version.TheVariants.{Two}
use Rattle.mpx_format.specs.Format.{many_fit}
use Rattle.mpx_format.specs.Rising.{entry, always}
use Rattle.mpx_format.specs.Fields.{call, name_count, some_names, fronts}
use Rattle.mpx_format.specs.Births.{birth}
use Rattle.mpx_format.specs.Posts.{post}
use Rattle.mpx_format.specs.Contexts.{told, posted, call_posts, calls, held, progress, context}
use Rattle.mpx_encode.specs.Entries.{entries_spelled, both_pass}
use Rattle.mpx_encode.proofs.Rising.{entries_alike, entries_pass, entries_fit, rising_from, sorted_few, always_says}
use Rattle.mpx_encode.proofs.Maps.{keys_below}

pub all_left : {Q : Type 0} (left : Option ℕ) → Q → IfSome left (λ n. Q)
all_left None q = tt
all_left (Some n) q = q

-- TOLD ONCE

pub posted_known_fits : (p : Given) → (post Two).fits p ≡ true → (posted Two).fits (known p) ≡ true
unfolding posted
posted_known_fits p h = both_true _ _ h refl

pub posted_known : (p : Given) → (posted Two).fits (known p) ≡ true → (post Two).fits p ≡ true
unfolding posted
posted_known p h = first_true ((post Two).fits p) true h

pub posted_spelled : (p : Given) → (posted Two).spelling (known p) ≡ (1 ∷ []) ++ (post Two).spelling p
unfolding posted
posted_spelled p = refl

pub length-posted : (p : Given) → length ((posted Two).spelling (known p)) ≡ 1 + length ((post Two).spelling p)
unfolding posted
length-posted p = omega arith

-- CALLS

below_last : (k : ℕ) → call.fits k ≡ true → nat_lt k (2 ^ 32 - 1) ≡ true
unfolding call
below_last k h = second_true (nat_lt k (256 ^ 4)) (nat_lt k (2 ^ 32 - 1)) h

pub held_spelled : (t : TruncView CallView) → (held Two).spelling t ≡ (to_be_bytes w32 t.dropped ++ to_be_bytes w32 (length (entries t.calls))) ++ entries_spelled call (call_posts Two) (entries t.calls)
unfolding held calls
held_spelled t = ap (λ l. (to_be_bytes w32 t.dropped ++ to_be_bytes w32 (length (entries t.calls))) ++ l) (entries_alike nat_cmp (Some t.dropped) call (call_posts Two) always (entries t.calls))

pub held_length : (t : TruncView CallView) → length ((held Two).spelling t) ≡ 8 + length (entries_spelled call (call_posts Two) (entries t.calls))
held_length t = ap length (held_spelled t) ∙ length-append (to_be_bytes w32 t.dropped ++ to_be_bytes w32 (length (entries t.calls))) (entries_spelled call (call_posts Two) (entries t.calls))

from_test : (b : Bool) → T b → b ≡ true
from_test true t = refl
from_test false t = absurd t

pub held_fits : (t : TruncView CallView) → t.dropped < 2 ^ 32 → is_sorted nat_cmp (entries t.calls) ≡ true → both_pass call.fits (call_posts Two).fits (entries t.calls) ≡ true → (held Two).fits t ≡ true
unfolding held calls
held_fits t few s pass =
    let es = entries t.calls in
    let short : length es ≤ 2 ^ 32 - 1 = sorted_few (2 ^ 32 - 1) es s (keys_below call.fits (λ k. nat_lt k (2 ^ 32 - 1)) (call_posts Two).fits below_last es pass) in
    both_true _ _ (lt-ltb t.dropped (256 ^ 4) (omega (arith, few)))
    (both_true _ _ (lt-ltb (length es) (256 ^ 4) (omega (arith, short))) (entries_fit nat_cmp (Some t.dropped) call (call_posts Two) always [] es (rising_from t.dropped es s (from_test (is_from t.dropped es) t.above)) pass (always_says es)))

calls_fit : (t : TruncView CallView) → (held Two).fits t ≡ true → (calls Two t.dropped).fits (entries t.calls) ≡ true
unfolding held
calls_fit t h = second_true (nat_lt t.dropped (256 ^ 4)) ((calls Two t.dropped).fits (entries t.calls)) h

few_calls : (dropped : ℕ) (es : List (ℕ × CallView)) → (calls Two dropped).fits es ≡ true → length es < 256 ^ 4
unfolding calls
few_calls dropped es h = ltb-true (length es) (256 ^ 4) (first_true (nat_lt (length es) (256 ^ 4)) (many_fit (entry nat_cmp (Some dropped) call (call_posts Two) always) (length es) [] es) h)

pub held_below : (t : TruncView CallView) → (held Two).fits t ≡ true → length (entries t.calls) < 256 ^ 4
held_below t h = few_calls t.dropped (entries t.calls) (calls_fit t h)

calls_pass : (dropped : ℕ) (es : List (ℕ × CallView)) → (calls Two dropped).fits es ≡ true → both_pass call.fits (call_posts Two).fits es ≡ true
unfolding calls
calls_pass dropped es h =
    entries_pass nat_cmp (Some dropped) call (call_posts Two) always (length es) es (second_true (nat_lt (length es) (256 ^ 4)) (many_fit (entry nat_cmp (Some dropped) call (call_posts Two) always) (length es) [] es) h)

pub held_pass : (t : TruncView CallView) → (held Two).fits t ≡ true → both_pass call.fits (call_posts Two).fits (entries t.calls) ≡ true
held_pass t h = calls_pass t.dropped (entries t.calls) (calls_fit t h)

-- CONTEXTS

pub context_spelled : (e : EntryView) → (context Two).spelling e ≡ ((told birth).spelling e.0 ++ fronts.spelling e.1.0) ++ (held Two).spelling e.1.1
unfolding context progress
context_spelled e = sym (append_assoc ((told birth).spelling e.0) (fronts.spelling e.1.0) ((held Two).spelling e.1.1))

pub context_fits : (e : EntryView) → (told birth).fits e.0 ≡ true → fronts.fits e.1.0 ≡ true → (held Two).fits e.1.1 ≡ true → (context Two).fits e ≡ true
unfolding context progress
context_fits e b f h = both_true _ _ b (both_true _ _ f h)

pub context_birth : (e : EntryView) → (context Two).fits e ≡ true → (told birth).fits e.0 ≡ true
unfolding context progress
context_birth e h = first_true ((told birth).fits e.0) (fronts.fits e.1.0 && (held Two).fits e.1.1) h

pub context_fronts : (e : EntryView) → (context Two).fits e ≡ true → fronts.fits e.1.0 ≡ true
unfolding context progress
context_fronts e h = first_true (fronts.fits e.1.0) ((held Two).fits e.1.1) (second_true ((told birth).fits e.0) (fronts.fits e.1.0 && (held Two).fits e.1.1) h)

pub context_held : (e : EntryView) → (context Two).fits e ≡ true → (held Two).fits e.1.1 ≡ true
unfolding context progress
context_held e h = second_true (fronts.fits e.1.0) ((held Two).fits e.1.1) (second_true ((told birth).fits e.0) (fronts.fits e.1.0 && (held Two).fits e.1.1) h)

-- NAMES

pub few_names : (n : ℕ) → n ≤ 4096 → name_count.fits n ≡ true
unfolding name_count
few_names n few = both_true _ _ (lt-ltb n (256 ^ 2) (omega (arith, few))) (le-leb n 4096 few)

pub names_below : (n : ℕ) → name_count.fits n ≡ true → n < 256 ^ 2
unfolding name_count
names_below n h = ltb-true n (256 ^ 2) (first_true (nat_lt n (256 ^ 2)) (nat_le n 4096) h)

pub few_some_names : (n : ℕ) → 0 < n → n ≤ 4096 → some_names.fits n ≡ true
unfolding some_names
few_some_names n some few = both_true _ _ (few_names n few) (lt-ltb 0 n some)

pub some_names_below : (n : ℕ) → some_names.fits n ≡ true → n < 256 ^ 2
unfolding some_names
some_names_below n h = names_below n (first_true (name_count.fits n) (nat_lt 0 n) h)
