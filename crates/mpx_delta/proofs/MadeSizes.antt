-- A frame of one piece is short.
use Rattle.std.proofs.Common.{◌≡◌, ◌≤◌, ◌+◌, ◌*◌, ℕ, suc, Bool, true, false, cond, List, [], ◌∷◌, ◌++◌, length, reverse, refl, sym, ap, ◌∙◌, subst, length-append, arith, nat_lt}
use Rattle.std.specs.Prelude.{◌||◌}
use Rattle.std.specs.List.{list_any}
use Rattle.std.specs.Int.{w32}
use Rattle.std.proofs.lemmas.Bool.Decides.{nat_tests}
use Rattle.std.specs.Ordering.{nat_cmp}
use Rattle.std.specs.FinMap.{FinMap, entries, len, len-entries}
use Rattle.join_core.specs.Flat.{FlatView, unknown, known, clash}
use Rattle.join_nest.specs.Lift.{live, dead}
use Rattle.join_nest.specs.Trunc.{TruncView}
use Rattle.mpx_name.specs.Name.{Name, IsName}
use Rattle.mpx_name.specs.Order.{name_cmp}
use Rattle.mpx_birth.specs.Births.{BirthView}
use Rattle.mpx_post.specs.Posts.{Given}
use Rattle.mpx_board.specs.Parts.{OfProcesses, CallView, EntryView, LiftedView, AcksView, PartsView}
use Rattle.mpx_format.specs.declared.versions.Version.TheVariants.{Two}
use Rattle.mpx_format.specs.Format.{byte, number}
use Rattle.mpx_format.specs.Rising.{keyed, always}
use Rattle.mpx_format.specs.Fields.{process, call, name, name_count, some_byte, some_calls, some_names, fronts, numbers, acks, all_acks}
use Rattle.mpx_format.specs.Births.{birth}
use Rattle.mpx_format.specs.Contexts.{told, posted, call_posts, calls, held, progress, context, lifted, says_something, parts, frame}
use Rattle.mpx_format.specs.Encoding.{most_names, has_many_names, is_too_long, length_told}
use Rattle.mpx_format.specs.Decoding.{most_bytes}
use Rattle.mpx_delta.specs.Limits.{IsShortBirth, IsShortPost}
use Rattle.mpx_delta.proofs.Sizes.{Short, joined_len, byte_short, short16, short32, keyed_one, keyed_none, keyed_len}
use Rattle.mpx_delta.proofs.FieldSizes.{process_short, call_short, name_len, birth_len, post_len}
use Rattle.mpx_delta.proofs.Made.{IsContext, IsPosted, IsHead, IsNumbers}

-- WHOLE FRAMES

not_long : (many : Bool) (n : ℕ) → many ≡ false → n ≤ 524288 → (many || nat_lt most_bytes n) ≡ false
not_long true n few h = cc
not_long false n few h = grind (arith, nat_tests)

in_reach : (v : PartsView) → has_many_names v ≡ false → length (frame.spelling (Two, v)) ≤ 524288 → is_too_long v ≡ false
unfolding is_too_long
in_reach v few h = not_long (has_many_names v) (length (frame.spelling (Two, v))) few h

told_length : (long : Bool) (n : ℕ) → long ≡ false → n ≤ 524288 → cond long (suc most_bytes) n ≤ 524288
told_length true n short h = absurd cc
told_length false n short h = h

frame_fits : (v : PartsView) → has_many_names v ≡ false → length (frame.spelling (Two, v)) ≤ 524288 → length_told v ≤ 524288
frame_fits v few h = told_length (is_too_long v) (length (frame.spelling (Two, v))) (in_reach v few h) h

frame_len : (v : PartsView) → length (frame.spelling (Two, v)) ≤ 5 + length ((parts Two).spelling v)
unfolding frame
frame_len v = omega arith

name_count_short : Short name_count 2
unfolding name_count
name_count_short = short16

some_calls_short : Short some_calls 4
unfolding some_calls
some_calls_short = short32

some_byte_short : Short some_byte 1
unfolding some_byte
some_byte_short = byte_short

some_names_short : Short some_names 2
unfolding some_names
some_names_short = name_count_short

-- CONTEXTS

told_birth_len : (v : FlatView BirthView) → ((b : BirthView) → v ≡ known b → IsShortBirth b) → length ((told birth).spelling v) ≤ 328003
told_birth_len unknown h = omega arith
told_birth_len (known b) h = omega (arith, birth_len b (h b refl))
told_birth_len clash h = omega arith

no_birth_len : (v : FlatView BirthView) → v ≡ unknown → length ((told birth).spelling v) ≤ 1
no_birth_len unknown h = omega arith
no_birth_len (known b) h = absurd cc
no_birth_len clash h = absurd cc

posted_len : (w : FlatView Given) → ((g : Given) → w ≡ known g → IsShortPost g) → length ((posted Two).spelling w) ≤ 330767
unfolding posted
posted_len unknown h = omega arith
posted_len (known g) h = omega (arith, post_len g (h g refl))
posted_len clash h = omega arith

call_len : (c : CallView) (p : ℕ) (w : FlatView Given) → entries c ≡ (p, w) ∷ [] → ((g : Given) → w ≡ known g → IsShortPost g) → length ((call_posts Two).spelling c) ≤ 330769
unfolding call_posts
call_len c p w is short = keyed_one nat_cmp some_byte process (posted Two) always 1 1 330767 some_byte_short c p w is (process_short p) (posted_len w short)

fronts_len : (m : OfProcesses ℕ) → length (fronts.spelling m) ≤ 1 + length (entries m) * 5
unfolding fronts
fronts_len m = keyed_len nat_cmp byte process some_calls always 1 1 4 byte_short process_short some_calls_short m

no_calls_len : (d : ℕ) (es : List (ℕ × CallView)) → es ≡ [] → length ((calls Two d).spelling es) ≤ 4
unfolding calls
no_calls_len d [] is = omega (arith, short32 0)
no_calls_len d (e ∷ es) is = absurd cc

one_call_len : (d : ℕ) (k : ℕ) (c : CallView) (n : ℕ) → length ((call_posts Two).spelling c) ≤ n → length ((calls Two d).spelling ((k, c) ∷ [])) ≤ 8 + n
unfolding calls
one_call_len d k c n h =
    omega (arith, short32 1, call_short k, h, length-append (call.spelling k ++ (call_posts Two).spelling c) [], length-append (call.spelling k) ((call_posts Two).spelling c), length-append ((number w32).spelling 1) ((call.spelling k ++ (call_posts Two).spelling c) ++ []))

held_len : (t : TruncView CallView) (n : ℕ) → length ((calls Two t.dropped).spelling (entries t.calls)) ≤ n → length ((held Two).spelling t) ≤ 4 + n
unfolding held
held_len t n h = joined_len ((number w32).spelling t.dropped) ((calls Two t.dropped).spelling (entries t.calls)) 4 n (short32 t.dropped) h

context_len : (e : EntryView) (a b c : ℕ) → length ((told birth).spelling e.0) ≤ a → length (fronts.spelling e.1.0) ≤ b → length ((held Two).spelling e.1.1) ≤ c → length ((context Two).spelling e) ≤ a + (b + c)
unfolding context progress
context_len e a b c x y z = joined_len ((told birth).spelling e.0) (fronts.spelling e.1.0 ++ (held Two).spelling e.1.1) a (b + c) x (joined_len (fronts.spelling e.1.0) ((held Two).spelling e.1.1) b c y z)

no_acks_len : (m : FinMap nat_cmp AcksView) → entries m ≡ [] → length (all_acks.spelling m) ≤ 1
unfolding all_acks
no_acks_len m is = keyed_none nat_cmp byte process acks always 1 byte_short m is

live_len : (e : EntryView) (n : ℕ) → length ((context Two).spelling e) ≤ n → length ((lifted Two).spelling (live e)) ≤ 1 + n
unfolding lifted
live_len e n h = omega (arith, h)

dead_len : length ((lifted Two).spelling dead) ≤ 1
unfolding lifted
dead_len = omega arith

one_context_len : (v : PartsView) (n : Name) (l : LiftedView) (a : ℕ) → IsContext n l v → IsName (reverse n) → length ((lifted Two).spelling l) ≤ a → length ((parts Two).spelling v) ≤ (2 + (545 + a)) + 1
unfolding parts
one_context_len v n l a of fine h =
    joined_len ((keyed name_cmp name_count name (lifted Two) says_something).spelling v.0) (all_acks.spelling v.1) (2 + (545 + a)) 1
    (keyed_one name_cmp name_count name (lifted Two) says_something 2 545 a name_count_short v.0 n l of.context (name_len n fine) h)
    (no_acks_len v.1 of.acks)

few_contexts : (v : PartsView) (n : Name) (l : LiftedView) → IsContext n l v → has_many_names v ≡ false
few_contexts v n l of =
    ap (λ (x : ℕ). nat_lt most_names x || list_any (λ e. nat_lt most_names (len e.1)) (entries v.1)) (len-entries v.0 ∙ ap length of.context)
    ∙ ap (λ es. list_any (λ (e : ℕ × AcksView). nat_lt most_names (len e.1)) es) of.acks

context_fits : (v : PartsView) (n : Name) (l : LiftedView) (a : ℕ) → IsContext n l v → IsName (reverse n) → length ((lifted Two).spelling l) ≤ a → a ≤ 520000 → length_told v ≤ 524288
context_fits v n l a of fine h small = frame_fits v (few_contexts v n l of) (omega (arith, small, frame_len v, one_context_len v n l a of fine h))

-- a frame that says that a context is dead
pub dead_fits : (v : PartsView) (n : Name) → IsContext n dead v → IsName (reverse n) → length_told v ≤ 524288
dead_fits v n at fine = context_fits v n dead 1 at fine dead_len (omega arith)

-- a frame of one post
pub post_fits : (v : PartsView) (n : Name) (k p : ℕ) (w : FlatView Given) (e : EntryView) → IsContext n (live e) v → IsPosted k p w e → IsName (reverse n) → ((g : Given) → w ≡ known g → IsShortPost g) → length_told v ≤ 524288
post_fits v n k p w e at of fine short =
    let one = call_len of.posts p w of.post short in
    let held_is : length ((calls Two e.1.1.dropped).spelling (entries e.1.1.calls)) ≤ 8 + 330769 =
    subst (λ es. length ((calls Two e.1.1.dropped).spelling es) ≤ 8 + 330769) (sym of.call) (one_call_len e.1.1.dropped k of.posts 330769 one) in
    context_fits v n (live e) (1 + (1 + ((1 + length (entries e.1.0) * 5) + (4 + (8 + 330769))))) at fine
    (live_len e (1 + ((1 + length (entries e.1.0) * 5) + (4 + (8 + 330769))))
    (context_len e 1 (1 + length (entries e.1.0) * 5) (4 + (8 + 330769)) (no_birth_len e.0 of.birth) (fronts_len e.1.0) (held_len e.1.1 (8 + 330769) held_is)))
    (let none : length (entries e.1.0) ≡ 0 = ap length of.fronts in omega (arith, none))

-- a frame of what is said of a context beside the posts
pub head_fits : (v : PartsView) (n : Name) (e h : EntryView) → IsContext n (live h) v → IsHead e h → IsName (reverse n) → ((b : BirthView) → e.0 ≡ known b → IsShortBirth b) → length (entries e.1.0) ≤ 64 → length_told v ≤ 524288
head_fits v n e h at of fine short few =
    context_fits v n (live h) (1 + (328003 + ((1 + length (entries h.1.0) * 5) + (4 + 4)))) at fine
    (live_len h (328003 + ((1 + length (entries h.1.0) * 5) + (4 + 4)))
    (context_len h 328003 (1 + length (entries h.1.0) * 5) (4 + 4) (told_birth_len h.0 (λ b is. short b (sym of.birth ∙ is))) (fronts_len h.1.0) (held_len h.1.1 4 (no_calls_len h.1.1.dropped (entries h.1.1.calls) of.calls))))
    (let same : length (entries h.1.0) ≡ length (entries e.1.0) = ap (λ m. length (entries m)) of.fronts in omega (arith, same, few))

-- ACKNOWLEDGEMENTS

numbers_len : (m : OfProcesses ℕ) → length (numbers.spelling m) ≤ 1 + length (entries m) * 5
unfolding numbers
numbers_len m = keyed_len nat_cmp some_byte process some_calls always 1 1 4 some_byte_short process_short some_calls_short m

acks_len : (a : AcksView) (n : Name) (m : OfProcesses ℕ) → entries a ≡ (n, m) ∷ [] → IsName (reverse n) → length (acks.spelling a) ≤ 2 + (545 + (1 + length (entries m) * 5))
unfolding acks
acks_len a n m is fine = keyed_one name_cmp some_names name numbers always 2 545 (1 + length (entries m) * 5) some_names_short a n m is (name_len n fine) (numbers_len m)

all_acks_len : (v : OfProcesses AcksView) (q : ℕ) (a : AcksView) (n : ℕ) → entries v ≡ (q, a) ∷ [] → length (acks.spelling a) ≤ n → length (all_acks.spelling v) ≤ 1 + (1 + n)
unfolding all_acks
all_acks_len v q a n is h = keyed_one nat_cmp byte process acks always 1 1 n byte_short v q a is (process_short q) h

no_contexts_len : (v : PartsView) (n : ℕ) → entries v.0 ≡ [] → length (all_acks.spelling v.1) ≤ n → length ((parts Two).spelling v) ≤ 2 + n
unfolding parts
no_contexts_len v n none h =
    joined_len ((keyed name_cmp name_count name (lifted Two) says_something).spelling v.0) (all_acks.spelling v.1) 2 n
    (keyed_none name_cmp name_count name (lifted Two) says_something 2 name_count_short v.0 none) h

few_names : (v : PartsView) (q : ℕ) (n : Name) (m : OfProcesses ℕ) → IsNumbers q n m v → has_many_names v ≡ false
few_names v q n m of =
    ap (λ (x : ℕ). nat_lt most_names x || list_any (λ e. nat_lt most_names (len e.1)) (entries v.1)) (len-entries v.0 ∙ ap length of.contexts)
    ∙ ap (λ es. list_any (λ (e : ℕ × AcksView). nat_lt most_names (len e.1)) es) of.process
    ∙ ap (λ (x : ℕ). nat_lt most_names x || false) (len-entries of.acks ∙ ap length of.context)

-- a frame of what one process acknowledges of one context
pub numbers_fit : (v : PartsView) (q : ℕ) (n : Name) (m : OfProcesses ℕ) → IsNumbers q n m v → IsName (reverse n) → length (entries m) ≤ 64 → length_told v ≤ 524288
numbers_fit v q n m of fine few =
    let inner = all_acks_len v.1 q of.acks (2 + (545 + (1 + length (entries m) * 5))) of.process (acks_len of.acks n m of.context fine) in
    frame_fits v (few_names v q n m of) (omega (arith, few, frame_len v, no_contexts_len v (1 + (1 + (2 + (545 + (1 + length (entries m) * 5))))) of.contexts inner))
