-- Exact sums and products, one rank after the other, and the posts of ranks.
use Rattle.std.proofs.Common.{◌≡◌, ◌⊎◌, ℕ, zero, suc, ◌+◌, ◌-◌, ◌*◌, ◌^◌, ◌<◌, ◌≤◌, nat_le, nat_lt, ◌==◌, ◌&&◌, ◌||◌, Bool, true, false, cond, List, [], ◌∷◌, ◌++◌, Vec, append-nil, append_assoc, drop, drop-cons, length, length-drop, map, take, set, Option, Some, None, FitsSigned, SomeIff, ap, refl, sym, subst, ◌∙◌, arith, ℤ, pos, negsuc, neg_ℤ, ◌*ℤ◌, ◌≤ℤ◌, ◌<ℤ◌, inl, inr}
use mir.Syntax.{w128}
use Rattle.std.specs.Prelude.{IsSomeAnd, MatchOption, int_le, is_some, slice_get, slice_index_or, option_and_then, unsigned_abs}
use Rattle.std.specs.List.{AllZip, filter, flat_map, list_all, list_any, range_with_len, sum}
use Rattle.std.specs.Option.{option_map, option_map_or, option_or, option_to_list}
use Rattle.std.proofs.Math.ListN.{replicate}
use Rattle.std.proofs.Math.Bool.{and-false, or_assoc}
use Rattle.std.proofs.lemmas.Bool.{and_parts, cases_lt, le-ltb, lt-ltb, ltb-true}
use Rattle.std.proofs.lemmas.Grind.{flat_map-append}
use Rattle.std.proofs.lemmas.Int.{ints}
use Rattle.std.proofs.lemmas.List.{get_or-replicate, get_or-set_other, get_or-set_same, length-replicate, length-set, map-append, map-id, nil_from_length}
use Rattle.std.proofs.lemmas.List.Folds.{list_any_more}
use Rattle.std.proofs.lemmas.List.Sums.{sum_by-cons}
use Rattle.std.proofs.lemmas.List.FromFn.{filter_of_map_range_with_len_more, map-range_with_len_more}
use Rattle.std.proofs.lemmas.Slice.Zip.{all_zipped_more}
use Rattle.mpx_kind.specs.declared.kinds.Reduction.{Reduction}
use Rattle.mpx_kind.specs.declared.kinds.Reduction.TheVariants as R
use Rattle.mpx_num.specs.Types.{IsInRange, IsOutOfRange, greatest, least}
use Rattle.mpx_num.specs.declared.types.Ty.{Ty}
use Rattle.mpx_num.specs.declared.types.Ty.TheVariants as T
use Rattle.mpx_post.specs.Agreement.{count_at}
use Rattle.mpx_post.specs.Drafts.{is_count, is_of, natural, naturals}
use Rattle.mpx_post.specs.declared.draft.Draft.{Draft}
use Rattle.mpx_statement.specs.declared.statement.Statement.{Statement}
use Rattle.mpx_eval.specs.declared.complaints.Complaint.{Complaint}
use Rattle.mpx_eval.specs.Found.{complaint_view}
use Rattle.mpx_explain.specs.Overflows.{IsKnownAs, IsToldAs, PastView, Posts, bounds_of, combined_kept, draft_to, first_past, given_to, is_named_at, is_posted, is_product, is_signed, is_summed, kept, neutral, past_at, past_by, past_in_call, past_in_row, past_number, past_there, past_type, post_to, reduction_in, summed_in, taken}
use Rattle.mpx_explain.specs.Sums.{AreCombined, AreTold, AreUpto, IsExact, comes_to, past_for, posts_in, statements_in, taken_by, with_given}
use Rattle.mpx_explain.specs.declared.exact.Exact.{Exact}
use Rattle.mpx_explain.specs.declared.exact.Exact.TheVariants.{Number, Unknown}
use Rattle.mpx_explain.specs.declared.overflows.Overflow.{Overflow}
use Rattle.mpx_explain.specs.declared.past.Row.{Row}

-- POSTS

pub list_any-map : {X Y : Type 0} (p : Y → Bool) (h : X → Y) (xs : List X) → list_any p (map h xs) ≡ list_any (λ (x : X). p (h x)) xs
list_any-map p h [] = refl
list_any-map {X} {Y} p h (x ∷ xs) = ap (λ (b : Bool). p (h x) || b) (list_any-map p h xs)

-- one complaint more
pub named_more : (rank place : ℕ) (cs : List Complaint) (i : ℕ) (c : Complaint) (before had new : Bool) → i < length cs → c ≡ slice_index_or cs i c → had ≡ (before || is_named_at rank place (map complaint_view (take i cs)))
    → new ≡ (had || ((c.rank == rank) && (c.statement == place))) → new ≡ (before || is_named_at rank place (map complaint_view (take (i + 1) cs)))
named_more rank place cs i c before had new within is was more =
    let test : Complaint → Bool = λ (x : Complaint). (x.rank == rank) && (x.statement == place) in
    let first : is_named_at rank place (map complaint_view (take i cs)) ≡ list_any test (take i cs) = list_any-map _ complaint_view (take i cs) in
    let all : is_named_at rank place (map complaint_view (take (i + 1) cs)) ≡ list_any test (take (i + 1) cs) = list_any-map _ complaint_view (take (i + 1) cs) in
    let step : list_any test (take (i + 1) cs) ≡ (list_any test (take i cs) || test c) = list_any_more test cs i c within ∙ ap (λ (x : Complaint). list_any test (take i cs) || test x) (sym is) in
    more
    ∙ ap (λ (b : Bool). b || test c) was
    ∙ or_assoc before (is_named_at rank place (map complaint_view (take i cs))) (test c)
    ∙ ap (λ (b : Bool). before || (b || test c)) first
    ∙ ap (λ (b : Bool). before || b) (sym step)
    ∙ ap (λ (b : Bool). before || b) (sym all)

-- one statement more
pub posts_more : (p : ℕ → Bool) (n : ℕ) (had new : List ℕ) → had ≡ filter p (range_with_len 0 n) → new ≡ had ++ cond (p n) (n ∷ []) [] → new ≡ filter p (range_with_len 0 (n + 1))
posts_more p n had new was more =
    let same : (k : ℕ) → filter p (map (λ (x : ℕ). x) (range_with_len 0 k)) ≡ filter p (range_with_len 0 k) = λ k. ap (filter p) (map-id (range_with_len 0 k)) in
    more
    ∙ ap (λ (xs : List ℕ). xs ++ cond (p n) (n ∷ []) []) (was ∙ sym (same n))
    ∙ sym (filter_of_map_range_with_len_more p (λ (x : ℕ). x) 0 n n (omega arith))
    ∙ same (n + 1)

-- the posts of one rank more
pub all_more : {Z : Type 0} (posts : ℕ → List ℕ) (n : ℕ) (had new : List (Vec ℕ Z)) (one : Vec ℕ Z) → map (λ (p : Vec ℕ Z). p.items) had ≡ map posts (range_with_len 0 n) → one.items ≡ posts n → new ≡ had ++ one ∷ []
    → map (λ (p : Vec ℕ Z). p.items) new ≡ map posts (range_with_len 0 (n + 1))
all_more {Z} posts n had new one was own more =
    let items : Vec ℕ Z → List ℕ = λ (p : Vec ℕ Z). p.items in
    ap (map items) more
    ∙ map-append items had (one ∷ [])
    ∙ ap (λ (xs : List (List ℕ)). xs ++ one.items ∷ []) was
    ∙ ap (λ (xs : List ℕ). map posts (range_with_len 0 n) ++ xs ∷ []) own
    ∙ sym (map-range_with_len_more posts 0 n n (omega arith))

-- ONE RESULT AFTER THE OTHER

pub told_nothing : (all : List Overflow) → AreTold [] all all
told_nothing all told zip = subst (AllZip IsToldAs all) (sym (append-nil told)) zip

pub told_then : (these those : List PastView) (old mid new : List Overflow) → AreTold these old mid → AreTold those mid new → AreTold (these ++ those) old new
told_then these those old mid new first second told zip = subst (AllZip IsToldAs new) (append_assoc told these those) (second (told ++ these) (first told zip))

told_one : (o : Overflow) (p : PastView) (old new : List Overflow) → new ≡ old ++ o ∷ [] → IsToldAs o p → AreTold (p ∷ []) old new
told_one o p old new is one told zip = subst (λ (os : List Overflow). AllZip IsToldAs os (told ++ p ∷ [])) (sym is) (all_zipped_more IsToldAs old told o p zip one)

range_more : (n : ℕ) → range_with_len 0 (n + 1) ≡ range_with_len 0 n ++ n ∷ []
range_more n = sym (map-id (range_with_len 0 (n + 1))) ∙ map-range_with_len_more (λ (x : ℕ). x) 0 n n (omega arith) ∙ ap (λ (xs : List ℕ). xs ++ n ∷ []) (map-id (range_with_len 0 n))

-- those of one number more
pub told_more : (f : ℕ → List PastView) (n : ℕ) (old mid new : List Overflow) → AreTold (flat_map f (range_with_len 0 n)) old mid → AreTold (f n) mid new → AreTold (flat_map f (range_with_len 0 (n + 1))) old new
told_more f n old mid new had one =
    let same : flat_map f (range_with_len 0 n) ++ f n ≡ flat_map f (range_with_len 0 (n + 1)) =
    ap (λ (xs : List PastView). flat_map f (range_with_len 0 n) ++ xs) (sym (append-nil (f n)))
    ∙ sym (flat_map-append f (range_with_len 0 n) (n ∷ []))
    ∙ ap (flat_map f) (sym (range_more n)) in
    subst (λ (xs : List PastView). AreTold xs old new) same (told_then (flat_map f (range_with_len 0 n)) (f n) old mid new had one)

-- the same of two numbers that are one
pub told_upto : (f : ℕ → List PastView) (n m : ℕ) (old new : List Overflow) → n ≡ m → AreTold (flat_map f (range_with_len 0 n)) old new → AreTold (flat_map f (range_with_len 0 m)) old new
told_upto f n m old new same are = subst (λ (k : ℕ). AreTold (flat_map f (range_with_len 0 k)) old new) same are

-- behind none all are told
pub told_all : (these : List PastView) (old all : List Overflow) → old ≡ [] → AreTold these old all → AllZip IsToldAs all these
told_all these old all none told = told [] (subst (λ (os : List Overflow). AllZip IsToldAs os []) (sym none) tt)

-- where not each rank has posted, nothing is told
pub none_posted : (statements : List (List Statement)) (posts : Posts) (call : ℕ) (all : List Overflow) → is_posted posts call ≡ false → AreTold (past_in_call statements posts call) all all
none_posted statements posts call all fails = subst (λ (b : Bool). AreTold (cond b (option_map_or (past_in_row statements posts call) (draft_to statements posts call 0) []) []) all all) (sym fails) (told_nothing all)

pub none_drafted : (statements : List (List Statement)) (posts : Posts) (call : ℕ) (all : List Overflow) → is_posted posts call ≡ true → None ≡ draft_to statements posts call 0 → AreTold (past_in_call statements posts call) all all
none_drafted statements posts call all holds none =
    subst (λ (b : Bool). AreTold (cond b (option_map_or (past_in_row statements posts call) (draft_to statements posts call 0) []) []) all all) (sym holds)
    (subst (λ (o : Option Draft). AreTold (option_map_or (past_in_row statements posts call) o []) all all) none (told_nothing all))

pub drafted : (statements : List (List Statement)) (posts : Posts) (call : ℕ) (draft : Draft) (old new : List Overflow) → is_posted posts call ≡ true → Some draft ≡ draft_to statements posts call 0 → AreTold (past_in_row statements posts call draft) old new
    → AreTold (past_in_call statements posts call) old new
drafted statements posts call draft old new holds is told =
    subst (λ (b : Bool). AreTold (cond b (option_map_or (past_in_row statements posts call) (draft_to statements posts call 0) []) []) old new) (sym holds)
    (subst (λ (o : Option Draft). AreTold (option_map_or (past_in_row statements posts call) o []) old new) is told)

abbrev pub past_of : (statements : List (List Statement)) (posts : Posts) (call : ℕ) (draft : Draft) → Reduction → List PastView
past_of statements posts call draft reduction = flat_map (past_by statements posts call draft reduction) (range_with_len 0 (length statements))

pub none_summed : (statements : List (List Statement)) (posts : Posts) (call : ℕ) (draft : Draft) (all : List Overflow) → None ≡ summed_in draft → AreTold (past_in_row statements posts call draft) all all
none_summed statements posts call draft all none = subst (λ (o : Option Reduction). AreTold (option_map_or (past_of statements posts call draft) o []) all all) none (told_nothing all)

pub summed_told : (statements : List (List Statement)) (posts : Posts) (call : ℕ) (draft : Draft) (reduction : Reduction) (old new : List Overflow) → Some reduction ≡ summed_in draft → AreTold (past_of statements posts call draft reduction) old new
    → AreTold (past_in_row statements posts call draft) old new
summed_told statements posts call draft reduction old new is told = subst (λ (o : Option Reduction). AreTold (option_map_or (past_of statements posts call draft) o []) old new) is told

-- WHETHER EACH RANK HAS POSTED

cut_at : {A : Type 0} (xs : List A) (i : ℕ) (item : A) → i < length xs → item ≡ slice_index_or xs i item → drop i xs ≡ item ∷ drop (i + 1) xs
cut_at {A} xs i item within is =
    let k : suc i ≡ i + 1 = omega arith in
    drop-cons xs i item within ∙ ap (λ (x : A). x ∷ drop (suc i) xs) (sym is) ∙ ap (λ (n : ℕ). item ∷ drop n xs) k

-- one rank more has
pub posted_more : {Z : Type 0} (posts : List (Vec ℕ Z)) (i call : ℕ) (one : Vec ℕ Z) (whole : Bool) → i < length posts → one ≡ slice_index_or posts i one → call < length one.items → is_posted (posts_in (drop i posts)) call ≡ whole → is_posted (posts_in (drop (i + 1) posts)) call ≡ whole
posted_more {Z} posts i call one whole within is less before =
    ap (λ (b : Bool). b && is_posted (posts_in (drop (i + 1) posts)) call) (sym (lt-ltb call (length one.items) less))
    ∙ ap (λ (xs : List (Vec ℕ Z)). is_posted (posts_in xs) call) (sym (cut_at posts i one within is))
    ∙ before

-- one hasn't
pub posted_less : {Z : Type 0} (posts : List (Vec ℕ Z)) (i call : ℕ) (one : Vec ℕ Z) (whole : Bool) → i < length posts → one ≡ slice_index_or posts i one → length one.items ≤ call → is_posted (posts_in (drop i posts)) call ≡ whole → false ≡ whole
posted_less {Z} posts i call one whole within is less before =
    ap (λ (b : Bool). b && is_posted (posts_in (drop (i + 1) posts)) call) (sym (le-ltb call (length one.items) less))
    ∙ ap (λ (xs : List (Vec ℕ Z)). is_posted (posts_in xs) call) (sym (cut_at posts i one within is))
    ∙ before

pub posted_all : {Z : Type 0} (posts : List (Vec ℕ Z)) (i call : ℕ) (whole : Bool) → length posts ≤ i → is_posted (posts_in (drop i posts)) call ≡ whole → true ≡ whole
posted_all {Z} posts i call whole passed before =
    let end : drop i posts ≡ [] = nil_from_length (drop i posts) (omega (arith, passed, length-drop i posts)) in
    ap (λ (xs : List (Vec ℕ Z)). is_posted (posts_in xs) call) (sym end) ∙ before

-- THE RESULT OF A RANK

-- a rank that has posted nothing
pub none_placed : (rank : ℕ) (ty : Ty) (found : Option ℤ) (post : Option ℕ) (all : List Overflow) → None ≡ post → AreTold (option_to_list (option_and_then (λ statement. option_map (past_at rank statement ty) found) post)) all all
none_placed rank ty found post all none = subst (λ (o : Option ℕ). AreTold (option_to_list (option_and_then (λ statement. option_map (past_at rank statement ty) found) o)) all all) none (told_nothing all)

-- a result of which no number is past its type
pub none_past : (rank statement : ℕ) (ty : Ty) (found : Option ℤ) (post : Option ℕ) (all : List Overflow) → Some statement ≡ post → found ≡ None → AreTold (option_to_list (option_and_then (λ statement. option_map (past_at rank statement ty) found) post)) all all
none_past rank statement ty found post all is none =
    subst (λ (o : Option ℕ). AreTold (option_to_list (option_and_then (λ statement. option_map (past_at rank statement ty) found) o)) all all) is
    (subst (λ (f : Option ℤ). AreTold (option_to_list (option_map (past_at rank statement ty) f)) all all) (sym none) (told_nothing all))

found_past : (o : Overflow) (found : Option ℤ) (old new : List Overflow) → new ≡ old ++ o ∷ [] → IsSomeAnd found (IsKnownAs o.exact) → AreTold (option_to_list (option_map (past_at o.rank o.statement o.ty) found)) old new
found_past o (Some whole) old new is known = told_one o (past_at o.rank o.statement o.ty whole) old new is (record { rank = refl; statement = refl; typed = refl; known = known })
found_past o None old new is known = absurd known

-- one of which one is
pub one_past : (o : Overflow) (found : Option ℤ) (post : Option ℕ) (old new : List Overflow) → Some o.statement ≡ post → new ≡ old ++ o ∷ [] → IsSomeAnd found (IsKnownAs o.exact)
    → AreTold (option_to_list (option_and_then (λ statement. option_map (past_at o.rank statement o.ty) found) post)) old new
one_past o found post old new there is known =
    subst (λ (p : Option ℕ). AreTold (option_to_list (option_and_then (λ statement. option_map (past_at o.rank statement o.ty) found) p)) old new) there (found_past o found old new is known)

-- THE FIRST NUMBER PAST A TYPE

-- one number more, which isn't
pub not_past : (ty : Ty) (bounds : ℕ × ℕ) (comes : ℕ → Option ℤ) (index : ℕ) → first_past ty bounds comes index ≡ None → past_there ty bounds index (comes index) ≡ None
    → first_past ty bounds comes (index + 1) ≡ None
not_past ty bounds comes index before here =
    let k : suc index ≡ index + 1 = omega arith in
    subst (λ (n : ℕ). first_past ty bounds comes n ≡ None) k (ap (λ (o : Option ℤ). option_or o (past_there ty bounds index (comes index))) before ∙ here)

or_still : (one other : Option ℤ) (P : ℤ → Type 0) → IsSomeAnd one P → IsSomeAnd (option_or one other) P
or_still (Some z) other P is = is
or_still None other P is = absurd is

past_kept : (ty : Ty) (bounds : ℕ × ℕ) (comes : ℕ → Option ℤ) (more index : ℕ) (P : ℤ → Type 0) → IsSomeAnd (first_past ty bounds comes index) P → IsSomeAnd (first_past ty bounds comes (more + index)) P
past_kept ty bounds comes zero index P is = let k : index ≡ 0 + index = omega arith in subst (λ (n : ℕ). IsSomeAnd (first_past ty bounds comes n) P) k is
past_kept ty bounds comes (suc more) index P is =
    let k : suc (more + index) ≡ suc more + index = omega arith in
    subst (λ (n : ℕ). IsSomeAnd (first_past ty bounds comes n) P) k (or_still (first_past ty bounds comes (more + index)) _ P (past_kept ty bounds comes more index P is))

-- one that is
pub is_past : (ty : Ty) (bounds : ℕ × ℕ) (comes : ℕ → Option ℤ) (index numbers : ℕ) (P : ℤ → Type 0) → index < numbers → first_past ty bounds comes index ≡ None → IsSomeAnd (past_there ty bounds index (comes index)) P
    → IsSomeAnd (first_past ty bounds comes numbers) P
is_past ty bounds comes index numbers P less before here =
    let k : (numbers - suc index) + suc index ≡ numbers = omega (arith, less) in
    let at : IsSomeAnd (first_past ty bounds comes (suc index)) P = subst (λ (o : Option ℤ). IsSomeAnd (option_or o (past_there ty bounds index (comes index))) P) (sym before) here in
    subst (λ (n : ℕ). IsSomeAnd (first_past ty bounds comes n) P) k (past_kept ty bounds comes (numbers - suc index) (suc index) P at)

-- by what is found there
pub past_first : (ty : Ty) (bounds : ℕ × ℕ) (comes : ℕ → Option ℤ) (index numbers : ℕ) (past : Option (Option ℤ)) → is_some past ≡ true → index < numbers → first_past ty bounds comes index ≡ None
    → MatchOption past (past_there ty bounds index (comes index) ≡ None) (λ e. IsSomeAnd (past_there ty bounds index (comes index)) (IsKnownAs e))
    → MatchOption past (first_past ty bounds comes numbers ≡ None) (λ e. IsSomeAnd (first_past ty bounds comes numbers) (IsKnownAs e))
past_first ty bounds comes index numbers (Some e) some less before here = is_past ty bounds comes index numbers (IsKnownAs e) less before here
past_first ty bounds comes index numbers None some less before here = cc

pub past_not : (ty : Ty) (bounds : ℕ × ℕ) (comes : ℕ → Option ℤ) (index : ℕ) (past : Option (Option ℤ)) → is_some past ≡ false → first_past ty bounds comes index ≡ None
    → MatchOption past (past_there ty bounds index (comes index) ≡ None) (λ e. IsSomeAnd (past_there ty bounds index (comes index)) (IsKnownAs e)) → first_past ty bounds comes (index + 1) ≡ None
past_not ty bounds comes index None some before here = not_past ty bounds comes index before here
past_not ty bounds comes index (Some e) some before here = cc

-- of a number that is within the bounds, and of one that isn't
pub past_inside : (ty : Ty) (bounds : ℕ × ℕ) (index : ℕ) (comes : Option ℤ) (past : Option (Option ℤ)) → (nat_le bounds.0 index && nat_lt index bounds.1) ≡ true → MatchOption past (past_type ty comes ≡ None) (λ e. IsSomeAnd (past_type ty comes) (IsKnownAs e))
    → MatchOption past (past_there ty bounds index comes ≡ None) (λ e. IsSomeAnd (past_there ty bounds index comes) (IsKnownAs e))
past_inside ty bounds index comes past inside told =
    subst (λ (b : Bool). MatchOption past (cond b (past_type ty comes) None ≡ None) (λ e. IsSomeAnd (cond b (past_type ty comes) None) (IsKnownAs e))) (sym inside) told

pub past_outside : (ty : Ty) (bounds : ℕ × ℕ) (index : ℕ) (comes : Option ℤ) → (nat_le bounds.0 index && nat_lt index bounds.1) ≡ false → past_there ty bounds index comes ≡ None
past_outside ty bounds index comes outside = ap (λ (b : Bool). cond b (past_type ty comes) None) outside

-- what is found of a rank's result is told
pub past_here : (row : Row) (rank statement numbers : ℕ) (bounds : ℕ × ℕ) (exact : Option ℤ) (old new : List Overflow) → bounds ≡ bounds_of row.reduction row.draft.now rank → numbers ≡ length row.draft.now.items → Some statement ≡ post_to (posts_in row.posts.now) row.call rank
    → IsSomeAnd (first_past row.draft.now.ty bounds (comes_to row (taken_by row rank)) numbers) (IsKnownAs exact) → new ≡ old ++ record { rank = rank; statement = statement; ty = row.draft.now.ty; exact = exact } ∷ [] → AreTold (past_for row rank) old new
past_here row rank statement numbers bounds exact old new bound many there known is =
    one_past (record { rank = rank; statement = statement; ty = row.draft.now.ty; exact = exact }) (past_number (statements_in row) (posts_in row.posts.now) row.call row.draft.now row.reduction rank) (post_to (posts_in row.posts.now) row.call rank) old new there is
    (subst (λ (b : ℕ × ℕ). IsSomeAnd (first_past row.draft.now.ty b (comes_to row (taken_by row rank)) (length row.draft.now.items)) (IsKnownAs exact)) bound
    (subst (λ (n : ℕ). IsSomeAnd (first_past row.draft.now.ty bounds (comes_to row (taken_by row rank)) n) (IsKnownAs exact)) many known))

pub past_nowhere : (row : Row) (rank statement numbers : ℕ) (bounds : ℕ × ℕ) (all : List Overflow) → bounds ≡ bounds_of row.reduction row.draft.now rank → numbers ≡ length row.draft.now.items → Some statement ≡ post_to (posts_in row.posts.now) row.call rank
    → first_past row.draft.now.ty bounds (comes_to row (taken_by row rank)) numbers ≡ None → AreTold (past_for row rank) all all
past_nowhere row rank statement numbers bounds all bound many there none =
    none_past rank statement row.draft.now.ty (past_number (statements_in row) (posts_in row.posts.now) row.call row.draft.now row.reduction rank) (post_to (posts_in row.posts.now) row.call rank) all there
    (subst (λ (b : ℕ × ℕ). first_past row.draft.now.ty b (comes_to row (taken_by row rank)) (length row.draft.now.items) ≡ None) bound
    (subst (λ (n : ℕ). first_past row.draft.now.ty bounds (comes_to row (taken_by row rank)) n ≡ None) many none))

-- ROWS

cond_some : (b : Bool) (o : Option Reduction) (r : Reduction) → cond b o None ≡ Some r → b ≡ true
cond_some true o r is = refl
cond_some false o r is = cc

-- its counts are within their limit
pub counted : (draft : Draft) (r : Reduction) → summed_in draft ≡ Some r → list_all is_count draft.rcounts ≡ true
counted draft r is =
    let both : ((is_signed draft.ty && is_summed draft.op) && list_all is_count draft.rcounts) ≡ true = cond_some ((is_signed draft.ty && is_summed draft.op) && list_all is_count draft.rcounts) (reduction_in draft.call) r is in
    (and_parts (is_signed draft.ty && is_summed draft.op) (list_all is_count draft.rcounts) both).1

-- all ranks count where it is no scan
pub taken_all : (r : Reduction) (ranks rank : ℕ) → (r ≡ R.Scan → ⊥) → (r ≡ R.Exscan → ⊥) → taken r ranks rank ≡ ranks
taken_all R.Scan ranks rank scan exscan = absurd (scan refl)
taken_all R.Exscan ranks rank scan exscan = absurd (exscan refl)
taken_all r ranks rank scan exscan = refl

-- nothing is told yet
pub told_start : (all : List Overflow) → all ≡ [] → AreTold [] [] all
told_start all none = subst (λ (os : List Overflow). AreTold [] [] os) (sym none) (told_nothing [])

-- SUMS

-- what no rank gives
pub upto_none : (row : Row) (n : ℕ) (first : ℤ) (sums : List Exact) → n ≡ length row.draft.now.items → first ≡ neutral (is_product row.draft.now.op) → sums ≡ replicate n (Number first) → AreUpto row 0 sums
upto_none row n first sums many neutral_is is = record {
  len = ap length is ∙ length-replicate n (Number first) ∙ many;
  each = λ index within.
      let below : index < n = subst (λ (k : ℕ). index < k) (ap length is ∙ length-replicate n (Number first)) within in
      let at : slice_index_or sums index Unknown ≡ Number first = ap (λ (xs : List Exact). slice_index_or xs index Unknown) is ∙ get_or-replicate n index (Number first) Unknown below in
      subst (λ (e : Exact). IsExact (is_product row.draft.now.op) e (comes_to row 0 index)) (sym at) (ap Some (sym neutral_is));
}

-- with one rank's numbers more
pub upto_more : (row : Row) (rank : ℕ) (given : List ℤ) (old new : List Exact) → ((index : ℕ) → given_to (statements_in row) (posts_in row.posts.now) row.call index rank ≡ slice_get given index)
    → AreCombined (is_product row.draft.now.op) given old new → AreUpto row rank old → AreUpto row (rank + 1) new
upto_more row rank given old new gives added had = record {
  len = added.len ∙ had.len;
  each = λ index within.
      let times = is_product row.draft.now.op in
      let k : suc rank ≡ rank + 1 = omega arith in
      let inside : index < length old = subst (λ (n : ℕ). index < n) added.len within in
      let more : with_given times (comes_to row rank index) (slice_get given index) ≡ comes_to row (rank + 1) index =
      ap (with_given times (comes_to row rank index)) (sym (gives index)) ∙ ap (λ (n : ℕ). comes_to row n index) k in
      subst (IsExact times (slice_index_or new index Unknown)) more (added.each index inside (comes_to row rank index) (had.each index inside));
}

pub gives_drafted : (statements : List (List Statement)) (posts : Posts) (call rank : ℕ) (draft : Draft) (given : List ℤ) → Some draft ≡ draft_to statements posts call rank → given ≡ draft.items → (index : ℕ) → given_to statements posts call index rank ≡ slice_get given index
gives_drafted statements posts call rank draft given is same index =
    ap (option_and_then (λ (d : Draft). slice_get d.items index)) (sym is) ∙ ap (λ (xs : List ℤ). slice_get xs index) (sym same)

pub gives_none : (statements : List (List Statement)) (posts : Posts) (call rank : ℕ) → None ≡ draft_to statements posts call rank → (index : ℕ) → given_to statements posts call index rank ≡ slice_get [] index
gives_none statements posts call rank none index = ap (option_and_then (λ (d : Draft). slice_get d.items index)) (sym none)

-- the numbers before one are combined, and the others aren't
pub record IsCombinedUpto (times : Bool) (given : List ℤ) (upto : ℕ) (old new : List Exact) : Type 0 where
  pub len : length new ≡ length old
  pub done : (index : ℕ) → index < upto → (comes : Option ℤ) → IsExact times (slice_index_or old index Unknown) comes → IsExact times (slice_index_or new index Unknown) (with_given times comes (slice_get given index))
  pub rest : (index : ℕ) → upto ≤ index → slice_index_or new index Unknown ≡ slice_index_or old index Unknown

pub combined_none : (times : Bool) (given : List ℤ) (sums : List Exact) → IsCombinedUpto times given 0 sums sums
combined_none times given sums = record { len = refl; done = λ index l. absurd (omega (arith, l)); rest = λ index l. refl }

done_more : (times : Bool) (given : List ℤ) (i index : ℕ) (old had : List Exact) (exact : Exact) → i < length had → IsCombinedUpto times given i old had
    → ((comes : Option ℤ) → IsExact times (slice_index_or had i Unknown) comes → IsExact times exact (with_given times comes (slice_get given i))) → index < i + 1 → (index < i) ⊎ (i ≤ index)
    → (comes : Option ℤ) → IsExact times (slice_index_or old index Unknown) comes → IsExact times (slice_index_or (set had i exact) index Unknown) (with_given times comes (slice_get given index))
done_more times given i index old had exact within was one below (inl l) comes is =
    let other : slice_index_or (set had i exact) index Unknown ≡ slice_index_or had index Unknown = get_or-set_other had i index exact Unknown (omega (arith, l)) in
    subst (λ (e : Exact). IsExact times e (with_given times comes (slice_get given index))) (sym other) (was.done index l comes is)
done_more times given i index old had exact within was one below (inr l) comes is =
    let same : index ≡ i = omega (arith, l, below) in
    let here : slice_index_or (set had i exact) i Unknown ≡ exact = get_or-set_same had i exact Unknown within in
    let at : slice_index_or old index Unknown ≡ slice_index_or had i Unknown = ap (λ (n : ℕ). slice_index_or old n Unknown) same ∙ sym (was.rest i (omega arith)) in
    let first : IsExact times (slice_index_or (set had i exact) i Unknown) (with_given times comes (slice_get given i)) =
    subst (λ (e : Exact). IsExact times e (with_given times comes (slice_get given i))) (sym here) (one comes (subst (λ (e : Exact). IsExact times e comes) at is)) in
    subst (λ (n : ℕ). IsExact times (slice_index_or (set had i exact) n Unknown) (with_given times comes (slice_get given n))) (sym same) first

-- one number more
pub combined_more : (times : Bool) (given : List ℤ) (i : ℕ) (old had : List Exact) (exact : Exact) → i < length had → IsCombinedUpto times given i old had
    → ((comes : Option ℤ) → IsExact times (slice_index_or had i Unknown) comes → IsExact times exact (with_given times comes (slice_get given i))) → IsCombinedUpto times given (i + 1) old (set had i exact)
combined_more times given i old had exact within was one = record {
  len = length-set had i exact ∙ was.len;
  done = λ index l. done_more times given i index old had exact within was one l (cases_lt index i);
  rest = λ index l. get_or-set_other had i index exact Unknown (omega (arith, l)) ∙ was.rest index (omega (arith, l));
}

pub combined_all : (times : Bool) (given : List ℤ) (i : ℕ) (old new : List Exact) → length new ≤ i → IsCombinedUpto times given i old new → AreCombined times given old new
combined_all times given i old new all was = record { len = was.len; each = λ index l. was.done index (omega (arith, l, all, was.len)) }

-- an item doesn't hang on what stands for none
pub at_any : (xs : List Exact) (i : ℕ) (d e : Exact) → i < length xs → slice_index_or xs i d ≡ slice_index_or xs i e
at_any [] i d e within = absurd (omega (arith, within))
at_any (x ∷ xs) zero d e within = refl
at_any (x ∷ xs) (suc i) d e within = at_any xs i d e (omega (arith, within))

-- the same by the number that stands there, and the one that is given
pub combined_step : (times : Bool) (given : List ℤ) (i : ℕ) (old had : List Exact) (item exact : Exact) (gives : Option ℤ) → i < length had → IsCombinedUpto times given i old had → item ≡ slice_index_or had i item → gives ≡ slice_get given i
    → ((comes : Option ℤ) → IsExact times item comes → IsExact times exact (with_given times comes gives)) → IsCombinedUpto times given (i + 1) old (set had i exact)
combined_step times given i old had item exact gives within was at is one =
    let same : slice_index_or had i Unknown ≡ item = at_any had i Unknown item within ∙ sym at in
    combined_more times given i old had exact within was (λ comes holds. subst (λ (o : Option ℤ). IsExact times exact (with_given times comes o)) is (one comes (subst (λ (e : Exact). IsExact times e comes) same holds)))

-- TWO NUMBERS

-- a number, so many times or with another one
pub number_with : (times : Bool) (b given : ℤ) (comes : Option ℤ) (r : Exact) → comes ≡ Some b → IsExact times r (combined_kept times b given) → IsExact times r (with_given times comes (Some given))
number_with times b given comes r is known = subst (λ (o : Option ℤ). IsExact times r (with_given times o (Some given))) (sym is) known

pub far_times : (given : ℤ) (comes : Option ℤ) (r : Exact) → IsSomeAnd comes (λ whole. 2 ^ 127 ≤ unsigned_abs whole) → ((whole : ℤ) → 2 ^ 127 ≤ unsigned_abs whole → IsExact true r (Some (whole *ℤ given))) → IsExact true r (with_given true comes (Some given))
far_times given (Some whole) r far known = known whole far
far_times given None r far known = absurd far

pub unknown_with : (times : Bool) (given : Option ℤ) (comes : Option ℤ) → comes ≡ None → with_given times comes given ≡ None
unknown_with times given comes none = ap (λ (o : Option ℤ). with_given times o given) none

pub with_none : (times : Bool) (comes : Option ℤ) → with_given times comes None ≡ None
with_none times None = refl
with_none times (Some before) = refl

kept_is : (z : ℤ) → FitsSigned w128 z → kept z ≡ Some z
kept_is (pos n) fits = let less : n < 2 ^ 127 = fits.sfits in ap (λ (b : Bool). cond b (Some (pos n)) None) (lt-ltb n (2 ^ 127) less)
kept_is (negsuc n) fits = let less : n < 2 ^ 127 = fits.sfits in ap (λ (b : Bool). cond b (Some (negsuc n)) None) (lt-ltb n (2 ^ 127) less)

lost_by : (n : ℕ) (z : ℤ) (b : Bool) → b ≡ nat_lt n (2 ^ 127) → (n < 2 ^ 127 → ⊥) → None ≡ cond b (Some z) None
lost_by n z true is never = absurd (never (ltb-true n (2 ^ 127) (sym is)))
lost_by n z false is never = refl

kept_none : (z : ℤ) → (FitsSigned w128 z → ⊥) → None ≡ kept z
kept_none (pos n) never = lost_by n (pos n) (nat_lt n (2 ^ 127)) refl (λ less. never (record { sfits = less }))
kept_none (negsuc n) never = lost_by n (negsuc n) (nat_lt n (2 ^ 127)) refl (λ less. never (record { sfits = less }))

-- a sum that is checked is kept
pub kept_by : (r : Option ℤ) (z : ℤ) → SomeIff r (FitsSigned w128 z) z → r ≡ kept z
kept_by (Some x) z is = ap Some is.1 ∙ sym (kept_is z is.0)
kept_by None z never = kept_none z never

-- BLOCKS

never : (z : ℤ) → Some z ≡ None → ⊥
never z is = cc

some_is : (x y : ℤ) → Some x ≡ Some y → x ≡ y
some_is x y is = cc

sum_take : (xs : List ℕ) (n : ℕ) → sum (take (suc n) xs) ≡ sum (take n xs) + count_at xs n
sum_take [] zero = refl
sum_take [] (suc n) = refl
sum_take (x ∷ xs) zero = omega arith
sum_take (x ∷ xs) (suc n) =
    let all : sum (take (suc (suc n)) (x ∷ xs)) ≡ x + sum (take (suc n) xs) = sum_by-cons (λ (y : ℕ). y) x (take (suc n) xs) in
    let some : sum (take (suc n) (x ∷ xs)) ≡ x + sum (take n xs) = sum_by-cons (λ (y : ℕ). y) x (take n xs) in
    let last : count_at (x ∷ xs) (suc n) ≡ count_at xs n = refl in
    omega (arith, all, some, last, sum_take xs n)

count_there : (counts : List ℤ) (place : ℕ) → count_at (naturals counts) place ≡ option_map_or natural (slice_get counts place) 0
count_there [] place = refl
count_there (z ∷ counts) zero = refl
count_there (z ∷ counts) (suc place) = count_there counts place

-- the count that stands at a place
pub count_is : (counts : List ℤ) (place : ℕ) (z : ℤ) → Some z ≡ slice_get counts place → natural z ≡ count_at (naturals counts) place
count_is counts place z is = ap (λ (o : Option ℤ). option_map_or natural o 0) is ∙ sym (count_there counts place)

pub count_none : (counts : List ℤ) (place : ℕ) → None ≡ slice_get counts place → 0 ≡ count_at (naturals counts) place
count_none counts place none = ap (λ (o : Option ℤ). option_map_or natural o 0) none ∙ sym (count_there counts place)

-- each of them is one
pub is_count_at : (counts : List ℤ) (place : ℕ) (z : ℤ) → list_all is_count counts ≡ true → Some z ≡ slice_get counts place → is_count z ≡ true
is_count_at [] place z all is = absurd (never z is)
is_count_at (y ∷ counts) zero z all is = ap is_count (some_is z y is) ∙ (and_parts (is_count y) (list_all is_count counts) all).0
is_count_at (y ∷ counts) (suc place) z all is = is_count_at counts place z (and_parts (is_count y) (list_all is_count counts) all).1 is

-- the sum of one count more
pub sum_take_more : (xs : List ℕ) (n : ℕ) → sum (take (n + 1) xs) ≡ sum (take n xs) + count_at xs n
sum_take_more xs n = let k : suc n ≡ n + 1 = omega arith in subst (λ (m : ℕ). sum (take m xs) ≡ sum (take n xs) + count_at xs n) k (sum_take xs n)

-- A TYPE'S RANGE

-- a number within it
pub within_type : (ty : Ty) (z : ℤ) → IsInRange ty z → is_of ty z ≡ true
within_type ty z within =
    let above : least ty ≤ℤ z = within.low in
    let below : z ≤ℤ greatest ty = within.high in
    let l : int_le (least ty) z ≡ true = grind (arith, ints, above) in
    let h : int_le z (greatest ty) ≡ true = grind (arith, ints, below) in
    rw (l, h) refl

-- one out of it
pub out_of_type : (ty : Ty) (z : ℤ) → IsOutOfRange ty z → is_of ty z ≡ false
out_of_type ty z (inl below) = let l : int_le (least ty) z ≡ false = grind (arith, ints, below) in rw l refl
out_of_type ty z (inr above) = let h : int_le z (greatest ty) ≡ false = grind (arith, ints, above) in rw h (and-false (int_le (least ty) z))

far_by : (low high : ℕ) (z : ℤ) → low < 2 ^ 127 → high < 2 ^ 127 → 2 ^ 127 ≤ unsigned_abs z → (z <ℤ neg_ℤ (pos low)) ⊎ (pos high <ℤ z)
far_by low high (pos n) l h far = inr (grind (arith, ints, h, far))
far_by low high (negsuc n) l h far = inl (grind (arith, ints, l, far))

-- one past 128 bits
pub far_from_type : (ty : Ty) (z : ℤ) → 2 ^ 127 ≤ unsigned_abs z → is_of ty z ≡ false
far_from_type T.I8 z far = out_of_type T.I8 z (far_by 128 127 z (omega arith) (omega arith) far)
far_from_type T.I16 z far = out_of_type T.I16 z (far_by 32768 32767 z (omega arith) (omega arith) far)
far_from_type T.I32 z far = out_of_type T.I32 z (far_by 2147483648 2147483647 z (omega arith) (omega arith) far)
far_from_type T.I64 z far = out_of_type T.I64 z (far_by 9223372036854775808 9223372036854775807 z (omega arith) (omega arith) far)
far_from_type T.U8 z far = out_of_type T.U8 z (far_by 0 255 z (omega arith) (omega arith) far)
far_from_type T.U16 z far = out_of_type T.U16 z (far_by 0 65535 z (omega arith) (omega arith) far)
far_from_type T.U32 z far = out_of_type T.U32 z (far_by 0 4294967295 z (omega arith) (omega arith) far)
far_from_type T.U64 z far = out_of_type T.U64 z (far_by 0 18446744073709551615 z (omega arith) (omega arith) far)
far_from_type T.TwoInt z far = out_of_type T.TwoInt z (far_by 2147483648 2147483647 z (omega arith) (omega arith) far)

-- what is said of a number that is one of the type, or isn't
pub past_within : (ty : Ty) (z : ℤ) (comes : Option ℤ) → comes ≡ Some z → is_of ty z ≡ true → past_type ty comes ≡ None
past_within ty z comes is within = ap (past_type ty) is ∙ ap (λ (b : Bool). cond b None (Some z)) within

pub past_beyond : (ty : Ty) (z : ℤ) (comes : Option ℤ) → comes ≡ Some z → is_of ty z ≡ false → past_type ty comes ≡ Some z
past_beyond ty z comes is beyond = ap (past_type ty) is ∙ ap (λ (b : Bool). cond b None (Some z)) beyond

pub past_far : (ty : Ty) (comes : Option ℤ) → IsSomeAnd comes (λ whole. 2 ^ 127 ≤ unsigned_abs whole) → IsSomeAnd (past_type ty comes) (IsKnownAs None)
past_far ty (Some whole) far = subst (λ (b : Bool). IsSomeAnd (cond b None (Some whole)) (IsKnownAs None)) (sym (far_from_type ty whole far)) far
past_far ty None far = absurd far
