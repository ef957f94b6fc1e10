-- What each part of a draft's check says of its refusals.
use Rattle.std.proofs.Common.{◌≡◌, ◌∙◌, inl, inr, ◌≤◌, ◌<◌, ◌*◌, ◌||◌, Bool, true, false, not, List, [], ◌∷◌, ℤ, length, Option, Some, None, Ok, Err, nat_lt, refl, ap, arith}
use Rattle.std.specs.Prelude.{int_le, ◌≤ℤ◌, ◌<ℤ◌, ◌&&◌, ◌⊎◌}
use Rattle.std.specs.List.{Any, list_all}
use Rattle.std.specs.Option.{option_or}
use Rattle.std.proofs.lemmas.Bool.Decides.{nat_tests}
use Rattle.std.proofs.Math.Bool.{and-false}
use Rattle.std.proofs.lemmas.Int.{ints}
use Rattle.std.proofs.lemmas.List.Folds.{list_all_at}
use Rattle.std.proofs.lemmas.List.Sums.{list_all-from_AllPass}
use Rattle.mpx_num.specs.declared.types.Ty.{Ty}
use Rattle.mpx_num.specs.Types.{item_len, least, greatest, IsInRange, IsOutOfRange}
use Rattle.mpx_num.specs.ItemList.{AreItems, is_whole}
use Rattle.mpx_post.specs.declared.draft.PostError.{PostError}
use Rattle.mpx_post.specs.declared.draft.PostError.TheVariants.{RootOutOfRange, OpNotForType, CountsLength, ItemsLength, ItemOutOfRange, TooManyItems, CallsUsedUp, DepthUsedUp, BadGroup, BadEdge, TooManyEdges, BadTag}
use Rattle.mpx_post.specs.Posts.{Given, most_items}
use Rattle.mpx_post.specs.Drafts.{Checks, first_that_holds, is_of, unless}

-- ITEMS

is_between : (low high z : ℤ) → low ≤ℤ z → z ≤ℤ high → (int_le low z && int_le z high) ≡ true
is_between low high z above below =
    let l : int_le low z ≡ true = grind (arith, ints, above) in
    let h : int_le z high ≡ true = grind (arith, ints, below) in
    rw (l, h) refl

all_are : (ty : Ty) (nums : List ℤ) → AreItems ty nums → list_all (is_of ty) nums ≡ true
all_are ty nums items = list_all-from_AllPass (is_of ty) nums (λ k d l. let range : IsInRange ty _ = items.in_range k d l in is_between (least ty) (greatest ty) _ range.low range.high)

-- a number out of range is no number of the type
is_beyond : (low high z : ℤ) → (z <ℤ low) ⊎ (high <ℤ z) → (int_le low z && int_le z high) ≡ false
is_beyond low high z (inl below) = let l : int_le low z ≡ false = grind (arith, ints, below) in rw l refl
is_beyond low high z (inr above) = let h : int_le z high ≡ false = grind (arith, ints, above) in rw h (and-false (int_le low z))

one_is_none : (ty : Ty) (nums : List ℤ) → Any (IsOutOfRange ty) nums → list_all (is_of ty) nums ≡ false
one_is_none ty nums strange = list_all_at (is_of ty) nums strange.0 strange.1 strange.2 (ap (is_of ty) strange.3 ∙ is_beyond (least ty) (greatest ty) strange.1 strange.4)

-- why numbers are no items
abbrev pub items_refusal : Ty → List ℤ → Option PostError
items_refusal ty nums = first_that_holds ((not (is_whole ty nums), ItemsLength) ∷ (not (list_all (is_of ty) nums), ItemOutOfRange) ∷ (nat_lt (most_items * item_len ty) (length nums), TooManyItems) ∷ [])

module _ {A : Type 0} (ty : Ty) (nums : List ℤ) (x : A) (items : AreItems ty nums) where
  pub few_are_items : length nums ≤ most_items * item_len ty → Ok x ≡ unless (items_refusal ty nums) x
  few_are_items l =
      let few : nat_lt (most_items * item_len ty) (length nums) ≡ false = grind (arith, nat_tests) in
      rw (items.whole, all_are ty nums items, few) refl

  pub many_are_refused : most_items * item_len ty < length nums → Err TooManyItems ≡ unless (items_refusal ty nums) x
  many_are_refused l =
      let many : nat_lt (most_items * item_len ty) (length nums) ≡ true = grind (arith, nat_tests) in
      rw (items.whole, all_are ty nums items, many) refl

pub strange_are_refused : {A : Type 0} (ty : Ty) (nums : List ℤ) (x : A) → is_whole ty nums ≡ true → Any (IsOutOfRange ty) nums → Err ItemOutOfRange ≡ unless (items_refusal ty nums) x
strange_are_refused ty nums x whole strange = rw (whole, one_is_none ty nums strange) refl

-- A WHOLE CHECK: a the root, b the operation, l the number of counts, m the number of items, w whether an item is cut, r
-- whether a number is out of range, t whether there are too many items, c whether a count is none, and the refusals after

abbrev pub shape : (a b l m : Bool) → Option PostError
shape a b l m = first_that_holds ((a, RootOutOfRange) ∷ (b, OpNotForType) ∷ (l, CountsLength) ∷ (m, ItemsLength) ∷ [])

abbrev pub three : (w r t : Bool) → Option PostError
three w r t = first_that_holds ((w, ItemsLength) ∷ (r, ItemOutOfRange) ∷ (t, TooManyItems) ∷ [])

abbrev pub whole : (a b l m w r t c : Bool) → List (Bool × PostError) → Option PostError
whole a b l m w r t c after = first_that_holds ((a, RootOutOfRange) ∷ (b, OpNotForType) ∷ (l, CountsLength) ∷ (w || m, ItemsLength) ∷ (r, ItemOutOfRange) ∷ (t || c, TooManyItems) ∷ after)

pub shape_first : (a b l m w r t c : Bool) (after : List (Bool × PostError)) (e : PostError) → shape a b l m ≡ Some e → whole a b l m w r t c after ≡ Some e
shape_first true b l m w r t c after e h = h
shape_first false true l m w r t c after e h = h
shape_first false false true m w r t c after e h = h
shape_first false false false true true r t c after e h = h
shape_first false false false true false r t c after e h = h
shape_first false false false false w r t c after e h = cc h

pub shape_refused : (a b l m w r t c : Bool) (after : List (Bool × PostError)) (e : PostError) (given : Given) → shape a b l m ≡ Some e → Checks (unless (whole a b l m w r t c after) given) (Err e)
shape_refused a b l m w r t c after e given h = rw (shape_first a b l m w r t c after e h) refl

-- what comes after the shape
abbrev pub behind : (w r t c : Bool) → List (Bool × PostError) → Option PostError
behind w r t c after = first_that_holds ((w, ItemsLength) ∷ (r, ItemOutOfRange) ∷ (t || c, TooManyItems) ∷ after)

pub shape_parts : (a b l m : Bool) → shape a b l m ≡ None → (a ≡ false) × (b ≡ false) × (l ≡ false) × (m ≡ false)
shape_parts true b l m h = cc
shape_parts false true l m h = cc
shape_parts false false true m h = cc
shape_parts false false false true h = cc
shape_parts false false false false h = (refl, refl, refl, refl)

or_none : (w : Bool) → (w || false) ≡ w
or_none true = refl
or_none false = refl

pub shape_passed : (a b l m w r t c : Bool) (after : List (Bool × PostError)) → shape a b l m ≡ None → whole a b l m w r t c after ≡ behind w r t c after
shape_passed true b l m w r t c after h = cc
shape_passed false true l m w r t c after h = cc
shape_passed false false true m w r t c after h = cc
shape_passed false false false true w r t c after h = cc
shape_passed false false false false w r t c after h = rw (or_none w) refl

-- what comes after the shape is a refusal of the numbers, or else the first one after
pub behind_or : (w r t c : Bool) (after : List (Bool × PostError)) → behind w r t c after ≡ option_or (three w r (t || c)) (first_that_holds after)
behind_or true r t c after = refl
behind_or false true t c after = refl
behind_or false false true c after = refl
behind_or false false false true after = refl
behind_or false false false false after = refl

pub items_refused : {A : Type 0} (w r t c : Bool) (after : Option PostError) (x : A) (e : PostError) (given : Given) → Err e ≡ unless (three w r t) x → Checks (unless (option_or (three w r (t || c)) after) given) (Err e)
items_refused true r t c after x e given h = let same : e ≡ ItemsLength = cc in ap Err same
items_refused false true t c after x e given h = let same : e ≡ ItemOutOfRange = cc in ap Err same
items_refused false false true c after x e given h = let same : e ≡ TooManyItems = cc in ap Err same
items_refused false false false c after x e given h = cc

pub items_passed : {A : Type 0} (w r t : Bool) (x y : A) → Ok y ≡ unless (three w r t) x → (w ≡ false) × (r ≡ false) × (t ≡ false) × (y ≡ x)
items_passed true r t x y h = cc
items_passed false true t x y h = cc
items_passed false false true x y h = cc
items_passed false false false x y h = (refl, refl, refl, cc)

-- THE PLACE: u the number of calls, d the depth, g the group, e the edges, m their number, k the colour and the key

abbrev pub place : (u d g e m k : Bool) → Option PostError
place u d g e m k = first_that_holds ((u, CallsUsedUp) ∷ (d, DepthUsedUp) ∷ (g, BadGroup) ∷ (e, BadEdge) ∷ (m, TooManyEdges) ∷ (k, BadTag) ∷ [])

-- none of them refuses
pub record PlacePassed (u d g e m k : Bool) : Type 0 where
  pub calls : u ≡ false
  pub depth : d ≡ false
  pub group : g ≡ false
  pub edges : e ≡ false
  pub few : m ≡ false
  pub colour_and_key : k ≡ false

pub place_passed : (u d g e m k : Bool) → place u d g e m k ≡ None → PlacePassed u d g e m k
place_passed true d g e m k h = cc
place_passed false true g e m k h = cc
place_passed false false true e m k h = cc
place_passed false false false true m k h = cc
place_passed false false false false true k h = cc
place_passed false false false false false true h = cc
place_passed false false false false false false h = record { calls = refl; depth = refl; group = refl; edges = refl; few = refl; colour_and_key = refl }

-- WHAT IS ACCEPTED

pub none_told : {A : Type 0} (refusal : Option PostError) (x y : A) → unless refusal x ≡ Ok y → refusal ≡ None
none_told None x y h = refl
none_told (Some e) x y h = cc

-- where nothing refuses, nothing that is asked last does
pub none_after : (a b l m w r t c : Bool) (after : List (Bool × PostError)) → whole a b l m w r t c after ≡ None → first_that_holds after ≡ None
none_after true b l m w r t c after h = cc
none_after false true l m w r t c after h = cc
none_after false false true m w r t c after h = cc
none_after false false false m true r t c after h = cc
none_after false false false true false r t c after h = cc
none_after false false false false false true t c after h = cc
none_after false false false false false false true c after h = cc
none_after false false false false false false false true after h = cc
none_after false false false false false false false false after h = h
